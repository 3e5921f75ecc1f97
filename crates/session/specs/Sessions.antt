-- What the commands of a script do.
use Rattle.std.specs.Prelude.{◌≡◌, ℕ, Bool, min, ◌⊎◌, List, [], Some, None, Ok, Err, vec_items, Option}
use Rattle.images.specs.Image.{WritesDown, HasFault}
use Rattle.images.specs.Loaded.{table_of}
use Rattle.graphs.specs.Nodes.{has}
use Rattle.tables.specs.Openness.{TellsRightly, tells_open}
use Rattle.tables.specs.Share.{share_marks, share_table}
use Rattle.tables.specs.Table.{Table, Empty}
use Rattle.images.specs.declared.faults.LoadFault.{LoadFault}
use Rattle.queues.specs.Memory.{ring_letter, straight_letter}
use Rattle.queues.specs.Queue.{Held}
use Rattle.script.specs.declared.request.Making.{Making}
use Rattle.script.specs.declared.request.QueueKind.{QueueKind}
use Rattle.script.specs.declared.request.QueueKind.TheVariants as kind
use Rattle.session.specs.Answers.{Replies}
use Rattle.session.specs.Telling.{Tells}
use Rattle.script.specs.Commands.{call_of, says}
use Rattle.script.specs.Words.{words}
use Rattle.session.specs.declared.answer.Answer.{Answer}
use Rattle.session.specs.declared.answer.Answer.TheVariants.{Done, Refused, InHand, Open}
use Rattle.session.specs.declared.answer.Hand.{Hand}
use Rattle.session.specs.declared.answer.Hand.TheVariants as hand
use Rattle.script.specs.declared.command.Command.{Command}
use Rattle.script.specs.declared.command.Command.TheVariants as command
use Rattle.session.specs.declared.session.Outcome.{Outcome}
use Rattle.session.specs.declared.session.Outcome.TheVariants.{PassedOver, Wrong, Answered}
use Rattle.session.specs.declared.session.Session.{Session}

-- The loaded table, and what its chart tells of open states.
abbrev pub loaded_table : Session → Table
loaded_table s = table_of s.loaded.table

abbrev pub loaded_marks : Session → ℕ → Bool
loaded_marks s = has s.loaded.open

-- The table in hand, where t is the loaded one, and what it tells of open states.
abbrev pub table_in : Hand → Table → Table
table_in hand.Share t = share_table
table_in hand.Loaded t = t

abbrev pub in_hand : Session → Table
in_hand s = table_in s.hand (loaded_table s)

abbrev pub marks_in : Hand → (ℕ → Bool) → ℕ → Bool
marks_in hand.Share marks = share_marks
marks_in hand.Loaded marks = marks

abbrev pub marks_in_hand : Session → ℕ → Bool
marks_in_hand s = marks_in s.hand (loaded_marks s)

-- At first: the empty table is loaded, charted and in hand.
pub record Fresh (s : Session) : Type 0 where
  pub empty : Empty (loaded_table s)
  pub charted : TellsRightly (loaded_table s) (loaded_marks s)
  pub loaded : s.hand ≡ hand.Loaded

-- The image writes down the table that is then loaded, charted and in hand.
pub record Takes (image : List ℕ) (t : Session) : Type 0 where
  pub written : WritesDown image (loaded_table t)
  pub charted : TellsRightly (loaded_table t) (loaded_marks t)
  pub taken : t.hand ≡ hand.Loaded

-- The session s loads an image, answers a, and is then t. A refusal tells the image's fault, and changes nothing.
abbrev pub Loads : Session → List ℕ → Answer → Session → Type 0
Loads s image a t = ((a ≡ Done) × Takes image t) ⊎ ((f : LoadFault) × (a ≡ Refused f) × HasFault image f × (t ≡ s))

-- The session s makes the call of a command over a queue that means q, answers a, and is then t, and the queue means r.
-- A queue that is to be made is left to the caller.
abbrev pub Answers : Session → Held ℕ → Command → Answer → Session → Held ℕ → Type 0
Answers s q command.Share a t r = (a ≡ Done) × (t.hand ≡ hand.Share) × (t.loaded ≡ s.loaded) × (r ≡ q)
Answers s q (command.Load image) a t r = Loads s (vec_items image) a t × (r ≡ q)
Answers s q command.Table a t r = (a ≡ InHand s.hand (in_hand s).states) × (t ≡ s) × (r ≡ q)
Answers s q (command.Ask question) a t r = Tells (in_hand s) question a × (t ≡ s) × (r ≡ q)
Answers s q (command.Open state) a t r = (a ≡ Open (tells_open (in_hand s) (marks_in_hand s) state)) × (t ≡ s) × (r ≡ q)
Answers s q (command.Make m) a t r = (a ≡ Done) × (t ≡ s) × (r ≡ q)
Answers s q (command.Queue request) a t r = Replies q request a r × (t ≡ s)

-- The session s plays a line over a queue, and is then t: what comes of it.
abbrev pub Plays : Session → Held ℕ → List ℕ → Outcome → Session → Held ℕ → Type 0
Plays s q line PassedOver t r = (says (words line) ≡ Ok None) × (t ≡ s) × (r ≡ q)
Plays s q line (Wrong m) t r = (says (words line) ≡ Err m) × (t ≡ s) × (r ≡ q)
Plays s q line (Answered c a) t r = (says (words line) ≡ Ok (Some (call_of c))) × Answers s q c a t r

-- The queue that a command says is to be made.
abbrev pub makes : Command → Option Making
makes command.Share = None
makes (command.Load image) = None
makes command.Table = None
makes (command.Ask question) = None
makes (command.Open state) = None
makes (command.Make m) = Some m
makes (command.Queue request) = None

abbrev pub making_of : Outcome → Option Making
making_of PassedOver = None
making_of (Wrong m) = None
making_of (Answered c a) = makes c

-- An empty queue of a kind over memory of a length.
abbrev pub kind_letter : QueueKind → ℕ
kind_letter kind.Ring = ring_letter
kind_letter kind.Straight = straight_letter

abbrev pub fresh : Making → Held ℕ
fresh m = record { items = []; limit = min m.length 1048576; letter = kind_letter m.kind }

-- The queue in hand after a line that left it meaning q: a new one, where one is to be made.
abbrev pub after_making : Option Making → Held ℕ → Held ℕ
after_making None q = q
after_making (Some m) q = fresh m
