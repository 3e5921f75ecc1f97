-- What a whole script prints.
use Rattle.std.specs.Iterator.Adapters.{enumerate_count, enumerate_source}
use Rattle.std.specs.Prelude.{◌≡◌, ℕ, ◌+◌, ◌<◌, List, [], ◌∷◌, ◌++◌, length, Some, None, Option, string_bytes}
use Rattle.queues.specs.Queue.{Held}
use Rattle.script.specs.declared.request.Making.{Making}
use Rattle.script.specs.declared.request.QueueKind.TheVariants.{Ring}
use Rattle.session.specs.declared.player.Player.{Player}
use Rattle.session.specs.declared.session.Outcome.{Outcome}
use Rattle.session.specs.declared.session.Session.{Session}
use Rattle.session.specs.Sessions.{Fresh, Plays, after_making, fresh, making_of}
use Rattle.session.specs.Texts.{outcome_text}

-- From session s and a queue that means q on, the lines, of which the first has number n, print a text.
abbrev pub Prints : Session → Held ℕ → ℕ → List (List ℕ) → List ℕ → Type 0
Prints s q n [] text = text ≡ []
Prints s q n (l ∷ ls) text =
    (o : Outcome) × (t : Session) × (r : Held ℕ) × (more : List ℕ) × Plays s q l o t r × Prints t (after_making (making_of o) r) (n + 1) ls more × (text ≡ outcome_text n o ++ more)

-- The lines of a script print a text: from a fresh session, a ring over no memory, and line 1 on.
abbrev pub Replays : List (List ℕ) → List ℕ → Type 0
Replays ls text = (s : Session) × Fresh s × Prints s (fresh (record { kind = Ring; length = 0 })) 1 ls text

-- How far a script is played: the session, the queue, how many lines, which are left, and what is printed.
pub record Stage : Type 0 where
  pub session : Session
  pub queue : Held ℕ
  pub number : ℕ
  pub left : List (List ℕ)
  pub printed : List ℕ

-- What the lines that are left print.
abbrev pub Onward : Stage → List ℕ → Type 0
Onward a text = Prints a.session a.queue (a.number + 1) a.left text

-- From stage a the script comes to stage b: whatever is printed from b on, the same is printed from a on.
abbrev pub Leads : Stage → Stage → Type 0
Leads a b = (more : List ℕ) → Onward b more → (text : List ℕ) × Onward a text × (a.printed ++ text ≡ b.printed ++ more)

abbrev pub stage : Session → Held ℕ → ℕ → List (List ℕ) → List ℕ → Stage
stage s q n ls printed = record { session = s; queue = q; number = n; left = ls; printed = printed }

-- How far a player has come, over a queue that means q.
abbrev pub stage_of : Player → Held ℕ → Stage
stage_of p q = stage p.session q (enumerate_count p.lines) (enumerate_source p.lines) (string_bytes p.printed)

-- What comes of the lines that are left at stage a, played over one queue up to stage b: all are played; or one of them
-- says that a new queue is to be made, and fewer are left.
abbrev pub PlayedOver : Stage → Stage → Option Making → Type 0
PlayedOver a b None = Leads a b × (b.left ≡ [])
PlayedOver a b (Some m) = Leads a (stage b.session (fresh m) b.number b.left b.printed) × (length b.left < length a.left)
