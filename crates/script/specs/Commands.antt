-- What a line says.
use Rattle.std.specs.Prelude.{ℕ, Bool, cond, List, [], ◌∷◌, Some, None, Ok, Err, vec_items, Option, Result, ◌==◌, slice_index}
use Rattle.std.specs.Option.{option_map}
use Rattle.script.specs.declared.command.Command.{Command}
use Rattle.script.specs.declared.command.Command.TheVariants as command
use Rattle.script.specs.declared.command.Question.{Question}
use Rattle.script.specs.declared.command.Question.TheVariants as question
use Rattle.script.specs.declared.mistake.Mistake.{Mistake}
use Rattle.script.specs.declared.mistake.Mistake.TheVariants.{NoSuchCommand}
use Rattle.script.specs.declared.name.Name.{Name}
use Rattle.script.specs.declared.name.Name.TheVariants.{Share, Load, Table, Ask, Open, Make, Queue}
use Rattle.script.specs.declared.name.Asked.{Asked}
use Rattle.script.specs.declared.name.Asked.TheVariants.{States, Next, Label, Search, Find}
use Rattle.script.specs.declared.name.Requested.{Requested}
use Rattle.script.specs.declared.name.Requested.TheVariants.{Count, Limit, Element, Put, Drop}
use Rattle.script.specs.declared.request.Making.{Making}
use Rattle.script.specs.declared.request.Request.{Request}
use Rattle.script.specs.declared.request.Request.TheVariants as request
use Rattle.script.specs.Names.{name_of}
use Rattle.script.specs.Operands.{no_operand, one, two, number, byte, kind_and_length, hex_operand}
use Rattle.script.specs.Reading.{and_then}

-- A command, with an image as the list of its bytes.
pub data Call : Type 0 where
  share : Call
  load : List ℕ → Call
  table : Call
  ask : Question → Call
  ask_open : ℕ → Call
  make : Making → Call
  queue : Request → Call

abbrev pub call_of : Command → Call
call_of command.Share = share
call_of (command.Load image) = load (vec_items image)
call_of command.Table = table
call_of (command.Ask q) = ask q
call_of (command.Open state) = ask_open state
call_of (command.Make m) = make m
call_of (command.Queue r) = queue r

abbrev pub may_call_of : Option Command → Option Call
may_call_of = option_map call_of

-- What a name and the words behind it say: a question to a table, a request to a queue, a command.
abbrev pub asks : Asked → List (List ℕ) → Result Question Mistake
asks States ws = and_then (no_operand ws) (λ _. Ok question.States)
asks Next ws = and_then (two number byte ws) (λ p. Ok (question.Next p.0 p.1))
asks Label ws = and_then (one number ws) (λ s. Ok (question.Label s))
asks Search ws = and_then (two number number ws) (λ p. Ok (question.Search p.0 p.1))
asks Find ws = and_then (no_operand ws) (λ _. Ok question.Find)

abbrev pub requests : Requested → List (List ℕ) → Result Request Mistake
requests Count ws = and_then (no_operand ws) (λ _. Ok request.Count)
requests Limit ws = and_then (no_operand ws) (λ _. Ok request.Limit)
requests Element ws = and_then (one number ws) (λ p. Ok (request.Element p))
requests Put ws = and_then (one byte ws) (λ b. Ok (request.Put b))
requests Drop ws = and_then (one number ws) (λ k. Ok (request.Drop k))

abbrev pub takes : Name → List (List ℕ) → Result Call Mistake
takes Share ws = and_then (no_operand ws) (λ _. Ok share)
takes Load ws = and_then (hex_operand ws) (λ image. Ok (load image))
takes Table ws = and_then (no_operand ws) (λ _. Ok table)
takes (Ask asked) ws = and_then (asks asked ws) (λ q. Ok (ask q))
takes Open ws = and_then (one number ws) (λ s. Ok (ask_open s))
takes Make ws = and_then (kind_and_length ws) (λ m. Ok (make m))
takes (Queue requested) ws = and_then (requests requested ws) (λ r. Ok (queue r))

abbrev pub takes_by : Option Name → List (List ℕ) → Result Call Mistake
takes_by None ws = Err NoSuchCommand
takes_by (Some n) ws = takes n ws

-- A first word that begins with #.
abbrev pub comment : List ℕ → Bool
comment w = slice_index w 0 == 35

-- What the words of a line say: nothing where there is none, or where the line is a comment.
abbrev pub says : List (List ℕ) → Result (Option Call) Mistake
says [] = Ok None
says (w ∷ ws) = cond (comment w) (Ok None) (and_then (takes_by (name_of w) ws) (λ c. Ok (Some c)))
