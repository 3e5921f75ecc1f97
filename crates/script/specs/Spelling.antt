-- How lines are written: what stands in a line, and which lines say a command.
use Rattle.std.specs.Prelude.{◌≡◌, ℕ, ◌+◌, ◌/◌, ◌%◌, ◌^◌, ◌<◌, ◌≤◌, Bool, true, false, cond, List, [], ◌∷◌, ◌++◌, map, length, Some, Ok, decimal, nat_lt}
use Rattle.script.specs.declared.command.Question.TheVariants.{States, Next, Label, Search, Find}
use Rattle.script.specs.declared.name.Asked.TheVariants as asked
use Rattle.script.specs.declared.name.Name.TheVariants as name
use Rattle.script.specs.declared.name.Requested.TheVariants as requested
use Rattle.script.specs.declared.request.Request.TheVariants.{Count, Limit, Element, Put, Drop}
use Rattle.script.specs.Commands.{Call, share, load, table, ask, ask_open, make, queue, says}
use Rattle.script.specs.Kinds.{kind_spelled}
use Rattle.script.specs.Names.{spelled}
use Rattle.script.specs.Words.{blank, begins, words}

-- Every byte is a blank, or none is.
abbrev pub Only : Bool → List ℕ → Type 0
Only blanks [] = Unit {0}
Only blanks (b ∷ bs) = (blank b ≡ blanks) × Only blanks bs

-- These words stand in a line, one after another, and nothing else but blanks. Between two there is a blank,
-- and there may be any number of them before, between and behind.
abbrev pub Holds : List (List ℕ) → List ℕ → Type 0
Holds [] line = Only true line
Holds (w ∷ ws) line =
    (before : List ℕ) × (behind : List ℕ) × (line ≡ before ++ (w ++ behind)) × Only true before
    × (0 < length w) × Only false w × (begins behind ≡ false) × Holds ws behind

-- The words of a line are the words that stand in it, and no others do.
pub record Cuts (line : List ℕ) : Type 0 where
  pub holds : Holds (words line) line
  pub only : (ws : List (List ℕ)) → Holds ws line → ws ≡ words line

-- A byte in two hexadecimal digits.
abbrev pub hex_char : ℕ → ℕ
hex_char d = cond (nat_lt d 10) (48 + d) (87 + d)

abbrev pub hex_pair : ℕ → List ℕ
hex_pair b = hex_char (b / 16) ∷ hex_char (b % 16) ∷ []

-- The words that spell a command.
abbrev pub spells : Call → List (List ℕ)
spells share = spelled name.Share ∷ []
spells (load image) = spelled name.Load ∷ map hex_pair image
spells table = spelled name.Table ∷ []
spells (ask States) = spelled (name.Ask asked.States) ∷ []
spells (ask (Next state byte)) = spelled (name.Ask asked.Next) ∷ decimal state ∷ decimal byte ∷ []
spells (ask (Label state)) = spelled (name.Ask asked.Label) ∷ decimal state ∷ []
spells (ask (Search from to)) = spelled (name.Ask asked.Search) ∷ decimal from ∷ decimal to ∷ []
spells (ask Find) = spelled (name.Ask asked.Find) ∷ []
spells (ask_open state) = spelled name.Open ∷ decimal state ∷ []
spells (make m) = spelled name.Make ∷ kind_spelled m.kind ∷ decimal m.length ∷ []
spells (queue Count) = spelled (name.Queue requested.Count) ∷ []
spells (queue Limit) = spelled (name.Queue requested.Limit) ∷ []
spells (queue (Element place)) = spelled (name.Queue requested.Element) ∷ decimal place ∷ []
spells (queue (Put byte)) = spelled (name.Queue requested.Put) ∷ decimal byte ∷ []
spells (queue (Drop count)) = spelled (name.Queue requested.Drop) ∷ decimal count ∷ []

-- The operands of a command are what they should be: numbers below 2^64, bytes, and memory that is not too much.
abbrev pub Bytes : List ℕ → Type 0
Bytes [] = Unit {0}
Bytes (b ∷ bs) = (b < 256) × Bytes bs

abbrev pub Fit : Call → Type 0
Fit share = Unit {0}
Fit (load image) = Bytes image
Fit table = Unit {0}
Fit (ask States) = Unit {0}
Fit (ask (Next state byte)) = (state < 2 ^ 64) × (byte < 256)
Fit (ask (Label state)) = state < 2 ^ 64
Fit (ask (Search from to)) = (from < 2 ^ 64) × (to < 2 ^ 64)
Fit (ask Find) = Unit {0}
Fit (ask_open state) = state < 2 ^ 64
Fit (make m) = m.length ≤ 2097152
Fit (queue Count) = Unit {0}
Fit (queue Limit) = Unit {0}
Fit (queue (Element place)) = place < 2 ^ 64
Fit (queue (Put byte)) = byte < 256
Fit (queue (Drop count)) = count < 2 ^ 64

-- Every line in which the words stand that spell a command says that command.
abbrev pub ReadBack : Call → Type 0
ReadBack call = (line : List ℕ) → Holds (spells call) line → says (words line) ≡ Ok (Some call)
