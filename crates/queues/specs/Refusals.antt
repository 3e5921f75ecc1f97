-- What each refusal of a queue tells: its number, and the values told with it.
use Rattle.std.specs.Prelude.{ℕ, List, [], ◌∷◌}
use Rattle.queues.specs.declared.refusals.PutRefusal.{PutRefusal}
use Rattle.queues.specs.declared.refusals.PutRefusal.TheVariants.{Full}
use Rattle.queues.specs.declared.refusals.DropRefusal.{DropRefusal}

pub record Told : Type 0 where
  pub number : ℕ
  pub values : List ℕ

-- The letter of the queue that was full.
abbrev pub full_letter : PutRefusal → ℕ
full_letter (Full letter) = letter

abbrev pub put_told : PutRefusal → Told
put_told f = record { number = 8; values = full_letter f ∷ [] }

abbrev pub drop_told : DropRefusal → Told
drop_told f = record { number = 9; values = [] }
