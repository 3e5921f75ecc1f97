-- How a reading ends, and how one goes on from another.
use Rattle.std.specs.Prelude.{Ok, Err, Result}
use Rattle.script.specs.declared.mistake.Mistake.{Mistake}
use Rattle.script.specs.declared.mistake.Unread.{Unread}
use Rattle.script.specs.declared.mistake.Unread.TheVariants.{Wrong, Memory}

-- P of what was read, and Q of the mistake. Where memory fails, nothing is said.
abbrev pub Reads : {X : Type 0} → Result X Unread → (X → Type 0) → (Mistake → Type 0) → Type 0
Reads (Ok x) P Q = P x
Reads (Err (Wrong m)) P Q = Q m
Reads (Err (Memory e)) P Q = Unit {0}

-- A reading goes on with what was read, or ends with the first mistake.
abbrev pub and_then : {X Y : Type 0} → Result X Mistake → (X → Result Y Mistake) → Result Y Mistake
and_then (Ok x) f = f x
and_then (Err m) f = Err m
