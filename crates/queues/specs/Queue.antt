-- What a queue means.
use Rattle.std.specs.Prelude.{◌≡◌, ℕ, cond, List, [], ◌∷◌, ◌++◌, length, drop, Some, None, Ok, Err, Option, Result, nat_lt}
use Rattle.queues.specs.declared.refusals.PutRefusal.{PutRefusal}
use Rattle.queues.specs.declared.refusals.PutRefusal.TheVariants.{Full}
use Rattle.queues.specs.declared.refusals.DropRefusal.{DropRefusal}
use Rattle.queues.specs.declared.refusals.DropRefusal.TheVariants.{BeyondCount}

-- A queue: its elements from the front, the most that it can have, and the letter that a put would tell
-- if the queue were full now.
pub record Held (T : Type 0) : Type 0 where
  pub items : List T
  pub limit : ℕ
  pub letter : ℕ

module _ {T : Type 0} where
  -- When and how a put refuses: exactly if the count has reached the limit.
  abbrev pub put_refuses : Held T → Option PutRefusal
  put_refuses q = cond (nat_lt (length q.items) q.limit) None (Some (Full q.letter))

  -- The list is now xs; the limit and the letter are as they were.
  pub record Becomes (q : Held T) (xs : List T) (after : Held T) : Type 0 where
    pub items : after.items ≡ xs
    pub limit : after.limit ≡ q.limit
    pub letter : after.letter ≡ q.letter

  -- A put adds at the back, or it is refused and leaves the list as it was.
  abbrev pub Put : Held T → T → Result (Unit {0}) PutRefusal → Held T → Type 0
  Put q x (Ok _) after = (put_refuses q ≡ None) × Becomes q (q.items ++ x ∷ []) after
  Put q x (Err f) after = (put_refuses q ≡ Some f) × Becomes q q.items after

  -- When and how a drop refuses: exactly if k exceeds the count.
  abbrev pub drop_refuses : Held T → ℕ → Option DropRefusal
  drop_refuses q k = cond (nat_lt (length q.items) k) (Some BeyondCount) None

  -- A drop takes k elements from the front, or it is refused and leaves the list as it was.
  abbrev pub Dropped : Held T → ℕ → Result (Unit {0}) DropRefusal → Held T → Type 0
  Dropped q k (Ok _) after = (drop_refuses q k ≡ None) × Becomes q (drop k q.items) after
  Dropped q k (Err f) after = (drop_refuses q k ≡ Some f) × Becomes q q.items after
