-- What a queue answers depends on its list and its limit alone.
use Rattle.std.proofs.Common.{◌≡◌, ℕ, List, [], ◌∷◌, ◌++◌, drop, Ok, Err, Result, refl, ap, arith}
use Rattle.std.proofs.lemmas.Bool.Decides.{nat_tests}
use Rattle.queues.specs.declared.refusals.PutRefusal.{PutRefusal}
use Rattle.queues.specs.declared.refusals.PutRefusal.TheVariants.{Full}
use Rattle.queues.specs.declared.refusals.DropRefusal.{DropRefusal}
use Rattle.queues.specs.declared.refusals.DropRefusal.TheVariants.{BeyondCount}
use Rattle.queues.specs.Queue.{Held, Becomes, Put, Dropped}
use Rattle.queues.specs.Calls.{Call, count, limit, element, put, drop_front, Answer, put_number, drop_number, Answers, Equal, Alike}

module _ {T : Type 0} (p q p' q' : Held T) (e : Equal T p q) where
  becomes : (xs ys : List T) → xs ≡ ys → Becomes p xs p' → Becomes q ys q' → Equal T p' q'
  becomes xs ys same h k = record { items = cc; limit = cc }

  put_agrees : (x : T) (r s : Result (Unit {0}) PutRefusal) → Put p x r p' → Put q x s q' → (put_number T r ≡ put_number T s) × Equal T p' q'
  put_agrees x (Ok _) (Ok _) h k = (refl, becomes _ _ (ap (λ l. l ++ x ∷ []) e.items) h.1 k.1)
  put_agrees x (Ok _) (Err f) h k = grind (arith, nat_tests)
  put_agrees x (Err f) (Ok _) h k = grind (arith, nat_tests)
  put_agrees x (Err (Full l)) (Err (Full m)) h k = (refl, becomes _ _ e.items h.1 k.1)

  drop_agrees : (n : ℕ) (r s : Result (Unit {0}) DropRefusal) → Dropped p n r p' → Dropped q n s q' → (drop_number T r ≡ drop_number T s) × Equal T p' q'
  drop_agrees n (Ok _) (Ok _) h k = (refl, becomes _ _ (ap (drop n) e.items) h.1 k.1)
  drop_agrees n (Ok _) (Err f) h k = grind (arith, nat_tests)
  drop_agrees n (Err f) (Ok _) h k = grind (arith, nat_tests)
  drop_agrees n (Err BeyondCount) (Err BeyondCount) h k = (refl, becomes _ _ e.items h.1 k.1)

  still : p' ≡ p → q' ≡ q → Equal T p' q'
  still h k = record { items = cc; limit = cc }

  one_call : (c : Call T) (a b : Answer T c) → Answers T p c a p' → Answers T q c b q' → (a ≡ b) × Equal T p' q'
  one_call count a b h k = (cc, still h.1 k.1)
  one_call limit a b h k = (cc, still h.1 k.1)
  one_call (element place) a b h k = (cc, still h.1 k.1)
  one_call (put x) a b h k = let same = put_agrees x h.0 k.0 h.1 k.1 in (cc, same.1)
  one_call (drop_front n) a b h k = let same = drop_agrees n h.0 k.0 h.1 k.1 in (cc, same.1)

pub alike : {T : Type 0} → Alike T
alike [] xs ys p q p' q' e h k = (refl, still p q p' q' e h k)
alike {T} (c ∷ cs) xs ys p q p' q' e h k =
    let first = one_call p q h.0 k.0 e c xs.0 ys.0 h.1 k.1 in
    let rest = alike {T = T} cs xs.1 ys.1 h.0 k.0 p' q' first.1 h.2 k.2 in
    ((λ i. (first.0 i, rest.0 i)), rest.1)
