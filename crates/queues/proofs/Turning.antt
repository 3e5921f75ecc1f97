-- The elements of a ring, place by place.
use Rattle.std.proofs.Common.{◌≡◌, ℕ, ◌+◌, ◌-◌, ◌<◌, ◌≤◌, cond, ltb, ◌≢◌, List, [], ◌∷◌, ◌++◌, length, get_or, take, drop, set, sym, ap, ◌∙◌, ⊎_elim, arith}
use Rattle.std.proofs.lemmas.List.{length-take-le, length_push, get_or_append_left, get_or-take, get_or-set_same, get_or-set_other, get_or_push, same_lists}
use Rattle.std.proofs.lemmas.Bool.{cases_lt}
use Rattle.std.proofs.lemmas.Bool.Decides.{nat_tests}
use Rattle.std.proofs.lemmas.Grind.{common_steps}
use Rattle.queues.specs.Memory.{limit_of, turned}

-- the place by behind head, where limit places are in use
abbrev pub wrap : ℕ → ℕ → ℕ → ℕ
wrap head by limit = cond (ltb (head + by) limit) (head + by) (head + by - limit)

-- a place that is counted from an element in use lies in the memory in use
pub wrap_inside : (head by limit : ℕ) → head ≤ limit → by < limit → wrap head by limit < limit
wrap_inside head by limit low less = grind (arith, nat_tests)

pub wrap_at_most : (head by limit : ℕ) → head ≤ limit → by ≤ limit → wrap head by limit ≤ limit
wrap_at_most head by limit low less = grind (arith, nat_tests)

-- two places of a ring are two places of its memory
pub wrap_apart : (head a b limit : ℕ) → head ≤ limit → a < b → b < limit → wrap head a limit ≢ wrap head b limit
wrap_apart head a b limit low less inside = grind (arith, nat_tests)

-- on from a new head
pub wrap_on : (head a b limit : ℕ) → head ≤ limit → a + b < limit → wrap (wrap head a limit) b limit ≡ wrap head (a + b) limit
wrap_on head a b limit low inside = grind (arith, nat_tests)

module _ {T : Type 0} (memory : List T) (head : ℕ) (low : head ≤ limit_of memory) where
  pub length_turned : length (turned memory head) ≡ limit_of memory
  length_turned = grind (arith, common_steps)

  turned_at : (i : ℕ) (d : T) → i < limit_of memory → get_or (turned memory head) i d ≡ get_or memory (wrap head i (limit_of memory)) d
  turned_at i d inside = grind (arith, common_steps, nat_tests)

  module _ (count : ℕ) (few : count ≤ limit_of memory) where
    -- the elements
    pub length_items : length (take count (turned memory head)) ≡ count
    length_items = length-take-le count (turned memory head) (omega (arith, length_turned))

    pub item_at : (i : ℕ) (d : T) → i < count → get_or (take count (turned memory head)) i d ≡ get_or memory (wrap head i (limit_of memory)) d
    item_at i d h = get_or-take count (turned memory head) i d h ∙ turned_at i d (omega arith)

module _ {T : Type 0} (memory : List T) (head count : ℕ) (low : head ≤ limit_of memory) where
  -- one element more at the back
  pub put_items : (at : ℕ) (x : T) → at ≡ wrap head count (limit_of memory) → count < limit_of memory → take (count + 1) (turned (set memory at x) head) ≡ take count (turned memory head) ++ x ∷ []
  put_items at x there room = same_lists _ _ long each
    where
      after : List T
      after = set memory at x

      same : limit_of after ≡ limit_of memory
      same = grind (arith, common_steps)

      long : length (take (count + 1) (turned after head)) ≡ length (take count (turned memory head) ++ x ∷ [])
      long = grind (arith, common_steps)

      known : length (take count (turned memory head)) ≡ count
      known = length_items memory head low count (omega arith)

      old : (k : ℕ) (d : T) → k < count → get_or after (wrap head k (limit_of memory)) d ≡ get_or (take count (turned memory head)) k d
      old k d h =
          get_or-set_other memory at (wrap head k (limit_of memory)) x d (λ e. wrap_apart head k count (limit_of memory) low h room (e ∙ there))
          ∙ sym (item_at memory head low count (omega arith) k d h)

      each : (k : ℕ) (d : T) → k < length (take (count + 1) (turned after head)) → get_or (take (count + 1) (turned after head)) k d ≡ get_or (take count (turned memory head) ++ x ∷ []) k d
      each k d h =
          let is = item_at after head (omega (arith, same)) (count + 1) (omega (arith, same)) k d (omega (arith, long, length_push (take count (turned memory head)) x, known)) ∙ ap (λ n. get_or after (wrap head k n) d) same in
          ⊎_elim
          (λ less. is ∙ old k d less ∙ sym (get_or_append_left (take count (turned memory head)) (x ∷ []) d k (omega (arith, known))))
          (λ more.
          let last : k ≡ count = omega (arith, long, length_push (take count (turned memory head)) x, known) in
          is
          ∙ ap (λ n. get_or after (wrap head n (limit_of memory)) d) last
          ∙ ap (λ n. get_or after n d) (sym there)
          ∙ get_or-set_same memory at x d (omega (arith, there, wrap_inside head count (limit_of memory) low room))
          ∙ sym (get_or_push (take count (turned memory head)) x d k (known ∙ sym last)))
          (cases_lt k count)

  -- k elements less at the front
  pub drop_items : (k : ℕ) → k ≤ count → count ≤ limit_of memory → take (count - k) (turned memory (wrap head k (limit_of memory))) ≡ drop k (take count (turned memory head))
  drop_items k less few = same_lists _ _ long each
    where
      long : length (take (count - k) (turned memory (wrap head k (limit_of memory)))) ≡ length (drop k (take count (turned memory head)))
      long = grind (arith, common_steps, length_items, wrap_at_most)

      each : (i : ℕ) (d : T) → i < length (take (count - k) (turned memory (wrap head k (limit_of memory)))) → get_or (take (count - k) (turned memory (wrap head k (limit_of memory)))) i d ≡ get_or (drop k (take count (turned memory head))) i d
      each i d h = grind (arith, common_steps, item_at, length_items, wrap_at_most, wrap_on)
