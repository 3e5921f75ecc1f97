-- Words and walks: parts of a word, and the states along it.
use Rattle.std.proofs.Common.{◌≡◌, ℕ, zero, suc, ◌+◌, ◌-◌, ◌<◌, ◌≤◌, List, [], ◌∷◌, ◌++◌, length, take, drop, sym, refl, ap, ◌∙◌, subst, le_of_suc-le-suc, not-suc-le-zero, arith}
use Rattle.std.proofs.lemmas.List.{drop-take, length-drop, length-take-le, take-append-drop, take-append-le, take_at, take-take}
use Rattle.tables.specs.Openness.{Accepts, Open, Word, walk}
use Rattle.tables.proofs.Walking.{walk_append, word_drop, word_take}
use Rattle.tables.specs.Table.{Table}

-- a part of a list: the bytes from place m on, so many of them
abbrev pub part : List ℕ → ℕ → ℕ → List ℕ
part w m k = take k (drop m w)

pub length_part : (w : List ℕ) (m k : ℕ) → m + k ≤ length w → length (part w m k) ≡ k
length_part w m k inside = length-take-le k (drop m w) (omega (arith, length-drop m w))

pub word_part : (w : List ℕ) (m k : ℕ) → Word w → Word (part w m k)
word_part w m k word = word_take k (drop m w) (word_drop m w word)

-- a beginning, and the part behind it
pub take_part : (w : List ℕ) (m k : ℕ) → take m w ++ part w m k ≡ take (m + k) w
take_part w m k =
    ap (λ u. u ++ part w m k) (sym (take-take m (m + k) w (omega arith)))
    ∙ ap (λ u. take m (take (m + k) w) ++ u) (sym (drop-take m k w))
    ∙ take-append-drop m (take (m + k) w)

-- beginnings of a list and then another: those of the first, and then the first with beginnings of the second
pub take_past : {X : Type 0} (n : ℕ) (u w : List X) → length u ≤ n → take n (u ++ w) ≡ u ++ take (n - length u) w
take_past n [] w past = ap (λ m. take m w) (omega arith)
take_past zero (b ∷ u) w past = absurd (not-suc-le-zero past)
take_past (suc n) (b ∷ u) w past = ap (λ v. b ∷ v) (take_past n u w (le_of_suc-le-suc past) ∙ ap (λ m. u ++ take m w) (omega arith))

module _ (t : Table) where
  -- the states along the first of two words
  pub walk_early : (s : ℕ) (u v : List ℕ) (i : ℕ) → i ≤ length u → walk t s (take i (u ++ v)) ≡ walk t s (take i u)
  walk_early s u v i few = ap (walk t s) (take-append-le i u v few)

  pub walk_first : (s : ℕ) (u v : List ℕ) → walk t s (take (length u) (u ++ v)) ≡ walk t s u
  walk_first s u v = ap (walk t s) (take_at u v (length u) refl)

  -- and along the second, from where the first leads
  pub walk_late : (s : ℕ) (u v : List ℕ) (i : ℕ) → length u ≤ i → walk t s (take i (u ++ v)) ≡ walk t (walk t s u) (take (i - length u) v)
  walk_late s u v i past = ap (walk t s) (take_past i u v past) ∙ walk_append t s u (take (i - length u) v)

  -- on from the state that the first m bytes lead to
  pub walk_part : (s : ℕ) (w : List ℕ) (m k : ℕ) → walk t (walk t s (take m w)) (part w m k) ≡ walk t s (take (m + k) w)
  walk_part s w m k = sym (walk_append t s (take m w) (part w m k)) ∙ ap (walk t s) (take_part w m k)

  -- the same at an earlier place of the part
  pub walk_within : (s : ℕ) (w : List ℕ) (m k i : ℕ) → i ≤ k → walk t (walk t s (take m w)) (take i (part w m k)) ≡ walk t s (take (m + i) w)
  walk_within s w m k i less = ap (walk t (walk t s (take m w))) (take-take i k (drop m w) less) ∙ walk_part s w m i

  -- before an accepted beginning the states are open
  pub open_before : (s : ℕ) (w : List ℕ) (m n : ℕ) → Word w → m < n → n ≤ length w → Accepts t (walk t s (take n w)) → Open t (walk t s (take m w))
  open_before s w m n word less inside accepts =
      let k = n - m in
      let whole : m + k ≡ n = omega arith in
      record {
        by = part w m k;
        word = word_part w m k word;
        some = omega (arith, length_part w m k (omega arith));
        accepted = λ none. accepts (subst (λ i. t.label (walk t s (take i w)) ≡ 0) whole (sym (ap t.label (walk_part s w m k)) ∙ none));
      }
