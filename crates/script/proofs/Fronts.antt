-- The bytes in front of the first that passes a test.
use Rattle.std.proofs.Common.{◌≡◌, ℕ, ◌<◌, ◌≤◌, Bool, true, false, not, cond, List, length, get_or, Some, None, Option, ltb, sym, refl, ap, ◌∙◌, subst, arith}
use Rattle.std.proofs.lemmas.Bool.{ltb-false, not-true, not-false}
use Rattle.std.proofs.lemmas.List.Sums.{prefix_len-le-length, prefix_len_passes, prefix_len_stops}
use Rattle.std.specs.List.{position, position_or_len}
use Rattle.std.specs.Option.{unwrap_or}

-- none of the first n bytes passes, and the byte behind them does
pub record Front (p : ℕ → Bool) (bytes : List ℕ) (n : ℕ) : Type 0 where
  pub within : n ≤ length bytes
  pub before : (k : ℕ) → k < n → p (get_or bytes k 0) ≡ false
  pub stops : n < length bytes → p (get_or bytes n 0) ≡ true

or_all : (n all : ℕ) (b : Bool) → ltb n all ≡ b → n ≤ all → unwrap_or (cond b (Some n) None) all ≡ n
or_all n all true less within = refl
or_all n all false less within = let more = ltb-false n all less in omega arith

pub front : (p : ℕ → Bool) (bytes : List ℕ) → Front p bytes (unwrap_or (position p bytes) (length bytes))
front p bytes =
    let n = position_or_len p bytes in
    let within = prefix_len-le-length (λ x. not (p x)) bytes in
    subst (Front p bytes) (sym (or_all n (length bytes) (ltb n (length bytes)) refl within)) (record {
      within = within;
      before = λ k h. not-true _ (prefix_len_passes (λ x. not (p x)) bytes k 0 h);
      stops = λ h. not-false _ (prefix_len_stops (λ x. not (p x)) bytes 0 h);
    })

-- where a place is found, as many bytes stand in front of it
pub front_at : (p : ℕ → Bool) (bytes : List ℕ) (n : ℕ) → position p bytes ≡ Some n → Front p bytes n
front_at p bytes n is = subst (Front p bytes) (ap (λ o. unwrap_or o (length bytes)) is) (front p bytes)

pub front_none : (p : ℕ → Bool) (bytes : List ℕ) → position p bytes ≡ None → Front p bytes (length bytes)
front_none p bytes none = subst (Front p bytes) (ap (λ o. unwrap_or o (length bytes)) none) (front p bytes)

-- the place of the first, or the length where there is none
pub front_or_all : (p : ℕ → Bool) (bytes : List ℕ) (place : Option ℕ) (n : ℕ) → place ≡ position p bytes → n ≡ unwrap_or place (length bytes) → Front p bytes n
front_or_all p bytes place n found is = subst (Front p bytes) (sym (is ∙ ap (λ o. unwrap_or o (length bytes)) found)) (front p bytes)
