-- The value of a word's digits, read one after another.
use Rattle.std.proofs.Common.{◌≡◌, ℕ, zero, suc, ◌+◌, ◌-◌, ◌*◌, ◌<◌, ◌≤◌, true, false, ltb, List, [], ◌∷◌, ◌++◌, map, length, get_or, take, drop, Some, None, sym, refl, ap, ◌∙◌, subst, arith}
use Rattle.std.proofs.lemmas.Int.Digits.{number_after_append, number_after_ge, digits_value_is, digits_value_more}
use Rattle.std.proofs.lemmas.List.{map-append, take-append-drop, take_more}
use Rattle.std.proofs.lemmas.Str.Parse.{IsNumeralModel, numerals_by_value, tells_all_ascii_digits}
use Rattle.std.proofs.lemmas.Bool.{and_left, and_right, and_from, and_parts, cond-true, cond-false, le-ltb, lt-ltb}
use Rattle.std.proofs.lemmas.Bool.Decides.{nat_tests}
use Rattle.std.specs.Str.Parse.{digits_value}
use Rattle.std.specs.Char.{is_ascii_digit, digit_value as digitValue}
use Rattle.std.specs.Int.Digits.{number_from_digits, number_from_digits_after}
use Rattle.std.specs.Str.{all_ascii_digits}
use Rattle.script.specs.Numbers.{word_is_below, below}

pub own : IsNumeralModel (λ ds. all_ascii_digits ds ≡ true) (digits_value 10)
own = numerals_by_value (λ ds. all_ascii_digits ds ≡ true) tells_all_ascii_digits

pub digit_value : (b : ℕ) → is_ascii_digit b ≡ true → digitValue b ≡ b - 48
digit_value b h = grind (arith, nat_tests)

-- a byte is a digit where its character has a value below ten, and no other is
pub digit_since : (b c : ℕ) → c ≡ b → digitValue c < 10 → is_ascii_digit b ≡ true
digit_since b c e h = subst (λ n. is_ascii_digit n ≡ true) e (value_low c h)
  where
    value_low : (n : ℕ) → digitValue n < 10 → is_ascii_digit n ≡ true
    value_low n h = grind (arith, nat_tests)

pub digit_of : (b c : ℕ) → c ≡ b → is_ascii_digit b ≡ true → digitValue c ≡ b - 48
digit_of b c e h = ap digitValue e ∙ digit_value b h

pub other_since : (b c : ℕ) → c ≡ b → (digitValue c < 10 → ⊥) → is_ascii_digit b ≡ false
other_since b c e h = subst (λ n. is_ascii_digit n ≡ false) e (value_high c h)
  where
    value_high : (n : ℕ) → (digitValue n < 10 → ⊥) → is_ascii_digit n ≡ false
    value_high n h = grind (arith, nat_tests)

-- a front of the digits is worth no more than all of them
value_front : (word : List ℕ) (k : ℕ) → digits_value 10 (take k word) ≤ digits_value 10 word
value_front word k =
    let front = take k word in
    let back = map digitValue (drop k word) in
    let whole : digits_value 10 word ≡ number_from_digits_after 10 (digits_value 10 front) back =
    digits_value_is 10 word
    ∙ ap (λ l. number_from_digits 10 (map digitValue l)) (sym (take-append-drop k word))
    ∙ ap (number_from_digits 10) (map-append digitValue front (drop k word))
    ∙ number_after_append 10 0 (map digitValue front) back
    ∙ ap (λ n. number_from_digits_after 10 n back) (sym (digits_value_is 10 front)) in
    omega (arith, whole, number_after_ge 10 (digits_value 10 front) back (omega arith))

module _ (limit : ℕ) (word : List ℕ) where
  none_since : word_is_below limit word ≡ false → below limit word ≡ None
  none_since h = cond-false (word_is_below limit word) (Some (digits_value 10 word)) None h

  not_digits : (ds : List ℕ) (i : ℕ) → i < length ds → is_ascii_digit (get_or ds i 0) ≡ false → all_ascii_digits ds ≡ false
  not_digits [] i h other = absurd (omega arith)
  not_digits (d ∷ ds) zero h other = and_left (is_ascii_digit d) (all_ascii_digits ds) other
  not_digits (d ∷ ds) (suc i) h other = and_right (is_ascii_digit d) (all_ascii_digits ds) (not_digits ds i (omega arith) other)

  pub no_word : length word ≡ 0 → below limit word ≡ None
  no_word h = none_since (and_left (ltb 0 (length word)) _ (le-ltb 0 (length word) (omega arith)))

  pub no_digit : (i : ℕ) → i < length word → is_ascii_digit (get_or word i 0) ≡ false → below limit word ≡ None
  no_digit i h other = none_since (and_right (ltb 0 (length word)) _ (and_left (all_ascii_digits word) _ (not_digits word i h other)))

  pub too_large : limit ≤ digits_value 10 word → below limit word ≡ None
  too_large h = none_since (and_right (ltb 0 (length word)) _ (and_right (all_ascii_digits word) _ (le-ltb (digits_value 10 word) limit h)))

  pub is_below : 0 < length word → all_ascii_digits word ≡ true → digits_value 10 word < limit → below limit word ≡ Some (digits_value 10 word)
  is_below some digits small =
      cond-true (word_is_below limit word) (Some (digits_value 10 word)) None
      (and_from (ltb 0 (length word)) _ (lt-ltb 0 (length word) some) (and_from (all_ascii_digits word) _ digits (lt-ltb (digits_value 10 word) limit small)))

-- one digit more
pub worth : (word : List ℕ) (i v : ℕ) → i < length word → is_ascii_digit (get_or word i 0) ≡ true → v ≡ digits_value 10 (take i word) → v * 10 + (get_or word i 0 - 48) ≡ digits_value 10 (take (i + 1) word)
worth word i v h is e =
    ap (λ n. n * 10 + (get_or word i 0 - 48)) e ∙ ap (λ d. digits_value 10 (take i word) * 10 + d) (sym (digit_value (get_or word i 0) is)) ∙ sym (digits_value_more 10 word i h)

pub over : (word : List ℕ) (i v limit : ℕ) → i < length word → is_ascii_digit (get_or word i 0) ≡ true → v ≡ digits_value 10 (take i word) → limit ≤ v * 10 + (get_or word i 0 - 48) → below limit word ≡ None
over word i v limit h is e large =
    too_large limit word (omega (arith, worth word i v h is e, value_front word (i + 1)))

digits_push : (ds : List ℕ) (d : ℕ) → all_ascii_digits ds ≡ true → is_ascii_digit d ≡ true → all_ascii_digits (ds ++ d ∷ []) ≡ true
digits_push [] d all is = and_from (is_ascii_digit d) true is refl
digits_push (x ∷ ds) d all is =
    let both = and_parts (is_ascii_digit x) (all_ascii_digits ds) all in
    and_from (is_ascii_digit x) (all_ascii_digits (ds ++ d ∷ [])) both.0 (digits_push ds d both.1 is)

pub digits_more : (word : List ℕ) (i : ℕ) → i < length word → all_ascii_digits (take i word) ≡ true → is_ascii_digit (get_or word i 0) ≡ true → all_ascii_digits (take (i + 1) word) ≡ true
digits_more word i h all is = ap all_ascii_digits (take_more word i 0 h) ∙ digits_push (take i word) (get_or word i 0) all is
