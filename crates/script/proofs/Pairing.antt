-- Hexadecimal digits, read one after another.
use Rattle.std.proofs.Common.{◌≡◌, ℕ, ◌+◌, ◌*◌, ◌<◌, ◌≤◌, true, false, List, [], ◌∷◌, ◌++◌, length, get_or, drop, is_some, IfSome, Some, None, Option, sym, refl, ap, ◌∙◌, append_assoc, append-nil, arith}
use Rattle.std.proofs.lemmas.List.{at_drop_more, at_drop_all}
use Rattle.std.proofs.lemmas.Bool.{false≢true, true≢false}
use Rattle.std.proofs.lemmas.Bool.Decides.{nat_tests}
use Rattle.script.specs.Hex.{hex_digit, byte_before, hex_bytes}
use Rattle.script.specs.Words.{blank, joined, words}
use Rattle.script.proofs.Cutting.{joined_blank, joined_other}

-- what digits write behind a high digit that is read already, if one is
abbrev pub rest : Option ℕ → List ℕ → Option (List ℕ)
rest None ds = hex_bytes ds
rest (Some h) [] = None
rest (Some h) (l ∷ ds) = byte_before (Some h) (hex_digit l) (hex_bytes ds)

-- bytes that are read already, in front of others
abbrev pub after : List ℕ → Option (List ℕ) → Option (List ℕ)
after bytes None = None
after bytes (Some more) = Some (bytes ++ more)

pub no_digit : (high : Option ℕ) (b : ℕ) (ds : List ℕ) → hex_digit b ≡ None → rest high (b ∷ ds) ≡ None
no_digit None b [] h = refl
no_digit None b (l ∷ ds) h = ap (λ d. byte_before d (hex_digit l) (hex_bytes ds)) h
no_digit (Some x) b ds h = ap (λ d. byte_before (Some x) d (hex_bytes ds)) h

pub high_digit : (b d : ℕ) (ds : List ℕ) → hex_digit b ≡ Some d → rest None (b ∷ ds) ≡ rest (Some d) ds
high_digit b d [] h = refl
high_digit b d (l ∷ ds) h = ap (λ o. byte_before o (hex_digit l) (hex_bytes ds)) h

whole : (bytes : List ℕ) (h l : ℕ) (o : Option (List ℕ)) → after bytes (byte_before (Some h) (Some l) o) ≡ after (bytes ++ (h * 16 + l) ∷ []) o
whole bytes h l None = refl
whole bytes h l (Some more) = ap Some (sym (append_assoc bytes ((h * 16 + l) ∷ []) more))

pub low_digit : (bytes : List ℕ) (h b l : ℕ) (ds : List ℕ) → hex_digit b ≡ Some l → after bytes (rest (Some h) (b ∷ ds)) ≡ after (bytes ++ (h * 16 + l) ∷ []) (rest None ds)
low_digit bytes h b l ds e = ap (λ d. after bytes (byte_before (Some h) d (hex_bytes ds))) e ∙ whole bytes h l (hex_bytes ds)

pub digit_small : (b d : ℕ) → hex_digit b ≡ Some d → d < 16
digit_small b d h = grind (arith, nat_tests)

abbrev solid : List ℕ → List ℕ
solid text = joined (words text)

-- what is read before place i, the bytes and perhaps a high digit, goes in front of what the rest writes
pub record Sofar (text bytes : List ℕ) (high : Option ℕ) (i : ℕ) : Type 0 where
  pub reads : hex_bytes (solid text) ≡ after bytes (rest high (solid (drop i text)))
  pub small : IfSome high (λ h. h < 16)

-- the byte at i, where the bytes before it are read
module _ (text bytes : List ℕ) (high : Option ℕ) (i : ℕ) (sofar : hex_bytes (solid text) ≡ after bytes (rest high (solid (drop i text)))) where
  pub pass : i < length text → blank (get_or text i 0) ≡ true → hex_bytes (solid text) ≡ after bytes (rest high (solid (drop (i + 1) text)))
  pass h is = sofar ∙ ap (λ l. after bytes (rest high l)) (at_drop_more solid text i 0 h ∙ joined_blank (get_or text i 0) (drop (i + 1) text) is)

  here : i < length text → blank (get_or text i 0) ≡ false → hex_bytes (solid text) ≡ after bytes (rest high (get_or text i 0 ∷ solid (drop (i + 1) text)))
  here h is = sofar ∙ ap (λ l. after bytes (rest high l)) (at_drop_more solid text i 0 h ∙ joined_other (get_or text i 0) (drop (i + 1) text) is)

  pub stop : i < length text → blank (get_or text i 0) ≡ false → hex_digit (get_or text i 0) ≡ None → None ≡ hex_bytes (solid text)
  stop h is none = sym (here h is ∙ ap (after bytes) (no_digit high (get_or text i 0) (solid (drop (i + 1) text)) none))

  pub keep : (d : ℕ) → i < length text → blank (get_or text i 0) ≡ false → hex_digit (get_or text i 0) ≡ Some d → high ≡ None → hex_bytes (solid text) ≡ after bytes (rest (Some d) (solid (drop (i + 1) text)))
  keep d h is digit first =
      here h is
      ∙ ap (λ o. after bytes (rest o (get_or text i 0 ∷ solid (drop (i + 1) text)))) first
      ∙ ap (after bytes) (high_digit (get_or text i 0) d (solid (drop (i + 1) text)) digit)

  pub put : (x d : ℕ) → i < length text → blank (get_or text i 0) ≡ false → hex_digit (get_or text i 0) ≡ Some d → high ≡ Some x → hex_bytes (solid text) ≡ after (bytes ++ (x * 16 + d) ∷ []) (rest None (solid (drop (i + 1) text)))
  put x d h is digit second =
      here h is
      ∙ ap (λ o. after bytes (rest o (get_or text i 0 ∷ solid (drop (i + 1) text)))) second
      ∙ low_digit bytes x (get_or text i 0) d (solid (drop (i + 1) text)) digit

  ended : length text ≤ i → hex_bytes (solid text) ≡ after bytes (rest high [])
  ended h = sofar ∙ ap (λ l. after bytes (rest high l)) (at_drop_all solid text i h)

  pub odd : length text ≤ i → is_some high ≡ true → None ≡ hex_bytes (solid text)
  odd h is = sym (ended h ∙ ap (after bytes) (no_more high is))
    where
      no_more : (o : Option ℕ) → is_some o ≡ true → rest o [] ≡ None
      no_more None e = absurd (false≢true e)
      no_more (Some x) e = refl

  pub even : length text ≤ i → is_some high ≡ false → Some bytes ≡ hex_bytes (solid text)
  even h is = sym (ended h ∙ ap (after bytes) (all high is) ∙ ap Some (append-nil bytes))
    where
      all : (o : Option ℕ) → is_some o ≡ false → rest o [] ≡ Some []
      all None e = refl
      all (Some x) e = absurd (true≢false e)
