-- Every command is read back from the words that spell it.
use Rattle.std.proofs.Common.{◌≡◌, ℕ, ◌/◌, ◌%◌, ◌^◌, ◌<◌, ◌≤◌, ltb, List, [], ◌∷◌, map, Some, Ok, Err, decimal, Option, Result, sym, refl, ap, ◌∙◌, mod-lt, arith}
use Rattle.std.proofs.lemmas.Nat.{div-add-mod', div_below}
use Rattle.std.proofs.lemmas.Fmt.{decimal_nonempty, digits_decimal, digits_value-decimal}
use Rattle.std.proofs.lemmas.Bool.{cond-false, le-ltb}
use Rattle.std.proofs.lemmas.Bool.Decides.{nat_tests}
use Rattle.std.specs.Option.{ok_or}
use Rattle.script.specs.declared.command.Question.{Question}
use Rattle.script.specs.declared.command.Question.TheVariants.{States, Next, Label, Search, Find}
use Rattle.script.specs.declared.request.Making.{Making}
use Rattle.script.specs.declared.request.QueueKind.{QueueKind}
use Rattle.script.specs.declared.request.QueueKind.TheVariants.{Ring, Straight}
use Rattle.script.specs.declared.request.Request.TheVariants.{Count, Limit, Element, Put, Drop}
use Rattle.script.specs.declared.mistake.Mistake.{Mistake}
use Rattle.script.specs.declared.mistake.Mistake.TheVariants.{NotANumber, NotAByte, TooMuchMemory, NotHexadecimal}
use Rattle.script.specs.Commands.{Call, share, load, table, ask, ask_open, make, queue, says}
use Rattle.script.specs.Hex.{hex_digit, byte_before, hex_bytes}
use Rattle.script.specs.Numbers.{below}
use Rattle.script.specs.Operands.{making}
use Rattle.script.specs.Reading.{and_then}
use Rattle.script.specs.Spelling.{hex_char, hex_pair, spells, Bytes, Fit, ReadBack}
use Rattle.script.specs.Words.{joined}
use Rattle.script.proofs.Standing.{cuts}
use Rattle.script.proofs.Valued.{own, is_below}

decimal_below : (limit n : ℕ) → n < limit → n < 2 ^ 64 → below limit (decimal n) ≡ Some n
decimal_below limit n small fits =
    let v = digits_value-decimal own n fits in
    is_below limit (decimal n) (decimal_nonempty n fits) (digits_decimal own n fits) (omega (arith, v)) ∙ ap Some v

digit_back : (d : ℕ) → d < 16 → hex_digit (hex_char d) ≡ Some d
digit_back d h = grind (arith, nat_tests)

hex_back : (bytes : List ℕ) → Bytes bytes → hex_bytes (joined (map hex_pair bytes)) ≡ Some bytes
hex_back [] fit = refl
hex_back (b ∷ bytes) fit =
    ap (λ o. byte_before o (hex_digit (hex_char (b % 16))) (hex_bytes (joined (map hex_pair bytes)))) (digit_back (b / 16) (div_below b 16 16 (omega arith) fit.0))
    ∙ ap (λ o. byte_before (Some (b / 16)) o (hex_bytes (joined (map hex_pair bytes)))) (digit_back (b % 16) (mod-lt b (omega arith)))
    ∙ ap (byte_before (Some (b / 16)) (Some (b % 16))) (hex_back bytes fit.1)
    ∙ ap (λ n. Some (n ∷ bytes)) (div-add-mod' b 16)

-- what a line says, from its operands
abbrev line_with : Result Call Mistake → Result (Option Call) Mistake
line_with r = and_then r (λ c. Ok (Some c))

abbrev loads : Option (List ℕ) → Result (Option Call) Mistake
loads o = line_with (and_then (ok_or o NotHexadecimal) (λ image. Ok (load image)))

-- a question with two operands
abbrev asks_two : (ℕ → ℕ → Question) → Mistake → Option ℕ → Option ℕ → Result (Option Call) Mistake
asks_two question m o p =
    line_with (and_then {X = Question} (and_then {X = ℕ × ℕ} (and_then (ok_or o NotANumber) (λ n. and_then (ok_or p m) (λ k. Ok (n, k)))) (λ p. Ok (question p.0 p.1))) (λ q. Ok (ask q)))

-- a command with one operand
abbrev with_one : {X : Type 0} → (X → Call) → (ℕ → X) → Mistake → Option ℕ → Result (Option Call) Mistake
with_one {X} call make' m o = line_with (and_then {X = X} (and_then (ok_or o m) (λ n. Ok (make' n))) (λ x. Ok (call x)))

abbrev makes : QueueKind → Option ℕ → Result (Option Call) Mistake
makes k o =
    line_with (and_then {X = Making} (and_then {X = QueueKind × ℕ} (and_then (ok_or o NotANumber) (λ n. Ok (k, n))) (λ p. making p.0 p.1)) (λ m. Ok (make m)))

makes_back : (k : QueueKind) (n : ℕ) → n ≤ 2097152 → makes k (below (2 ^ 64) (decimal n)) ≡ Ok (Some (make (record { kind = k; length = n })))
makes_back k n few =
    ap (makes k) (decimal_below (2 ^ 64) n (omega arith) (omega arith))
    ∙ ap (λ r. line_with (and_then {X = Making} r (λ m. Ok (make m)))) (cond-false (ltb 2097152 n) (Err TooMuchMemory) (Ok (record { kind = k; length = n })) (le-ltb 2097152 n few))

kind_back : (k : QueueKind) (n : ℕ) → n ≤ 2097152 → says (spells (make (record { kind = k; length = n }))) ≡ Ok (Some (make (record { kind = k; length = n })))
kind_back Ring n few = makes_back Ring n few
kind_back Straight n few = makes_back Straight n few

says_back : (call : Call) → Fit call → says (spells call) ≡ Ok (Some call)
says_back share fit = refl
says_back (load image) fit = ap loads (hex_back image fit)
says_back table fit = refl
says_back (ask States) fit = refl
says_back (ask (Next state byte)) fit =
    ap (λ o. asks_two Next NotAByte o (below 256 (decimal byte))) (decimal_below (2 ^ 64) state fit.0 fit.0)
    ∙ ap (asks_two Next NotAByte (Some state)) (decimal_below 256 byte fit.1 (omega (arith, fit.1)))
says_back (ask (Label state)) fit = ap (with_one ask Label NotANumber) (decimal_below (2 ^ 64) state fit fit)
says_back (ask (Search from to)) fit =
    ap (λ o. asks_two Search NotANumber o (below (2 ^ 64) (decimal to))) (decimal_below (2 ^ 64) from fit.0 fit.0)
    ∙ ap (asks_two Search NotANumber (Some from)) (decimal_below (2 ^ 64) to fit.1 fit.1)
says_back (ask Find) fit = refl
says_back (ask_open state) fit =
    ap (λ o. line_with (and_then (ok_or o NotANumber) (λ n. Ok (ask_open n)))) (decimal_below (2 ^ 64) state fit fit)
says_back (make m) fit = kind_back m.kind m.length fit
says_back (queue Count) fit = refl
says_back (queue Limit) fit = refl
says_back (queue (Element place)) fit = ap (with_one queue Element NotANumber) (decimal_below (2 ^ 64) place fit fit)
says_back (queue (Put byte)) fit = ap (with_one queue Put NotAByte) (decimal_below 256 byte fit (omega (arith, fit)))
says_back (queue (Drop count)) fit = ap (with_one queue Drop NotANumber) (decimal_below (2 ^ 64) count fit fit)

pub read_back : (call : Call) → Fit call → ReadBack call
read_back call fit line holds = ap says (sym ((cuts line).only (spells call) holds)) ∙ says_back call fit
