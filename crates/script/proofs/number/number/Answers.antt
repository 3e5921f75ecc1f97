use Rattle.std.proofs.Common.{◌≡◌, ◌^◌, take, Some, sym, ap, ◌∙◌, arith}
use Rattle.std.proofs.lemmas.List.{take_all}
use Rattle.std.proofs.lemmas.Bool.{eqb-false}
use Rattle.std.specs.Str.Parse.{digits_value}
use Rattle.std.specs.Str.{all_ascii_digits}
use Rattle.script.proofs.Valued.{digit_since, digit_of, other_since, no_digit, over, worth, digits_more, is_below}
use Rattle.script.proofs.number.number.Goals as goal

pub returns-in_err-digit : goal.returns-in_err-digit
returns-in_err-digit c =
    c.from_residual.ensures ∙ sym (no_digit (2 ^ 64) _ _ c.loop-byte-test.true (other_since _ _ c.from.ensures c.in_err-digit.ensures.value))

pub returns-in_err-checked_mul : goal.returns-in_err-checked_mul
returns-in_err-checked_mul c =
    let is = digit_since _ _ c.from.ensures c.in_ok-digit.ensures.value.0 in
    c.from_residual-in_err-checked_mul.ensures
    ∙ sym (over _ _ _ (2 ^ 64) c.loop-byte-test.true is c.loop-byte.invariant.1 (omega (arith, c.in_err-checked_mul.ensures)))

pub returns-in_err-value : goal.returns-in_err-value
returns-in_err-value c =
    let is = digit_since _ _ c.from.ensures c.in_ok-digit.ensures.value.0 in
    let d = digit_of _ _ c.from.ensures is in
    c.from_residual-in_err-value.ensures
    ∙ sym (over _ _ _ (2 ^ 64) c.loop-byte-test.true is c.loop-byte.invariant.1 (omega (arith, d, c.in_ok-digit.ensures.value.1, c.in_err-value.ensures, c.in_ok-checked_mul.ensures.1)))

pub loop-byte-preserved : goal.loop-byte-preserved
loop-byte-preserved c =
    let is = digit_since _ _ c.from.ensures c.in_ok-digit.ensures.value.0 in
    let d = digit_of _ _ c.from.ensures is in
    let told = worth _ _ _ c.loop-byte-test.true is c.loop-byte.invariant.1 in (
      digits_more _ _ c.loop-byte-test.true c.loop-byte.invariant.0 is,
      omega (arith, told, d, c.in_ok-digit.ensures.value.1, c.in_ok-value.ensures.1, c.in_ok-checked_mul.ensures.1),
      omega (arith, c.in_ok-value.ensures),
    )

pub returns : goal.returns
returns c =
    let word = c.args.word.now in
    let all : take c.loop-byte.byte-index word ≡ word = take_all _ word c.loop-byte-test.false in
    let is = c.loop-byte.invariant.1 ∙ ap (digits_value 10) all in
    let digits = sym (ap all_ascii_digits all) ∙ c.loop-byte.invariant.0 in
    ap Some is ∙ sym (is_below (2 ^ 64) word (omega (arith, eqb-false _ 0 (sym c.if-is_empty.ensures))) digits (omega (arith, is, c.loop-byte.invariant.2)))
