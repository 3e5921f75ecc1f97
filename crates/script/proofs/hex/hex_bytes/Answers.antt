use Rattle.std.proofs.Common.{◌≡◌, get_or, ℕ, List, Some, None, Err, Option, vec_items, sym, ap, ◌∙◌, subst}
use Rattle.std.proofs.ResultArms.{chosen}
use Rattle.std.proofs.lemmas.Result.{err_from_is_err_and}
use Rattle.std.specs.Option.{ok_or}
use Rattle.script.specs.declared.mistake.Mistake.{Mistake}
use Rattle.script.specs.declared.mistake.Mistake.TheVariants.{NotHexadecimal}
use Rattle.script.specs.Operands.{hex_operand}
use Rattle.script.proofs.Pairing.{Sofar, stop, keep, put, digit_small}
use Rattle.script.proofs.hex.hex_bytes.Goals as goal
use Rattle.script.proofs.hex.hex_bytes.Goals.{in-None, in-Some+in_ok-map_err-in-Some}

moved : {bytes bytes' : List ℕ} {high high' : Option ℕ} (text : List ℕ) (i : ℕ) → bytes ≡ bytes' → high ≡ high' → Sofar text bytes high i → Sofar text bytes' high' i
moved {bytes = bytes} {bytes' = bytes'} {high = high} text i e f told = subst (λ h. Sofar text bytes' h i) f (subst (λ l. Sofar text l high i) e told)

-- the mistake that `ok_or` made
mistake_is : (byte : Option ℕ) (told made : Mistake) → byte ≡ None → Err told ≡ ok_or byte made → told ≡ made
mistake_is None told made none e = cc
mistake_is (Some b) told made none e = absurd (cc)

pub returns-in_err-digit : goal.returns-in_err-digit
returns-in_err-digit c =
    let e = c.in_err-digit.ensures in
    let none = stop _ _ _ _ c.loop-byte.invariant.reads c.loop-byte-test.true (sym c.if-is_blank.ensures) (sym c.digit.ensures ∙ e.ok_part) in
    let told = err_from_is_err_and c.from_residual.result c.from_residual.ensures.1 in
    rw (told.1, told.2) (ap hex_operand (sym c.line-line.ensures) ∙ ap (λ o. ok_or o NotHexadecimal) (sym none) ∙ ap Err (sym (mistake_is _ _ _ e.ok_part e.value)))

pub loop-byte-preserved : goal.loop-byte-preserved
loop-byte-preserved c =
    let inv = c.loop-byte.invariant.reads in
    let more = c.loop-byte-test.true in
    let other = sym c.if-is_blank.ensures in
    let taken = c.take.ensures in
    let digit = sym c.digit.ensures ∙ c.in_ok-digit.ensures.ok_part in
    elim c.match-take.branch [
      | in-None w ↦
          moved _ _ (sym (ap vec_items w.bytes-is)) (sym w.high-is) (record {
            reads = keep _ _ _ _ inv _ more other digit (sym taken.value ∙ w.in-None.is);
            small = digit_small (get_or c.line-line.result.now c.loop-byte.byte-index 0) _ digit;
          })
      | in-Some+in_ok-map_err-in-Some w ↦
          let pushed = chosen _ _ _ _ w.push.ensures.items (sym w.in_ok-map_err-in-Some.ensures.variant) in
          moved _ _ (sym (ap vec_items w.bytes-is ∙ pushed)) (sym (w.high-is ∙ taken.after)) (record {
            reads = put _ _ _ _ inv _ _ more other digit (sym taken.value ∙ w.in-Some.is);
            small = tt;
          })
    ]
