use Rattle.std.proofs.Common.{◌≡◌, ◌+◌, ◌≤◌, max, slice_index, rules, refl, ap, ◌∙◌, arith}
use Rattle.images.specs.Image.{class_count, class}
use Rattle.images.proofs.Judged.{cut_short}
use Rattle.images.proofs.Sections.{class_more}
use Rattle.images.proofs.loaded.load.read_classes.Goals as goal

pub returns-in_err-count : goal.returns-in_err-count
returns-in_err-count c =
    let early = c.in_err-count.ensures in
    cut_short _ class_count 0 c.requires refl _ _ _ _ refl early.0 early.1 c.from_residual.ensures.1

pub returns-in_err-byte : goal.returns-in_err-byte
returns-in_err-byte c =
    let early = c.in_err-byte.ensures in
    let inv = c.loop.invariant in
    cut_short _ class (2 + c.loop.counter) inv.reached (omega arith, omega arith) _ _ _ _ inv.image early.0 early.1 c.from_residual-in_err-byte.ensures.1

pub loop-preserved : goal.loop-preserved
loop-preserved c =
    let r = c.loop.reader in
    let inv = c.loop.invariant in
    let read = c.in_ok-byte.ensures in
    let class : c.in_ok-class.class ≡ slice_index r.image r.place = c.in_ok-class.ensures.0 ∙ ap (λ n. n.value) read.0 in
    let small : c.in_ok-class.class ≤ 63 = search rules in
    let most : c.max-largest.result ≡ max c.loop.largest c.in_ok-class.class = search rules in
    let more = class_more r c.loop.counter c.loop.largest c.in_ok-class.class (omega arith) inv.reached read.1 inv.largest class small in
    rw read.2 (record { image = inv.image; reached = more.0; largest = most ∙ more.1; small = omega (arith, most, small, inv.small) })
