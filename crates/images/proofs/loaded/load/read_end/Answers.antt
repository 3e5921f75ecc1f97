use Rattle.std.proofs.Common.{refl, ◌∙◌, arith}
use Rattle.std.proofs.lemmas.Bool.Decides.{nat_tests}
use Rattle.images.proofs.loaded.load.read_end.Goals as goal

pub returns-else-at_end : goal.returns-else-at_end
returns-else-at_end c =
    let place = c.place.ensures.value ∙ c.requires.place in
    let inside = c.place.ensures.within in
    rw place (record { stands = refl; before = c.requires.orderly; whole = omega (arith, place, inside); wrong = λ ends. grind (arith, nat_tests, c.if-at_end.ensures) })
