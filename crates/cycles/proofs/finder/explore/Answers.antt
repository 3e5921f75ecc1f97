use Rattle.std.proofs.Common.{length, sym, ap, subst, arith}
use Rattle.cycles.specs.Search.{SoundIn}
use Rattle.cycles.proofs.Turns.{pushed_sound}
use Rattle.cycles.proofs.finder.explore.Goals as goal

pub loop-top-init : goal.loop-top-init
loop-top-init g c =
    let sound = pushed_sound _ _ c.requires.sound (record { slot = 0; to = c.args.root }) c.requires.root c.requires.reached (λ i e. absurd (omega (arith, e, ap length c.requires.none))) in
    (subst (SoundIn _) (sym c.push.ensures) sound, λ v new. new)
