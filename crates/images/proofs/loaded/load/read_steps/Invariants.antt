use Rattle.std.proofs.Common.{◌≡◌, ◌+◌}
use Rattle.images.specs.Image.{labels_end}
use Rattle.images.specs.Judging.{Reached}
use Rattle.images.proofs.loaded.load.read_steps.Given as goal

-- the next states so far are in order
abbrev pub invariant-loop : goal.invariant-loop
invariant-loop l = record {
  image : l.reader.image ≡ l.fn.reader.image;
  reached : Reached l.reader (labels_end l.reader.image + 2 + l.counter);
}
