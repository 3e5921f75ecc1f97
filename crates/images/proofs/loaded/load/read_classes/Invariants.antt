use Rattle.std.proofs.Common.{◌≡◌, ◌+◌, ◌≤◌, take, drop}
use Rattle.images.specs.Image.{largest}
use Rattle.images.specs.Judging.{Reached}
use Rattle.images.proofs.loaded.load.read_classes.Given as goal

-- the classes so far are in order, and the largest of them is known
abbrev pub invariant-loop : goal.invariant-loop
invariant-loop l = record {
  image : l.reader.image ≡ l.fn.reader.image;
  reached : Reached l.reader (2 + l.counter);
  largest : l.largest ≡ largest (take l.counter (drop 2 l.reader.image));
  small : l.largest ≤ 63;
}
