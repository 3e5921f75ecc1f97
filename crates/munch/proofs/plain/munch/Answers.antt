use Rattle.std.proofs.Common.{◌<◌, length, drop, refl, inl, inr, arith}
use Rattle.std.proofs.lemmas.List.{drop_all, length-drop, take_rest}
use Rattle.munch.specs.Munch.{done, fails}
use Rattle.munch.proofs.Writing.{rest_more, written_all, written_more}
use Rattle.munch.proofs.plain.munch.Goals as goal

pub returns-in_default : goal.returns-in_default
returns-in_default g c =
    let table = g.T.RuleTable.meaning c.args.table.now in
    let bytes = c.args.bytes.now in
    let place = c.loop-place.place in
    let nothing = rw take_rest at c.in_default.ensures in
    let left : 0 < length (drop place bytes) = simp length-drop (omega arith) in
    record {
      fits = c.if-list-bytes.false;
      within = omega arith;
      munch = written_all table bytes c.loop-place.list c.loop-place.count place (fails place) (inr (left, nothing, refl)) c.loop-place.invariant.3;
      rest = c.loop-place.invariant.2;
    }

pub loop-place-preserved : goal.loop-place-preserved
loop-place-preserved g c =
    let table = g.T.RuleTable.meaning c.args.table.now in
    let bytes = c.args.bytes.now in
    let place = c.loop-place.place in
    let count = c.loop-place.count in
    let list = c.loop-place.list in
    let found = rw take_rest at c.in-Some.ensures in
    let within = found.0.accepted.within in
    let some = found.0.accepted.some in
    let left = length-drop place bytes in (
      omega arith,
      omega arith,
      rest_more list c.args.list.now count _ c.loop-place.invariant.2,
      written_more table bytes list count place _ (omega arith) (record { longest = found.0; rule = found.1; place = refl }) c.loop-place.invariant.3,
    )

pub returns : goal.returns
returns g c =
    let table = g.T.RuleTable.meaning c.args.table.now in
    let bytes = c.args.bytes.now in
    let place = c.loop-place.place in
    record {
      fits = c.if-list-bytes.false;
      within = omega arith;
      munch = written_all table bytes c.loop-place.list c.loop-place.count place done (inl (drop_all place bytes (omega arith), refl)) c.loop-place.invariant.3;
      rest = c.loop-place.invariant.2;
    }
