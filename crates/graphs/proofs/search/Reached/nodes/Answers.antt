use Rattle.std.proofs.Common.{◌≡◌, ◌&&◌, ltb, is_some, None, sym, ap, ◌∙◌, ⊎_elim, arith}
use Rattle.std.proofs.lemmas.List.{get_or_past}
use Rattle.std.proofs.lemmas.Bool.{and_left, cases_lt, le-ltb, lt-ltb}
use Rattle.graphs.specs.Searching.{reached}
use Rattle.graphs.proofs.search.Reached.nodes.Goals as goal

pub returns : goal.returns
returns c k =
    let found = c.args.self.now in
    let all : c.loop-node.node ≡ 128 = omega arith in
    c.loop-node.invariant k
    ∙ ap (λ n. ltb k n && reached found k) all
    ∙ ⊎_elim
    (λ less. ap (λ b. b && reached found k) (lt-ltb k 128 less))
    (λ more.
    and_left (ltb k 128) (reached found k) (le-ltb k 128 more)
    ∙ sym (ap is_some (get_or_past found.arrivals k None (omega (arith, more, found.long)))))
    (cases_lt k 128)
