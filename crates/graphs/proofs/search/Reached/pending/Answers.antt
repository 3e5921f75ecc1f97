use Rattle.std.proofs.Common.{◌≡◌, ℕ, ◌<◌, ◌≤◌, Bool, true, false, List, Some, None, Option, MatchOption, rules, arith}
use Rattle.std.proofs.lemmas.Iterator.{first_from_Range}
use Rattle.graphs.specs.declared.arrival.Arrival.{Arrival}
use Rattle.graphs.specs.Nodes.{has}
use Rattle.graphs.specs.Searching.{Known, Pending}
use Rattle.graphs.proofs.search.Reached.pending.Goals as goal

module _ (given : ℕ → Bool) (xs : List (Option Arrival)) (expanded : ℕ → Bool) where
  -- a node whose slots are still to be asked, and one of which this is not so
  abbrev Due : ℕ → Type 0
  Due k = Known given xs k × (expanded k ≡ false)

  abbrev NotDue : ℕ → Type 0
  NotDue k = Known given xs k → expanded k ≡ true

  pending_of : (n : ℕ) (o : Option ℕ) → MatchOption o ((k : ℕ) → 0 ≤ k → k < n → NotDue k) (λ i. (0 ≤ i) × (i < n) × Due i × ((k : ℕ) → 0 ≤ k → k < i → NotDue k)) → Pending given xs expanded n o
  pending_of n None none = λ k less known. none k (omega arith) less known
  pending_of n (Some i) first = (first.1, first.2.0, first.2.1)

pub returns : goal.returns
returns c =
    let given = has c.args.starts.now in
    let xs = c.args.self.now.arrivals in
    let expanded = has c.args.expanded.now in
    pending_of given xs expanded c.args.nodes c.find.result
    (first_from_Range _ _ _ c.find.result (Due given xs expanded) (NotDue given xs expanded) c.find.ensures.ran (λ x q k. search rules) (λ x q k. search rules))
