-- What holds of every rule table holds of the share table.
use Rattle.std.specs.Prelude.{◌≡◌, ℕ, suc, ◌<◌, Bool, true, ◌&&◌, List, [], ◌∷◌, ◌==◌, nat_lt}
use Rattle.std.proofs.Common.{lit<, lit≤, refl}
use Rattle.std.proofs.lemmas.Bool.{and_parts, cond_both, ltb-true}
use Rattle.tables.specs.declared.kinds.Kind.{Kind}
use Rattle.tables.specs.Share.{Step, goes, kind_of, labels, same, share_table, steps}
use Rattle.tables.specs.Table.{Sound}
use Rattle.tables.specs.Computed.{at, every}

-- every step that is named leads to one of the 11 states
unfoldable inside : ℕ → Step → Bool
inside i x = nat_lt x.to 11

goes_inside : (s : ℕ) (k : Kind) (i : ℕ) (xs : List Step) → every inside i xs ≡ true → goes s k xs < 11
unfolding inside
goes_inside s k i [] t = lit< tt
goes_inside s k i (x ∷ xs) t =
    let both = and_parts _ _ t in
    cond_both (x.from == s && same x.on k) x.to (goes s k xs) (λ n. n < 11)
    (λ _. ltb-true _ _ both.0)
    (λ _. goes_inside s k (suc i) xs both.1)

pub share_table_is_sound : Sound share_table
unfolding inside
share_table_is_sound = record {
  some = lit≤ tt;
  few = lit≤ tt;
  inside = λ s b _ _. goes_inside s (kind_of b) 0 steps refl;
  labels = λ s h. ltb-true _ _ (at (λ _ x. nat_lt x 256) labels refl s 0 h);
}
