-- How late tokens are, said of their settling points: from the laws about cutting, over marks that every table has.
use Rattle.std.proofs.Common.{◌≡◌, ℕ, zero, suc, ◌+◌, ◌*◌, ◌<◌, ◌≤◌, Bool, List, [], ◌∷◌, ◌++◌, length, get_or, sym, ap, ◌∙◌, subst, ⊎_elim, le_of_suc-le-suc, not-suc-le-zero, suc-mul, zero-mul, arith}
use Rattle.std.proofs.lemmas.List.{length-append}
use Rattle.tables.proofs.Walking.{word_append}
use Rattle.tables.specs.Openness.{Word, walk}
use Rattle.tables.specs.Table.{Sound, Table}
use Rattle.munch.specs.Cutting.{Stop, stuck, waits}
use Rattle.munch.specs.Endless.{times}
use Rattle.munch.specs.LateLaws.{ExactLaw, EverLaterLaw, FirstLate, NoLaterLaw}
use Rattle.munch.specs.Laws.{Charts}
use Rattle.munch.specs.Munch.{End, Munch, Token}
use Rattle.munch.specs.ReachLaws.{AllWithin, LateFirst}
use Rattle.munch.specs.Settling.{FinishedPoint, SettlingPoint, lateness}
use Rattle.munch.proofs.Finishing.{final_points_law, points_law}
use Rattle.munch.proofs.Lateness.{within_reach}
use Rattle.munch.proofs.Marks.{right_marks}
use Rattle.munch.proofs.Munching.{first_or_ends, munch_law}
use Rattle.munch.proofs.Settling.{cut_law}
use Rattle.munch.proofs.Witnessing.{absence_shown, reach_shown, silent_rounds}

-- a token has one settling point
point_one : (t : Table) (x : List ℕ) (i j k : ℕ) → SettlingPoint t x i j → SettlingPoint t x i k → j ≡ k
point_one t x i j k one two = omega (arith, one.least k two.within two.settled, two.least j one.within one.settled)

final_one : (t : Table) (x : List ℕ) (i j k : ℕ) → FinishedPoint t x i j → FinishedPoint t x i k → j ≡ k
final_one t x i j k one two =
    ⊎_elim
    (λ here. ⊎_elim (λ there. point_one t x i j k here there) (λ never. absurd (never.0 j here.within here.settled)) two)
    (λ none. ⊎_elim (λ there. absurd (none.0 k there.within there.settled)) (λ never. none.1 ∙ sym never.1) two)
    one

within_at : (r : ℕ) (ys : List Token) (ks : List ℕ) → AllWithin r ys ks → (i : ℕ) (y : Token) → i < length ys → lateness (get_or ys i y) (get_or ks i 0) ≤ r
within_at r [] ks all i y inside = absurd (not-suc-le-zero inside)
within_at r (z ∷ ys) [] all i y inside = absurd all
within_at r (z ∷ ys) (k ∷ ks) all zero y inside = all.0
within_at r (z ∷ ys) (k ∷ ks) all (suc i) y inside = within_at r ys ks all.1 i y (le_of_suc-le-suc inside)

charts_of : (t : Table) → Sound t → (marks : ℕ → Bool) × Charts t marks
charts_of t sound = let found = right_marks t sound in (found.0, record { sound = sound; right = found.1 })

pub no_later : NoLaterLaw
no_later t sound r reach x word =
    let chart = charts_of t sound in
    let within = within_reach t chart.0 chart.1 r reach x word in
    let cut = cut_law t chart.0 chart.1 x word in
    record {
      meanwhile = λ ys common i k y inside point.
          let same = cut.common_only ys common in
          let settles = points_law t chart.0 chart.1 x word cut.tokens cut.stop cut.cut in
          let inside' : i < length cut.tokens = subst (λ (zs : List Token). i < length zs) same inside in
          let late = within_at r cut.tokens settles.points (within.meanwhile cut.tokens cut.stop settles.points cut.cut settles.run) i y inside' in
          subst (λ n. lateness (get_or ys i y) n ≤ r) (point_one t x (suc i) (get_or settles.points i 0) k (settles.are i inside') point)
          (subst (λ (zs : List Token). lateness (get_or zs i y) (get_or settles.points i 0) ≤ r) (sym same) late);
      finished = λ ys end munch i k y inside point.
          let finishes = final_points_law t chart.0 chart.1 x word ys end munch in
          let late = within_at r ys finishes.points (within.finished ys end finishes.points munch finishes.run) i y inside in
          subst (λ n. lateness (get_or ys i y) n ≤ r) (final_one t x (suc i) (get_or finishes.points i 0) k (finishes.are i inside) point) late;
    }

module _ (t : Table) (marks : ℕ → Bool) (charts : Charts t marks) (u w : List ℕ) (word : Word (u ++ w)) (late : LateFirst t marks u (u ++ w)) where
  some_token : (ys : List Token) (end : End) → Munch t 0 (u ++ w) ys end → 0 < length ys
  some_token [] end munch = absurd (first_or_ends t 0 (u ++ w) _ end late.first munch)
  some_token (y ∷ ys) end munch = omega arith

  pub first_late : FirstLate t (u ++ w) (length w)
  first_late =
      let all = munch_law t (u ++ w) in
      let finishes = final_points_law t marks charts (u ++ w) word all.tokens all.end all.munch in
      let last = late.points all.tokens all.end finishes.points all.munch finishes.run in
      let point = subst (λ k. FinishedPoint t (u ++ w) 1 k) last (finishes.are 0 (some_token all.tokens all.end all.munch)) in
      record {
        token = record { rule = t.label (walk t 0 u); place = 0; length = length u };
        first = late.first;
        at = length (u ++ w);
        point = point;
        only = λ k other. final_one t (u ++ w) 1 k (length (u ++ w)) other point;
        late = omega (arith, length-append u w);
      }

pub exact : ExactLaw
exact t sound r u v words =
    let chart = charts_of t sound in
    subst (λ n. FirstLate t (u ++ v) n) words.long
    (first_late t chart.0 chart.1 u v (word_append u v words.token.word words.along.word) (reach_shown t chart.0 chart.1 r u v words))

length_times : (w : List ℕ) (k : ℕ) → length (times k w) ≡ k * length w
length_times w zero = sym (zero-mul (length w))
length_times w (suc k) = length-append w (times k w) ∙ omega (arith, length_times w k, suc-mul k (length w))

never_both : (a : Stop) (p : ℕ) → a ≡ waits → a ≡ stuck p → ⊥
never_both a p one two = let z : ◌≡◌ {A = ℕ} 0 1 = cc in omega arith

pub ever_later : EverLaterLaw
ever_later t sound u v loop words k =
    let chart = charts_of t sound in
    let shown = absence_shown t chart.0 chart.1 u v loop words k in
    let word = word_append u (v ++ times k loop) words.token.word (silent_rounds t u v loop words k).word in
    let cut = cut_law t chart.0 chart.1 (u ++ (v ++ times k loop)) word in
    let none = cut.only [] waits shown.waits_there in
    record {
      nothing = record {
        token = λ i some settled. omega (arith, some, settled.enough, ap length (cut.common_only settled.list settled.common ∙ sym none.0));
        failure = λ p failed. never_both cut.stop p (sym none.1) (cut.settled_fails p failed);
      };
      late = subst (λ n. FirstLate t (u ++ (v ++ times k loop)) n) (length-append v (times k loop) ∙ ap (λ n. length v + n) (length_times loop k))
          (first_late t chart.0 chart.1 u (v ++ times k loop) word shown.late);
    }
