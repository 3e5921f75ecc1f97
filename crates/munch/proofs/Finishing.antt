-- What settles a token, by the cutting: the laws of the settling points.
use Rattle.std.proofs.Common.{ℕ, suc, ◌<◌, ◌≤◌, Bool, List, length, get_or, take, sym, ap, subst, inl, inr, ⊎_elim, arith}
use Rattle.std.proofs.lemmas.List.{take_all}
use Rattle.std.proofs.lemmas.Bool.{cases_lt}
use Rattle.tables.specs.Openness.{Word}
use Rattle.tables.specs.Table.{Table}
use Rattle.munch.specs.Cutting.{Cut, FinalPoints, Stop}
use Rattle.munch.specs.Laws.{Charts, FinalPointsLaw, PointsLaw}
use Rattle.munch.specs.Munch.{Token}
use Rattle.munch.specs.Settling.{FinishedPoint, Settled, SettlingPoint}
use Rattle.munch.proofs.Beginning.{begins_fits, common_one, growth_law}
use Rattle.munch.proofs.Cutting.{cut_of}
use Rattle.munch.proofs.Due.{Firsts, cut_firsts, munch_firsts}
use Rattle.munch.proofs.Pointing.{final_points_of, point_settled, points_final, points_of, points_within, settled_point}
use Rattle.munch.proofs.Settling.{cut_list}
use Rattle.tables.proofs.Walking.{word_take}

module _ (t : Table) (marks : ℕ → Bool) (charts : Charts t marks) where
  -- the bytes settle as many tokens as their cutting has
  pub settled_few : (x : List ℕ) (ys : List Token) (stop : Stop) (i : ℕ) → Word x → Cut t marks 0 x ys stop → Settled t x i → i ≤ length ys
  settled_few x ys stop i word cut settled =
      omega (arith, ap length (common_one t 0 x settled.list ys settled.common (cut_list t marks charts 0 x ys stop word cut)), settled.enough)

  pub few_settled : (x : List ℕ) (ys : List Token) (stop : Stop) (i : ℕ) → Word x → Cut t marks 0 x ys stop → i ≤ length ys → Settled t x i
  few_settled x ys stop i word cut few = record { list = ys; common = cut_list t marks charts 0 x ys stop word cut; enough = few }

  -- what a beginning settles, the whole settles
  pub settled_grows : (x : List ℕ) (ys : List Token) (stop : Stop) (j i : ℕ) → Word x → Cut t marks 0 x ys stop → Settled t (take j x) i → i ≤ length ys
  settled_grows x ys stop j i word cut settled =
      omega (arith, begins_fits settled.list ys (growth_law t x word j settled.list ys settled.common (cut_list t marks charts 0 x ys stop word cut)), settled.enough)

  module _ (x : List ℕ) (ys : List Token) (ks : List ℕ) (word : Word x) (firsts : Firsts t 0 x ys) (run : FinalPoints t marks 0 x 0 ys ks) where
    -- no beginning settles a token before its point
    not_before : (j i : ℕ) → Settled t (take j x) (suc i) → get_or ks i 0 ≤ j
    not_before j i settled =
        let front = cut_of t marks 0 (take j x) in
        omega (arith, settled_point t marks charts 0 x 0 ys ks front.tokens front.stop j i word firsts run front.cut (omega arith) (settled_few (take j x) front.tokens front.stop (suc i) (word_take j x word) front.cut settled))

    -- the beginning up to a point that is not the end settles the token
    then_settled : (i : ℕ) → i < length ys → get_or ks i 0 < length x → Settled t (take (get_or ks i 0) x) (suc i)
    then_settled i less more =
        let j = get_or ks i 0 in
        let front = cut_of t marks 0 (take j x) in
        few_settled (take j x) front.tokens front.stop (suc i) (word_take j x word) front.cut (point_settled t marks charts 0 x 0 ys ks front.tokens front.stop j i word firsts run front.cut more less (omega arith))

    within_all : (i : ℕ) → get_or ks i 0 ≤ length x
    within_all i = omega (arith, points_within t marks 0 x 0 ys ks i firsts run (omega arith))

    module _ (zs : List Token) (stop : Stop) (cut : Cut t marks 0 x zs stop) where
      pub is_point : (i : ℕ) → i < length ys → i < length zs → SettlingPoint t x (suc i) (get_or ks i 0)
      is_point i less settled = record {
        within = within_all i;
        settled = ⊎_elim
            (then_settled i less)
            (λ all. subst (λ (w : List ℕ). Settled t w (suc i)) (sym (take_all (get_or ks i 0) x all)) (few_settled x zs stop (suc i) word cut settled))
            (cases_lt (get_or ks i 0) (length x));
        least = λ j few settled_there. not_before j i settled_there;
      }

      pub is_finished : (i : ℕ) → i < length ys → FinishedPoint t x (suc i) (get_or ks i 0)
      is_finished i less =
          ⊎_elim
          (λ settled. inl (is_point i less settled))
          (λ unsettled.
          inr (
            (λ j few settled. omega (arith, unsettled, settled_grows x zs stop j (suc i) word cut settled)),
            ⊎_elim
                (λ more. absurd (omega (arith, unsettled, settled_grows x zs stop (get_or ks i 0) (suc i) word cut (then_settled i less more))))
                (λ all. omega (arith, all, within_all i))
                (cases_lt (get_or ks i 0) (length x)),
          ))
          (cases_lt i (length zs))

pub points_law : PointsLaw
points_law t marks charts x word ys stop cut =
    let points = points_of t marks 0 x 0 ys stop cut in
    record {
      points = points.0;
      run = points.1;
      long = points.2;
      are = λ i less. is_point t marks charts x ys points.0 word (cut_firsts t marks charts 0 x ys stop word cut) (points_final t marks 0 x 0 ys points.0 points.1) ys stop cut i less less;
    }

pub final_points_law : FinalPointsLaw
final_points_law t marks charts x word ys end munch =
    let points = final_points_of t marks 0 x 0 ys in
    let made = cut_of t marks 0 x in
    record {
      points = points.0;
      run = points.1;
      long = points.2;
      are = is_finished t marks charts x ys points.0 word (munch_firsts t 0 x ys end munch) points.1 made.tokens made.stop made.cut;
    }
