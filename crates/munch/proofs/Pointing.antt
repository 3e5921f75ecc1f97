-- The settling points: each token's is the later of where its own walk closes and of the point before it.
use Rattle.std.proofs.Common.{◌≡◌, ℕ, zero, suc, ◌+◌, ◌-◌, ◌<◌, ◌≤◌, max, Bool, List, [], ◌∷◌, length, get_or, take, drop, refl, ap, subst, inl, ⊎_elim, arith}
use Rattle.std.proofs.lemmas.List.{length-drop}
use Rattle.tables.specs.Openness.{Word}
use Rattle.tables.specs.Table.{Table}
use Rattle.munch.specs.Cutting.{ClosesAt, Closing, Cut, Due, FinalPoints, Points, Stop}
use Rattle.munch.specs.Laws.{Charts}
use Rattle.munch.specs.Munch.{First, Token}
use Rattle.munch.proofs.Accepting.{first_one, first_within}
use Rattle.munch.proofs.Closing.{closes_apart, closes_more, closes_one, closing_of}
use Rattle.munch.proofs.Cutting.{due_apart, due_within}
use Rattle.munch.proofs.Due.{Firsts, drop_front, due_here, due_less, due_more, here_due}
use Rattle.tables.proofs.Walking.{word_drop}

module _ (t : Table) (marks : ℕ → Bool) where
  -- the points of tokens that are due
  pub points_of : (p : ℕ) (x : List ℕ) (prev : ℕ) (ys : List Token) (stop : Stop) → Cut t marks p x ys stop → (ks : List ℕ) × Points t marks p x prev ys ks × (length ks ≡ length ys)
  points_of p x prev [] stop cut = ([], refl, refl)
  points_of p x prev (y ∷ ys) stop cut =
      let n = cut.0.at in
      let rest = points_of (p + y.length) (drop y.length x) (max prev (p + n)) ys stop cut.1 in
      (max prev (p + n) ∷ rest.0, (n, cut.0.closes, refl, rest.1), ap suc rest.2)

  -- the points of any tokens, once the input is finished
  pub final_points_of : (p : ℕ) (x : List ℕ) (prev : ℕ) (ys : List Token) → (ks : List ℕ) × FinalPoints t marks p x prev ys ks × (length ks ≡ length ys)
  final_points_of p x prev [] = ([], refl, refl)
  final_points_of p x prev (y ∷ ys) =
      let closing = closing_of t marks x in
      let k = max prev (p + closing.0) in
      let rest = final_points_of (p + y.length) (drop y.length x) k ys in
      (k ∷ rest.0, (closing.0, closing.1, refl, rest.1), ap suc rest.2)

  -- finishing moves no point
  pub points_final : (p : ℕ) (x : List ℕ) (prev : ℕ) (ys : List Token) (ks : List ℕ) → Points t marks p x prev ys ks → FinalPoints t marks p x prev ys ks
  points_final p x prev [] ks run = run
  points_final p x prev (y ∷ ys) [] run = run
  points_final p x prev (y ∷ ys) (k ∷ ks) run = (run.0, inl run.1, run.2, points_final (p + y.length) (drop y.length x) k ys ks run.3)

  closing_one : (x : List ℕ) (m n : ℕ) → Closing t marks x m → ClosesAt t marks x n → m ≡ n
  closing_one x m n one two =
      ⊎_elim (λ closes. closes_one t marks x m n closes two) (λ never. absurd (closes_apart t marks x n two never.0)) one

  closing_within : (x : List ℕ) (n : ℕ) → Closing t marks x n → n ≤ length x
  closing_within x n closing = ⊎_elim (λ closes. closes.within) (λ never. omega (arith, never.1)) closing

  -- the points rise
  points_rise : (p : ℕ) (x : List ℕ) (prev : ℕ) (ys : List Token) (ks : List ℕ) (i : ℕ) → FinalPoints t marks p x prev ys ks → i < length ys → prev ≤ get_or ks i 0
  points_rise p x prev [] ks i run less = absurd (omega arith)
  points_rise p x prev (y ∷ ys) [] i run less = absurd run
  points_rise p x prev (y ∷ ys) (k ∷ ks) zero run less = omega (arith, run.2)
  points_rise p x prev (y ∷ ys) (k ∷ ks) (suc i) run less =
      omega (arith, run.2, points_rise (p + y.length) (drop y.length x) k ys ks i run.3 (omega arith))

  -- and lie within the bytes
  pub points_within : (p : ℕ) (x : List ℕ) (prev : ℕ) (ys : List Token) (ks : List ℕ) (i : ℕ) → Firsts t p x ys → FinalPoints t marks p x prev ys ks → prev ≤ p + length x → get_or ks i 0 ≤ p + length x
  points_within p x prev [] ks i firsts run before = rw run (omega arith)
  points_within p x prev (y ∷ ys) [] i firsts run before = absurd run
  points_within p x prev (y ∷ ys) (k ∷ ks) zero firsts run before = omega (arith, run.2, closing_within x run.0 run.1)
  points_within p x prev (y ∷ ys) (k ∷ ks) (suc i) firsts run before =
      let fits = first_within t p x y firsts.0 in
      let left = length-drop y.length x in
      let rest = points_within (p + y.length) (drop y.length x) k ys ks i firsts.1 run.3 (omega (arith, run.2, closing_within x run.0 run.1, left, fits)) in
      omega (arith, rest, left, fits)

  -- the cutting of a beginning behind a token
  cut_front : (p : ℕ) (x : List ℕ) (j : ℕ) (y z : Token) (zs : List Token) (stop : Stop) → z ≡ y → y.length ≤ j → Cut t marks (p + z.length) (drop z.length (take j x)) zs stop → Cut t marks (p + y.length) (take (j - y.length) (drop y.length x)) zs stop
  cut_front p x j y z zs stop same few cut =
      subst (λ (w : List ℕ). Cut t marks (p + y.length) w zs stop) (drop_front y.length j x few)
      (subst (λ (v : Token). Cut t marks (p + v.length) (drop v.length (take j x)) zs stop) same cut)

  module _ (charts : Charts t marks) where
    -- a token that is due within the first j bytes is the first token of all, and its walk closes within them
    due_front : (p : ℕ) (x : List ℕ) (j n : ℕ) (y z : Token) → Word x → First t p x y → Closing t marks x n → Due t marks p (take j x) z → (z ≡ y) × (y.length ≤ j) × (n ≤ j)
    due_front p x j n y z word first closing due =
        let whole = closes_more t marks x j due.at due.closes in
        let same = first_one t p x z y (due_here t marks charts p x z word (due_more t marks p x j z due)) first in
        let long : z.length ≡ y.length = ap (λ (v : Token). v.length) same in (
          same,
          omega (arith, long, (due_within t marks p (take j x) z due).0, whole.0),
          omega (arith, closing_one x n due.at closing whole.1, whole.0),
        )

    -- a token that the first j bytes settle has its point within them
    pub settled_point : (p : ℕ) (x : List ℕ) (prev : ℕ) (ys : List Token) (ks : List ℕ) (zs : List Token) (stop : Stop) (j i : ℕ) → Word x → Firsts t p x ys → FinalPoints t marks p x prev ys ks → Cut t marks p (take j x) zs stop → prev ≤ p + j → i < length zs → get_or ks i 0 ≤ p + j
    settled_point p x prev ys ks [] stop j i word firsts run cut before less = absurd (omega arith)
    settled_point p x prev [] ks (z ∷ zs) stop j i word firsts run cut before less = rw run (omega arith)
    settled_point p x prev (y ∷ ys) [] (z ∷ zs) stop j i word firsts run cut before less = absurd run
    settled_point p x prev (y ∷ ys) (k ∷ ks) (z ∷ zs) stop j zero word firsts run cut before less =
        let front = due_front p x j run.0 y z word firsts.0 run.1 cut.0 in
        omega (arith, front.2, run.2)
    settled_point p x prev (y ∷ ys) (k ∷ ks) (z ∷ zs) stop j (suc i) word firsts run cut before less =
        let front = due_front p x j run.0 y z word firsts.0 run.1 cut.0 in
        let within : k ≤ p + y.length + (j - y.length) = omega (arith, front.1, front.2, run.2) in
        let rest = settled_point (p + y.length) (drop y.length x) k ys ks zs stop (j - y.length) i (word_drop y.length x word) firsts.1 run.3 (cut_front p x j y z zs stop front.0 front.1 cut.1) within (omega arith) in
        omega (arith, rest, front.1)

    -- a token whose walk closes within the first j bytes, of which there are more, is due there
    point_due : (p : ℕ) (x : List ℕ) (j n : ℕ) (y : Token) → Word x → First t p x y → Closing t marks x n → j < length x → n ≤ j → Due t marks p (take j x) y
    point_due p x j n y word first closing more few =
        ⊎_elim
        (λ closes.
        let due = here_due t marks charts p x y n word closes first in
        due_less t marks p x j y due (omega (arith, few, closes_one t marks x due.at n due.closes closes)))
        (λ never. absurd (omega (arith, never.1)))
        closing

    -- a token with its point within the first j bytes, of which there are more, is settled by them
    pub point_settled : (p : ℕ) (x : List ℕ) (prev : ℕ) (ys : List Token) (ks : List ℕ) (zs : List Token) (stop : Stop) (j i : ℕ) → Word x → Firsts t p x ys → FinalPoints t marks p x prev ys ks → Cut t marks p (take j x) zs stop → j < length x → i < length ys → get_or ks i 0 ≤ p + j → i < length zs
    point_settled p x prev [] ks zs stop j i word firsts run cut more less within = absurd (omega arith)
    point_settled p x prev (y ∷ ys) [] zs stop j i word firsts run cut more less within = absurd run
    point_settled p x prev (y ∷ ys) (k ∷ ks) [] stop j zero word firsts run cut more less within =
        absurd (due_apart t marks p (take j x) y stop (point_due p x j run.0 y word firsts.0 run.1 more (omega (arith, run.2))) cut)
    point_settled p x prev (y ∷ ys) (k ∷ ks) [] stop j (suc i) word firsts run cut more less within =
        let rise = points_rise (p + y.length) (drop y.length x) k ys ks i run.3 (omega arith) in
        absurd (due_apart t marks p (take j x) y stop (point_due p x j run.0 y word firsts.0 run.1 more (omega (arith, run.2, rise))) cut)
    point_settled p x prev (y ∷ ys) (k ∷ ks) (z ∷ zs) stop j zero word firsts run cut more less within = omega arith
    point_settled p x prev (y ∷ ys) (k ∷ ks) (z ∷ zs) stop j (suc i) word firsts run cut more less within =
        let front = due_front p x j run.0 y z word firsts.0 run.1 cut.0 in
        let left = length-drop y.length x in
        let rest = point_settled (p + y.length) (drop y.length x) k ys ks zs stop (j - y.length) i (word_drop y.length x word) firsts.1 run.3 (cut_front p x j y z zs stop front.0 front.1 cut.1) (omega (arith, left, front.1)) (omega arith) (omega (arith, front.1)) in
        omega (arith, rest)
