-- Bytes whose walk ends at a closed state: whatever follows, the first token is that of those bytes.
use Rattle.std.proofs.Common.{◌≡◌, ℕ, ◌-◌, ◌<◌, ◌≤◌, Bool, true, false, List, ◌++◌, length, take, drop, sym, ap, ◌∙◌, subst, ⊎_elim, arith}
use Rattle.std.proofs.lemmas.List.{append_assoc, length-append, length-take, take-append-drop, take-append-le}
use Rattle.std.proofs.lemmas.Bool.{both_ways, cases_lt}
use Rattle.tables.specs.Openness.{Accepts, Open, Word, walk}
use Rattle.tables.specs.Table.{Table}
use Rattle.munch.specs.Cutting.{ClosesAt}
use Rattle.munch.specs.Laws.{Charts}
use Rattle.munch.specs.Munch.{Accepted, First, Token, state_at}
use Rattle.munch.proofs.Accepting.{Nothing}
use Rattle.tables.proofs.Walking.{walk_append, walk_inside, word_append, word_drop, word_take}
use Rattle.munch.proofs.Walking.{take_past}

module _ (t : Table) where
  -- No ending of the bytes u makes a longer beginning accepted.
  abbrev pub Shut : List ℕ → Type 0
  Shut u = (e : List ℕ) → Word e → (m : ℕ) → Accepted t (u ++ e) m → m ≤ length u

  pub closed_shut : (u : List ℕ) → (Open t (walk t 0 u) → ⊥) → Shut u
  closed_shut u closed e word m a =
      ⊎_elim
      (λ (more : length u < m).
      absurd (closed (record {
        by = take (m - length u) e;
        word = word_take (m - length u) e word;
        some = simp length-take (omega (arith, length-append u e, a.within));
        accepted = subst (λ s. Accepts t s) (ap (walk t 0) (take_past m u e (omega arith)) ∙ walk_append t 0 u (take (m - length u) e)) a.accepts;
      })))
      (λ few. few)
      (cases_lt (length u) m)

  -- the state along the bytes u is the same with an ending
  state_front : (u e : List ℕ) (m : ℕ) → m ≤ length u → state_at t (u ++ e) m ≡ state_at t u m
  state_front u e m few = rw take-append-le

  pub accepted_more : (u e : List ℕ) (m : ℕ) → Accepted t u m → Accepted t (u ++ e) m
  accepted_more u e m a = record {
    some = a.some;
    within = omega (arith, length-append u e, a.within);
    accepts = subst (λ s. Accepts t s) (sym (state_front u e m a.within)) a.accepts;
  }

  pub accepted_less : (u e : List ℕ) (m : ℕ) → m ≤ length u → Accepted t (u ++ e) m → Accepted t u m
  accepted_less u e m few a = record {
    some = a.some;
    within = few;
    accepts = subst (λ s. Accepts t s) (state_front u e m few) a.accepts;
  }

  module _ (u e : List ℕ) (shut : Shut u) (word : Word e) where
    pub first_more : (p : ℕ) (x : Token) → First t p u x → First t p (u ++ e) x
    first_more p x first = record {
      longest = record {
        accepted = accepted_more u e x.length first.longest.accepted;
        most = λ m a. first.longest.most m (accepted_less u e m (shut e word m a) a);
      };
      rule = first.rule ∙ ap t.label (sym (state_front u e x.length first.longest.accepted.within));
      place = first.place;
    }

    pub nothing_more : Nothing t u → Nothing t (u ++ e)
    nothing_more nothing m a = nothing m (accepted_less u e m (shut e word m a) a)

  module _ (marks : ℕ → Bool) (charts : Charts t marks) where
    -- what the marks tell of the state after some bytes
    pub marked_open : (u : List ℕ) → Word u → marks (walk t 0 u) ≡ true → Open t (walk t 0 u)
    marked_open u word told = (charts.right (walk t 0 u) (walk_inside t charts.sound 0 u charts.sound.some word)).0 told

    pub marked_closed : (u : List ℕ) → Word u → marks (walk t 0 u) ≡ false → Open t (walk t 0 u) → ⊥
    marked_closed u word told is_open =
        both_ways _ told ((charts.right (walk t 0 u) (walk_inside t charts.sound 0 u charts.sound.some word)).1 is_open)

    -- the bytes up to where the walk closes are shut
    pub closes_shut : (x : List ℕ) (n : ℕ) → Word x → ClosesAt t marks x n → Shut (take n x)
    closes_shut x n word closes = closed_shut (take n x) (marked_closed (take n x) (word_take n x word) closes.closed)

    -- bytes with an ending, from where the walk closes
    from_closing : (x e : List ℕ) (n : ℕ) → take n x ++ (drop n x ++ e) ≡ x ++ e
    from_closing x e n = sym (append_assoc (take n x) (drop n x) e) ∙ ap (λ w. w ++ e) (take-append-drop n x)

    module _ (x : List ℕ) (n : ℕ) (e : List ℕ) (word : Word x) (closes : ClosesAt t marks x n) (ending : Word e) where
      -- the first token up to where the walk closes is the first token under every ending
      pub first_under : (p : ℕ) (y : Token) → First t p (take n x) y → First t p (x ++ e) y
      first_under p y first =
          subst (λ (w : List ℕ). First t p w y) (from_closing x e n)
          (first_more (take n x) (drop n x ++ e) (closes_shut x n word closes) (word_append (drop n x) e (word_drop n x word) ending) p y first)

      -- where nothing was accepted, nothing is under any ending
      pub nothing_under : Nothing t (take n x) → Nothing t (x ++ e)
      nothing_under nothing =
          subst (λ (w : List ℕ). Nothing t w) (from_closing x e n)
          (nothing_more (take n x) (drop n x ++ e) (closes_shut x n word closes) (word_append (drop n x) e (word_drop n x word) ending) nothing)
