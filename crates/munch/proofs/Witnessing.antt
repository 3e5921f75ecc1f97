-- Words that show how late the first token can be.
use Rattle.std.proofs.Common.{◌≡◌, ℕ, zero, suc, ◌-◌, ◌<◌, ◌≤◌, Bool, List, [], ◌∷◌, ◌++◌, length, get_or, take, sym, refl, ap, ◌∙◌, subst, inl, ⊎_elim, arith}
use Rattle.std.proofs.lemmas.List.{append_assoc, append-nil, length-append}
use Rattle.std.proofs.lemmas.Bool.{both_ways, cases_lt}
use Rattle.tables.specs.Openness.{Accepts, Open, Word, walk}
use Rattle.tables.specs.Table.{Table}
use Rattle.munch.specs.Cutting.{Closing, FinalPoints, StaysOpen}
use Rattle.munch.specs.Endless.{EndlessWords, ReachWords, Silent, times}
use Rattle.munch.specs.Laws.{Charts}
use Rattle.munch.specs.Munch.{Accepted, End, First, Munch, Token, state_at}
use Rattle.munch.specs.Reach.{TokenWord}
use Rattle.munch.specs.ReachLaws.{AbsenceLaw, LateFirst, Unsettled, WitnessLaw}
use Rattle.munch.proofs.Chaining.{open_told}
use Rattle.tables.proofs.Walking.{walk_append, word_append}
use Rattle.munch.proofs.Walking.{open_before, walk_early, walk_first, walk_late}

module _ (t : Table) where
  -- what holds of the states along one word, and along another from there, holds along both
  along_both : (P : ℕ → Type 0) (s : ℕ) (u v : List ℕ) → ((i : ℕ) → 1 ≤ i → i ≤ length u → P (walk t s (take i u))) → ((i : ℕ) → 1 ≤ i → i ≤ length v → P (walk t (walk t s u) (take i v))) → (i : ℕ) → 1 ≤ i → i ≤ length (u ++ v) → P (walk t s (take i (u ++ v)))
  along_both P s u v first second i some few =
      ⊎_elim
      (λ past. subst P (sym (walk_late t s u v i (omega arith))) (second (i - length u) (omega arith) (omega (arith, length-append u v))))
      (λ within. subst P (sym (walk_early t s u v i within)) (first i some within))
      (cases_lt (length u) i)

  pub silent_append : (s : ℕ) (u v : List ℕ) → Silent t s u → Silent t (walk t s u) v → Silent t s (u ++ v)
  silent_append s u v first second = record {
    word = word_append u v first.word second.word;
    some = omega (arith, length-append u v, first.some);
    silent = along_both (λ q. t.label q ≡ 0) s u v first.silent second.silent;
    opens = along_both (λ q. Open t q) s u v first.opens second.opens;
  }

  -- a silent word, and then any number of times a silent word that comes round
  pub silent_times : (s q : ℕ) (v loop : List ℕ) → Silent t s v → walk t s v ≡ q → Silent t q loop → walk t q loop ≡ q → (k : ℕ) → Silent t s (v ++ times k loop)
  silent_times s q v loop into to round back zero = subst (λ w. Silent t s w) (sym (append-nil v)) into
  silent_times s q v loop into to round back (suc k) =
      subst (λ w. Silent t s w) (append_assoc v loop (times k loop))
      (silent_times s q (v ++ loop) loop (silent_append s v loop into (subst (λ n. Silent t n loop) (sym to) round))
      (walk_append t s v loop ∙ ap (λ n. walk t n loop) to ∙ back) round back k)

-- a token, and then a chain
module _ (t : Table) (r : ℕ) (u v : List ℕ) (shows : ReachWords t r u v) where
  word_both : Word (u ++ v)
  word_both = word_append u v shows.token.word shows.along.word

  accepted_first : Accepted t (u ++ v) (length u)
  accepted_first = record {
    some = shows.token.some;
    within = omega (arith, length-append u v);
    accepts = subst (λ s. Accepts t s) (sym (walk_first t 0 u v)) shows.token.accepts;
  }

  -- behind the token nothing is accepted
  silent_behind : (i : ℕ) → length u < i → i ≤ length (u ++ v) → t.label (state_at t (u ++ v) i) ≡ 0
  silent_behind i more few = ap t.label (walk_late t 0 u v i (omega arith)) ∙ shows.along.silent (i - length u) (omega arith) (omega (arith, length-append u v))

  pub first_both : First t 0 (u ++ v) (record { rule = t.label (walk t 0 u); place = 0; length = length u })
  first_both = record {
    longest = record {
      accepted = accepted_first;
      most = λ m a. ⊎_elim (λ more. absurd (a.accepts (silent_behind m more a.within))) (λ few. few) (cases_lt (length u) m);
    };
    rule = ap t.label (sym (walk_first t 0 u v));
    place = refl;
  }

  -- before the end every state is open
  open_until : (i : ℕ) → i < length (u ++ v) → Open t (state_at t (u ++ v) i)
  open_until i few =
      ⊎_elim
      (λ early. open_before t 0 (u ++ v) i (length u) word_both early accepted_first.within accepted_first.accepts)
      (λ late. subst (λ s. Open t s) (sym (walk_late t 0 u v i late)) (behind (i - length u) (omega (arith, length-append u v))))
      (cases_lt i (length u))
    where
      behind : (k : ℕ) → k < length v → Open t (walk t (walk t 0 u) (take k v))
      behind zero less = shows.opened (omega (arith, shows.long))
      behind (suc k) less = shows.along.opens (suc k) (omega arith) less

  module _ (marks : ℕ → Bool) (charts : Charts t marks) where
    -- so the walk counts as closing at the end
    closes_last : (n : ℕ) → Closing t marks (u ++ v) n → n ≡ length (u ++ v)
    closes_last n closing =
        ⊎_elim
        (λ closes. ⊎_elim (λ less. absurd (both_ways _ closes.closed (open_told t marks charts (u ++ v) n word_both (open_until n less)))) (λ more. omega (arith, closes.within)) (cases_lt n (length (u ++ v))))
        (λ stays. stays.1)
        closing

    points_both : (ys : List Token) (end : End) (ks : List ℕ) → Munch t 0 (u ++ v) ys end → FinalPoints t marks 0 (u ++ v) 0 ys ks → get_or ks 0 0 ≡ length (u ++ v)
    points_both [] end ks munch points =
        absurd (⊎_elim (λ empty. omega (arith, ap length empty.0, accepted_first.some, accepted_first.within)) (λ fails. fails.1 (length u) accepted_first) munch)
    points_both (y ∷ ys) end [] munch points = absurd points
    points_both (y ∷ ys) end (k ∷ ks) munch points = omega (arith, points.2, closes_last points.0 points.1)

    pub late_first : LateFirst t marks u (u ++ v)
    late_first = record { first = first_both; points = points_both }

pub reach_shown : WitnessLaw
reach_shown t marks charts r u v shows = late_first t r u v shows marks charts

-- a token, and then a silent word from an open state
module _ (t : Table) (marks : ℕ → Bool) (charts : Charts t marks) (u v : List ℕ) (token : TokenWord t u) (opened : Open t (walk t 0 u)) (silent : Silent t (walk t 0 u) v) where
  shows_all : ReachWords t (length v) u v
  shows_all = record {
    token = token;
    opened = λ some. opened;
    along = record { word = silent.word; silent = silent.silent; opens = λ i some less. silent.opens i some (omega arith) };
    long = refl;
  }

  stays_open : StaysOpen t marks (u ++ v)
  stays_open m some few =
      open_told t marks charts (u ++ v) m (word_both t (length v) u v shows_all)
      (⊎_elim
      (λ less. open_until t (length v) u v shows_all m less)
      (λ last. subst (λ s. Open t s) (sym (walk_late t 0 u v m (omega (arith, length-append u v)))) (silent.opens (m - length u) (omega (arith, length-append u v, silent.some)) (omega (arith, length-append u v))))
      (cases_lt m (length (u ++ v))))

  pub unsettled : Unsettled t marks u (u ++ v)
  unsettled = record { waits_there = inl (stays_open, refl); late = late_first t (length v) u v shows_all marks charts }

-- behind the token the words that show that there is no reach are silent, however often the loop is taken
pub silent_rounds : (t : Table) (u v loop : List ℕ) → EndlessWords t u v loop → (k : ℕ) → Silent t (walk t 0 u) (v ++ times k loop)
silent_rounds t u v loop words k =
    silent_times t (walk t 0 u) (walk t 0 (u ++ v)) v loop words.into (sym (walk_append t 0 u v)) words.round words.back k

pub absence_shown : AbsenceLaw
absence_shown t marks charts u v loop words k =
    unsettled t marks charts u (v ++ times k loop) words.token words.opened (silent_rounds t u v loop words k)
