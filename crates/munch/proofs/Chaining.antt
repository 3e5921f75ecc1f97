-- Accepted beginnings of a word, the states along it that a charted table tells of, and chains along it.
use Rattle.std.proofs.Common.{◌≡◌, ℕ, ◌+◌, ◌-◌, ◌<◌, ◌≤◌, Bool, true, List, length, take, sym, ap, ◌∙◌, subst, ⊎_elim, arith}
use Rattle.std.proofs.lemmas.List.{length-take-le, take-take}
use Rattle.std.proofs.lemmas.Bool.{cases_eq}
use Rattle.tables.specs.Openness.{Accepts, Open, Word, walk}
use Rattle.tables.specs.Table.{Table}
use Rattle.munch.specs.Laws.{Charts}
use Rattle.munch.specs.Munch.{Accepted, state_at}
use Rattle.munch.specs.Reach.{Chain, TokenWord}
use Rattle.tables.proofs.Walking.{walk_inside, word_take}
use Rattle.munch.proofs.Walking.{length_part, part, walk_within, word_part}

module _ (t : Table) where
  -- a state that cannot accept does not
  pub silent_if : (s : ℕ) → (Accepts t s → ⊥) → t.label s ≡ 0
  silent_if s never = ⊎_elim (λ none. none) (λ some. absurd (never some)) (cases_eq (t.label s) 0)

  -- a beginning accepted within the first n bytes is one of them alone, and the other way round
  pub accepted_take : (x : List ℕ) (n i : ℕ) → n ≤ length x → i ≤ n → Accepted t x i → Accepted t (take n x) i
  accepted_take x n i inside few a = record {
    some = a.some;
    within = omega (arith, length-take-le n x inside);
    accepts = subst (λ w. Accepts t (walk t 0 w)) (sym (take-take i n x few)) a.accepts;
  }

  pub take_accepted : (x : List ℕ) (n i : ℕ) → n ≤ length x → Accepted t (take n x) i → Accepted t x i
  take_accepted x n i inside a =
      let few : i ≤ n = omega (arith, length-take-le n x inside, a.within) in
      record {
        some = a.some;
        within = omega arith;
        accepts = subst (λ w. Accepts t (walk t 0 w)) (take-take i n x few) a.accepts;
      }

  -- an accepted beginning is a word that leads to an accepting state
  pub accepted_word : (w : List ℕ) (n : ℕ) → Word w → Accepted t w n → TokenWord t (take n w)
  accepted_word w n word a = record {
    word = word_take n w word;
    some = omega (arith, length-take-le n w a.within, a.some);
    accepts = a.accepts;
  }

-- an accepted beginning of m bytes, and then states of which none accepts, up to n bytes, and all before are open
pub chain_between : (t : Table) (x : List ℕ) (m n : ℕ) → Word x → Accepted t x m → m < n → n ≤ length x → ((i : ℕ) → m < i → i ≤ n → t.label (state_at t x i) ≡ 0) → ((i : ℕ) → m ≤ i → i < n → Open t (state_at t x i)) → Chain t (n - m)
chain_between t x m n word a less inside silent opens =
    let k = n - m in
    let long = length_part x m k (omega arith) in
    record {
      to = take m x;
      token = accepted_word t x m word a;
      opened = opens m (omega arith) less;
      on = part x m k;
      along = record {
        word = word_part x m k word;
        silent = λ i some few. ap t.label (walk_within t 0 x m k i (omega (arith, long))) ∙ silent (m + i) (omega arith) (omega (arith, long));
        opens = λ i some few. subst (λ s. Open t s) (sym (walk_within t 0 x m k i (omega (arith, long)))) (opens (m + i) (omega arith) (omega (arith, long)));
      };
      some = omega arith;
      long = long;
    }

module _ (t : Table) (marks : ℕ → Bool) (charts : Charts t marks) where
  state_inside : (x : List ℕ) (n : ℕ) → Word x → state_at t x n < t.states
  state_inside x n word = walk_inside t charts.sound 0 (take n x) charts.sound.some (word_take n x word)

  -- a state that is told to be open is open, and the other way round
  pub told_open : (x : List ℕ) (n : ℕ) → Word x → marks (state_at t x n) ≡ true → Open t (state_at t x n)
  told_open x n word told = (charts.right (state_at t x n) (state_inside x n word)).0 told

  pub open_told : (x : List ℕ) (n : ℕ) → Word x → Open t (state_at t x n) → marks (state_at t x n) ≡ true
  open_told x n word o = (charts.right (state_at t x n) (state_inside x n word)).1 o
