-- Tests of words that follow a chain, and of how long a chain can be.
use Rattle.std.proofs.Common.{◌≡◌, ℕ, zero, suc, ◌-◌, ◌<◌, ◌≤◌, Bool, true, not, ◌&&◌, ◌||◌, ltb, leb, List, [], ◌∷◌, length, take, refl, subst, ⊎_elim, arith}
use Rattle.std.proofs.lemmas.List.{length-take-le, take-take}
use Rattle.std.proofs.lemmas.Bool.{and_parts, both_ways, eqb-true, eq-eqb, leb-true, ltb-true, not-true, or_cases}
use Rattle.tables.proofs.Walking.{walk_inside, word_take}
use Rattle.tables.specs.Openness.{Open, walk}
use Rattle.tables.specs.Table.{Table}
use Rattle.munch.specs.Endless.{Silent}
use Rattle.munch.specs.Laws.{Charts}
use Rattle.munch.specs.Reach.{Chain, TokenWord, Unaccepting}
use Rattle.munch.proofs.Testing.{accepts_shown, all_below, all_bytes, along, below, passed, quiet, word_shown}

module _ (t : Table) where
  abbrev pub token_test : List ℕ → Bool
  token_test w = all_bytes w && (ltb 0 (length w) && not (quiet t (walk t 0 w)))

  pub token_shown : (w : List ℕ) → token_test w ≡ true → TokenWord t w
  token_shown w passes =
      let both = and_parts _ _ passes in
      let rest = and_parts _ _ both.1 in
      record { word = word_shown w both.0; some = ltb-true 0 (length w) rest.0; accepts = accepts_shown t (walk t 0 w) rest.1 }

module _ (t : Table) (marks : ℕ → Bool) (charts : Charts t marks) where
  -- a state along a word that is told to be open is open
  open_along : (s : ℕ) (w : List ℕ) → s < t.states → all_bytes w ≡ true → (i : ℕ) → marks (walk t s (take i w)) ≡ true → Open t (walk t s (take i w))
  open_along s w less bytes i told =
      (charts.right (walk t s (take i w)) (walk_inside t charts.sound s (take i w) less (word_take i w (word_shown w bytes)))).0 told

  abbrev pub silent_test : ℕ → List ℕ → Bool
  silent_test s w = (ltb s t.states && (ltb 0 (length w) && all_bytes w)) && (along t (quiet t) s w && along t marks s w)

  pub silent_shown : (s : ℕ) (w : List ℕ) → silent_test s w ≡ true → Silent t s w
  silent_shown s w passes =
      let both = and_parts _ _ passes in
      let first = and_parts _ _ both.0 in
      let word = and_parts _ _ first.1 in
      let states = and_parts _ _ both.1 in
      record {
        word = word_shown w word.1;
        some = ltb-true 0 (length w) word.0;
        silent = λ i some few. eqb-true _ 0 (passed t (quiet t) s w states.0 i some few);
        opens = λ i some few. open_along s w (ltb-true s t.states first.0) word.1 i (passed t marks s w states.1 i some few);
      }

  abbrev pub chain_test : ℕ → List ℕ → Bool
  chain_test s w = (ltb s t.states && all_bytes w) && (along t (quiet t) s w && along t marks s (take (length w - 1) w))

  chain_shown : (s : ℕ) (w : List ℕ) → chain_test s w ≡ true → Unaccepting t s w
  chain_shown s w passes =
      let long = length-take-le (length w - 1) w (omega arith) in
      let both = and_parts _ _ passes in
      let first = and_parts _ _ both.0 in
      let states = and_parts _ _ both.1 in
      record {
        word = word_shown w first.1;
        silent = λ i some few. eqb-true _ 0 (passed t (quiet t) s w states.0 i some few);
        opens = λ i some less.
            open_along s w (ltb-true s t.states first.0) first.1 i
            (subst (λ u. marks (walk t s u) ≡ true) (take-take i (length w - 1) w (omega arith)) (passed t marks s (take (length w - 1) w) states.1 i some (omega arith)));
      }

  -- a word to an open accepting state, and one on from there
  abbrev pub reach_test : List ℕ → List ℕ → Bool
  reach_test u w = token_test t u && ((marks (walk t 0 u) && leb 1 (length w)) && chain_test (walk t 0 u) w)

  pub reach_shown : (u w : List ℕ) → reach_test u w ≡ true → Chain t (length w)
  reach_shown u w passes =
      let both = and_parts _ _ passes in
      let rest = and_parts _ _ both.1 in
      let here = and_parts _ _ rest.0 in
      let token = token_shown t u both.0 in
      record {
        to = u;
        token = token;
        opened = (charts.right (walk t 0 u) (walk_inside t charts.sound 0 u charts.sound.some token.word)).0 here.0;
        on = w;
        along = chain_shown (walk t 0 u) w rest.1;
        some = leb-true 1 (length w) here.1;
        long = refl;
      }

  -- no word of more than k bytes follows a chain from s
  abbrev loud_test : ℕ → ℕ → Bool
  loud_test s b = not (quiet t (t.next s b))

  abbrev bound_test : ℕ → ℕ → Bool
  bound_test zero s = all_below (loud_test s) 256
  bound_test (suc k) s = all_below (λ b. (loud_test s b || not (marks (t.next s b))) || bound_test k (t.next s b)) 256

  chain_behind : (s b : ℕ) (w : List ℕ) → Unaccepting t s (b ∷ w) → Unaccepting t (t.next s b) w
  chain_behind s b w chain = record {
    word = chain.word.1;
    silent = λ i some few. chain.silent (suc i) (omega arith) (omega arith);
    opens = λ i some less. chain.opens (suc i) (omega arith) (omega arith);
  }

  not_loud : (s b : ℕ) (w : List ℕ) → Unaccepting t s (b ∷ w) → loud_test s b ≡ true → ⊥
  not_loud s b w chain loud = both_ways (quiet t (t.next s b)) (not-true _ loud) (eq-eqb (t.label (t.next s b)) 0 (chain.silent 1 (omega arith) (omega arith)))

  -- a chain ends at a state that is told to be closed
  shut_last : (s b : ℕ) (w : List ℕ) → s < t.states → Unaccepting t s (b ∷ w) → not (marks (t.next s b)) ≡ true → length w ≤ 0
  shut_last s b [] less chain told = omega arith
  shut_last s b (c ∷ w) less chain told =
      absurd (both_ways (marks (t.next s b)) (not-true _ told) ((charts.right (t.next s b) (charts.sound.inside s b less chain.word.0)).1 (chain.opens 1 (omega arith) (omega arith))))

  bounded : (k s : ℕ) (w : List ℕ) → s < t.states → bound_test k s ≡ true → Unaccepting t s w → length w ≤ k
  bounded k s [] less passes chain = omega arith
  bounded zero s (b ∷ w) less passes chain = absurd (not_loud s b w chain (below (loud_test s) 256 passes b chain.word.0))
  bounded (suc k) s (b ∷ w) less passes chain =
      ⊎_elim
      (λ ends. ⊎_elim (λ loud. absurd (not_loud s b w chain loud)) (λ shut. omega (arith, shut_last s b w less chain shut)) (or_cases (loud_test s b) (not (marks (t.next s b))) ends))
      (λ on. omega (arith, bounded k (t.next s b) w (charts.sound.inside s b less chain.word.0) on (chain_behind s b w chain)))
      (or_cases (loud_test s b || not (marks (t.next s b))) (bound_test k (t.next s b))
      (below (λ c. (loud_test s c || not (marks (t.next s c))) || bound_test k (t.next s c)) 256 passes b chain.word.0))

  -- no chain is longer than k
  abbrev pub most_test : ℕ → Bool
  most_test k = all_below (λ s. (quiet t s || not (marks s)) || bound_test k s) t.states

  pub most_shown : (k : ℕ) → most_test k ≡ true → (j : ℕ) → Chain t j → j ≤ k
  most_shown k passes j chain =
      let s = walk t 0 chain.to in
      let less : s < t.states = walk_inside t charts.sound 0 chain.to charts.sound.some chain.token.word in
      ⊎_elim
      (λ neither.
      absurd
      (⊎_elim
      (λ silent. chain.token.accepts (eqb-true (t.label s) 0 silent))
      (λ shut. both_ways (marks s) (not-true _ shut) ((charts.right s less).1 chain.opened))
      (or_cases _ _ neither)))
      (λ bound. omega (arith, bounded k s chain.on less bound chain.along, chain.long))
      (or_cases _ _ (below _ t.states passes s less))
