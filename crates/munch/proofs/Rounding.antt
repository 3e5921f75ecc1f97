-- Chains of every length exist exactly if one comes round.
use Rattle.std.proofs.Common.{◌≡◌, ℕ, zero, suc, ◌+◌, ◌-◌, ◌<◌, ◌≤◌, List, ◌++◌, length, take, sym, ap, ◌∙◌, subst, arith}
use Rattle.std.proofs.lemmas.List.{length-append, length-take-le, take-take}
use Rattle.tables.specs.Openness.{Open, walk}
use Rattle.tables.specs.Table.{Sound, Table}
use Rattle.munch.specs.Endless.{Silent, times}
use Rattle.munch.specs.Reach.{Chain, NoReach, TokenWord, Unaccepting}
use Rattle.munch.specs.ReachLaws.{ComesRound, RoundLaw}
use Rattle.munch.proofs.Repeats.{repeats}
use Rattle.tables.proofs.Walking.{walk_append, walk_inside, word_take}
use Rattle.munch.proofs.Walking.{length_part, part, walk_part, walk_within, word_part}
use Rattle.munch.proofs.Witnessing.{silent_rounds}

-- a word of at least one byte, any number of times, has at least so many bytes
length_times : (w : List ℕ) → 0 < length w → (k : ℕ) → k ≤ length (times k w)
length_times w some zero = omega arith
length_times w some (suc k) = omega (arith, length-append w (times k w), length_times w some k)

module _ (t : Table) where
  -- a beginning of a silent word follows a chain
  chain_along : (u w : List ℕ) → TokenWord t u → Open t (walk t 0 u) → Silent t (walk t 0 u) w → (k : ℕ) → 1 ≤ k → k ≤ length w → Chain t k
  chain_along u w token opened silent k some few =
      let long = length-take-le k w few in
      let at : (i : ℕ) → i ≤ k → walk t (walk t 0 u) (take i w) ≡ walk t (walk t 0 u) (take i (take k w)) = λ i less. ap (walk t (walk t 0 u)) (sym (take-take i k w less)) in
      record {
        to = u;
        token = token;
        opened = opened;
        on = take k w;
        along = record {
          word = word_take k w silent.word;
          silent = λ i one less. subst (λ s. t.label s ≡ 0) (at i (omega arith)) (silent.silent i one (omega arith));
          opens = λ i one less. subst (λ s. Open t s) (at i (omega arith)) (silent.opens i one (omega arith));
        };
        some = some;
        long = long;
      }

  pub round_endless : ComesRound t → NoReach t
  round_endless r k some =
      let words = r.words in
      chain_along r.first (r.second ++ times k r.loop) words.token words.opened (silent_rounds t r.first r.second r.loop words k) k some
      (omega (arith, length-append r.second (times k r.loop), length_times r.loop words.round.some k))

  -- a part of a chain before its last state is silent
  silent_part : (s : ℕ) (w : List ℕ) (m k : ℕ) → Unaccepting t s w → 1 ≤ k → m + k < length w → Silent t (walk t s (take m w)) (part w m k)
  silent_part s w m k chain some less =
      let long = length_part w m k (omega arith) in
      record {
        word = word_part w m k chain.word;
        some = omega arith;
        silent = λ i one few. subst (λ q. t.label q ≡ 0) (sym (walk_within t s w m k i (omega arith))) (chain.silent (m + i) (omega arith) (omega arith));
        opens = λ i one few. subst (λ q. Open t q) (sym (walk_within t s w m k i (omega arith))) (chain.opens (m + i) (omega arith) (omega arith));
      }

  -- a chain that comes to a state twice before its last comes round
  round_from : (u w : List ℕ) (i j : ℕ) → TokenWord t u → Open t (walk t 0 u) → Unaccepting t (walk t 0 u) w → 1 ≤ i → i < j → j < length w → walk t (walk t 0 u) (take i w) ≡ walk t (walk t 0 u) (take j w) → ComesRound t
  round_from u w i j token opened chain some less inside same =
      let k = j - i in
      let whole : i + k ≡ j = omega arith in
      let from = walk_append t 0 u (take i w) in
      let back : walk t (walk t (walk t 0 u) (take i w)) (part w i k) ≡ walk t (walk t 0 u) (take i w) = walk_part t (walk t 0 u) w i k ∙ ap (λ n. walk t (walk t 0 u) (take n w)) whole ∙ sym same in
      record {
        first = u;
        second = take i w;
        loop = part w i k;
        words = record {
          token = token;
          opened = opened;
          into = silent_part (walk t 0 u) w 0 i chain some (omega arith);
          round = subst (λ s. Silent t s (part w i k)) (sym from) (silent_part (walk t 0 u) w i k chain (omega arith) (omega arith));
          back = subst (λ s. walk t s (part w i k) ≡ s) (sym from) back;
        };
      }

  pub endless_round : Sound t → NoReach t → ComesRound t
  endless_round sound none =
      let chain = none (t.states + 2) (omega arith) in
      let start = walk t 0 chain.to in
      let inside = walk_inside t sound 0 chain.to sound.some chain.token.word in
      let two = repeats t.states (λ i. walk t start (take (suc i) chain.on)) (λ i few. walk_inside t sound start (take (suc i) chain.on) inside (word_take (suc i) chain.on chain.along.word)) in
      round_from chain.to chain.on (suc two.earlier) (suc two.later) chain.token chain.opened chain.along (omega arith) (omega (arith, two.less)) (omega (arith, two.inside, chain.long)) two.same

pub rounds : RoundLaw
rounds t sound = record { round = endless_round t sound; endless = round_endless t }
