-- The tokens of the cutting are the common list, and it is stuck exactly where failure is settled.
use Rattle.std.proofs.Common.{◌≡◌, ℕ, ◌+◌, ◌≤◌, Bool, List, [], ◌∷◌, ◌++◌, length, drop, sym, refl, ap, subst, inr, ⊎_elim, arith}
use Rattle.std.proofs.lemmas.List.{drop-append-le, length-append}
use Rattle.tables.specs.Openness.{Word}
use Rattle.tables.specs.Table.{Table}
use Rattle.munch.specs.Cutting.{Cut, Due, Stop, Stuck, stuck}
use Rattle.munch.specs.Laws.{Charts, CutLaw}
use Rattle.munch.specs.Munch.{End, Ends, First, Munch, Token, fails}
use Rattle.munch.specs.Settling.{Common, CommonList}
use Rattle.munch.proofs.Accepting.{first_one}
use Rattle.munch.proofs.Beginning.{common_one}
use Rattle.munch.proofs.Cutting.{cut_of, cut_one, due_within}
use Rattle.munch.proofs.Munching.{first_or_ends}
use Rattle.munch.proofs.Shutting.{first_under, nothing_under}
use Rattle.munch.proofs.Waiting.{begins_none, waits_common, waits_fails}
use Rattle.tables.proofs.Walking.{word_drop}

module _ (t : Table) (marks : ℕ → Bool) (charts : Charts t marks) where
  module _ (p : ℕ) (x : List ℕ) (y : Token) (e : List ℕ) (word : Word x) (ending : Word e) (due : Due t marks p x y) where
    -- a token that is due is the first under every ending
    pub due_first : First t p (x ++ e) y
    due_first = first_under t marks charts x due.at e word due.closes ending p y due.first

    -- what lies behind it is the rest of the bytes with the ending
    pub due_behind : drop y.length (x ++ e) ≡ drop y.length x ++ e
    due_behind = drop-append-le y.length x e (omega (arith, (due_within t marks p x y due).0, (due_within t marks p x y due).1))

    -- munch under an ending is the token and then munch of the rest
    pub due_munch : (zs : List Token) (end : End) → Munch t (p + y.length) (drop y.length x ++ e) zs end → Munch t p (x ++ e) (y ∷ zs) end
    due_munch zs end munch = (due_first, subst (λ (w : List ℕ). Munch t (p + y.length) w zs end) (sym due_behind) munch)

    pub munch_due : (zs : List Token) (end : End) → Munch t p (x ++ e) zs end → (rest : List Token) × (zs ≡ y ∷ rest) × Munch t (p + y.length) (drop y.length x ++ e) rest end
    munch_due [] end munch = absurd (first_or_ends t p (x ++ e) y end due_first munch)
    munch_due (z ∷ zs) end munch =
        let same = first_one t p (x ++ e) z y munch.0 due_first in
        let rest = subst (λ (v : Token). Munch t (p + v.length) (drop v.length (x ++ e)) zs end) same munch.1 in
        (zs, ap (λ (v : Token). v ∷ zs) same, subst (λ (w : List ℕ). Munch t (p + y.length) w zs end) due_behind rest)

  -- the tokens of the cutting begin munch under every ending
  pub cut_common : (p : ℕ) (x : List ℕ) (ys : List Token) (stop : Stop) → Word x → Cut t marks p x ys stop → Common t p x ys
  cut_common p x [] stop word cut e ending zs end munch = (zs, refl)
  cut_common p x (y ∷ ys) stop word cut e ending zs end munch =
      let after = munch_due p x y e word ending cut.0 zs end munch in
      let rest = cut_common (p + y.length) (drop y.length x) ys stop (word_drop y.length x word) cut.1 e ending after.0 end after.2 in
      (rest.0, cc (rest.1, after.1))

  -- where nothing was accepted, munch fails under every ending
  stuck_ends : (p : ℕ) (x : List ℕ) → Word x → Stuck t marks x → (e : List ℕ) → Word e → Ends t p (x ++ e) (fails p)
  stuck_ends p x word stays e ending =
      inr (omega (arith, length-append x e, stays.closes.some, stays.closes.within), nothing_under t marks charts x stays.at e word stays.closes ending stays.nothing, refl)

  -- where the cutting stops, no token is common
  stops_common : (p : ℕ) (x : List ℕ) (stop : Stop) (z : Token) (zs : List Token) → Word x → Cut t marks p x [] stop → Common t p x (z ∷ zs) → ⊥
  stops_common p x stop z zs word cut common =
      ⊎_elim
      (λ waiting. waits_common t marks charts p x z zs word waiting.0 common)
      (λ stays. begins_none z zs (common [] tt [] (fails p) (stuck_ends p x word stays.0 [] tt)))
      cut

  -- no list that begins munch under every ending is longer
  pub cut_most : (p : ℕ) (x : List ℕ) (ys zs : List Token) (stop : Stop) → Word x → Cut t marks p x ys stop → Common t p x zs → length zs ≤ length ys
  cut_most p x [] [] stop word cut common = omega arith
  cut_most p x [] (z ∷ zs) stop word cut common = absurd (stops_common p x stop z zs word cut common)
  cut_most p x (y ∷ ys) [] stop word cut common = omega arith
  cut_most p x (y ∷ ys) (z ∷ zs) stop word cut common =
      let rest = cut_most (p + y.length) (drop y.length x) ys zs stop (word_drop y.length x word) cut.1 after in
      omega (arith, rest)
    where
      after : Common t (p + y.length) (drop y.length x) zs
      after e ending ms end munch =
          let whole = common e ending (y ∷ ms) end (due_munch p x y e word ending cut.0 ms end munch) in
          (whole.0, cc whole.1)

  pub cut_list : (p : ℕ) (x : List ℕ) (ys : List Token) (stop : Stop) → Word x → Cut t marks p x ys stop → CommonList t p x ys
  cut_list p x ys stop word cut = record {
    common = cut_common p x ys stop word cut;
    most = λ zs common. cut_most p x ys zs stop word cut common;
  }

  -- where the cutting is stuck, munch under every ending is its tokens and then fails there
  pub stuck_munch : (p : ℕ) (x : List ℕ) (ys : List Token) (stop : Stop) (q : ℕ) → Word x → Cut t marks p x ys stop → stop ≡ stuck q → (e : List ℕ) → Word e → Munch t p (x ++ e) ys (fails q)
  stuck_munch p x [] stop q word cut is e ending =
      ⊎_elim
      (λ waiting. absurd (let z : ◌≡◌ {A = ℕ} 0 1 = cc (is, waiting.1) in omega arith))
      (λ stays. let same : p ≡ q = cc (is, stays.1) in subst (λ (n : ℕ). Ends t p (x ++ e) (fails n)) same (stuck_ends p x word stays.0 e ending))
      cut
  stuck_munch p x (y ∷ ys) stop q word cut is e ending =
      due_munch p x y e word ending cut.0 ys (fails q)
      (stuck_munch (p + y.length) (drop y.length x) ys stop q (word_drop y.length x word) cut.1 is e ending)

  -- and where munch is so under every ending, the cutting is stuck
  pub munch_stuck : (p : ℕ) (x : List ℕ) (ys : List Token) (stop : Stop) (q : ℕ) → Word x → Cut t marks p x ys stop → ((e : List ℕ) → Word e → Munch t p (x ++ e) ys (fails q)) → stop ≡ stuck q
  munch_stuck p x [] stop q word cut always =
      ⊎_elim
      (λ waiting. absurd (waits_fails t marks charts p x q word waiting.0 always))
      (λ stays.
      ⊎_elim
      (λ empty. absurd (let z : ◌≡◌ {A = ℕ} 0 1 = cc empty.1 in omega arith))
      (λ fails_here. cc (stays.1, fails_here.2))
      (always [] tt))
      cut
  munch_stuck p x (y ∷ ys) stop q word cut always =
      munch_stuck (p + y.length) (drop y.length x) ys stop q (word_drop y.length x word) cut.1
      (λ e ending. subst (λ (w : List ℕ). Munch t (p + y.length) w ys (fails q)) (due_behind p x y e word ending cut.0) (always e ending).1)

pub cut_law : CutLaw
cut_law t marks charts x word =
    let made = cut_of t marks 0 x in
    let list = cut_list t marks charts 0 x made.tokens made.stop word made.cut in
    record {
      tokens = made.tokens;
      stop = made.stop;
      cut = made.cut;
      only = λ ys other cut. cut_one t marks 0 x ys made.tokens other made.stop cut made.cut;
      common = list;
      common_only = λ ys longest. common_one t 0 x ys made.tokens longest list;
      fails_settled = λ p is. record { list = made.tokens; common = list; always = stuck_munch t marks charts 0 x made.tokens made.stop p word made.cut is };
      settled_fails = λ p settled.
          munch_stuck t marks charts 0 x made.tokens made.stop p word made.cut
          (subst (λ (ys : List Token). (e : List ℕ) → Word e → Munch t 0 (x ++ e) ys (fails p)) (common_one t 0 x settled.list made.tokens settled.common list) settled.always);
    }
