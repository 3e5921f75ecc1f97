-- Lists that begin munch under every ending: they are ordered by their lengths, so the longest is one.
use Rattle.std.proofs.Common.{◌≡◌, ℕ, ◌≤◌, List, [], ◌∷◌, ◌++◌, length, take, drop, sym, refl, ap, ◌∙◌, subst, inl, ⊎_elim, arith}
use Rattle.std.proofs.lemmas.List.{append_assoc, append-nil, length-append, take-append-drop}
use Rattle.tables.specs.Openness.{Word}
use Rattle.tables.specs.Table.{Table}
use Rattle.munch.specs.Laws.{GrowthLaw, NothingLaw, SplitterLaw}
use Rattle.munch.specs.Munch.{End, Munch, Token, done, fails}
use Rattle.munch.specs.Settling.{Begins, Common, CommonList}
use Rattle.munch.proofs.Munching.{munched}
use Rattle.tables.proofs.Walking.{word_append, word_drop}

-- of two lists that begin a third, the one that is not longer begins the other
pub begins_order : (xs ys zs : List Token) → Begins xs zs → Begins ys zs → length xs ≤ length ys → Begins xs ys
begins_order [] ys zs one two less = (ys, refl)
begins_order (x ∷ xs) [] zs one two less = absurd (omega arith)
begins_order (x ∷ xs) (y ∷ ys) zs one two less =
    let all = one.1 ∙ sym two.1 in
    let head : x ≡ y = cc all in
    let tails : xs ++ one.0 ≡ ys ++ two.0 = cc all in
    let rest = begins_order xs ys (ys ++ two.0) (one.0, tails) (two.0, refl) (omega arith) in
    (rest.0, cc (head, rest.1))

pub begins_fits : (xs ys : List Token) → Begins xs ys → length xs ≤ length ys
begins_fits xs ys begins = omega (arith, length-append xs begins.0, ap length begins.1)

-- a list that begins another one as long is that one
pub begins_all : (xs ys : List Token) → Begins xs ys → length ys ≤ length xs → xs ≡ ys
begins_all [] [] begins less = refl
begins_all [] (y ∷ ys) begins less = absurd (omega arith)
begins_all (x ∷ xs) [] begins less = absurd (let z : ◌≡◌ {A = ℕ} 0 1 = cc begins.1 in omega arith)
begins_all (x ∷ xs) (y ∷ ys) begins less =
    let head : x ≡ y = cc begins.1 in
    let tail : xs ++ begins.0 ≡ ys = cc begins.1 in
    cc (head, begins_all xs ys (begins.0, tail) (omega arith))

module _ (t : Table) where
  -- munch under the empty ending
  pub common_here : (p : ℕ) (x : List ℕ) (xs ys : List Token) (end : End) → Common t p x xs → Munch t p x ys end → Begins xs ys
  common_here p x xs ys end common munch = common [] tt ys end (rw append-nil munch)

  -- a list that begins munch under every ending begins the common list
  pub common_begins : (p : ℕ) (x : List ℕ) (xs ys : List Token) → Common t p x xs → CommonList t p x ys → Begins xs ys
  common_begins p x xs ys common longest =
      let m = munched t p x in
      begins_order xs ys m.tokens (common_here p x xs m.tokens m.end common m.munch) (common_here p x ys m.tokens m.end longest.common m.munch) (longest.most xs common)

  pub common_one : (p : ℕ) (x : List ℕ) (xs ys : List Token) → CommonList t p x xs → CommonList t p x ys → xs ≡ ys
  common_one p x xs ys one two = begins_all xs ys (common_begins p x xs ys one.common two) (one.most ys two.common)

  -- what is common stays common as bytes are added
  pub common_grows : (p : ℕ) (x e : List ℕ) (xs : List Token) → Word e → Common t p x xs → Common t p (x ++ e) xs
  common_grows p x e xs word common f more ys end munch =
      common (e ++ f) (word_append e f word more) ys end (rw append_assoc at munch)

pub splitter_law : SplitterLaw
splitter_law t split x right xs longest = common_begins t 0 x (split x) xs right longest

pub growth_law : GrowthLaw
growth_law t x word k xs ys front whole =
    common_begins t 0 x xs ys
    (subst (λ (w : List ℕ). Common t 0 w xs) (take-append-drop k x) (common_grows t 0 (take k x) (drop k x) xs (word_drop k x word) front.common))
    whole

-- with no byte taken, munch under the empty ending has no token and is done
nothing_common : (t : Table) (p : ℕ) (xs : List Token) → Common t p [] xs → xs ≡ []
nothing_common t p xs common = none xs (common [] tt [] done (inl (refl, refl)))
  where
    none : (xs : List Token) → Begins xs [] → xs ≡ []
    none [] begins = refl
    none (x ∷ xs) begins = let z : ◌≡◌ {A = ℕ} 0 1 = cc begins.1 in absurd (omega arith)

not_failed : (t : Table) (p : ℕ) → Munch t 0 [] [] (fails p) → ⊥
not_failed t p ends =
    ⊎_elim (λ empty. let z : ◌≡◌ {A = ℕ} 0 1 = cc empty.1 in omega arith) (λ stops. omega (arith, stops.0)) ends

pub nothing_law : NothingLaw
nothing_law t = record {
  token = λ i some settled. omega (arith, some, settled.enough, ap length (nothing_common t 0 settled.list settled.common.common));
  failure = λ p failed.
      not_failed t p (subst (λ (xs : List Token). Munch t 0 [] xs (fails p)) (nothing_common t 0 failed.list failed.common.common) (failed.always [] tt));
}
