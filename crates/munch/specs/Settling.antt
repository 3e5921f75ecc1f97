-- When a token is settled, so that no later byte can alter it.
use Rattle.std.specs.Prelude.{◌≡◌, ℕ, ◌+◌, ◌-◌, ◌≤◌, ◌⊎◌, List, ◌++◌, length, take}
use Rattle.tables.specs.Openness.{Word}
use Rattle.tables.specs.Table.{Table}
use Rattle.munch.specs.Munch.{End, Munch, Token, fails}

-- A list begins another.
abbrev pub Begins : List Token → List Token → Type 0
Begins xs ys = (rest : List Token) × (xs ++ rest ≡ ys)

-- A token list that begins munch of the bytes x, which stand at place p, under every ending. An ending is a word
-- that may follow, possibly the empty one.
abbrev pub Common : Table → ℕ → List ℕ → List Token → Type 0
Common t p x xs = (e : List ℕ) → Word e → (ys : List Token) (end : End) → Munch t p (x ++ e) ys end → Begins xs ys

-- The common list of the bytes x: the longest such list.
pub record CommonList (t : Table) (p : ℕ) (x : List ℕ) (xs : List Token) : Type 0 where
  pub common : Common t p x xs
  pub most : (ys : List Token) → Common t p x ys → length ys ≤ length xs

-- The i-th token, counted from 1, is settled by the bytes x: their common list has at least i tokens.
pub record Settled (t : Table) (x : List ℕ) (i : ℕ) : Type 0 where
  pub list : List Token
  pub common : CommonList t 0 x list
  pub enough : i ≤ length list

-- Failure at place p is settled by the bytes x: under every ending, munch is the common list and then fails there.
pub record FailureSettled (t : Table) (x : List ℕ) (p : ℕ) : Type 0 where
  pub list : List Token
  pub common : CommonList t 0 x list
  pub always : (e : List ℕ) → Word e → Munch t 0 (x ++ e) list (fails p)

-- The bytes x settle no token and no failure.
pub record NothingSettled (t : Table) (x : List ℕ) : Type 0 where
  pub token : (i : ℕ) → 1 ≤ i → Settled t x i → ⊥
  pub failure : (p : ℕ) → FailureSettled t x p → ⊥

-- The settling point of the i-th token: the length of the shortest beginning of the bytes taken that settles it.
pub record SettlingPoint (t : Table) (x : List ℕ) (i k : ℕ) : Type 0 where
  pub within : k ≤ length x
  pub settled : Settled t (take k x) i
  pub least : (j : ℕ) → j ≤ length x → Settled t (take j x) i → k ≤ j

-- The same once the input is finished: where no beginning settles the token, the number of all bytes taken.
abbrev pub FinishedPoint : Table → List ℕ → ℕ → ℕ → Type 0
FinishedPoint t x i k = SettlingPoint t x i k ⊎ (((j : ℕ) → j ≤ length x → Settled t (take j x) i → ⊥) × (k ≡ length x))

-- The lateness of a token with settling point k: how many bytes past its end it took.
abbrev pub lateness : Token → ℕ → ℕ
lateness x k = k - (x.place + x.length)

-- A splitter answers every list of bytes with a token list, from those bytes alone. It is right on x if its answer
-- begins munch of x under every ending.
abbrev pub Splitter : Type 0
Splitter = List ℕ → List Token

abbrev pub RightOn : Table → Splitter → List ℕ → Type 0
RightOn t split x = Common t 0 x (split x)
