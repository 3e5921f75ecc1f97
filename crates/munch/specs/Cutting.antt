-- Cutting by what a charted table tells: each token ends its walk where the state closes.
use Rattle.std.specs.Prelude.{◌≡◌, ℕ, ◌+◌, ◌<◌, ◌≤◌, max, Bool, true, false, ◌⊎◌, List, [], ◌∷◌, length, take, drop}
use Rattle.tables.specs.Table.{Table}
use Rattle.munch.specs.Munch.{Accepted, First, Token, state_at}

-- Why a cutting stops: the walk is still open, or it closed with nothing accepted, at a place.
pub data Stop : Type 0 where
  waits : Stop
  stuck : ℕ → Stop

module _ (t : Table) (marks : ℕ → Bool) where
  -- The walk from the start along x closes at n: after n bytes, at least one, it comes to a state that is told to be
  -- closed, and to no such state before.
  pub record ClosesAt (x : List ℕ) (n : ℕ) : Type 0 where
    pub some : 1 ≤ n
    pub within : n ≤ length x
    pub closed : marks (state_at t x n) ≡ false
    pub before : (m : ℕ) → 1 ≤ m → m < n → marks (state_at t x m) ≡ true

  -- The walk closes nowhere along x.
  abbrev pub StaysOpen : List ℕ → Type 0
  StaysOpen x = (m : ℕ) → 1 ≤ m → m ≤ length x → marks (state_at t x m) ≡ true

  -- A token is due at place p: the walk closes, and the token is the longest that was accepted on the way.
  pub record Due (p : ℕ) (x : List ℕ) (y : Token) : Type 0 where
    pub at : ℕ
    pub closes : ClosesAt x at
    pub first : First t p (take at x) y

  -- The walk closes, and nothing was accepted on the way.
  pub record Stuck (x : List ℕ) : Type 0 where
    pub at : ℕ
    pub closes : ClosesAt x at
    pub nothing : (m : ℕ) → Accepted t (take at x) m → ⊥

  -- The bytes x, which stand at place p, are cut into these tokens, and then the cutting stops.
  abbrev pub Cut : ℕ → List ℕ → List Token → Stop → Type 0
  Cut p x [] stop = (StaysOpen x × (stop ≡ waits)) ⊎ (Stuck x × (stop ≡ stuck p))
  Cut p x (y ∷ ys) stop = Due p x y × Cut (p + y.length) (drop y.length x) ys stop

  -- The settling points of the tokens of x, which stands at place p, where the token before them settled at prev:
  -- the later of that and of where the token's own walk closes.
  abbrev pub Points : ℕ → List ℕ → ℕ → List Token → List ℕ → Type 0
  Points p x prev [] ks = ks ≡ []
  Points p x prev (y ∷ ys) [] = ⊥
  Points p x prev (y ∷ ys) (k ∷ ks) =
      (n : ℕ) × ClosesAt x n × (k ≡ max prev (p + n)) × Points (p + y.length) (drop y.length x) k ys ks

  -- The same once the input is finished: a walk that never closed counts as closing at the end of the bytes.
  abbrev pub Closing : List ℕ → ℕ → Type 0
  Closing x n = ClosesAt x n ⊎ (StaysOpen x × (n ≡ length x))

  abbrev pub FinalPoints : ℕ → List ℕ → ℕ → List Token → List ℕ → Type 0
  FinalPoints p x prev [] ks = ks ≡ []
  FinalPoints p x prev (y ∷ ys) [] = ⊥
  FinalPoints p x prev (y ∷ ys) (k ∷ ks) =
      (n : ℕ) × Closing x n × (k ≡ max prev (p + n)) × FinalPoints (p + y.length) (drop y.length x) k ys ks
