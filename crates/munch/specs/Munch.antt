-- Maximal munch.
use Rattle.std.specs.Prelude.{◌≡◌, ℕ, ◌+◌, ◌<◌, ◌≤◌, ◌⊎◌, List, [], ◌∷◌, length, take, drop}
use Rattle.tables.specs.Openness.{Accepts, walk}
use Rattle.tables.specs.Table.{Table}

-- A token: the rule that accepted it, the place of its first byte, and how many bytes it has.
pub record Token : Type 0 where
  pub rule : ℕ
  pub place : ℕ
  pub length : ℕ

-- How munch ends: with every byte in a token, or at a place where no token begins.
pub data End : Type 0 where
  done : End
  fails : ℕ → End

-- The state that the first n bytes of a word lead to from the start.
abbrev pub state_at : Table → List ℕ → ℕ → ℕ
state_at t w n = walk t 0 (take n w)

-- A beginning of n bytes, at least one, leads from the start to an accepting state.
pub record Accepted (t : Table) (w : List ℕ) (n : ℕ) : Type 0 where
  pub some : 1 ≤ n
  pub within : n ≤ length w
  pub accepts : Accepts t (state_at t w n)

-- The longest such beginning.
pub record Longest (t : Table) (w : List ℕ) (n : ℕ) : Type 0 where
  pub accepted : Accepted t w n
  pub most : (m : ℕ) → Accepted t w m → m ≤ n

-- The first token of a word that stands at place p.
pub record First (t : Table) (p : ℕ) (w : List ℕ) (x : Token) : Type 0 where
  pub longest : Longest t w x.length
  pub rule : x.rule ≡ t.label (state_at t w x.length)
  pub place : x.place ≡ p

-- No token: the word is empty and munch is done, or no beginning is accepted and munch fails there.
abbrev pub Ends : Table → ℕ → List ℕ → End → Type 0
Ends t p w end = ((w ≡ []) × (end ≡ done)) ⊎ ((0 < length w) × ((n : ℕ) → Accepted t w n → ⊥) × (end ≡ fails p))

-- Munch of a word that stands at place p: the first token, and then munch of the rest.
abbrev pub Munch : Table → ℕ → List ℕ → List Token → End → Type 0
Munch t p w [] end = Ends t p w end
Munch t p w (x ∷ xs) end = First t p w x × Munch t (p + x.length) (drop x.length w) xs end
