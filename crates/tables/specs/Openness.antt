-- Words, where they lead, and which states are open.
use Rattle.std.specs.Prelude.{◌≡◌, ℕ, ◌<◌, Bool, cond, List, [], ◌∷◌, length, Some, None, Decides, Option, MatchOption, nat_lt}
use Rattle.tables.specs.Table.{Table}

-- A word: a finite list of bytes.
abbrev pub Word : List ℕ → Type 0
Word [] = Unit {0}
Word (b ∷ w) = (b < 256) × Word w

-- The state that a word leads to from a state.
abbrev pub walk : Table → ℕ → List ℕ → ℕ
walk t s [] = s
walk t s (b ∷ w) = walk t (t.next s b) w

-- A state accepts when its label is not 0.
abbrev pub Accepts : Table → ℕ → Type 0
Accepts t s = t.label s ≡ 0 → ⊥

-- A state is open when some word of at least one byte leads from it to an accepting state, and else closed.
-- The empty word opens nothing.
pub record Open (t : Table) (s : ℕ) : Type 0 where
  pub by : List ℕ
  pub word : Word by
  pub some : 0 < length by
  pub accepted : Accepts t (walk t s by)

-- What a charted table tells of a state that it may not have: none for state n or above.
abbrev pub tells_open : Table → (ℕ → Bool) → ℕ → Option Bool
tells_open t marks s = cond (nat_lt s t.states) (Some (marks s)) None

-- It tells rightly: yes of each open state, and no of each closed one.
abbrev pub TellsRightly : Table → (ℕ → Bool) → Type 0
TellsRightly t marks = (s : ℕ) → s < t.states → Decides (marks s) (Open t s)

-- What an answer on a state then means.
abbrev pub MeansOpen : Table → ℕ → Option Bool → Type 0
MeansOpen t s answer = MatchOption answer (s < t.states → ⊥) (λ told. (s < t.states) × Decides told (Open t s))
