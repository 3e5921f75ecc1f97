-- What munch of a slice gives, in code.
use Rattle.std.specs.Prelude.{◌≡◌, ℕ, ◌≤◌, List, map, length, take, drop, Option, MatchOption}
use Rattle.tables.specs.Table.{Table}
use Rattle.munch.specs.declared.plain.Ending.{Ending}
use Rattle.munch.specs.declared.plain.Ending.TheVariants.{Done, Stuck}
use Rattle.munch.specs.declared.plain.Lexeme.{Lexeme}
use Rattle.munch.specs.declared.plain.Munched.{Munched}
use Rattle.munch.specs.Munch.{Accepted, End, Longest, Munch, Token, done, fails, state_at}

-- The token that a value in code stands for.
abbrev pub token_of : Lexeme → Token
token_of x = record { rule = x.rule; place = x.place; length = x.length }

abbrev pub end_of : Ending → End
end_of Done = done
end_of (Stuck place) = fails place

-- The length and the rule of the longest accepted beginning of w, or none where no beginning is accepted.
abbrev pub TellsLongest : Table → List ℕ → Option (ℕ × ℕ) → Type 0
TellsLongest t w answer =
    MatchOption answer ((n : ℕ) → Accepted t w n → ⊥)
    (λ found. Longest t w found.0 × (found.1 ≡ t.label (state_at t w found.0)))

-- Munch of the bytes w was written into a list at least as long: its tokens stand at the front, and behind them the list
-- is as it was.
pub record MunchedInto (t : Table) (w : List ℕ) (before after : List Lexeme) (given : Munched) : Type 0 where
  pub fits : length w ≤ length before
  pub within : given.count ≤ length after
  pub munch : Munch t 0 w (map token_of (take given.count after)) (end_of given.ending)
  pub rest : drop given.count after ≡ drop given.count before
