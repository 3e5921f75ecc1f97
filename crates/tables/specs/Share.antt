-- The share table: the tokens of a list of motors and their shares of current.
use Rattle.std.specs.Prelude.{ℕ, Bool, cond, ◌&&◌, ◌||◌, List, [], ◌∷◌, ◌==◌, nat_le, nat_lt, slice_index}
use Rattle.tables.specs.Table.{Table}
use Rattle.tables.specs.declared.kinds.Kind.{Kind}
use Rattle.tables.specs.declared.kinds.Kind.TheVariants.{Digit, Letter, Blank, CarriageReturn, LineFeed, Percent, Point, Other}

-- low to high, both included
abbrev pub within : ℕ → ℕ → ℕ → Bool
within low high b = nat_le low b && nat_le b high

-- The kind of a byte: 0 to 9; A to Z and a to z; space and tab; CR; LF; %; the point; and all others.
abbrev pub kind_of : ℕ → Kind
kind_of b =
    cond (within 48 57 b) Digit
    (cond (within 65 90 b || within 97 122 b) Letter
    (cond (b == 32 || b == 9) Blank
    (cond (b == 13) CarriageReturn
    (cond (b == 10) LineFeed
    (cond (b == 37) Percent
    (cond (b == 46) Point Other))))))

-- Kinds by number, and whether two are the same.
abbrev pub code : Kind → ℕ
code Digit = 0
code Letter = 1
code Blank = 2
code CarriageReturn = 3
code LineFeed = 4
code Percent = 5
code Point = 6
code Other = 7

abbrev pub same : Kind → Kind → Bool
same a b = code a == code b

-- A step: from a state, on a kind of byte, to a state.
pub record Step : Type 0 where
  pub from : ℕ
  pub on : Kind
  pub to : ℕ

abbrev pub step : ℕ → Kind → ℕ → Step
step s k t = record { from = s; on = k; to = t }

-- The steps that the table names.
abbrev pub steps : List Step
steps =
    step 0 Digit 1 ∷ step 0 Letter 4 ∷ step 0 Blank 5 ∷ step 0 CarriageReturn 6 ∷ step 0 LineFeed 7 ∷ step 0 Percent 8 ∷ step 0 Point 9
    ∷ step 1 Digit 1 ∷ step 1 Point 2
    ∷ step 2 Digit 3
    ∷ step 3 Digit 3
    ∷ step 4 Letter 4 ∷ step 4 Digit 4
    ∷ step 5 Blank 5
    ∷ step 6 LineFeed 7
    ∷ []

-- Where a state goes on a kind by the steps of a list: to 10 if none of them says.
abbrev pub goes : ℕ → Kind → List Step → ℕ
goes s k [] = 10
goes s k (x ∷ xs) = cond (x.from == s && same x.on k) x.to (goes s k xs)

-- The labels of the states: 1 number, 2 name, 3 blank, 4 line end, 5 percent, 6 point.
abbrev pub labels : List ℕ
labels = 0 ∷ 1 ∷ 0 ∷ 1 ∷ 2 ∷ 3 ∷ 0 ∷ 4 ∷ 5 ∷ 6 ∷ 0 ∷ []

abbrev pub share_table : Table
share_table = record { states = 11; next = λ s b. goes s (kind_of b) steps; label = λ s. slice_index labels s }

-- The states that the table tells to be open: those from which a token can still grow.
abbrev pub share_marks : ℕ → Bool
share_marks s = nat_lt s 7
