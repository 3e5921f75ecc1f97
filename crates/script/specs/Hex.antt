-- Bytes, written in hexadecimal.
use Rattle.std.specs.Prelude.{ℕ, ◌+◌, ◌-◌, ◌*◌, Bool, cond, ◌&&◌, List, [], ◌∷◌, Some, None, Option, nat_le}

-- low to high, both included
abbrev pub within : ℕ → ℕ → ℕ → Bool
within low high b = nat_le low b && nat_le b high

-- The value of a digit: 0 to 9, a to f, A to F.
abbrev pub hex_digit : ℕ → Option ℕ
hex_digit b =
    cond (within 48 57 b) (Some (b - 48))
    (cond (within 97 102 b) (Some (b - 97 + 10))
    (cond (within 65 70 b) (Some (b - 65 + 10)) None))

-- A byte of two digits, the high one first, in front of others.
abbrev pub byte_before : Option ℕ → Option ℕ → Option (List ℕ) → Option (List ℕ)
byte_before (Some h) (Some l) (Some bytes) = Some ((h * 16 + l) ∷ bytes)
byte_before (Some h) (Some l) None = None
byte_before (Some h) None bytes = None
byte_before None l bytes = None

-- The bytes that digits write, two digits for each. An odd number of digits writes none.
abbrev pub hex_bytes : List ℕ → Option (List ℕ)
hex_bytes [] = Some []
hex_bytes (h ∷ []) = None
hex_bytes (h ∷ l ∷ ds) = byte_before (hex_digit h) (hex_digit l) (hex_bytes ds)
