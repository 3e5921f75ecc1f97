-- What the words behind a command's name write.
use Rattle.std.specs.Prelude.{ℕ, cond, List, [], ◌∷◌, Ok, Err, Result, nat_lt}
use Rattle.std.specs.Option.{ok_or}
use Rattle.script.specs.declared.mistake.Mistake.{Mistake}
use Rattle.script.specs.declared.mistake.Mistake.TheVariants.{TooFewWords, TooManyWords, NotANumber, NotAByte, NoSuchKind, TooMuchMemory, NotHexadecimal}
use Rattle.script.specs.declared.request.Making.{Making}
use Rattle.script.specs.declared.request.QueueKind.{QueueKind}
use Rattle.script.specs.Hex.{hex_bytes}
use Rattle.script.specs.Kinds.{kind_of}
use Rattle.script.specs.Numbers.{number_of, byte_of}
use Rattle.script.specs.Reading.{and_then}
use Rattle.script.specs.Words.{joined}

-- As many words as are asked for.
abbrev pub no_operand : List (List ℕ) → Result (Unit {0}) Mistake
no_operand [] = Ok tt
no_operand (w ∷ ws) = Err TooManyWords

abbrev pub one_word : List (List ℕ) → Result (List ℕ) Mistake
one_word [] = Err TooFewWords
one_word (w ∷ []) = Ok w
one_word (w ∷ v ∷ ws) = Err TooManyWords

abbrev pub two_words : List (List ℕ) → Result (List ℕ × List ℕ) Mistake
two_words [] = Err TooFewWords
two_words (w ∷ []) = Err TooFewWords
two_words (w ∷ v ∷ []) = Ok (w, v)
two_words (w ∷ v ∷ u ∷ ws) = Err TooManyWords

-- One operand, and two: the words are counted first, and then read from left to right.
abbrev pub one : {X : Type 0} → (List ℕ → Result X Mistake) → List (List ℕ) → Result X Mistake
one reads ws = and_then (one_word ws) reads

abbrev pub two : {X Y : Type 0} → (List ℕ → Result X Mistake) → (List ℕ → Result Y Mistake) → List (List ℕ) → Result (X × Y) Mistake
two first second ws = and_then (two_words ws) (λ p. and_then (first p.0) (λ x. and_then (second p.1) (λ y. Ok (x, y))))

-- What a word writes: a number, a byte, a kind of queue.
abbrev pub number : List ℕ → Result ℕ Mistake
number w = ok_or (number_of w) NotANumber

abbrev pub byte : List ℕ → Result ℕ Mistake
byte w = ok_or (byte_of w) NotAByte

abbrev pub kind : List ℕ → Result QueueKind Mistake
kind w = ok_or (kind_of w) NoSuchKind

-- At most 2,097,152 bytes of memory.
abbrev pub making : QueueKind → ℕ → Result Making Mistake
making k n = cond (nat_lt 2097152 n) (Err TooMuchMemory) (Ok (record { kind = k; length = n }))

abbrev pub kind_and_length : List (List ℕ) → Result Making Mistake
kind_and_length ws = and_then (two kind number ws) (λ p. making p.0 p.1)

-- Any number of words, which write bytes together.
abbrev pub hex_operand : List (List ℕ) → Result (List ℕ) Mistake
hex_operand ws = ok_or (hex_bytes (joined ws)) NotHexadecimal
