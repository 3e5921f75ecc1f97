-- Words and walks: the parts of a word, and where they lead.
use Rattle.std.proofs.Common.{◌≡◌, ℕ, zero, suc, ◌<◌, List, [], ◌∷◌, ◌++◌, take, drop, refl}
use Rattle.tables.specs.Openness.{Word, walk}
use Rattle.tables.specs.Table.{Sound, Table}

pub word_take : (n : ℕ) (w : List ℕ) → Word w → Word (take n w)
word_take zero w word = tt
word_take (suc n) [] word = tt
word_take (suc n) (b ∷ w) word = (word.0, word_take n w word.1)

pub word_drop : (n : ℕ) (w : List ℕ) → Word w → Word (drop n w)
word_drop zero w word = word
word_drop (suc n) [] word = tt
word_drop (suc n) (b ∷ w) word = word_drop n w word.1

pub word_append : (u w : List ℕ) → Word u → Word w → Word (u ++ w)
word_append [] w first second = second
word_append (b ∷ u) w first second = (first.0, word_append u w first.1 second)

module _ (t : Table) where
  pub walk_append : (s : ℕ) (u w : List ℕ) → walk t s (u ++ w) ≡ walk t (walk t s u) w
  walk_append s [] w = refl
  walk_append s (b ∷ u) w = walk_append (t.next s b) u w

  pub walk_inside : Sound t → (s : ℕ) (w : List ℕ) → s < t.states → Word w → walk t s w < t.states
  walk_inside sound s [] inside word = inside
  walk_inside sound s (b ∷ w) inside word = walk_inside sound (t.next s b) w (sound.inside s b inside word.0) word.1
