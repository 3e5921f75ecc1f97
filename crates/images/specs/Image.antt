-- Images: how the bytes of an image write down a rule table, and what can be wrong with them.
use Rattle.std.specs.Prelude.{◌≡◌, ℕ, ◌+◌, ◌*◌, ◌<◌, ◌≤◌, max, ◌⊎◌, List, [], ◌∷◌, length, take, drop, slice_index}
use Rattle.tables.specs.Table.{Table, Same}
use Rattle.images.specs.declared.faults.LoadFault.{LoadFault}
use Rattle.images.specs.declared.faults.LoadFault.TheVariants.{Read, Classes, States, StepCount, NextState, LeftOver}

-- A count is two bytes, the high byte first.
abbrev pub count_at : List ℕ → ℕ → ℕ
count_at image p = slice_index image p * 256 + slice_index image (p + 1)

abbrev pub largest : List ℕ → ℕ
largest [] = 0
largest (x ∷ xs) = max x (largest xs)

-- The class of a byte, the number of classes (1 more than the largest class), and the number of states.
abbrev pub class_of_byte : List ℕ → ℕ → ℕ
class_of_byte image b = slice_index image (2 + b)

abbrev pub number_of_classes : List ℕ → ℕ
number_of_classes image = 1 + largest (take 256 (drop 2 image))

abbrev pub number_of_states : List ℕ → ℕ
number_of_states image = count_at image 258

-- The entries of an image: three sections, each after its count, and then the image's end.
pub data Entry : Type 0 where
  class_count : Entry
  class : Entry
  state_count : Entry
  label : Entry
  step_count : Entry
  step : Entry
  end : Entry

-- The place behind all labels, and the place behind all steps.
abbrev pub labels_end : List ℕ → ℕ
labels_end image = 260 + number_of_states image

abbrev pub steps_end : List ℕ → ℕ
steps_end image = labels_end image + 2 + number_of_states image * number_of_classes image

-- An entry of this kind stands at place p.
abbrev pub Stands : List ℕ → Entry → ℕ → Type 0
Stands image class_count p = p ≡ 0
Stands image class p = (2 ≤ p) × (p < 258)
Stands image state_count p = p ≡ 258
Stands image label p = (260 ≤ p) × (p < labels_end image)
Stands image step_count p = p ≡ labels_end image
Stands image step p = (labels_end image + 2 ≤ p) × (p < steps_end image)
Stands image end p = p ≡ steps_end image

-- How many bytes an entry has.
abbrev pub size : Entry → ℕ
size class_count = 2
size class = 1
size state_count = 2
size label = 1
size step_count = 2
size step = 1
size end = 0

-- What is asked of the entry at place p.
abbrev pub Right : List ℕ → Entry → ℕ → Type 0
Right image class_count p = count_at image p ≡ 256
Right image class p = slice_index image p ≤ 63
Right image state_count p = (1 ≤ count_at image p) × (count_at image p ≤ 128)
Right image label p = Unit {0}
Right image step_count p = count_at image p ≡ number_of_states image * number_of_classes image
Right image step p = slice_index image p < number_of_states image
Right image end p = length image ≡ p

-- The entry at place p is there whole, and is as it should be.
pub record InOrder (image : List ℕ) (e : Entry) (p : ℕ) : Type 0 where
  pub whole : p + size e ≤ length image
  pub right : Right image e p

-- Every entry that stands before place p is in order.
abbrev pub OrderlyBefore : List ℕ → ℕ → Type 0
OrderlyBefore image p = (e : Entry) (q : ℕ) → Stands image e q → q < p → InOrder image e q

-- Every entry is in order.
abbrev pub Orderly : List ℕ → Type 0
Orderly image = (e : Entry) (q : ℕ) → Stands image e q → InOrder image e q

-- The image writes down the table t.
pub record WritesDown (image : List ℕ) (t : Table) : Type 0 where
  pub orderly : Orderly image
  pub states : t.states ≡ number_of_states image
  pub labels : (s : ℕ) → s < t.states → t.label s ≡ slice_index image (260 + s)
  pub steps : (s b : ℕ) → s < t.states → b < 256 → t.next s b ≡ slice_index image (labels_end image + 2 + (s * number_of_classes image + class_of_byte image b))

-- All before place p is in order, and the image ends before the entry at p is whole.
pub record CutAt (image : List ℕ) (e : Entry) (p : ℕ) : Type 0 where
  pub stands : Stands image e p
  pub before : OrderlyBefore image p
  pub cut : length image < p + size e

-- All before place p is in order, and the entry at p is there whole and not as it should be.
pub record WrongAt (image : List ℕ) (e : Entry) (p : ℕ) : Type 0 where
  pub stands : Stands image e p
  pub before : OrderlyBefore image p
  pub whole : p + size e ≤ length image
  pub wrong : Right image e p → ⊥

-- The image has this fault.
abbrev pub HasFault : List ℕ → LoadFault → Type 0
HasFault image (Read f) = (f.length ≡ length image) × ((e : Entry) × (p : ℕ) × CutAt image e p)
HasFault image (Classes p) = WrongAt image class_count p ⊎ WrongAt image class p
HasFault image (States p) = WrongAt image state_count p
HasFault image (StepCount p) = WrongAt image step_count p
HasFault image (NextState p) = WrongAt image step p
HasFault image (LeftOver p) = WrongAt image end p

-- The image writes down a table, or it has a fault.
abbrev pub HasVerdict : List ℕ → Type 0
HasVerdict image = ((t : Table) × WritesDown image t) ⊎ ((f : LoadFault) × HasFault image f)

-- Of every image exactly one holds: it writes down a table, or it has one of the six faults, and no other;
-- and it writes down at most one table.
pub record Verdicts (image : List ℕ) : Type 0 where
  pub one : HasVerdict image
  pub not_both : (t : Table) (f : LoadFault) → WritesDown image t → HasFault image f → ⊥
  pub one_fault : (f g : LoadFault) → HasFault image f → HasFault image g → f ≡ g
  pub one_table : (t u : Table) → WritesDown image t → WritesDown image u → Same t u
