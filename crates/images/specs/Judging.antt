-- What the parts of the loader promise each other.
use Rattle.std.specs.Prelude.{◌≡◌, ℕ, ◌+◌, ◌*◌, ◌≤◌, List, length, Result, MatchResult}
use Rattle.images.specs.declared.faults.LoadFault.{LoadFault}
use Rattle.images.specs.Image.{OrderlyBefore, Orderly, HasFault, number_of_states, number_of_classes}
use Rattle.images.specs.Reading.{Reading}

-- The reader stands at place p, and all of the image before is in order.
pub record Reached (r : Reading) (p : ℕ) : Type 0 where
  pub place : r.place ≡ p
  pub orderly : OrderlyBefore r.image p

-- The loader judged the image on to place p, and gave r: a value with P, or the image's fault.
abbrev pub Judged : {X : Type 0} → Reading → ℕ → Result X LoadFault → Reading → (X → Type 0) → Type 0
Judged before p r after P =
    MatchResult r (λ x. P x × (after.image ≡ before.image) × Reached after p) (HasFault before.image)

-- The table of the image has n states and k classes, and no more than there can be.
pub record HasSize (image : List ℕ) (n k : ℕ) : Type 0 where
  pub states : n ≡ number_of_states image
  pub classes : k ≡ number_of_classes image
  pub few_states : n ≤ 128
  pub few_classes : k ≤ 64

-- The image is in order, and its table has n states and k classes.
pub record Measured (image : List ℕ) (n k : ℕ) : Type 0 where
  pub size : HasSize image n k
  pub long : length image ≡ 262 + n + n * k
  pub orderly : Orderly image
