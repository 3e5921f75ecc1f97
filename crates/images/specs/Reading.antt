-- How the byte reader goes over an image.
use Rattle.std.specs.Prelude.{◌≡◌, ℕ, ◌+◌, ◌<◌, ◌≤◌, List, length, Result, MatchResult}
use Rattle.images.specs.declared.faults.EndsEarly.{EndsEarly}

-- An image, and the place that the reader has come to.
pub record Reading : Type 0 where
  pub image : List ℕ
  pub place : ℕ

-- The same image, n bytes further on.
abbrev pub onward : Reading → ℕ → Reading
onward r n = record { image = r.image; place = r.place + n }

-- The reader went over n bytes, and gave a value with P; or they are not all there, and it told so and stayed.
abbrev pub Passed : {X : Type 0} → Reading → ℕ → Result X EndsEarly → Reading → (X → Type 0) → Type 0
Passed before n r after P =
    MatchResult r (λ x. P x × (before.place + n ≤ length before.image) × (after ≡ onward before n))
    (λ f. (length before.image < before.place + n) × (f.length ≡ length before.image) × (after ≡ before))
