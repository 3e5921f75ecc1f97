-- What each fault of an image tells: its number, its layer and a place.
use Rattle.std.specs.Prelude.{ℕ}
use Rattle.images.specs.declared.faults.Layer.{Layer}
use Rattle.images.specs.declared.faults.Layer.TheVariants.{Reader, Loader}
use Rattle.images.specs.declared.faults.LoadFault.{LoadFault}
use Rattle.images.specs.declared.faults.LoadFault.TheVariants.{Read, Classes, States, StepCount, NextState, LeftOver}

pub record Told : Type 0 where
  pub number : ℕ
  pub layer : Layer
  pub place : ℕ

abbrev pub tells : ℕ → Layer → ℕ → Told
tells n l p = record { number = n; layer = l; place = p }

-- Where the image ends early, the place told is the image's length.
abbrev pub told : LoadFault → Told
told (Read fault) = tells 1 Reader fault.length
told (Classes place) = tells 2 Loader place
told (States place) = tells 3 Loader place
told (StepCount place) = tells 4 Loader place
told (NextState place) = tells 5 Loader place
told (LeftOver place) = tells 6 Loader place

-- A layer's letter: B for the byte reader, L for the loader.
abbrev pub letter_of : Layer → ℕ
letter_of Reader = 66
letter_of Loader = 76
