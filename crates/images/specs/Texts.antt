-- What a fault of an image says.
use Rattle.std.specs.Prelude.{ℕ, List, codes}
use Rattle.images.specs.declared.faults.EndsEarly.{EndsEarly}
use Rattle.images.specs.declared.faults.LoadFault.{LoadFault}
use Rattle.images.specs.declared.faults.LoadFault.TheVariants.{Read, Classes, States, StepCount, NextState, LeftOver}

abbrev pub early_text : EndsEarly → List ℕ
early_text fault = codes "image ends early"

-- A fault in words, without its place.
abbrev pub fault_text : LoadFault → List ℕ
fault_text (Read fault) = early_text fault
fault_text (Classes place) = codes "first count not 256, or class above 63"
fault_text (States place) = codes "number of states 0 or above 128"
fault_text (StepCount place) = codes "third count not states times classes"
fault_text (NextState place) = codes "next state not below the number of states"
fault_text (LeftOver place) = codes "bytes left over"
