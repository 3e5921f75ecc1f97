-- The kinds of queues, and how they are spelled.
use Rattle.std.specs.List.{find}
use Rattle.std.specs.Prelude.{ℕ, List, [], ◌∷◌, codes, Option}
use Rattle.std.specs.Str.{bytes_eq}
use Rattle.script.specs.declared.request.QueueKind.{QueueKind}
use Rattle.script.specs.declared.request.QueueKind.TheVariants.{Ring, Straight}

abbrev pub kind_spelled : QueueKind → List ℕ
kind_spelled Ring = codes "ring"
kind_spelled Straight = codes "straight"

abbrev pub kinds : List QueueKind
kinds = Ring ∷ Straight ∷ []

-- The kind that a word spells.
abbrev pub kind_of : List ℕ → Option QueueKind
kind_of word = find (λ kind. bytes_eq word (kind_spelled kind)) kinds
