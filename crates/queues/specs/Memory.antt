-- How a ring and a straight queue keep their elements in memory.
use Rattle.std.specs.Prelude.{ℕ, min, List, ◌++◌, length, take, drop}
use Rattle.queues.specs.Queue.{Held}

-- The letters of the two kinds: R and S.
abbrev pub ring_letter : ℕ
ring_letter = 82

abbrev pub straight_letter : ℕ
straight_letter = 83

module _ {T : Type 0} where
  -- The limit of a queue over this memory: its length, and at most 1,048,576.
  abbrev pub limit_of : List T → ℕ
  limit_of memory = min (length memory) 1048576

  -- The memory in use, read from the head to its end and on from its front.
  abbrev pub turned : List T → ℕ → List T
  turned memory head = drop head (take (limit_of memory) memory) ++ take head memory

  -- What a ring means: as many elements as it counts, from the head on.
  abbrev pub ring_held : List T → ℕ → ℕ → Held T
  ring_held memory head count = record { items = take count (turned memory head); limit = limit_of memory; letter = ring_letter }

  -- What a straight queue means: its elements are the first of the memory.
  abbrev pub straight_held : List T → ℕ → Held T
  straight_held memory count = record { items = take count memory; limit = limit_of memory; letter = straight_letter }
