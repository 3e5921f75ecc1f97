use Rattle.std.proofs.Common.{vec_items}
use Rattle.script.proofs.Pairing.{Sofar}
use Rattle.script.proofs.hex.hex_bytes.Given as goal

abbrev pub invariant-loop-byte : goal.invariant-loop-byte
invariant-loop-byte l = Sofar l.line (vec_items l.bytes) l.high l.byte-index
