-- What a refusal of a queue says.
use Rattle.std.specs.Prelude.{ℕ, List, codes}
use Rattle.queues.specs.declared.refusals.PutRefusal.{PutRefusal}
use Rattle.queues.specs.declared.refusals.PutRefusal.TheVariants.{Full}
use Rattle.queues.specs.declared.refusals.DropRefusal.{DropRefusal}
use Rattle.queues.specs.declared.refusals.DropRefusal.TheVariants.{BeyondCount}

abbrev pub put_refusal_text : PutRefusal → List ℕ
put_refusal_text (Full letter) = codes "queue full"

abbrev pub drop_refusal_text : DropRefusal → List ℕ
drop_refusal_text BeyondCount = codes "drop beyond the count"
