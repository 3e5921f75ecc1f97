-- What a queue answers.
use Rattle.std.specs.Prelude.{◌≡◌, ℕ, length, Ok, Err, Result}
use Rattle.std.specs.List.{slice_get}
use Rattle.queues.specs.Queue.{Held, Put, Dropped}
use Rattle.queues.specs.declared.refusals.PutRefusal.{PutRefusal}
use Rattle.queues.specs.declared.refusals.DropRefusal.{DropRefusal}
use Rattle.script.specs.declared.request.Request.{Request}
use Rattle.script.specs.declared.request.Request.TheVariants as request
use Rattle.session.specs.declared.answer.Answer.{Answer}
use Rattle.session.specs.declared.answer.Answer.TheVariants as answer

-- What a call that may be refused answers.
abbrev pub done_or : {E : Type 0} → (E → Answer) → Result (Unit {0}) E → Answer
done_or refused (Ok _) = answer.Done
done_or refused (Err f) = refused f

-- A queue that means q answers a to a request, and then means r.
abbrev pub Replies : Held ℕ → Request → Answer → Held ℕ → Type 0
Replies q request.Count a r = (a ≡ answer.Count (length q.items)) × (r ≡ q)
Replies q request.Limit a r = (a ≡ answer.Limit q.limit) × (r ≡ q)
Replies q (request.Element place) a r = (a ≡ answer.Element (slice_get q.items place)) × (r ≡ q)
Replies q (request.Put byte) a r = (b : Result (Unit {0}) PutRefusal) × Put q byte b r × (a ≡ done_or answer.NotPut b)
Replies q (request.Drop count) a r = (b : Result (Unit {0}) DropRefusal) × Dropped q count b r × (a ≡ done_or answer.NotDropped b)
