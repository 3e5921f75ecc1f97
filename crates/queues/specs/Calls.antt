-- Calls on a queue, one after another, and what they answer.
use Rattle.std.specs.Prelude.{◌≡◌, ℕ, List, [], ◌∷◌, length, Ok, Err, Option, Result}
use Rattle.std.specs.List.{slice_get}
use Rattle.queues.specs.declared.refusals.PutRefusal.{PutRefusal}
use Rattle.queues.specs.declared.refusals.DropRefusal.{DropRefusal}
use Rattle.queues.specs.Queue.{Held, Put, Dropped}
use Rattle.queues.specs.Refusals.{put_told, drop_told}

module _ (T : Type 0) where
  pub data Call : Type 0 where
    count : Call
    limit : Call
    element : ℕ → Call
    put : T → Call
    drop_front : ℕ → Call

  -- What a call answers, but for the letter of a full queue: a refusal by its number.
  abbrev pub Answer : Call → Type 0
  Answer count = ℕ
  Answer limit = ℕ
  Answer (element place) = Option T
  Answer (put x) = Result (Unit {0}) ℕ
  Answer (drop_front k) = Result (Unit {0}) ℕ

  abbrev pub put_number : Result (Unit {0}) PutRefusal → Result (Unit {0}) ℕ
  put_number (Ok x) = Ok x
  put_number (Err f) = Err (put_told f).number

  abbrev pub drop_number : Result (Unit {0}) DropRefusal → Result (Unit {0}) ℕ
  drop_number (Ok x) = Ok x
  drop_number (Err f) = Err (drop_told f).number

  -- A call on a queue that means q answers a, and the queue then means r: as the contracts of a queue say.
  abbrev pub Answers : Held T → (c : Call) → Answer c → Held T → Type 0
  Answers q count a r = (a ≡ length q.items) × (r ≡ q)
  Answers q limit a r = (a ≡ q.limit) × (r ≡ q)
  Answers q (element place) a r = (a ≡ slice_get q.items place) × (r ≡ q)
  Answers q (put x) a r = (b : Result (Unit {0}) PutRefusal) × Put q x b r × (a ≡ put_number b)
  Answers q (drop_front k) a r = (b : Result (Unit {0}) DropRefusal) × Dropped q k b r × (a ≡ drop_number b)

  -- The answers to calls, in their order.
  abbrev pub AnswersTo : List Call → Type 0
  AnswersTo [] = Unit {0}
  AnswersTo (c ∷ cs) = Answer c × AnswersTo cs

  -- The calls, one after another, turn a queue that means q into one that means r.
  abbrev pub Run : Held T → (cs : List Call) → AnswersTo cs → Held T → Type 0
  Run q [] xs r = r ≡ q
  Run q (c ∷ cs) xs r = (m : Held T) × Answers q c xs.0 m × Run m cs xs.1 r

  -- Two queues have equal lists and limits.
  pub record Equal (p q : Held T) : Type 0 where
    pub items : p.items ≡ q.items
    pub limit : p.limit ≡ q.limit

  -- Started with equal lists and limits, the same calls get the same answers from two queues of any kinds,
  -- and leave them with equal lists and limits.
  abbrev pub Alike : Type 0
  Alike =
      (cs : List Call) (xs ys : AnswersTo cs) (p q p' q' : Held T) → Equal p q → Run p cs xs p' → Run q cs ys q' → (xs ≡ ys) × Equal p' q'
