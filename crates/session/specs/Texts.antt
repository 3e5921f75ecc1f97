-- What is printed: the text of an answer, and what comes of a line.
use Rattle.std.specs.Prelude.{ℕ, Bool, cond, List, [], ◌∷◌, ◌++◌, Some, None, codes, decimal, Option}
use Rattle.std.proofs.Math.Utf8.{encode}
use Rattle.cycles.specs.declared.found.Found.{Found}
use Rattle.cycles.specs.declared.found.Found.TheVariants.{Cycle, Longest}
use Rattle.graphs.specs.Texts.{route_text}
use Rattle.graphs.specs.declared.route.Route.{Route}
use Rattle.images.specs.Faults.{letter_of, told}
use Rattle.images.specs.Texts.{fault_text}
use Rattle.queues.specs.Refusals.{drop_told, full_letter, put_told}
use Rattle.script.specs.Texts.{call_text, mistake_text}
use Rattle.session.specs.declared.answer.Answer.{Answer}
use Rattle.session.specs.declared.answer.Answer.TheVariants as answer
use Rattle.session.specs.declared.answer.Hand.{Hand}
use Rattle.session.specs.declared.answer.Hand.TheVariants as hand
use Rattle.session.specs.declared.session.Outcome.{Outcome}
use Rattle.session.specs.declared.session.Outcome.TheVariants as outcome

abbrev pub hand_text : Hand → List ℕ
hand_text hand.Share = codes "share table"
hand_text hand.Loaded = codes "loaded table"

-- What a table told, or that it has no such state.
abbrev pub option_text : Option ℕ → List ℕ
option_text None = codes "none"
option_text (Some n) = decimal n

-- Whether a state is open, or that the table has no such state.
abbrev pub open_text : Option Bool → List ℕ
open_text None = codes "none"
open_text (Some is_open) = cond is_open (codes "yes") (codes "no")

-- A path, or that there is none.
abbrev pub path_text : Option Route → List ℕ
path_text None = codes "none"
path_text (Some p) = codes "path " ++ route_text p

-- A cycle, or a longest path.
abbrev pub found_text : Found → List ℕ
found_text (Cycle p) = codes "cycle " ++ route_text p
found_text (Longest p) = codes "longest path " ++ route_text p

abbrev pub answer_text : Answer → List ℕ
answer_text answer.Done = codes "ok"
answer_text (answer.Refused f) =
    codes "refused: " ++ (fault_text f ++ (codes " (layer " ++ (letter_of (told f).layer ∷ (codes ", number " ++ (decimal (told f).number ++ (codes ", place " ++ (decimal (told f).place ++ codes ")")))))))
answer_text (answer.InHand h states) = hand_text h ++ (codes ", states " ++ decimal states)
answer_text (answer.States states) = decimal states
answer_text (answer.Next o) = option_text o
answer_text (answer.Label o) = option_text o
answer_text (answer.Open o) = open_text o
answer_text (answer.Path o) = path_text o
answer_text (answer.Found f) = found_text f
answer_text (answer.Count n) = decimal n
answer_text (answer.Limit n) = decimal n
answer_text (answer.Element o) = option_text o
answer_text (answer.NotPut f) =
    codes "refused: queue full (number " ++ (decimal (put_told f).number ++ (codes ", letter " ++ (encode (full_letter f) ++ codes ")")))
answer_text (answer.NotDropped f) = codes "refused: drop beyond the count (number " ++ (decimal (drop_told f).number ++ codes ")")

-- What comes of the line with number n: a line of text, or nothing.
abbrev pub outcome_text : ℕ → Outcome → List ℕ
outcome_text n outcome.PassedOver = []
outcome_text n (outcome.Wrong m) = codes "line " ++ (decimal n ++ (codes ": " ++ (mistake_text m ++ (10 ∷ []))))
outcome_text n (outcome.Answered c a) = call_text c ++ (codes " -> " ++ (answer_text a ++ (10 ∷ [])))
