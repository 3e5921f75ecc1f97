-- What is printed: the text of a call, and of a mistake.
use Rattle.std.specs.Prelude.{ℕ, List, ◌++◌, vec_len, codes, decimal}
use Rattle.script.specs.declared.command.Command.{Command}
use Rattle.script.specs.declared.command.Command.TheVariants as command
use Rattle.script.specs.declared.command.Question.{Question}
use Rattle.script.specs.declared.command.Question.TheVariants as question
use Rattle.script.specs.declared.mistake.Mistake.{Mistake}
use Rattle.script.specs.declared.mistake.Mistake.TheVariants.{NoSuchCommand, TooFewWords, TooManyWords, NotANumber, NotAByte, NoSuchKind, TooMuchMemory, NotHexadecimal}
use Rattle.script.specs.declared.request.Request.{Request}
use Rattle.script.specs.declared.request.Request.TheVariants as request
use Rattle.script.specs.Kinds.{kind_spelled}

abbrev pub mistake_text : Mistake → List ℕ
mistake_text NoSuchCommand = codes "no such command"
mistake_text TooFewWords = codes "too few words"
mistake_text TooManyWords = codes "too many words"
mistake_text NotANumber = codes "not a number"
mistake_text NotAByte = codes "not a byte"
mistake_text NoSuchKind = codes "no such kind"
mistake_text TooMuchMemory = codes "too much memory"
mistake_text NotHexadecimal = codes "not hexadecimal"

abbrev pub question_text : Question → List ℕ
question_text question.States = codes "states"
question_text (question.Next state byte) = codes "next " ++ (decimal state ++ (codes " " ++ decimal byte))
question_text (question.Label state) = codes "label " ++ decimal state
question_text (question.Search from to) = codes "search " ++ (decimal from ++ (codes " " ++ decimal to))
question_text question.Find = codes "find"

abbrev pub request_text : Request → List ℕ
request_text request.Count = codes "count"
request_text request.Limit = codes "limit"
request_text (request.Element place) = codes "element " ++ decimal place
request_text (request.Put byte) = codes "put " ++ decimal byte
request_text (request.Drop count) = codes "drop " ++ decimal count

abbrev pub call_text : Command → List ℕ
call_text command.Share = codes "share"
call_text (command.Load image) = codes "load " ++ (decimal (vec_len image) ++ codes " bytes")
call_text command.Table = codes "table"
call_text (command.Ask q) = question_text q
call_text (command.Open state) = codes "open " ++ decimal state
call_text (command.Make m) = codes "queue " ++ (kind_spelled m.kind ++ (codes " " ++ decimal m.length))
call_text (command.Queue r) = request_text r
