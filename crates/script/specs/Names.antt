-- The names of the commands.
use Rattle.std.specs.List.{find}
use Rattle.std.specs.Prelude.{ℕ, List, [], ◌∷◌, codes, Option}
use Rattle.std.specs.Str.{bytes_eq}
use Rattle.script.specs.declared.name.Name.{Name}
use Rattle.script.specs.declared.name.Name.TheVariants.{Share, Load, Table, Ask, Open, Make, Queue}
use Rattle.script.specs.declared.name.Asked.TheVariants.{States, Next, Label, Search, Find}
use Rattle.script.specs.declared.name.Requested.TheVariants.{Count, Limit, Element, Put, Drop}

-- How a name is spelled.
abbrev pub spelled : Name → List ℕ
spelled Share = codes "share"
spelled Load = codes "load"
spelled Table = codes "table"
spelled (Ask States) = codes "states"
spelled (Ask Next) = codes "next"
spelled (Ask Label) = codes "label"
spelled (Ask Search) = codes "search"
spelled (Ask Find) = codes "find"
spelled Open = codes "open"
spelled Make = codes "queue"
spelled (Queue Count) = codes "count"
spelled (Queue Limit) = codes "limit"
spelled (Queue Element) = codes "element"
spelled (Queue Put) = codes "put"
spelled (Queue Drop) = codes "drop"

abbrev pub names : List Name
names =
    Share ∷ Load ∷ Table ∷ Ask States ∷ Ask Next ∷ Ask Label ∷ Ask Search ∷ Ask Find ∷ Open ∷ Make ∷ Queue Count ∷ Queue Limit ∷ Queue Element ∷ Queue Put ∷ Queue Drop ∷ []

-- The name that a word spells.
abbrev pub name_of : List ℕ → Option Name
name_of word = find (λ name. bytes_eq word (spelled name)) names
