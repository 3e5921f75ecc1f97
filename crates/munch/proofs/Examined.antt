-- The tables of the examples, the test of all examples, and how late tokens can be by either table.
use Rattle.std.proofs.Common.{◌≡◌, ℕ, Bool, true, ◌&&◌, List, [], ◌∷◌, codes, refl, lit<}
use Rattle.std.proofs.lemmas.Bool.{and_parts}
use Rattle.tables.proofs.Closing.{share_tells_rightly}
use Rattle.tables.specs.Openness.{TellsRightly}
use Rattle.tables.specs.Share.{share_marks, share_table}
use Rattle.tables.specs.Table.{Sound}
use Rattle.munch.specs.Examples.{AllHold, Example, ExamplesLaw, Rules, examples, share, table_of, tail, tail_marks, tail_table}
use Rattle.munch.specs.Laws.{Charts}
use Rattle.munch.specs.Reach.{NoReach, Reach}
use Rattle.munch.proofs.Bounding.{most_shown, reach_shown, silent_shown, token_shown}
use Rattle.munch.proofs.Charting.{right_shown, sound_shown}
use Rattle.munch.proofs.Rounding.{rounds}
use Rattle.munch.proofs.Rows.{row_shown, row_test}

tail_sound : Sound tail_table
tail_sound = sound_shown tail_table refl

pub tail_right : TellsRightly tail_table tail_marks
tail_right = right_shown tail_table tail_marks (codes "acc") tail_sound refl

abbrev marks_of : Rules → ℕ → Bool
marks_of share = share_marks
marks_of tail = tail_marks

charts : (r : Rules) → Charts (table_of r) (marks_of r)
charts share = record { sound = sound_shown share_table refl; right = share_tells_rightly }
charts tail = record { sound = tail_sound; right = tail_right }

-- every example of a list passes
abbrev all_pass : List Example → Bool
all_pass [] = true
all_pass (e ∷ es) = row_test (table_of e.rules) (marks_of e.rules) e && all_pass es

all_hold : (es : List Example) → all_pass es ≡ true → AllHold es
all_hold [] passes = tt
all_hold (e ∷ es) passes =
    let both = and_parts _ _ passes in
    (row_shown (table_of e.rules) (marks_of e.rules) (charts e.rules) e both.0, all_hold es both.1)

pub examples_hold : ExamplesLaw
examples_hold = all_hold examples refl

pub share_reach : Reach share_table 2
share_reach = record {
  most = most_shown share_table share_marks (charts share) 2 refl;
  met = λ _. reach_shown share_table share_marks (charts share) (codes "1") (codes ".x") refl;
}

pub tail_endless : NoReach tail_table
tail_endless = (rounds tail_table tail_sound).endless (record {
  first = codes "a";
  second = codes "b";
  loop = codes "b";
  words = record {
    token = token_shown tail_table (codes "a") refl;
    opened = (tail_right 1 (lit< tt)).0 refl;
    into = silent_shown tail_table tail_marks (charts tail) 1 (codes "b") refl;
    round = silent_shown tail_table tail_marks (charts tail) 2 (codes "b") refl;
    back = refl;
  };
})
