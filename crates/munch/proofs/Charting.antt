-- A test of a table and its marks: the table is sound, and its open states are told rightly.
use Rattle.std.proofs.Common.{◌≡◌, ℕ, ◌<◌, Bool, true, false, cond, not, ◌&&◌, ltb, leb, List, [], ◌∷◌, length, get_or, sym, ◌∙◌, ⊎_elim, arith}
use Rattle.std.proofs.lemmas.Bool.{and_parts, cases_Bool, cond-false, cond-true, eqb-true, leb-true, ltb-true, not-true}
use Rattle.tables.specs.Openness.{Open, TellsRightly, Word, walk}
use Rattle.tables.specs.Table.{Sound, Table}
use Rattle.munch.proofs.Testing.{accepts_shown, all_below, below, quiet}

module _ (t : Table) where
  abbrev inside_test : ℕ → Bool
  inside_test s = ltb (t.label s) 256 && all_below (λ b. ltb (t.next s b) t.states) 256

  abbrev pub sound_test : Bool
  sound_test = (leb 1 t.states && leb t.states 128) && all_below inside_test t.states

  pub sound_shown : sound_test ≡ true → Sound t
  sound_shown passes =
      let both = and_parts _ _ passes in
      let size = and_parts _ _ both.0 in
      let at : (s : ℕ) → s < t.states → inside_test s ≡ true = below inside_test t.states both.1 in
      record {
        some = leb-true 1 t.states size.0;
        few = leb-true t.states 128 size.1;
        inside = λ s b less byte.
            ltb-true (t.next s b) t.states (below (λ c. ltb (t.next s c) t.states) 256 (and_parts _ _ (at s less)).1 b byte);
        labels = λ s less. ltb-true (t.label s) 256 (and_parts _ _ (at s less)).0;
      }

  -- A byte for each state: from a state that is told to be open it leads to an accepting one. From a state that is told
  -- to be closed every byte leads to such a state, which does not accept.
  module _ (marks : ℕ → Bool) (openers : List ℕ) where
    abbrev open_test : ℕ → Bool
    open_test s = ltb (get_or openers s 0) 256 && not (quiet t (t.next s (get_or openers s 0)))

    abbrev leads_test : ℕ → ℕ → Bool
    leads_test s b = not (marks (t.next s b)) && quiet t (t.next s b)

    abbrev shut_test : ℕ → Bool
    shut_test s = all_below (leads_test s) 256

    abbrev pub marks_test : Bool
    marks_test = all_below (λ s. cond (marks s) (open_test s) (shut_test s)) t.states

    module _ (sound : Sound t) (passes : marks_test ≡ true) where
      opened : (s : ℕ) → s < t.states → marks s ≡ true → Open t s
      opened s less told =
          let parts = and_parts _ _ (sym (cond-true (marks s) (open_test s) (shut_test s) told) ∙ below _ t.states passes s less) in
          record {
            by = get_or openers s 0 ∷ [];
            word = (ltb-true _ 256 parts.0, tt);
            some = omega arith;
            accepted = accepts_shown t (t.next s (get_or openers s 0)) parts.1;
          }

      leads : (s b : ℕ) → s < t.states → b < 256 → marks s ≡ false → leads_test s b ≡ true
      leads s b less byte told =
          below (leads_test s) 256 (sym (cond-false (marks s) (open_test s) (shut_test s) told) ∙ below _ t.states passes s less) b byte

      closed : (s : ℕ) (w : List ℕ) → s < t.states → marks s ≡ false → Word w → 0 < length w → t.label (walk t s w) ≡ 0
      closed s [] less told word some = absurd (omega arith)
      closed s (b ∷ []) less told word some = eqb-true (t.label (t.next s b)) 0 (and_parts _ _ (leads s b less word.0 told)).1
      closed s (b ∷ c ∷ w) less told word some =
          closed (t.next s b) (c ∷ w) (sound.inside s b less word.0) (not-true (marks (t.next s b)) (and_parts _ _ (leads s b less word.0 told)).0) word.1 (omega arith)

      pub right_shown : TellsRightly t marks
      right_shown s less = (
        opened s less,
        λ o. ⊎_elim (λ told. told) (λ told. absurd (o.accepted (closed s o.by less told o.word o.some))) (cases_Bool (marks s)),
      )
