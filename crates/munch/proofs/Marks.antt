-- Every rule table has marks that tell rightly which states are open: a word that opens a state can be cut down to as
-- many bytes as there are states, and such words can be searched.
use Rattle.std.proofs.Common.{◌≡◌, ℕ, zero, suc, ◌+◌, ◌-◌, ◌<◌, ◌≤◌, Bool, true, false, ◌⊎◌, List, [], ◌∷◌, ◌++◌, length, take, drop, Decides, sym, refl, ap, ◌∙◌, subst, inl, inr, ⊎_elim, arith}
use Rattle.std.proofs.lemmas.List.{length-append, length-drop, length-take-le, take-append-drop}
use Rattle.std.proofs.lemmas.Bool.{cases_eq, cases_lt, both_ways}
use Rattle.tables.specs.Openness.{Accepts, Open, TellsRightly, Word, walk}
use Rattle.tables.specs.Table.{Sound, Table}
use Rattle.munch.specs.Laws.{MarksLaw}
use Rattle.munch.proofs.Repeats.{find, repeats}
use Rattle.tables.proofs.Walking.{walk_append, walk_inside, word_append, word_drop, word_take}

-- a test for what can be decided
told : {P : Type 0} → P ⊎ (P → ⊥) → Bool
told (inl has) = true
told (inr lacks) = false

told_right : {P : Type 0} (d : P ⊎ (P → ⊥)) → Decides (told d) P
unfolding told
told_right (inl has) = (λ e. has, λ h. refl)
told_right (inr lacks) = (λ e. absurd (both_ways false refl e), λ h. absurd (lacks h))

either : {P Q : Type 0} → P ⊎ (P → ⊥) → Q ⊎ (Q → ⊥) → (P ⊎ Q) ⊎ (P ⊎ Q → ⊥)
either (inl p) second = inl (inl p)
either (inr none) (inl q) = inl (inr q)
either (inr none) (inr neither) = inr (λ some. ⊎_elim none neither some)

module _ (t : Table) where
  -- a state is opened by a word of at most so many bytes
  record Within (k s : ℕ) : Type 0 where
    by : Open t s
    few : length by.by ≤ k

  accepts_or_not : (s : ℕ) → Accepts t s ⊎ (Accepts t s → ⊥)
  accepts_or_not s = ⊎_elim (λ none. inr (λ accepts. accepts none)) (λ some. inl some) (cases_eq (t.label s) 0)

  -- a byte leads to an accepting state, or to one that fewer bytes open
  abbrev Leads : ℕ → ℕ → ℕ → Type 0
  Leads k s b = Accepts t (t.next s b) ⊎ Within k (t.next s b)

  leads_within : (k s b : ℕ) → b < 256 → Leads k s b → Within (suc k) s
  leads_within k s b byte (inl accepts) = record { by = record { by = b ∷ []; word = (byte, tt); some = omega arith; accepted = accepts }; few = omega arith }
  leads_within k s b byte (inr on) = record { by = record { by = b ∷ on.by.by; word = (byte, on.by.word); some = omega arith; accepted = on.by.accepted }; few = omega (arith, on.few) }

  within_leads : (k s : ℕ) → Within (suc k) s → (b : ℕ) × (b < 256) × Leads k s b
  within_leads k s w = by_word w.by.by w.by.word w.by.some w.by.accepted w.few
    where
      by_word : (w : List ℕ) → Word w → 0 < length w → Accepts t (walk t s w) → length w ≤ suc k → (b : ℕ) × (b < 256) × Leads k s b
      by_word [] word some accepts few = absurd (omega arith)
      by_word (b ∷ []) word some accepts few = (b, word.0, inl accepts)
      by_word (b ∷ c ∷ w) word some accepts few = (b, word.0, inr (record { by = record { by = c ∷ w; word = word.1; some = omega arith; accepted = accepts }; few = omega arith }))

  within_or_not : (k s : ℕ) → Within k s ⊎ (Within k s → ⊥)
  within_or_not zero s = inr (λ w. omega (arith, w.few, w.by.some))
  within_or_not (suc k) s =
      ⊎_elim
      (λ found. inl (leads_within k s found.0 found.1 found.2))
      (λ none. inr (λ w. let first = within_leads k s w in none first.0 first.1 first.2))
      (find (Leads k s) (λ b. either (accepts_or_not (t.next s b)) (within_or_not k (t.next s b))) 256)

  -- a word without the bytes between two visits of one state leads to the same end
  walk_short : (s : ℕ) (w : List ℕ) (i j : ℕ) → walk t s (take i w) ≡ walk t s (take j w) → walk t s (take i w ++ drop j w) ≡ walk t s w
  walk_short s w i j same =
      walk_append t s (take i w) (drop j w)
      ∙ ap (λ q. walk t q (drop j w)) same
      ∙ sym (walk_append t s (take j w) (drop j w))
      ∙ ap (walk t s) (take-append-drop j w)

  module _ (sound : Sound t) where
    shorten : (n s : ℕ) (w : List ℕ) → s < t.states → Word w → 0 < length w → Accepts t (walk t s w) → length w ≤ n → Within t.states s
    shorten zero s w inside word some accepts few = absurd (omega arith)
    shorten (suc n) s w inside word some accepts few =
        ⊎_elim
        (λ more.
        let two = repeats t.states (λ i. walk t s (take i w)) (λ i _. walk_inside t sound s (take i w) inside (word_take i w word)) in
        let i = two.earlier in
        let j = two.later in
        let less : i < j = two.less in
        let most : j ≤ t.states = two.inside in
        let short = take i w ++ drop j w in
        let long : length short ≡ i + (length w - j) = length-append (take i w) (drop j w) ∙ omega (arith, length-take-le i w (omega arith), length-drop j w) in
        shorten n s short inside (word_append (take i w) (drop j w) (word_take i w word) (word_drop j w word)) (omega arith)
        (subst (λ q. Accepts t q) (sym (walk_short s w i j two.same)) accepts) (omega arith))
        (λ enough. record { by = record { by = w; word = word; some = some; accepted = accepts }; few = enough })
        (cases_lt t.states (length w))

    open_within : (s : ℕ) → s < t.states → Open t s → Within t.states s
    open_within s inside o = shorten (length o.by) s o.by inside o.word o.some o.accepted (omega arith)

    right : TellsRightly t (λ s. told (within_or_not t.states s))
    right s inside =
        let both = told_right (within_or_not t.states s) in
        (λ yes. (both.0 yes).by, λ o. both.1 (open_within s inside o))

pub right_marks : MarksLaw
right_marks t sound = ((λ s. told (within_or_not t t.states s)), right t sound)
