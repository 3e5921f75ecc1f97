-- Every image writes down one table or has one fault.
use Rattle.std.proofs.Common.{◌≡◌, ℕ, zero, suc, ◌+◌, ◌*◌, ◌<◌, ◌≤◌, ◌⊎◌, List, length, get_or, sym, refl, ap, ◌∙◌, subst, inl, inr, ⊎_elim, arith}
use Rattle.std.proofs.lemmas.Bool.{cases_lt, cases_eq, cases_order}
use Rattle.images.specs.declared.faults.EndsEarly.{EndsEarly}
use Rattle.images.specs.declared.faults.LoadFault.{LoadFault}
use Rattle.images.specs.declared.faults.LoadFault.TheVariants.{Read, Classes, States, StepCount, NextState, LeftOver}
use Rattle.images.specs.Image.{Entry, class_count, class, state_count, label, step_count, step, end, count_at, class_of_byte, number_of_classes, number_of_states, labels_end, steps_end, Stands, size, Right, InOrder, Orderly, OrderlyBefore, WritesDown, CutAt, WrongAt, HasFault, HasVerdict, Verdicts}
use Rattle.tables.specs.Table.{Table, Same}
use Rattle.images.proofs.Entries.{same_entry, orderly_none, orderly_more}
use Rattle.images.proofs.Sections.{all_orderly}

-- the fault of an entry that is there and not right (nothing is asked of a label)
abbrev fault_of : Entry → ℕ → LoadFault
fault_of class_count p = Classes p
fault_of class p = Classes p
fault_of state_count p = States p
fault_of label p = LeftOver p
fault_of step_count p = StepCount p
fault_of step p = NextState p
fault_of end p = LeftOver p

abbrev early : ℕ → LoadFault
early n = Read (record { length = n })

module _ (image : List ℕ) where
  -- the first entry that is not in order
  record First (e : Entry) (p : ℕ) : Type 0 where
    stands : Stands image e p
    before : OrderlyBefore image p
    bad : InOrder image e p → ⊥

  -- a fault, by the entry at which it lies: that is cut, or it is wrong
  record Lies (f : LoadFault) : Type 0 where
    entry : Entry
    place : ℕ
    first : First entry place
    is : ((length image < place + size entry) × (f ≡ early (length image))) ⊎ ((place + size entry ≤ length image) × (f ≡ fault_of entry place))

  lies_cut : (f : EndsEarly) (e : Entry) (p : ℕ) → f.length ≡ length image → CutAt image e p → Lies (Read f)
  lies_cut f e p told c = record {
    entry = e;
    place = p;
    first = record { stands = c.stands; before = c.before; bad = λ o. omega (arith, c.cut, o.whole) };
    is = inl (c.cut, ap early told);
  }

  lies_wrong : (e : Entry) (p : ℕ) → WrongAt image e p → Lies (fault_of e p)
  lies_wrong e p w = record {
    entry = e;
    place = p;
    first = record { stands = w.stands; before = w.before; bad = λ o. w.wrong o.right };
    is = inr (w.whole, refl);
  }

  lies : (f : LoadFault) → HasFault image f → Lies f
  lies (Read f) h = lies_cut f h.1.0 h.1.1 h.0 h.1.2
  lies (Classes p) (inl w) = lies_wrong class_count p w
  lies (Classes p) (inr w) = lies_wrong class p w
  lies (States p) w = lies_wrong state_count p w
  lies (StepCount p) w = lies_wrong step_count p w
  lies (NextState p) w = lies_wrong step p w
  lies (LeftOver p) w = lies_wrong end p w

  same_first : (e f : Entry) (p q : ℕ) → First e p → First f q → p ≡ q
  same_first e f p q x y =
      ⊎_elim (λ same. same)
      (⊎_elim (λ less. absurd (x.bad (y.before e p x.stands less))) (λ more. absurd (y.bad (x.before f q y.stands more))))
      (cases_order p q)

  one_fault : (f g : LoadFault) → Lies f → Lies g → f ≡ g
  one_fault f g x y =
      let place = same_first x.entry y.entry x.place y.place x.first y.first in
      let entry = same_entry image x.entry y.entry y.place (subst (Stands image x.entry) place x.first.stands) y.first.stands in
      let length = ap size entry in
      ⊎_elim
      (λ cut. ⊎_elim (λ also. cut.1 ∙ sym also.1) (λ whole. absurd (omega (arith, cut.0, whole.0, length, place))) y.is)
      (λ whole. ⊎_elim (λ cut. absurd (omega (arith, cut.0, whole.0, length, place))) (λ also. whole.1 ∙ ap (λ e. fault_of e x.place) entry ∙ ap (fault_of y.entry) place ∙ sym also.1) y.is)
      x.is

  not_both : (t : Table) (f : LoadFault) → WritesDown image t → Lies f → ⊥
  not_both t f w x = x.first.bad (w.orderly x.entry x.place x.first.stands)

  one_table : (t u : Table) → WritesDown image t → WritesDown image u → Same t u
  one_table t u v w =
      let states = v.states ∙ sym w.states in
      record {
        states = states;
        next = λ s b hs hb. v.steps s b hs hb ∙ sym (w.steps s b (subst (λ n. s < n) states hs) hb);
        label = λ s h. v.labels s h ∙ sym (w.labels s (subst (λ n. s < n) states h));
      }

  -- ---- the verdict, from front to back
  right_or_wrong : (e : Entry) (p : ℕ) → Right image e p ⊎ (Right image e p → ⊥)
  right_or_wrong class_count p = cases_eq (count_at image p) 256
  right_or_wrong class p = ⊎_elim (λ h. inl (omega arith)) (λ h. inr (λ r. omega arith)) (cases_lt (get_or image p 0) 64)
  right_or_wrong state_count p =
      ⊎_elim (λ h. ⊎_elim (λ k. inl (omega arith, omega arith)) (λ k. inr (λ r. omega arith)) (cases_lt (count_at image p) 129)) (λ h. inr (λ r. omega arith)) (cases_lt 0 (count_at image p))
  right_or_wrong label p = inl tt
  right_or_wrong step_count p = cases_eq (count_at image p) (number_of_states image * number_of_classes image)
  right_or_wrong step p = ⊎_elim (λ h. inl h) (λ h. inr (λ r. omega arith)) (cases_lt (get_or image p 0) (number_of_states image))
  right_or_wrong end p = cases_eq (length image) p

  wrong_fault : (e : Entry) (p : ℕ) → WrongAt image e p → HasFault image (fault_of e p)
  wrong_fault class_count p w = inl w
  wrong_fault class p w = inr w
  wrong_fault state_count p w = w
  wrong_fault label p w = absurd (w.wrong tt)
  wrong_fault step_count p w = w
  wrong_fault step p w = w
  wrong_fault end p w = w

  written : Orderly image → (t : Table) × WritesDown image t
  written orderly = (
    record { states = number_of_states image; next = λ s b. get_or image (labels_end image + 2 + (s * number_of_classes image + class_of_byte image b)) 0; label = λ s. get_or image (260 + s) 0 },
    record { orderly = orderly; states = refl; labels = λ s h. refl; steps = λ s b hs hb. refl },
  )

  -- what stands behind an entry
  After : ℕ → Type 0
  After p = (e : Entry) × Stands image e p

  labels_or_on : (p : ℕ) → 260 ≤ p → p ≤ labels_end image → After p
  unfolding After
  labels_or_on p low high = ⊎_elim (λ h. (label, (low, h))) (λ h. (step_count, omega arith)) (cases_lt p (labels_end image))

  steps_or_on : (p : ℕ) → labels_end image + 2 ≤ p → p ≤ steps_end image → After p
  unfolding After
  steps_or_on p low high = ⊎_elim (λ h. (step, (low, h))) (λ h. (end, omega arith)) (cases_lt p (steps_end image))

  -- at the end all is in order; before it there is a further entry
  after : (e : Entry) (p : ℕ) → Stands image e p → OrderlyBefore image p → InOrder image e p → Orderly image ⊎ ((0 < size e) × After (p + size e))
  unfolding After
  after class_count p h b o = inr (omega arith, (class, (omega arith, omega arith)))
  after class p h b o =
      inr (omega arith, ⊎_elim (λ k. (class, (omega arith, k))) (λ k. (state_count, omega arith)) (cases_lt (p + 1) 258))
  after state_count p h b o = inr (omega arith, labels_or_on (p + 2) (omega arith) (omega arith))
  after label p h b o = inr (omega arith, labels_or_on (p + 1) (omega arith) (omega arith))
  after step_count p h b o = inr (omega arith, steps_or_on (p + 2) (omega arith) (omega arith))
  after step p h b o = inr (omega arith, steps_or_on (p + 1) (omega arith) (omega arith))
  after end p h b o = inl (all_orderly image (subst (OrderlyBefore image) h b) (o.right ∙ h))

  stands_inside : (e : Entry) (p : ℕ) → Stands image e p → p ≤ steps_end image
  stands_inside class_count p h = omega arith
  stands_inside class p h = omega arith
  stands_inside state_count p h = omega arith
  stands_inside label p h = omega arith
  stands_inside step_count p h = omega arith
  stands_inside step p h = omega arith
  stands_inside end p h = omega arith

  judge : (fuel p : ℕ) (e : Entry) → Stands image e p → OrderlyBefore image p → steps_end image < p + fuel → HasVerdict image
  unfolding After
  judge zero p e h b enough = absurd (omega (arith, stands_inside e p h))
  judge (suc fuel) p e h b enough =
      ⊎_elim
      (λ cut. inr (early (length image), (refl, (e, p, record { stands = h; before = b; cut = cut }))))
      (λ whole.
      ⊎_elim
      (λ right.
      let here : InOrder image e p = record { whole = whole; right = right } in
      ⊎_elim
      (λ orderly. inl (written orderly))
      (λ on. judge fuel (p + size e) on.1.0 on.1.1 (orderly_more image e p h b here) (omega (arith, on.0)))
      (after e p h b here))
      (λ wrong. inr (fault_of e p, wrong_fault e p (record { stands = h; before = b; whole = whole; wrong = wrong })))
      (right_or_wrong e p))
      (cases_lt (length image) (p + size e))

  pub verdicts : Verdicts image
  verdicts = record {
    one = judge (steps_end image + 1) 0 class_count refl (orderly_none image) (omega arith);
    not_both = λ t f w h. not_both t f w (lies f h);
    one_fault = λ f g h k. one_fault f g (lies f h) (lies g k);
    one_table = one_table;
  }
