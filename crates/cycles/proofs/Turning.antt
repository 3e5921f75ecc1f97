-- One turn of the search: the last node of the trail is done, or a new node is pushed onto it, or it closes to a cycle.
use Rattle.std.proofs.Common.{◌≡◌, ℕ, zero, suc, ◌+◌, ◌-◌, ◌<◌, ◌≤◌, ◌≢◌, List, [], ◌∷◌, ◌++◌, map, length, drop, set, Some, None, Option, sym, refl, ap, ◌∙◌, subst, ⊎_elim, arith}
use Rattle.std.proofs.lemmas.List.{drop_all, drop_more, get_or_append_left, get_or_push, length-set, length_push}
use Rattle.std.proofs.lemmas.Bool.{cases_eq, cases_lt}
use Rattle.graphs.specs.Graph.{Edges, tells, Leads}
use Rattle.graphs.specs.declared.route.Step.{Step}
use Rattle.cycles.specs.declared.search.Told.{Told}
use Rattle.cycles.specs.declared.search.Mark.{Mark}
use Rattle.cycles.specs.declared.search.Mark.TheVariants.{New, Active, Done}
use Rattle.cycles.specs.declared.search.Followed.{Followed}
use Rattle.cycles.specs.Search.{Begins, Knows, Linked, Right, Placed, Sound, followed_at, is_done, is_new, mark_of, nobody, number, rank, turned, unasked}
use Rattle.cycles.proofs.Marking.{apart, mark_here, mark_there, mark_each, number_change, knows_still}

-- a trail with one node more
module _ (trail : List Followed) (top : Followed) where
  abbrev longer : List Followed
  longer = trail ++ top ∷ []

  before : (i : ℕ) → i < length trail → followed_at longer i ≡ followed_at trail i
  before i less = get_or_append_left trail (top ∷ []) nobody i less

  pub at_top : followed_at longer (length trail) ≡ top
  at_top = get_or_push trail top nobody (length trail) refl

  one_longer : length longer ≡ length trail + 1
  one_longer = length_push trail top

module _ (g : Edges) (marks : List Mark) (trail : List Followed) (h : Sound g marks trail) where
  -- there is a mark for every node, and room for every node on the trail
  pub enough : g.nodes ≤ length marks
  enough = omega (arith, h.few, h.all_marks)

  pub short : length trail ≤ 128
  short = omega (arith, h.counted, h.few)

  -- no path that the slots of a node told has more edges than nodes are done
  height_low : (v : ℕ) (t : Told) → Knows g marks v t → t.height ≤ number is_done g marks
  height_low v t k = low t.first k.begins
    where
      low : (first : Option Step) → Begins g marks v t.height first → t.height ≤ number is_done g marks
      low None none = omega (arith, none)
      low (Some x) begins = omega (arith, begins.2, h.low x.to)

  -- a step leads to a new node, which is pushed onto the trail
  module _ (x : Step) (inside : x.to < g.nodes) (was : mark_of marks x.to ≡ New) (leads : (i : ℕ) → i + 1 ≡ length trail → tells g (followed_at trail i).by.to x.slot ≡ Some x.to) where
    abbrev entered : Followed
    entered = record { by = x; told = unasked }

    abbrev marked : List Mark
    marked = set marks x.to (Active (length trail))

    pub push_news : number is_new g marked + 1 ≡ number is_new g marks
    push_news = omega (arith, number_change g marks x.to New (Active (length trail)) inside enough was is_new)

    push_dones : number is_done g marked ≡ number is_done g marks
    push_dones = omega (arith, number_change g marks x.to New (Active (length trail)) inside enough was is_done)

    pub push_room : length trail < 128
    push_room = omega (arith, push_news, h.counted, h.few)

    still_pushed : (v : ℕ) (e : Told) → Knows g marks v e → Knows g marked v e
    still_pushed = knows_still g marks x.to New (Active (length trail)) inside enough was refl

    right_pushed : (v : ℕ) (m : Mark) → Right g marks trail v m → Right g marked (longer trail entered) v m
    right_pushed v New r = tt
    right_pushed v (Active p) r = (omega (arith, r.0, one_longer trail entered), ap (λ (f : Followed). f.by.to) (before trail entered p r.0) ∙ r.1)
    right_pushed v (Done e) r = (r.0, still_pushed v e r.1)

    placed : (i : ℕ) → i < length trail → Placed g marked i (followed_at trail i)
    placed i less =
        let old = h.place i less in
        let f = followed_at trail i in
        let ne = apart marks f.by.to x.to (Active i) New old.mark was (λ e. let z : ◌≡◌ {A = ℕ} 0 1 = cc in omega arith) in
        record { inside = old.inside; mark = mark_there g marks x.to New (Active (length trail)) inside enough was f.by.to ne ∙ old.mark; knows = still_pushed f.by.to f.told old.knows }

    placed_last : Placed g marked (length trail) entered
    placed_last = record {
      inside = inside;
      mark = mark_here g marks x.to New (Active (length trail)) inside enough was;
      knows = record { each = λ s w less there. absurd (omega arith); begins = refl };
    }

    pub push_sound : Sound g marked (longer trail entered)
    push_sound = record {
      mark = mark_each g marks x.to New (Active (length trail)) inside enough was (Right g marked (longer trail entered)) (omega (arith, one_longer trail entered), ap (λ (f : Followed). f.by.to) (at_top trail entered)) (λ v ne. right_pushed v (mark_of marks v) (h.mark v));
      place = λ i less.
          ⊎_elim
          (λ e. subst (λ n. Placed g marked n (followed_at (longer trail entered) n)) (sym e) (subst (Placed g marked (length trail)) (sym (at_top trail entered)) placed_last))
          (λ ne. let inner : i < length trail = omega (arith, ne, one_longer trail entered) in subst (Placed g marked i) (sym (before trail entered i inner)) (placed i inner))
          (cases_eq i (length trail));
      edge = λ i less.
          let first = before trail entered i (omega (arith, less, one_longer trail entered)) in
          subst (λ f. Linked g f (followed_at (longer trail entered) (i + 1))) (sym first)
          (⊎_elim
          (λ e. subst (λ n. Linked g (followed_at trail i) (followed_at (longer trail entered) n)) (sym e) (subst (Linked g (followed_at trail i)) (sym (at_top trail entered)) (leads i e)))
          (λ ne. let inner : i + 1 < length trail = omega (arith, ne, less, one_longer trail entered) in subst (Linked g (followed_at trail i)) (sym (before trail entered (i + 1) inner)) (h.edge i inner))
          (cases_eq (i + 1) (length trail)));
      low = mark_each g marks x.to New (Active (length trail)) inside enough was (λ v m. rank m ≤ number is_done g marked) (omega arith) (λ v ne. omega (arith, push_dones, h.low v));
      counted = omega (arith, push_dones, push_news, h.counted, one_longer trail entered);
      few = h.few;
      all_marks = length-set marks x.to (Active (length trail)) ∙ h.all_marks;
    }

  -- along the trail to its end
  along : (n i : ℕ) → i + n + 1 ≡ length trail → Leads g (followed_at trail i).by.to (map (λ (f : Followed). f.by) (drop (i + 1) trail)) (followed_at trail (i + n)).by.to
  along zero i all = subst (λ (l : List Followed). Leads g (followed_at trail i).by.to (map (λ (f : Followed). f.by) l) (followed_at trail (i + zero)).by.to) (sym (drop_all (i + 1) trail (omega (arith, all)))) (ap (λ n. (followed_at trail n).by.to) (omega arith))
  along (suc n) i all =
      subst (λ (l : List Followed). Leads g (followed_at trail i).by.to (map (λ (f : Followed). f.by) l) (followed_at trail (i + suc n)).by.to) (sym (drop_more trail (i + 1) nobody (omega (arith, all))))
      (h.edge i (omega (arith, all)), subst (λ m. Leads g (followed_at trail (i + 1)).by.to (map (λ (f : Followed). f.by) (drop (i + 1 + 1) trail)) (followed_at trail m).by.to) (omega arith) (along n (i + 1) (omega (arith, all))))

  -- a step from the last node leads back to a place of the trail
  pub closes : (x : Step) (p last : ℕ) → p < length trail → last + 1 ≡ length trail → (followed_at trail p).by.to ≡ x.to → tells g (followed_at trail last).by.to x.slot ≡ Some x.to → Leads g (followed_at trail last).by.to (turned trail x p) (followed_at trail last).by.to
  closes x p last less all at leads =
      let end' : p + (last - p) ≡ last = omega (arith, less, all) in
      (leads, subst (λ a. Leads g a (map (λ (f : Followed). f.by) (drop (p + 1) trail)) (followed_at trail last).by.to) at (subst (λ n. Leads g (followed_at trail p).by.to (map (λ (f : Followed). f.by) (drop (p + 1) trail)) (followed_at trail n).by.to) end' (along (last - p) p (omega (arith, all, end')))))

-- the last node of the trail
module _ (g : Edges) (marks : List Mark) (trail : List Followed) (top : Followed) (h : Sound g marks (longer trail top)) where
  -- it is a node of the graph, and on the trail
  pub last : Placed g marks (length trail) top
  last = subst (Placed g marks (length trail)) (at_top trail top) (h.place (length trail) (omega (arith, one_longer trail top)))

  abbrev node : ℕ
  node = top.by.to

  pub enough_marks : g.nodes ≤ length marks
  enough_marks = enough g marks (longer trail top) h

  -- the others are placed and linked as they were
  inner : (i : ℕ) → i < length trail → Placed g marks i (followed_at trail i)
  inner i less = subst (Placed g marks i) (before trail top i less) (h.place i (omega (arith, less, one_longer trail top)))

  inner_edge : (i : ℕ) → i + 1 < length trail → Linked g (followed_at trail i) (followed_at trail (i + 1))
  inner_edge i less =
      subst (λ f. Linked g f (followed_at trail (i + 1))) (before trail top i (omega (arith, less)))
      (subst (Linked g (followed_at (longer trail top) i)) (before trail top (i + 1) less) (h.edge i (omega (arith, less, one_longer trail top))))

  -- it is done
  module _ (t : Told) (all : g.slots ≤ t.slot) (k : Knows g marks node t) where
    abbrev over : List Mark
    over = set marks node (Done t)

    still : (v : ℕ) (e : Told) → Knows g marks v e → Knows g over v e
    still = knows_still g marks node (Active (length trail)) (Done t) last.inside enough_marks last.mark refl

    right : (v : ℕ) (m : Mark) → v ≢ node → Right g marks (longer trail top) v m → Right g over trail v m
    right v New ne r = tt
    right v (Active p) ne r =
        let less : p < length trail =
        ⊎_elim
        (λ less. less)
        (λ more. absurd (ne (sym r.1 ∙ ap (λ n. (followed_at (longer trail top) n).by.to) (omega (arith, more, r.0, one_longer trail top)) ∙ ap (λ (f : Followed). f.by.to) (at_top trail top))))
        (cases_lt p (length trail))
        in
        (less, ap (λ (f : Followed). f.by.to) (sym (before trail top p less)) ∙ r.1)
    right v (Done e) ne r = (r.0, still v e r.1)

    finish_dones : number is_done g over ≡ number is_done g marks + 1
    finish_dones = omega (arith, number_change g marks node (Active (length trail)) (Done t) last.inside enough_marks last.mark is_done)

    pub finish_news : number is_new g over ≡ number is_new g marks
    finish_news = omega (arith, number_change g marks node (Active (length trail)) (Done t) last.inside enough_marks last.mark is_new)

    pub finish_sound : Sound g over trail
    finish_sound = record {
      mark = mark_each g marks node (Active (length trail)) (Done t) last.inside enough_marks last.mark (Right g over trail) (all, still node t k) (λ v ne. right v (mark_of marks v) ne (h.mark v));
      place = λ i less.
          let old = inner i less in
          let f = followed_at trail i in
          let ne = apart marks f.by.to node (Active i) (Active (length trail)) old.mark last.mark (λ e. let same : i ≡ length trail = cc in omega (arith, same, less)) in
          record { inside = old.inside; mark = mark_there g marks node (Active (length trail)) (Done t) last.inside enough_marks last.mark f.by.to ne ∙ old.mark; knows = still f.by.to f.told old.knows };
      edge = inner_edge;
      low = mark_each g marks node (Active (length trail)) (Done t) last.inside enough_marks last.mark (λ v m. rank m ≤ number is_done g over) (omega (arith, finish_dones, height_low g marks (longer trail top) h node t k)) (λ v ne. omega (arith, finish_dones, h.low v));
      counted = omega (arith, finish_dones, finish_news, h.counted, one_longer trail top);
      few = h.few;
      all_marks = length-set marks node (Done t) ∙ h.all_marks;
    }

  -- its slots told more
  module _ (t : Told) (k : Knows g marks node t) where
    abbrev noted : Followed
    noted = record { by = top.by; told = t }

    -- each node of the trail was entered by the same step
    same_by : (i : ℕ) → i < length (longer trail top) → (followed_at (longer trail noted) i).by ≡ (followed_at (longer trail top) i).by
    same_by i less =
        ⊎_elim
        (λ e. ap (λ n. (followed_at (longer trail noted) n).by) e ∙ ap (λ (f : Followed). f.by) (at_top trail noted) ∙ sym (ap (λ n. (followed_at (longer trail top) n).by) e ∙ ap (λ (f : Followed). f.by) (at_top trail top)))
        (λ ne. let inner' : i < length trail = omega (arith, ne, less, one_longer trail top) in ap (λ (f : Followed). f.by) (before trail noted i inner' ∙ sym (before trail top i inner')))
        (cases_eq i (length trail))

    right_noted : (v : ℕ) (m : Mark) → Right g marks (longer trail top) v m → Right g marks (longer trail noted) v m
    right_noted v New r = tt
    right_noted v (Active p) r = (omega (arith, r.0, one_longer trail top, one_longer trail noted), ap (λ (x : Step). x.to) (same_by p r.0) ∙ r.1)
    right_noted v (Done e) r = r

    pub told_sound : Sound g marks (longer trail noted)
    told_sound = record {
      mark = λ v. right_noted v (mark_of marks v) (h.mark v);
      place = λ i less.
          ⊎_elim
          (λ e. subst (λ n. Placed g marks n (followed_at (longer trail noted) n)) (sym e) (subst (Placed g marks (length trail)) (sym (at_top trail noted)) (record { inside = last.inside; mark = last.mark; knows = k })))
          (λ ne. let inner' : i < length trail = omega (arith, ne, less, one_longer trail noted) in subst (Placed g marks i) (sym (before trail noted i inner')) (inner i inner'))
          (cases_eq i (length trail));
      edge = λ i less.
          let P : Step → Step → Type 0 = λ y z. tells g y.to z.slot ≡ Some z.to in
          let there : i + 1 < length (longer trail top) = omega (arith, less, one_longer trail top, one_longer trail noted) in
          subst (λ y. P y (followed_at (longer trail noted) (i + 1)).by) (sym (same_by i (omega (arith, there))))
          (subst (P (followed_at (longer trail top) i).by) (sym (same_by (i + 1) there)) (h.edge i there));
      low = h.low;
      counted = omega (arith, h.counted, one_longer trail top, one_longer trail noted);
      few = h.few;
      all_marks = h.all_marks;
    }
