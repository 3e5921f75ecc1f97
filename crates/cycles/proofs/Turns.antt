-- Turns of the search as a whole: what they leave, and the cycle that they find.
use Rattle.std.proofs.Common.{◌≡◌, ℕ, ◌+◌, ◌-◌, ◌<◌, ◌≢◌, [], ◌∷◌, ◌++◌, length, drop, set, Some, None, sym, ap, ◌∙◌, subst, arith}
use Rattle.std.proofs.lemmas.List.{length-drop, length-map, length_push}
use Rattle.graphs.specs.Graph.{Edges, tells, Leads}
use Rattle.graphs.specs.declared.route.Route.{Route}
use Rattle.graphs.specs.declared.route.Step.{Step}
use Rattle.cycles.specs.declared.search.Told.{Told}
use Rattle.cycles.specs.declared.search.Mark.TheVariants.{New, Active, Done}
use Rattle.cycles.specs.declared.search.Followed.{Followed}
use Rattle.cycles.specs.declared.search.Search.{Search}
use Rattle.cycles.specs.declared.finder.Next.TheVariants.{Nowhere, On, Back}
use Rattle.cycles.specs.Finding.{IsCycle}
use Rattle.graphs.specs.Routes.{steps_of}
use Rattle.cycles.specs.Search.{Right, SoundIn, Scanned, Turned, followed_at, mark_of, pushed, turned, with_top}
use Rattle.cycles.proofs.Marking.{reached_still}
use Rattle.cycles.proofs.Turning.{at_top, closes, enough, enough_marks, finish_news, finish_sound, last, push_news, push_room, push_sound, short, told_sound}

module _ (g : Edges) (s : Search) (h : SoundIn g s) where
  -- a new node is on the trail
  module _ (x : Step) (inside : x.to < g.nodes) (was : mark_of s.marks x.to ≡ New) (leads : (i : ℕ) → i + 1 ≡ length s.trail.items → tells g (followed_at s.trail.items i).by.to x.slot ≡ Some x.to) where
    pub pushed_sound : SoundIn g (pushed s x)
    pushed_sound = push_sound g s.marks s.trail.items h x inside was leads

    pub pushed_room : length s.trail.items < 128
    pushed_room = push_room g s.marks s.trail.items h x inside was leads

    pushed_reached : (v : ℕ) → mark_of (pushed s x).marks v ≡ New → (v ≢ x.to) × (mark_of s.marks v ≡ New)
    pushed_reached = reached_still g s.marks x.to New (Active (length s.trail.items)) inside (enough g s.marks s.trail.items h) was (λ e. let z : ◌≡◌ {A = ℕ} 0 1 = cc in omega arith)

    pub pushed_turn : Turned g s (pushed s x)
    pushed_turn = record {
      sound = pushed_sound;
      less = omega (arith, push_news g s.marks s.trail.items h x inside was leads, length_push s.trail.items (record { by = x; told = record { slot = 0; height = 0; first = None } }));
      reached = λ v new. (pushed_reached v new).1;
    }

-- the last node of the trail
module _ (g : Edges) (s : Search) (top : Followed) (h : SoundIn g (with_top s top)) where
  -- all its slots were asked
  pub finished_turn : (t : Told) → Scanned g s.marks top.by.to (Nowhere t) → Turned g (with_top s top) (record { marks = set s.marks top.by.to (Done t); trail = s.trail })
  finished_turn t scanned =
      let at = last g s.marks s.trail.items top h in
      record {
        sound = finish_sound g s.marks s.trail.items top h t scanned.0 scanned.1;
        less = omega (arith, finish_news g s.marks s.trail.items top h t scanned.0 scanned.1, length_push s.trail.items top);
        reached = λ v new. (reached_still g s.marks top.by.to (Active (length s.trail.items)) (Done t) at.inside (enough_marks g s.marks s.trail.items top h) at.mark (λ e. let z : ◌≡◌ {A = ℕ} 0 1 = cc in omega arith) v new).1;
      }

  -- one of its slots leads back to the trail
  pub closed : (x : Step) (p : ℕ) → Scanned g s.marks top.by.to (Back x p) → (r : Route) → r.start ≡ top.by.to → steps_of r ≡ turned (s.trail.items ++ top ∷ []) x p → IsCycle g r
  closed x p scanned r start steps =
      let trail = s.trail.items ++ top ∷ [] in
      let n = length s.trail.items in
      let active = subst (Right g s.marks trail x.to) scanned.1 (h.mark x.to) in
      let end : (followed_at trail n).by.to ≡ top.by.to = ap (λ (f : Followed). f.by.to) (at_top s.trail.items top) in
      let long = length_push s.trail.items top in
      let count : length (steps_of r) ≡ length trail - p = ap length steps ∙ omega (arith, length-map (drop (p + 1) trail) (λ (f : Followed). f.by), length-drop (p + 1) trail, active.0) in
      let around = closes g s.marks trail h x p n active.0 (omega (arith, long)) active.1 (subst (λ a. tells g a x.slot ≡ Some x.to) (sym end) scanned.0) in
      record {
        inside = omega (arith, start, (last g s.marks s.trail.items top h).inside);
        some = omega (arith, count, active.0);
        few = omega (arith, count, h.counted);
        closes = subst (λ a. Leads g a (steps_of r) a) (end ∙ sym start) (subst (λ l. Leads g (followed_at trail n).by.to l (followed_at trail n).by.to) (sym steps) around);
      }

  -- there is room to put it back
  pub room : length s.trail.items < 128
  room = omega (arith, short g s.marks (s.trail.items ++ top ∷ []) h, length_push s.trail.items top)

  -- its slots told more, and lead on to a new node
  module _ (t : Told) (w : ℕ) (scanned : Scanned g s.marks top.by.to (On t w)) where
    abbrev noted : Followed
    noted = record { by = top.by; told = t }

    abbrev onward : Step
    onward = record { slot = t.slot; to = w }

    noted_sound : SoundIn g (with_top s noted)
    noted_sound = told_sound g s.marks s.trail.items top h t scanned.3

    leads_on : (i : ℕ) → i + 1 ≡ length (s.trail.items ++ noted ∷ []) → tells g (followed_at (s.trail.items ++ noted ∷ []) i).by.to t.slot ≡ Some w
    leads_on i e =
        let is : i ≡ length s.trail.items = omega (arith, e, length_push s.trail.items noted) in
        subst (λ a. tells g a t.slot ≡ Some w) (sym (ap (λ n. (followed_at (s.trail.items ++ noted ∷ []) n).by.to) is ∙ ap (λ (f : Followed). f.by.to) (at_top s.trail.items noted))) scanned.0

    pub onward_turn : Turned g (with_top s top) (pushed (with_top s noted) onward)
    onward_turn =
        let one = pushed_turn g (with_top s noted) noted_sound onward scanned.1 scanned.2 leads_on in
        record { sound = one.sound; less = omega (arith, one.less, length_push s.trail.items noted, length_push s.trail.items top); reached = one.reached }
