-- A table that is filled with the sections of an image.
use Rattle.std.proofs.Common.{◌≡◌, ℕ, ◌+◌, ◌-◌, ◌*◌, ◌<◌, ◌≤◌, List, ◌++◌, length, get_or, take, drop, refl, ap, ◌∙◌, arith}
use Rattle.std.proofs.lemmas.Nat.{mul-add-lt}
use Rattle.std.proofs.lemmas.List.{get_or_append_left, get_or-take, get_or-drop, length-take-le, length-drop}
use Rattle.images.specs.Image.{step, class_of_byte, number_of_classes, WritesDown}
use Rattle.images.specs.Judging.{Measured}
use Rattle.images.proofs.Largest.{class_inside}
use Rattle.images.proofs.Sections.{step_stands}

-- the places a to e of the image
abbrev pub Part : List ℕ → ℕ → ℕ → List ℕ → Type 0
Part image a e part = part ≡ take (e - a) (drop a image)

part_at : (image part : List ℕ) (a e : ℕ) → Part image a e part → (i : ℕ) → a + i < e → get_or part i 0 ≡ get_or image (a + i) 0
part_at image part a e is i h =
    ap (λ l. get_or l i 0) is ∙ get_or-take (e - a) (drop a image) i 0 (omega arith) ∙ get_or-drop a image i 0

-- a part with more behind it
front_at : (image part rest : List ℕ) (a e : ℕ) → Part image a e part → a ≤ e → e ≤ length image → (i : ℕ) → a + i < e → get_or (part ++ rest) i 0 ≡ get_or image (a + i) 0
front_at image part rest a e is low high i h =
    let long : length part ≡ e - a = ap length is ∙ length-take-le (e - a) (drop a image) (omega (arith, length-drop a image)) in
    get_or_append_left part rest 0 i (omega (arith, long)) ∙ part_at image part a e is i h

module _ (image : List ℕ) (n k : ℕ) (m : Measured image n k) where
  class_at : (class_of rest : List ℕ) → Part image 2 258 class_of → (b : ℕ) → b < 256 → get_or (class_of ++ rest) b 0 ≡ class_of_byte image b
  class_at class_of rest are b h = front_at image class_of rest 2 258 are (omega arith) (omega (arith, m.long)) b (omega arith)

  pub classes_inside : (class_of rest : List ℕ) → Part image 2 258 class_of → (b : ℕ) → b < 256 → get_or (class_of ++ rest) b 0 < k
  classes_inside class_of rest are b h = omega (arith, class_at class_of rest are b h, class_inside image b (omega (arith, m.long)) h, m.size.classes)

  label_at : (labels rest : List ℕ) → Part image 260 (260 + n) labels → (s : ℕ) → s < n → get_or (labels ++ rest) s 0 ≡ get_or image (260 + s) 0
  label_at labels rest are s h = front_at image labels rest 260 (260 + n) are (omega arith) (omega (arith, m.long)) s (omega arith)

  pub labels_are_bytes : (labels rest : List ℕ) → Part image 260 (260 + n) labels → ((i : ℕ) → get_or image i 0 < 256) → (s : ℕ) → s < n → get_or (labels ++ rest) s 0 < 256
  labels_are_bytes labels rest are bytes s h = omega (arith, label_at labels rest are s h, bytes (260 + s))

  step_at : (steps rest : List ℕ) → Part image (260 + n + 2) (260 + n + 2 + n * k) steps → (i : ℕ) → i < n * k → get_or (steps ++ rest) i 0 ≡ get_or image (260 + n + 2 + i) 0
  step_at steps rest are i h = front_at image steps rest (260 + n + 2) (260 + n + 2 + n * k) are (omega arith) (omega (arith, m.long)) i (omega arith)

  pub steps_inside : (steps rest : List ℕ) → Part image (260 + n + 2) (260 + n + 2 + n * k) steps → (i : ℕ) → i < n * k → get_or (steps ++ rest) i 0 < n
  steps_inside steps rest are i h =
      let stands = step_stands image image n k i refl m.size h in
      omega (arith, step_at steps rest are i h, m.size.states, (m.orderly step (260 + n + 2 + i) (omega (arith, m.size.states), omega (arith, m.size.states, stands))).right)

  pub writes_down : (class_of class_rest labels label_rest steps step_rest : List ℕ) → Part image 2 258 class_of → Part image 260 (260 + n) labels → Part image (260 + n + 2) (260 + n + 2 + n * k) steps → WritesDown image (record { states = n; next = λ s b. get_or (steps ++ step_rest) (s * k + get_or (class_of ++ class_rest) b 0) 0; label = λ s. get_or (labels ++ label_rest) s 0 })
  writes_down class_of class_rest labels label_rest steps step_rest classes_are labels_are steps_are = record {
    orderly = m.orderly;
    states = m.size.states;
    labels = label_at labels label_rest labels_are;
    steps = λ s b hs hb.
        step_at steps step_rest steps_are (s * k + get_or (class_of ++ class_rest) b 0) (omega (arith, mul-add-lt s k (get_or (class_of ++ class_rest) b 0) n hs (classes_inside class_of class_rest classes_are b hb)))
        ∙ ap (λ x. get_or image (260 + n + 2 + (s * k + x)) 0) (class_at class_of class_rest classes_are b hb)
        ∙ ap (λ x. get_or image (260 + n + 2 + (s * x + class_of_byte image b)) 0) m.size.classes
        ∙ ap (λ x. get_or image (260 + x + 2 + (s * number_of_classes image + class_of_byte image b)) 0) m.size.states;
  }
