-- The largest number of a list.
use Rattle.std.proofs.Common.{◌≡◌, ℕ, zero, suc, ◌+◌, ◌<◌, ◌≤◌, max, List, [], ◌∷◌, ◌++◌, length, get_or, take, drop, ap, ◌∙◌, arith}
use Rattle.std.proofs.lemmas.List.{take_more, get_or-drop, length-drop, get_or-take, length-take-le}
use Rattle.images.specs.Image.{largest, number_of_classes, class_of_byte}

largest_push : (xs : List ℕ) (x : ℕ) → largest (xs ++ x ∷ []) ≡ max (largest xs) x
largest_push [] x = omega arith
largest_push (y ∷ xs) x = omega (arith, largest_push xs x)

-- one class more
pub largest_more : (image : List ℕ) (i : ℕ) → 2 + i < length image → largest (take (i + 1) (drop 2 image)) ≡ max (largest (take i (drop 2 image))) (get_or image (2 + i) 0)
largest_more image i h =
    ap largest (take_more (drop 2 image) i 0 (omega (arith, length-drop 2 image)))
    ∙ largest_push (take i (drop 2 image)) (get_or (drop 2 image) i 0)
    ∙ ap (max (largest (take i (drop 2 image)))) (get_or-drop 2 image i 0)

largest_above : (xs : List ℕ) (i : ℕ) → i < length xs → get_or xs i 0 ≤ largest xs
largest_above [] i h = absurd (omega arith)
largest_above (x ∷ xs) zero h = omega arith
largest_above (x ∷ xs) (suc i) h = omega (arith, largest_above xs i (omega arith))

-- every class is below the number of classes
pub class_inside : (image : List ℕ) (b : ℕ) → 258 ≤ length image → b < 256 → class_of_byte image b < number_of_classes image
class_inside image b whole h =
    let long = length-take-le 256 (drop 2 image) (omega (arith, length-drop 2 image)) in
    let is = get_or-take 256 (drop 2 image) b 0 h ∙ get_or-drop 2 image b 0 in
    omega (arith, largest_above (take 256 (drop 2 image)) b (omega (arith, long)), is)
