-- The sections of an image, entry after entry.
use Rattle.std.proofs.Common.{◌≡◌, ℕ, zero, suc, ◌+◌, ◌-◌, ◌*◌, ◌<◌, ◌≤◌, max, List, length, get_or, take, drop, sym, refl, ap, ◌∙◌, subst, arith}
use Rattle.images.specs.declared.faults.EndsEarly.{EndsEarly}
use Rattle.images.specs.declared.faults.LoadFault.TheVariants.{Read}
use Rattle.images.specs.Image.{class_count, class, state_count, label, step_count, step, end, Stands, Orderly, OrderlyBefore, HasFault, labels_end, largest, number_of_classes, number_of_states, steps_end}
use Rattle.images.specs.Judging.{HasSize, Measured, Reached}
use Rattle.images.specs.Reading.{Reading, onward}
use Rattle.images.proofs.Entries.{orderly_more}
use Rattle.images.proofs.Judged.{goes_on}
use Rattle.images.proofs.Largest.{largest_more}

-- one class more: x stands at the place of the reading r, and is the i-th
pub class_more : (r : Reading) (i m x : ℕ) → i < 256 → Reached r (2 + i) → r.place + 1 ≤ length r.image → m ≡ largest (take i (drop 2 r.image)) → x ≡ get_or r.image r.place 0 → x ≤ 63 → Reached (onward r 1) (2 + (i + 1)) × (max m x ≡ largest (take (i + 1) (drop 2 r.image)))
class_more r i m x few reached whole is here small =
    let at : x ≡ get_or r.image (2 + i) 0 = here ∙ ap (λ n. get_or r.image n 0) reached.place in
    let next : 2 + i + 1 ≡ 2 + (i + 1) = omega arith in (
      subst (Reached (onward r 1)) next (goes_on r class (2 + i) reached (omega arith, omega arith) whole (omega (arith, at))),
      ap (λ a. max a x) is ∙ ap (max (largest (take i (drop 2 r.image)))) at ∙ sym (largest_more r.image i (omega (arith, reached.place))),
    )

-- the labels are in order as far as they are there
labels_orderly : (image : List ℕ) → OrderlyBefore image 260 → (m : ℕ) → m ≤ number_of_states image → 260 + m ≤ length image → OrderlyBefore image (260 + m)
labels_orderly image before zero few long = before
labels_orderly image before (suc m) few long =
    let past : 260 + m + 1 ≡ 260 + suc m = omega arith in
    subst (OrderlyBefore image) past
    (orderly_more image label (260 + m) (omega arith, omega arith) (labels_orderly image before m (omega arith) (omega arith)) (record { whole = omega arith; right = tt }))

-- all labels are there
pub labels_read : (r : Reading) (n : ℕ) → n ≡ number_of_states r.image → Reached r 260 → r.place + n ≤ length r.image → Reached (onward r n) (260 + number_of_states r.image)
labels_read r n is reached whole = record {
  place = omega (arith, is, reached.place);
  orderly = labels_orderly r.image reached.orderly (number_of_states r.image) (omega arith) (omega (arith, is, reached.place));
}

-- the image ends among the labels
pub labels_cut : (r : Reading) (n : ℕ) (f : EndsEarly) → n ≡ number_of_states r.image → Reached r 260 → length r.image < r.place + n → f.length ≡ length r.image → HasFault r.image (Read f)
labels_cut r n f is reached cut told =
    let count = reached.orderly state_count 258 refl (omega arith) in
    let m = length r.image - 260 in
    let there : 260 + m ≡ length r.image = omega (arith, count.whole) in (
      told,
      (
        label,
        260 + m,
        record {
          stands = (omega arith, omega (arith, is, cut, reached.place));
          before = labels_orderly r.image reached.orderly m (omega (arith, is, cut, reached.place)) (omega arith);
          cut = omega arith;
        },
      ),
    )

-- an image that is in order up to its end, and ends there, is in order
pub all_orderly : (image : List ℕ) → OrderlyBefore image (steps_end image) → length image ≡ steps_end image → Orderly image
all_orderly image before ends class_count q stands = before class_count q stands (omega arith)
all_orderly image before ends class q stands = before class q stands (omega arith)
all_orderly image before ends state_count q stands = before state_count q stands (omega arith)
all_orderly image before ends label q stands = before label q stands (omega arith)
all_orderly image before ends step_count q stands = before step_count q stands (omega arith)
all_orderly image before ends step q stands = before step q stands (omega arith)
all_orderly image before ends end q stands = record { whole = omega arith; right = omega arith }

-- as many steps as the size says
steps_many : (image : List ℕ) (n k : ℕ) → HasSize image n k → n * k ≡ number_of_states image * number_of_classes image
steps_many image n k size = ap (λ a. a * k) size.states ∙ ap (λ b. number_of_states image * b) size.classes

pub step_stands : (image read : List ℕ) (n k i : ℕ) → read ≡ image → HasSize image n k → i < n * k → Stands read step (labels_end read + 2 + i)
step_stands image read n k i same size inside =
    subst (λ l. Stands l step (labels_end l + 2 + i)) (sym same) (omega arith, omega (arith, steps_many image n k size))

-- what is known of an image that was read to its end
pub measured : (image : List ℕ) (r : Reading) (n k p : ℕ) → r.image ≡ image → HasSize image n k → p ≡ steps_end image → Reached r p → length r.image ≡ r.place → Measured image n k
measured image r n k p same size last reached ends =
    let long : length image ≡ steps_end image = ap length (sym same) ∙ ends ∙ reached.place ∙ last in
    record {
      size = size;
      long = omega (arith, size.states, steps_many image n k size, long);
      orderly = all_orderly image (subst (OrderlyBefore image) last (subst (λ l. OrderlyBefore l p) same reached.orderly)) long;
    }
