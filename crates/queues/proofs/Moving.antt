-- Moving a run of elements to the front.
use Rattle.std.proofs.Common.{◌≡◌, ℕ, ◌+◌, ◌-◌, ◌≤◌, List, length, take, drop, zero-add, sym, ap, ◌∙◌, arith}
use Rattle.std.specs.List.{copy_within}
use Rattle.std.proofs.lemmas.List.{drop-take, length-drop}
use Rattle.std.proofs.lemmas.List.Edits.{take-paste}

-- of the first count elements, those from place k on lie at the front once they are copied there
pub moved : {T : Type 0} (k count : ℕ) (memory after : List T) → k ≤ count → count ≤ length memory → after ≡ copy_within memory k count 0 → take (count - k) after ≡ drop k (take count memory)
moved k count memory after less few is =
    let left = count - k in
    let all : k + left ≡ count = omega arith in
    ap (take left) is
    ∙ ap (λ n. take n (copy_within memory k count 0)) (sym (zero-add left))
    ∙ take-paste memory 0 (drop k memory) left (omega arith) (omega (arith, length-drop k memory))
    ∙ sym (drop-take k left memory)
    ∙ ap (λ n. drop k (take n memory)) all
