-- How the judgement of one entry ends, and how it goes on.
use Rattle.std.proofs.Common.{◌≡◌, ℕ, ◌+◌, ◌<◌, ◌≤◌, List, length, Result, MatchResult, ap, subst, arith}
use Rattle.std.specs.Result.{IsErrAnd}
use Rattle.std.proofs.lemmas.Result.{err_from_is_err_and}
use Rattle.images.specs.declared.faults.EndsEarly.{EndsEarly}
use Rattle.images.specs.declared.faults.LoadFault.{LoadFault}
use Rattle.images.specs.declared.faults.LoadFault.TheVariants.{Read}
use Rattle.images.specs.Image.{Entry, Stands, size, Right, HasFault}
use Rattle.images.specs.Judging.{Reached}
use Rattle.images.specs.Reading.{Reading, onward}
use Rattle.images.proofs.Entries.{orderly_more}

-- the byte reader's fault is the loader's
pub passed_on : {X : Type 0} (P : X → Type 0) (F : LoadFault → Type 0) (f : EndsEarly) (r : Result X LoadFault) → IsErrAnd r (λ g. g ≡ Read f) → F (Read f) → MatchResult r P F
passed_on P F f r told holds = let p = err_from_is_err_and r told in rw (p.1, p.2) holds

module _ (r : Reading) (e : Entry) (p : ℕ) (reached : Reached r p) (stands : Stands r.image e p) where
  -- the image ends before the entry is whole
  pub cut_short : {X : Type 0} (P : X → Type 0) (image : List ℕ) (f : EndsEarly) (result : Result X LoadFault) → r.image ≡ image → length r.image < r.place + size e → f.length ≡ length r.image → IsErrAnd result (λ g. g ≡ Read f) → MatchResult result P (HasFault image)
  cut_short P image f result same cut told gives =
      passed_on P (HasFault image) f result gives
      (subst (λ l. HasFault l (Read f)) same (told, (e, p, record { stands = stands; before = reached.orderly; cut = omega (arith, cut, reached.place) })))

  -- the entry is in order
  pub goes_on : r.place + size e ≤ length r.image → Right r.image e p → Reached (onward r (size e)) (p + size e)
  goes_on whole right = record {
    place = ap (λ n. n + size e) reached.place;
    orderly = orderly_more r.image e p stands reached.orderly (record { whole = omega (arith, whole, reached.place); right = right });
  }
