-- A whole number of words is not uneven, and its listing ends with no refusal.
-- Assumes nothing.
use Rattle.std.proofs.Common.{◌≡◌, ℕ, ◌/◌, ◌%◌, Bool, true, false, cond, eqb, ◌↔◌, List, length, Some, None, Ok, Err, Option, Result, sym, refl, subst, arith}
use Rattle.std.proofs.lemmas.Bool.{eqb-true, eqb-false}
use Rattle.listing.specs.Images.{tally_of, ending_of, Uneven}
use Rattle.listing.specs.Refusals.{ending_refusal}
use Rattle.listing.specs.declared.errors.ImageError.{ImageError}
use Rattle.listing.specs.declared.errors.ImageError.TheVariants.{LeftOver}
use Rattle.listing.specs.declared.tallies.Tally.{Tally}

pub even : (image : List ℕ) → length image % 3 ≡ 0 → (◌≡◌ {A = Option (ℕ × ℕ)} None (Some (29, 0))) ↔ Uneven image
even image whole = (λ e. let z : ◌≡◌ {A = ℕ} 0 1 = cc in absurd (omega arith), λ uneven. absurd (uneven (length image / 3) (omega arith)))

-- a listing ends with 29 exactly if its bytes are no whole number of words
pub ended : (image : List ℕ) (r : Result Tally ImageError) → r ≡ ending_of image → record { value : r ≡ ending_of image; uneven : (ending_refusal r ≡ Some (29, 0)) ↔ Uneven image }
ended image r e = record { value = e; uneven = subst (λ x. (ending_refusal x ≡ Some (29, 0)) ↔ Uneven image) (sym e) (by (eqb (length image % 3) 0) refl) }
  where
    by : (b : Bool) → eqb (length image % 3) 0 ≡ b → (ending_refusal (cond b (Ok (tally_of image)) (Err LeftOver)) ≡ Some (29, 0)) ↔ Uneven image
    by true t = even image (eqb-true (length image % 3) 0 t)
    by false t = (λ e words whole. eqb-false (length image % 3) 0 t (omega arith), λ uneven. refl)
