-- The log number and the place under which a listing ends with a refusal.
-- Assumes nothing.
use Rattle.std.specs.Prelude.{ℕ, Some, None, Option, Ok, Err, Result}
use Rattle.listing.specs.declared.errors.ImageError.{ImageError}
use Rattle.listing.specs.declared.errors.ImageError.TheVariants.{LeftOver}
use Rattle.listing.specs.declared.tallies.Tally.{Tally}

abbrev pub image_number : ImageError → ℕ
image_number LeftOver = 29

abbrev pub image_place : ImageError → ℕ
image_place LeftOver = 0

abbrev pub ending_refusal : Result Tally ImageError → Option (ℕ × ℕ)
ending_refusal (Ok tally) = None
ending_refusal (Err error) = Some (image_number error, image_place error)
