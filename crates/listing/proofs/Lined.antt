-- A line after the lines so far makes the lines of one word more.
-- Assumes nothing.
use Rattle.std.proofs.Common.{◌≡◌, ℕ, ◌+◌, List, ◌++◌, codes, Option, subst, sym, add-one}
use Rattle.std.proofs.KnownBytes.{Appends-trans}
use Rattle.std.specs.Io.KnownBytes.{Appends}
use Rattle.listing.specs.Images.{word_at}
use Rattle.listing.specs.Lines.{line_text, lines_text}

pub more : (old so_far new : Option (List ℕ)) (image : List ℕ) (address word : ℕ) → word ≡ word_at image address → Appends old so_far (lines_text image address) → Appends so_far new (line_text (record { address = address; word = word }) ++ codes "\n") → Appends old new (lines_text image (address + 1))
more old so_far new image address word same before this =
    subst (λ n. Appends old new (lines_text image n)) (sym (add-one address)) (Appends-trans old so_far new (lines_text image address) _ before (subst (λ w. Appends so_far new (line_text (record { address = address; word = w }) ++ codes "\n")) same this))
