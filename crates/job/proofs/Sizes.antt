-- How long a job and its parts are.
-- Assumes nothing.
use Rattle.std.proofs.Common.{◌≡◌, ℕ, ◌*◌, ◌/◌, List, length, Decides, arith}
use Rattle.std.proofs.lemmas.List.{length-take, length-drop}
use Rattle.std.proofs.lemmas.Bool.Decides.{nat_tests}
use Rattle.job.specs.Jobs.{word_count, word_bytes, well_sized}
use Rattle.job.specs.Laws.{WellSized}

module _ (job : List ℕ) where
  pub decides_sized : Decides (well_sized job) (WellSized job)
  decides_sized = grind (arith, nat_tests)

  module _ (sized : WellSized job) where
    pub long : length (word_bytes job) ≡ 3 * word_count job
    long = let whole = sized.2 in simp (length-take, length-drop) (omega arith)

    pub counted : length (word_bytes job) / 3 ≡ word_count job
    counted = omega (arith, long)
