-- What the rules say of the parts of a job is what is said of the job.
-- Assumes nothing.
use Rattle.std.proofs.Common.{◌≡◌, ℕ, ◌/◌, true, List, length, Ok, Result}
use Rattle.platform.specs.Stores.{formed, bytes_tested}
use Rattle.platform.specs.declared.description.CoreDescription.{CoreDescription}
use Rattle.admission.specs.Admission.{admission}
use Rattle.admission.specs.Program.{program}
use Rattle.admission.specs.declared.faults.Fault.{Fault}
use Rattle.job.specs.Jobs.{numbers, description_in, word_bytes, table_bytes, line_bytes, well_sized, ruled, verdict_of}
use Rattle.job.proofs.Sizes.{decides_sized, counted}

module _ (job : List ℕ) (sized : well_sized job ≡ true) (words : List ℕ) (is_words : words ≡ word_bytes job) (fit : bytes_tested words ≡ Ok tt) where
  pub ruled_of_parts : (d : CoreDescription) (table lines : List ℕ) → d ≡ description_in job → table ≡ table_bytes job → lines ≡ line_bytes job → (answer : Result ℕ Fault) → answer ≡ admission (program d (length words / 3) (formed words) (numbers table) (numbers lines)) → ruled answer ≡ verdict_of job
  ruled_of_parts d table lines is_d is_table is_lines answer is_answer = cc (counted job ((decides_sized job).0 sized))
