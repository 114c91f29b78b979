-- The number and the place under which the refusal of a job is logged.
-- Assumes nothing.
use Rattle.std.specs.Prelude.{ℕ}
use Rattle.platform.specs.Refusals.{store_number, store_place}
use Rattle.admission.specs.Refusals.{breach_number}
use Rattle.job.specs.declared.verdicts.Refusal.{Refusal}
use Rattle.job.specs.declared.verdicts.Refusal.TheVariants.{Length, Store, Rule}

abbrev pub refusal_number : Refusal → ℕ
refusal_number Length = 33
refusal_number (Store e) = store_number e
refusal_number (Rule f) = breach_number f.breach

abbrev pub refusal_place : Refusal → ℕ
refusal_place Length = 0
refusal_place (Store e) = store_place e
refusal_place (Rule f) = f.place

abbrev pub refusal_log : Refusal → ℕ × ℕ
refusal_log r = (refusal_number r, refusal_place r)
