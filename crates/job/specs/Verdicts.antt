-- The line that says a verdict.
-- Assumes nothing.
use Rattle.std.specs.Prelude.{ℕ, List, ◌++◌, Ok, Err, Result, codes, decimal}
use Rattle.job.specs.Refusals.{refusal_number, refusal_place}
use Rattle.job.specs.declared.verdicts.Refusal.{Refusal}

-- numbers are decimal
abbrev pub refusal_text : Refusal → List ℕ
refusal_text r = codes "refused " ++ (decimal (refusal_number r) ++ (codes " at " ++ decimal (refusal_place r)))

-- a newline ends the line
abbrev pub verdict_line : Result ℕ Refusal → List ℕ
verdict_line (Ok depth) = codes "admitted " ++ (decimal depth ++ codes "\n")
verdict_line (Err r) = refusal_text r ++ codes "\n"
