-- What the code holds, as the rules speak of it.
-- Assumes nothing.
use Rattle.std.specs.Prelude.{ℕ, List, length}
use Rattle.admission.specs.Program.{Program, program}
use Rattle.admission.specs.declared.candidate.Candidate.{Candidate}
use Rattle.admission.specs.declared.chain.Chain.{Chain}

abbrev pub table_in : Chain → List ℕ
table_in c = c.table.numbers.now

abbrev pub lines_in : Candidate → List ℕ
lines_in c = c.lines.now

-- a candidate, which has a line for each word of its store, with those words
abbrev pub program_in : Candidate → (ℕ → ℕ) → Program
program_in c word = program c.description (length (lines_in c)) word (table_in c.chain) (lines_in c)
