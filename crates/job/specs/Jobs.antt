-- The format of a job: a header of six numbers, the words, the depth table, and the line of each word.
-- Numbers have two bytes, and words three, highest byte first.
-- Assumes nothing.
use Rattle.std.specs.Prelude.{ℕ, ◌+◌, ◌*◌, ◌/◌, Bool, cond, ◌&&◌, List, [], ◌∷◌, map, length, take, drop, Ok, Err, Result, ◌==◌, nat_le, slice_index}
use Rattle.std.specs.List.{range_with_len}
use Rattle.platform.specs.Stores.{formed, bytes_tested}
use Rattle.platform.specs.declared.description.CoreDescription.{CoreDescription}
use Rattle.platform.specs.declared.errors.StoreError.{StoreError}
use Rattle.admission.specs.Admission.{admission}
use Rattle.admission.specs.Program.{Program, program}
use Rattle.admission.specs.declared.faults.Fault.{Fault}
use Rattle.job.specs.declared.verdicts.Refusal.{Refusal}
use Rattle.job.specs.declared.verdicts.Refusal.TheVariants.{Length, Store, Rule}

-- the number of the two bytes from i on
abbrev pub number_at : List ℕ → ℕ → ℕ
number_at bytes i = slice_index bytes i * 256 + slice_index bytes (i + 1)

-- all numbers of a list of bytes
abbrev pub numbers : List ℕ → List ℕ
numbers bytes = map (λ k. number_at bytes (2 * k)) (range_with_len 0 (length bytes / 2))

-- The header: how many words there are, the depth, three vectors, and how many numbers the table has.

abbrev pub word_count : List ℕ → ℕ
word_count job = number_at job 0

abbrev pub table_count : List ℕ → ℕ
table_count job = number_at job 10

abbrev pub description_in : List ℕ → CoreDescription
description_in job = record { depth = number_at job 2; vectors = number_at job 4 ∷ number_at job 6 ∷ number_at job 8 ∷ [] }

-- What follows it: three bytes to a word, two to a number of the table, two to a line.

abbrev pub table_start : List ℕ → ℕ
table_start job = 12 + 3 * word_count job

abbrev pub lines_start : List ℕ → ℕ
lines_start job = table_start job + 2 * table_count job

abbrev pub word_bytes : List ℕ → List ℕ
word_bytes job = take (3 * word_count job) (drop 12 job)

abbrev pub table_bytes : List ℕ → List ℕ
table_bytes job = take (2 * table_count job) (drop (table_start job) job)

abbrev pub line_bytes : List ℕ → List ℕ
line_bytes job = drop (lines_start job) job

-- as long as its counts say, and no longer than 8,192 words and 255 records take
abbrev pub well_sized : List ℕ → Bool
well_sized job = nat_le 12 (length job) && (nat_le (length job) 43014 && length job == lines_start job + 2 * word_count job)

abbrev pub program_of : List ℕ → Program
program_of job = program (description_in job) (word_count job) (formed (word_bytes job)) (numbers (table_bytes job)) (numbers (line_bytes job))

-- What is said of a job: how deep the stack of an admitted program gets, or why it is refused.

abbrev pub ruled : Result ℕ Fault → Result ℕ Refusal
ruled (Ok depth) = Ok depth
ruled (Err f) = Err (Rule f)

abbrev pub stored : Result (Unit {0}) StoreError → Result ℕ Refusal → Result ℕ Refusal
stored (Ok u) verdict = verdict
stored (Err e) verdict = Err (Store e)

abbrev pub verdict_of : List ℕ → Result ℕ Refusal
verdict_of job = cond (well_sized job) (stored (bytes_tested (word_bytes job)) (ruled (admission (program_of job)))) (Err Length)
