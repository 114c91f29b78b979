-- What judging a job promises, whatever way it goes about it.
-- Assumes nothing.
use Rattle.std.specs.Prelude.{◌≡◌, ℕ, ◌+◌, ◌*◌, ◌^◌, ◌<◌, ◌≤◌, ◌↔◌, List, length, Some, None, Ok, Err, Option, Result}
use Rattle.words.specs.Decoding.{decoded}
use Rattle.words.specs.declared.errors.DecodeError.{DecodeError}
use Rattle.platform.specs.Stores.{formed, InRange, Narrow}
use Rattle.admission.specs.Laws.{AllHold, FirstBreak}
use Rattle.admission.specs.Refusals.{rule_number}
use Rattle.admission.specs.Rules.{Deepest}
use Rattle.admission.specs.declared.faults.Breach.TheVariants.{Undefined}
use Rattle.admission.specs.declared.rules.Rule.{Rule}
use Rattle.job.specs.Jobs.{word_count, table_count, word_bytes, program_of, ruled}
use Rattle.job.specs.Refusals.{refusal_log}
use Rattle.job.specs.Writing.{written, meant}
use Rattle.job.specs.declared.verdicts.Refusal.{Refusal}

-- the log number and the place of a verdict that is a refusal
abbrev pub verdict_refusal : Result ℕ Refusal → Option (ℕ × ℕ)
verdict_refusal (Ok depth) = None
verdict_refusal (Err r) = Some (refusal_log r)

module _ (job : List ℕ) where
  -- 12 bytes of header, 5 bytes for each word and its line, and 2 for each number of the table
  abbrev pub WellSized : Type 0
  WellSized = (12 ≤ length job) × (length job ≤ 43014) × (length job ≡ 12 + 5 * word_count job + 2 * table_count job)

  abbrev pub word : ℕ → ℕ
  word = formed (word_bytes job)

  -- the bytes are those of a job, and its words are a program store
  abbrev pub Readable : Type 0
  Readable = WellSized × (InRange (word_count job) × Narrow word (word_count job))

  -- the program that is judged is the one that was written down
  abbrev pub ReadsBack : Type 0
  ReadsBack = (depth v0 v1 v2 : ℕ) (words T L : List ℕ) → job ≡ written depth v0 v1 v2 words T L → program_of job ≡ meant depth v0 v1 v2 words T L

  -- what v says of the job
  pub record Says (v : Result ℕ Refusal) : Type 0 where
    pub length : (verdict_refusal v ≡ Some (33, 0)) ↔ (WellSized → ⊥)
    pub size : (verdict_refusal v ≡ Some (29, 0)) ↔ (WellSized × (InRange (word_count job) → ⊥))
    pub wide : (p : ℕ) → (verdict_refusal v ≡ Some (30, p)) ↔ (WellSized × (InRange (word_count job) × (p < word_count job) × Narrow word p × (2 ^ 22 ≤ word p)))
    -- it is admitted exactly if it can be read and keeps all rules
    pub admits : (d : ℕ) → (v ≡ Ok d) ↔ (Readable × (AllHold (program_of job) × Deepest (program_of job) d))
    -- it is refused with a rule's number exactly if it can be read and breaks that rule first, and there first
    pub refuses : (rule : Rule) (p : ℕ) → (verdict_refusal v ≡ Some (rule_number rule, p)) ↔ (Readable × FirstBreak (program_of job) rule p)
    -- a refusal of a word that is no instruction has the decoder's own in it, and no other has one
    pub carries : (p : ℕ) (e : DecodeError) → verdict_refusal v ≡ Some (8, p) → (v ≡ ruled (Err (record { breach = Undefined e; place = p }))) ↔ (decoded (word p) ≡ Err e)
    pub means : ReadsBack
