-- What reading and writing words promise each other, whatever way they go about it.
-- Assumes nothing.
use Rattle.std.specs.Prelude.{◌≡◌, ℕ, ◌^◌, ◌<◌, ◌≤◌, true, false, ◌↔◌, Some, None, Ok, Err, Option, Result}
use Rattle.words.specs.Decoding.{decoded}
use Rattle.words.specs.Encoding.{formed, fields_fit, word_with, encoded}
use Rattle.words.specs.Refusals.{decode_log, encode_log}
use Rattle.words.specs.declared.errors.DecodeError.{DecodeError}
use Rattle.words.specs.declared.errors.EncodeError.{EncodeError}
use Rattle.words.specs.declared.instructions.Instruction.{Instruction}

-- w fits the row of i, with the numbers of i in its fields: i has a form for its operation, its numbers fit,
-- and w is their sum at their places, whatever stands in the bits that are not read
pub record WordOf (w : ℕ) (i : Instruction) : Type 0 where
  pub form : formed i ≡ true
  pub fields : fields_fit i ≡ true
  pub unread : ℕ
  pub four : unread < 2 ^ 4
  pub sum : w ≡ word_with unread i

-- w fits no row
abbrev pub NoRow : ℕ → Type 0
NoRow w = (i : Instruction) → WordOf w i → ⊥

-- the log number and the place of an answer that is a refusal
abbrev pub decode_refusal : Result Instruction DecodeError → Option (ℕ × ℕ)
decode_refusal (Ok i) = None
decode_refusal (Err e) = Some (decode_log e)

abbrev pub encode_refusal : Result ℕ EncodeError → Option (ℕ × ℕ)
encode_refusal (Ok w) = None
encode_refusal (Err e) = Some (encode_log e)

-- what r says of the number w when it is read
pub record Reads (w : ℕ) (r : Result Instruction DecodeError) : Type 0 where
  -- it gives the instruction whose row w fits, and no other
  pub instruction : (i : Instruction) → (r ≡ Ok i) ↔ WordOf w i
  -- a word has at most one instruction
  pub one : (i j : Instruction) → WordOf w i → WordOf w j → i ≡ j
  -- it refuses with 25 exactly the words that no row fits, and with 30 exactly the numbers that are no words
  pub reserved : (decode_refusal r ≡ Some (25, 0)) ↔ ((w < 2 ^ 22) × NoRow w)
  pub wide : (decode_refusal r ≡ Some (30, 0)) ↔ (2 ^ 22 ≤ w)

-- what r says of the instruction i when it is written
pub record Writes (i : Instruction) (r : Result ℕ EncodeError) : Type 0 where
  -- what it gives is a word, and reading that gives i again
  pub word : (w : ℕ) → r ≡ Ok w → (w < 2 ^ 22) × (decoded w ≡ Ok i)
  -- no other instruction is written as that word
  pub one : (w : ℕ) (j : Instruction) → r ≡ Ok w → encoded j ≡ Ok w → j ≡ i
  -- it refuses with 31 exactly where the form lacks the operation, and else with 32 where a number does not fit
  pub no_form : (encode_refusal r ≡ Some (31, 0)) ↔ (formed i ≡ false)
  pub field : (encode_refusal r ≡ Some (32, 0)) ↔ ((formed i ≡ true) × (fields_fit i ≡ false))
