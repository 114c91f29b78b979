-- A program of nine words with its depth table, worked out by hand: the background calls a routine that pushes a word and
-- takes it back, and the interrupt routines return at once.
-- Assumes nothing.
use Rattle.std.specs.Prelude.{◌≡◌, ℕ, List, [], ◌∷◌, Some, Ok, slice_index}
use Rattle.admission.specs.Admission.{admission}
use Rattle.admission.specs.Program.{Program, program}
use Rattle.admission.specs.Refusals.{refusal}

-- JUMP 4; RETI, RETI, RETI; CALL 6; JUMP 4; PUSH; POP; RET
abbrev pub nine_words : List ℕ
nine_words = 0x33FFFB ∷ 0x3F1FFF ∷ 0x3F1FFF ∷ 0x3F1FFF ∷ 0x39FFF9 ∷ 0x33FFFB ∷ 0x2DFFFF ∷ 0x3EBFFF ∷ 0x3F3FFF ∷ []

-- the background at 0, the routine at 6, and the levels at 1, 2 and 3
abbrev pub nine_table : List ℕ
nine_table = 1 ∷ 0 ∷ 1 ∷ 2 ∷ 2 ∷ 6 ∷ 2 ∷ 1 ∷ 3 ∷ 1 ∷ 3 ∷ 0 ∷ 4 ∷ 2 ∷ 3 ∷ 0 ∷ 5 ∷ 3 ∷ 3 ∷ 0 ∷ 0 ∷ []

abbrev pub nine_lines : List ℕ
nine_lines = 32 ∷ 96 ∷ 128 ∷ 160 ∷ 32 ∷ 32 ∷ 64 ∷ 65 ∷ 64 ∷ []

abbrev pub nine : ℕ → Program
nine depth = program (record { depth = depth; vectors = 1 ∷ 2 ∷ 3 ∷ [] }) 9 (λ a. slice_index nine_words a) nine_table nine_lines

-- a stack of three words is just enough
pub record ThreeIsEnough : Type 0 where
  pub at_three : admission (nine 3) ≡ Ok 3
  pub at_two : refusal (admission (nine 2)) ≡ Some (13, 0)
