-- Words worked out by hand from the table.
-- Assumes nothing.
use Rattle.std.specs.Prelude.{◌≡◌, ℕ, List, [], ◌∷◌, Ok}
use Rattle.words.specs.Decoding.{decoded}
use Rattle.words.specs.Encoding.{encoded}
use Rattle.words.specs.declared.addresses.MemoryAddress.TheVariants.{Offset}
use Rattle.words.specs.declared.instructions.Instruction.{Instruction}
use Rattle.words.specs.declared.instructions.Instruction.TheVariants.{Sflag, AluMemory, AluOneSource}
use Rattle.words.specs.declared.operations.Operation.TheVariants.{Move, Cmvs}
use Rattle.words.specs.declared.registers.IndexRegister.TheVariants.{I0}
use Rattle.words.specs.declared.registers.Register.TheVariants.{R0, R1}

abbrev pub examples : List (Instruction × ℕ)
examples =
    -- SFLAG
    (Sflag, 0x0B7FFF)
    -- MOVE r0, (i0, 0x05)
    ∷ (AluMemory Move R0 (Offset I0 0x05), 0x18AE05)
    -- CMVS r0, r1
    ∷ (AluOneSource Cmvs R0 R1, 0x0D3FDE)
    ∷ []

-- each instruction is written as its word, and read from it
abbrev pub AllStand : List (Instruction × ℕ) → Type 0
AllStand [] = Unit {0}
AllStand (e ∷ es) = (encoded e.0 ≡ Ok e.1) × (decoded e.1 ≡ Ok e.0) × AllStand es
