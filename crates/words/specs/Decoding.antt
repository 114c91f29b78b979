-- What a number means as a word: the table of words (CoolRISC 816 manual, table 2.4), row by row.
-- Assumes nothing.
use Rattle.std.specs.Prelude.{ℕ, ◌-◌, ◌/◌, ◌^◌, Bool, cond, List, [], ◌∷◌, Some, None, Err, Option, Result, ◌==◌, nat_le}
use Rattle.std.specs.Option.{option_map, ok_or}
use Rattle.words.specs.Bits.{low, bits, inverted, inverted_bits, ones}
use Rattle.words.specs.Codes.{register, index, condition, division, operation}
use Rattle.words.specs.Forms.{has_form}
use Rattle.words.specs.declared.addresses.MemoryAddress.{MemoryAddress}
use Rattle.words.specs.declared.addresses.MemoryAddress.TheVariants.{Direct, Offset, OffsetR3, PostIncrement, PreDecrement}
use Rattle.words.specs.declared.errors.DecodeError.{DecodeError}
use Rattle.words.specs.declared.errors.DecodeError.TheVariants.{Reserved, TooWide}
use Rattle.words.specs.declared.instructions.Instruction.{Instruction}
use Rattle.words.specs.declared.instructions.Instruction.TheVariants.{Nop, Halt, Sflag, Freq, Push, Pop, Ret, Reti, Jump, Call, Calls, AluMemory, AluImmediate, AluOneSource, AluTwoSources, Store, StoreImmediate}
use Rattle.words.specs.declared.instructions.Target.{Target}
use Rattle.words.specs.declared.instructions.Target.TheVariants.{Address, Ip}
use Rattle.words.specs.declared.operations.Form.{Form}
use Rattle.words.specs.declared.operations.Form.TheVariants.{Memory, Immediate, OneSource, TwoSources}
use Rattle.words.specs.declared.operations.Operation.{Operation}
use Rattle.words.specs.declared.registers.IndexRegister.{IndexRegister}

-- what is read of a code, unless it names nothing
abbrev pub reading : {X Y : Type 0} → Option X → (X → Option Y) → Option Y
reading None f = None
reading (Some x) f = f x

-- a row may fix bits below its prefix too
abbrev pub given : Bool → Option Instruction → Option Instruction
given fixed i = cond fixed i None

-- the operation of code n, if the form has it
abbrev pub operation_in : Form → ℕ → Option Operation
operation_in form n = reading (operation n) (λ op. cond (has_form op form) (Some op) None)

-- a step of seven bits: bit 7 says whether it is added after the access or subtracted before it.
-- What is subtracted is held negated modulo 128, and a field of 0 subtracts 128.
abbrev pub stepped : ℕ → IndexRegister → MemoryAddress
stepped w ix = cond (bits w 7 1 == 0) (PostIncrement ix (low w 7)) (PreDecrement ix (128 - low w 7))

-- What the rows say of a word that has their prefix. `name:n` is a field of n bits, and `n_` marks an inverted one.

-- 000000 n_data:8 n_addr:8
abbrev pub store_immediate : ℕ → Instruction
store_immediate w = StoreImmediate (inverted w 8) (inverted_bits w 8 8)

-- reg:4 in bits 11 to 8, whatever the address
abbrev pub store : ℕ → MemoryAddress → Instruction
store w target = Store target (register (bits w 8 4))

-- 000001 1011 reg:4 n_addr:8
abbrev pub store_direct : ℕ → Instruction
store_direct w = store w (Direct (inverted w 8))

-- 00001011 ix:2 reg:4 offset:8
abbrev pub store_offset : ℕ → Instruction
store_offset w = store w (Offset (index (bits w 12 2)) (low w 8))

-- 00001101 ix:2 reg:4 m step:7
abbrev pub store_stepped : ℕ → Instruction
store_stepped w = store w (stepped w (index (bits w 12 2)))

-- 00001110 ix:2 reg:4 and ones
abbrev pub store_r3 : ℕ → Instruction
store_r3 w = store w (OffsetR3 (index (bits w 12 2)))

-- op:5 in bits 16 to 12 and reg:4 in bits 11 to 8, whatever the address
abbrev pub alu_memory : ℕ → MemoryAddress → Option Instruction
alu_memory w source = option_map (λ op. AluMemory op (register (bits w 8 4)) source) (operation_in Memory (bits w 12 5))

-- 00010 op:5 reg:4 n_addr:8
abbrev pub alu_direct : ℕ → Option Instruction
alu_direct w = alu_memory w (Direct (inverted w 8))

-- 00011 op:5 reg:4 111111 ix:2
abbrev pub alu_r3 : ℕ → Option Instruction
alu_r3 w = alu_memory w (OffsetR3 (index (low w 2)))

-- 010 ix:2 op:5 reg:4 m step:7
abbrev pub alu_stepped : ℕ → Option Instruction
alu_stepped w = alu_memory w (stepped w (index (bits w 17 2)))

-- 011 ix:2 op:5 reg:4 offset:8
abbrev pub alu_offset : ℕ → Option Instruction
alu_offset w = alu_memory w (Offset (index (bits w 17 2)) (low w 8))

-- 001110 op:4 reg:4 n_data:8
abbrev pub alu_immediate : ℕ → Option Instruction
alu_immediate w = option_map (λ op. AluImmediate op (register (bits w 8 4)) (inverted w 8)) (operation_in Immediate (bits w 12 4))

-- op2:4 op1:4 res:4. One source is op1, and bits 11 to 8 are then not read.
abbrev pub registers_of : ℕ → Operation → Option Instruction
registers_of w op =
    cond (has_form op OneSource) (Some (AluOneSource op (register (low w 4)) (register (bits w 4 4))))
    (cond (has_form op TwoSources) (Some (AluTwoSources op (register (low w 4)) (register (bits w 4 4)) (register (bits w 8 4)))) None)

-- 00110 op:5 op2:4 op1:4 res:4
abbrev pub alu_registers : ℕ → Option Instruction
alu_registers w = reading (operation (bits w 12 5)) (registers_of w)

-- 001011 1011 and eight ones, divn:4
abbrev pub freq : ℕ → Option Instruction
freq w = option_map Freq (division (low w 4))

-- 100 cc:3 and ones
abbrev pub jump_ip : ℕ → Instruction
jump_ip w = Jump (condition (bits w 16 3)) Ip

-- n_addr:16
abbrev pub jump_target : ℕ → Target
jump_target w = Address (inverted w 16)

-- 110 cc:3 n_addr:16
abbrev pub jump : ℕ → Instruction
jump w = Jump (condition (bits w 16 3)) (jump_target w)

-- A row of the table fixes the bits from bit `low` up to the number `prefix`, and says which instruction such a word is,
-- or none where a code in it names nothing or the form lacks the operation.
pub record Row : Type 0 where
  pub low : ℕ
  pub prefix : ℕ
  pub meaning : ℕ → Option Instruction

abbrev row : ℕ → ℕ → (ℕ → Option Instruction) → Row
row l p m = record { low = l; prefix = p; meaning = m }

-- The rows, highest word first, each with the bits that its prefix fixes.
abbrev pub rows : List Row
rows =
    row 0 0b1111111111111111111111 (λ w. Some Nop)
    ∷ row 0 0b1111110011111111111111 (λ w. Some Ret)
    ∷ row 0 0b1111110001111111111111 (λ w. Some Reti)
    ∷ row 0 0b1111101011111111111111 (λ w. Some Pop)
    ∷ row 16 0b111010 (λ w. Some (Calls (jump_target w)))
    ∷ row 16 0b111001 (λ w. Some (Call (jump_target w)))
    ∷ row 19 0b110 (λ w. Some (jump w))
    ∷ row 0 0b1011011111111111111111 (λ w. Some Push)
    ∷ row 0 0b1010101111111111111111 (λ w. Some (Calls Ip))
    ∷ row 0 0b1010011111111111111111 (λ w. Some (Call Ip))
    ∷ row 19 0b100 (λ w. given (ones (low w 16) 16) (Some (jump_ip w)))
    ∷ row 19 0b011 alu_offset
    ∷ row 19 0b010 alu_stepped
    ∷ row 16 0b001110 alu_immediate
    ∷ row 17 0b00110 alu_registers
    ∷ row 0 0b0010111101111111111111 (λ w. Some Halt)
    ∷ row 4 0b001011101111111111 freq
    ∷ row 0 0b0010110111111111111111 (λ w. Some Sflag)
    ∷ row 17 0b00011 (λ w. given (ones (bits w 2 6) 6) (alu_r3 w))
    ∷ row 17 0b00010 alu_direct
    ∷ row 14 0b00001110 (λ w. given (ones (low w 8) 8) (Some (store_r3 w)))
    ∷ row 14 0b00001101 (λ w. Some (store_stepped w))
    ∷ row 14 0b00001011 (λ w. Some (store_offset w))
    ∷ row 12 0b0000011011 (λ w. Some (store_direct w))
    ∷ row 16 0b000000 (λ w. Some (store_immediate w))
    ∷ []

abbrev pub fits : Row → ℕ → Bool
fits r w = w / 2 ^ r.low == r.prefix

-- what the first row that fits says
abbrev pub first : List Row → ℕ → Option Instruction
first [] w = None
first (r ∷ rs) w = cond (fits r w) (r.meaning w) (first rs w)

-- a word of which no row gives an instruction is reserved
unfoldable pub decoded : ℕ → Result Instruction DecodeError
decoded n = cond (nat_le (2 ^ 22) n) (Err TooWide) (ok_or (first rows n) Reserved)
