-- The word of an instruction: each row of the table of words, as the sum of its fields at their places.
-- Assumes nothing.
use Rattle.std.specs.Prelude.{ℕ, ◌+◌, ◌-◌, ◌*◌, ◌^◌, Bool, true, cond, ◌&&◌, Ok, Err, Result, nat_le, nat_lt}
use Rattle.words.specs.Codes.{register_code, index_code, condition_code, division_code, operation_code}
use Rattle.words.specs.Forms.{has_form}
use Rattle.words.specs.declared.addresses.MemoryAddress.{MemoryAddress}
use Rattle.words.specs.declared.addresses.MemoryAddress.TheVariants.{Direct, Offset, OffsetR3, PostIncrement, PreDecrement}
use Rattle.words.specs.declared.errors.EncodeError.{EncodeError}
use Rattle.words.specs.declared.errors.EncodeError.TheVariants.{NoSuchForm, FieldRange}
use Rattle.words.specs.declared.instructions.Instruction.{Instruction}
use Rattle.words.specs.declared.instructions.Instruction.TheVariants.{Nop, Halt, Sflag, Freq, Push, Pop, Ret, Reti, Jump, Call, Calls, AluMemory, AluImmediate, AluOneSource, AluTwoSources, Store, StoreImmediate}
use Rattle.words.specs.declared.instructions.Target.{Target}
use Rattle.words.specs.declared.instructions.Target.TheVariants.{Address, Ip}
use Rattle.words.specs.declared.operations.Form.TheVariants.{Memory, Immediate, OneSource, TwoSources}
use Rattle.words.specs.declared.operations.Operation.{Operation}
use Rattle.words.specs.declared.registers.Register.{Register}

-- the form of an instruction has its operation
abbrev pub formed : Instruction → Bool
formed Nop = true
formed Halt = true
formed Sflag = true
formed (Freq d) = true
formed Push = true
formed Pop = true
formed Ret = true
formed Reti = true
formed (Jump cc t) = true
formed (Call t) = true
formed (Calls t) = true
formed (AluMemory op r source) = has_form op Memory
formed (AluImmediate op r value) = has_form op Immediate
formed (AluOneSource op result source) = has_form op OneSource
formed (AluTwoSources op result op1 op2) = has_form op TwoSources
formed (Store target source) = true
formed (StoreImmediate target value) = true

abbrev pub target_fits : Target → Bool
target_fits (Address a) = nat_lt a (2 ^ 16)
target_fits Ip = true

-- what is added after an access is 0 to 127, what is subtracted before it 1 to 128
abbrev pub address_fits : MemoryAddress → Bool
address_fits (Direct a) = nat_lt a (2 ^ 8)
address_fits (Offset ix offset) = nat_lt offset (2 ^ 8)
address_fits (OffsetR3 ix) = true
address_fits (PostIncrement ix step) = nat_lt step (2 ^ 7)
address_fits (PreDecrement ix step) = nat_le 1 step && nat_le step (2 ^ 7)

-- each number of an instruction fits its field
abbrev pub fields_fit : Instruction → Bool
fields_fit Nop = true
fields_fit Halt = true
fields_fit Sflag = true
fields_fit (Freq d) = true
fields_fit Push = true
fields_fit Pop = true
fields_fit Ret = true
fields_fit Reti = true
fields_fit (Jump cc t) = target_fits t
fields_fit (Call t) = target_fits t
fields_fit (Calls t) = target_fits t
fields_fit (AluMemory op r source) = address_fits source
fields_fit (AluImmediate op r value) = nat_lt value (2 ^ 8)
fields_fit (AluOneSource op result source) = true
fields_fit (AluTwoSources op result op1 op2) = true
fields_fit (Store target source) = address_fits target
fields_fit (StoreImmediate target value) = nat_lt target (2 ^ 8) && nat_lt value (2 ^ 8)

-- a jump or a call: the prefix of its row with an address, and that of its row through ip
abbrev pub target_word : ℕ → ℕ → Target → ℕ
target_word direct indirect (Address a) = direct * 2 ^ 16 + (0xFFFF - a)
target_word direct indirect Ip = indirect * 2 ^ 16 + 0xFFFF

-- the fields that all ALU operations on memory have: op:5 and reg:4
abbrev pub alu_fields : Operation → Register → ℕ
alu_fields op r = operation_code op * 2 ^ 12 + register_code r * 2 ^ 8

abbrev pub alu_memory_word : Operation → Register → MemoryAddress → ℕ
-- 00010 op:5 reg:4 n_addr:8
alu_memory_word op r (Direct a) = 0b00010 * 2 ^ 17 + alu_fields op r + (0xFF - a)
-- 011 ix:2 op:5 reg:4 offset:8
alu_memory_word op r (Offset ix offset) = 0b011 * 2 ^ 19 + index_code ix * 2 ^ 17 + alu_fields op r + offset
-- 00011 op:5 reg:4 111111 ix:2
alu_memory_word op r (OffsetR3 ix) = 0b00011 * 2 ^ 17 + alu_fields op r + 0b111111 * 2 ^ 2 + index_code ix
-- 010 ix:2 op:5 reg:4 0 step:7
alu_memory_word op r (PostIncrement ix step) = 0b010 * 2 ^ 19 + index_code ix * 2 ^ 17 + alu_fields op r + step
-- 010 ix:2 op:5 reg:4 1 step:7, the step negated modulo 128
alu_memory_word op r (PreDecrement ix step) = 0b010 * 2 ^ 19 + index_code ix * 2 ^ 17 + alu_fields op r + 2 ^ 7 + (2 ^ 7 - step)

abbrev pub store_word : MemoryAddress → Register → ℕ
-- 000001 1011 reg:4 n_addr:8
store_word (Direct a) r = 0b0000011011 * 2 ^ 12 + register_code r * 2 ^ 8 + (0xFF - a)
-- 00001011 ix:2 reg:4 offset:8
store_word (Offset ix offset) r = 0b00001011 * 2 ^ 14 + index_code ix * 2 ^ 12 + register_code r * 2 ^ 8 + offset
-- 00001110 ix:2 reg:4 and ones
store_word (OffsetR3 ix) r = 0b00001110 * 2 ^ 14 + index_code ix * 2 ^ 12 + register_code r * 2 ^ 8 + 0xFF
-- 00001101 ix:2 reg:4 0 step:7
store_word (PostIncrement ix step) r = 0b00001101 * 2 ^ 14 + index_code ix * 2 ^ 12 + register_code r * 2 ^ 8 + step
-- 00001101 ix:2 reg:4 1 step:7, the step negated modulo 128
store_word (PreDecrement ix step) r = 0b00001101 * 2 ^ 14 + index_code ix * 2 ^ 12 + register_code r * 2 ^ 8 + 2 ^ 7 + (2 ^ 7 - step)

-- the word of an instruction, with u in the four bits that an operation on one source leaves unread
abbrev pub word_with : ℕ → Instruction → ℕ
word_with u Nop = 0x3FFFFF
word_with u Halt = 0x0BDFFF
word_with u Sflag = 0x0B7FFF
-- 001011 1011 and eight ones, divn:4
word_with u (Freq d) = 0x0BBFF0 + division_code d
word_with u Push = 0x2DFFFF
word_with u Pop = 0x3EBFFF
word_with u Ret = 0x3F3FFF
word_with u Reti = 0x3F1FFF
-- 110 cc:3 n_addr:16, or 100 cc:3 and ones
word_with u (Jump cc t) = target_word (0b110000 + condition_code cc) (0b100000 + condition_code cc) t
-- 111001 n_addr:16, or 101001 and ones
word_with u (Call t) = target_word 0b111001 0b101001 t
-- 111010 n_addr:16, or 101010 and ones
word_with u (Calls t) = target_word 0b111010 0b101010 t
word_with u (AluMemory op r source) = alu_memory_word op r source
-- 001110 op:4 reg:4 n_data:8
word_with u (AluImmediate op r value) = 0b001110 * 2 ^ 16 + alu_fields op r + (0xFF - value)
-- 00110 op:5 unread:4 op1:4 res:4
word_with u (AluOneSource op result source) = 0b00110 * 2 ^ 17 + operation_code op * 2 ^ 12 + u * 2 ^ 8 + register_code source * 2 ^ 4 + register_code result
-- 00110 op:5 op2:4 op1:4 res:4
word_with u (AluTwoSources op result op1 op2) = 0b00110 * 2 ^ 17 + operation_code op * 2 ^ 12 + register_code op2 * 2 ^ 8 + register_code op1 * 2 ^ 4 + register_code result
word_with u (Store target source) = store_word target source
-- 000000 n_data:8 n_addr:8
word_with u (StoreImmediate target value) = (0xFF - value) * 2 ^ 8 + (0xFF - target)

-- unread bits are written as ones
abbrev pub word_of : Instruction → ℕ
word_of i = word_with 0b1111 i

unfoldable pub encoded : Instruction → Result ℕ EncodeError
encoded i = cond (formed i) (cond (fields_fit i) (Ok (word_of i)) (Err FieldRange)) (Err NoSuchForm)
