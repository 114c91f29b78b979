-- The text of instructions and of their parts, in the notation of the CoolRISC 816 manual.
-- Assumes nothing.
use Rattle.std.specs.Prelude.{ℕ, ◌-◌, ◌^◌, false, true, List, [], ◌++◌, codes}
use Rattle.std.specs.Fmt.{digits, padded_integral, format_spec}
use Rattle.words.specs.declared.addresses.MemoryAddress.{MemoryAddress}
use Rattle.words.specs.declared.addresses.MemoryAddress.TheVariants.{Direct, Offset, OffsetR3, PostIncrement, PreDecrement}
use Rattle.words.specs.declared.conditions.Condition.{Condition}
use Rattle.words.specs.declared.conditions.Condition.TheVariants.{CarryClear, OverflowClear, ZeroClear, Always, CarrySet, OverflowSet, ZeroSet, Event}
use Rattle.words.specs.declared.divisions.Division.{Division}
use Rattle.words.specs.declared.divisions.Division.TheVariants.{Undivided, By2, By4, By8, By16}
use Rattle.words.specs.declared.instructions.Instruction.{Instruction}
use Rattle.words.specs.declared.instructions.Instruction.TheVariants.{Nop, Halt, Sflag, Freq, Push, Pop, Ret, Reti, Jump, Call, Calls, AluMemory, AluImmediate, AluOneSource, AluTwoSources, Store, StoreImmediate}
use Rattle.words.specs.declared.instructions.Target.{Target}
use Rattle.words.specs.declared.instructions.Target.TheVariants.{Address, Ip}
use Rattle.words.specs.declared.operations.Operation.{Operation}
use Rattle.words.specs.declared.operations.Operation.TheVariants.{Cmpa, Cmp, And, Subs, Subd, Subdc, Mula, Subsc, Xor, Move, Or, Add, Addc, Mul, Tstb, Shra, Inc, Cmvd, Cmvs, Shrc, Incc, Shr, Cpl1, Cpl2, Shl, Dec, Cpl2c, Shlc, Decc}
use Rattle.words.specs.declared.registers.IndexRegister.{IndexRegister}
use Rattle.words.specs.declared.registers.IndexRegister.TheVariants.{I0, I1, I2, I3}
use Rattle.words.specs.declared.registers.Register.{Register}
use Rattle.words.specs.declared.registers.Register.TheVariants.{I0l, I0h, I1l, I1h, I2l, I2h, I3l, I3h, Ipl, Iph, Stat, R3, R2, R1, R0, A}

abbrev pub register_text : Register → List ℕ
register_text I0l = codes "i0l"
register_text I0h = codes "i0h"
register_text I1l = codes "i1l"
register_text I1h = codes "i1h"
register_text I2l = codes "i2l"
register_text I2h = codes "i2h"
register_text I3l = codes "i3l"
register_text I3h = codes "i3h"
register_text Ipl = codes "ipl"
register_text Iph = codes "iph"
register_text Stat = codes "stat"
register_text R3 = codes "r3"
register_text R2 = codes "r2"
register_text R1 = codes "r1"
register_text R0 = codes "r0"
register_text A = codes "a"

abbrev pub index_text : IndexRegister → List ℕ
index_text I0 = codes "i0"
index_text I1 = codes "i1"
index_text I2 = codes "i2"
index_text I3 = codes "i3"

-- the mnemonic of the jump on that condition
abbrev pub jump_text : Condition → List ℕ
jump_text CarryClear = codes "JCC"
jump_text OverflowClear = codes "JVC"
jump_text ZeroClear = codes "JZC"
jump_text Always = codes "JUMP"
jump_text CarrySet = codes "JCS"
jump_text OverflowSet = codes "JVS"
jump_text ZeroSet = codes "JZS"
jump_text Event = codes "JEV"

abbrev pub division_text : Division → List ℕ
division_text Undivided = codes "nodiv"
division_text By2 = codes "div2"
division_text By4 = codes "div4"
division_text By8 = codes "div8"
division_text By16 = codes "div16"

abbrev pub operation_text : Operation → List ℕ
operation_text Cmpa = codes "CMPA"
operation_text Cmp = codes "CMP"
operation_text And = codes "AND"
operation_text Subs = codes "SUBS"
operation_text Subd = codes "SUBD"
operation_text Subdc = codes "SUBDC"
operation_text Mula = codes "MULA"
operation_text Subsc = codes "SUBSC"
operation_text Xor = codes "XOR"
operation_text Move = codes "MOVE"
operation_text Or = codes "OR"
operation_text Add = codes "ADD"
operation_text Addc = codes "ADDC"
operation_text Mul = codes "MUL"
operation_text Tstb = codes "TSTB"
operation_text Shra = codes "SHRA"
operation_text Inc = codes "INC"
operation_text Cmvd = codes "CMVD"
operation_text Cmvs = codes "CMVS"
operation_text Shrc = codes "SHRC"
operation_text Incc = codes "INCC"
operation_text Shr = codes "SHR"
operation_text Cpl1 = codes "CPL1"
operation_text Cpl2 = codes "CPL2"
operation_text Shl = codes "SHL"
operation_text Dec = codes "DEC"
operation_text Cpl2c = codes "CPL2C"
operation_text Shlc = codes "SHLC"
operation_text Decc = codes "DECC"

-- upper-case hexadecimal digits, zeros before them up to that width
abbrev pub hexadecimal : ℕ → ℕ → List ℕ
hexadecimal width n = padded_integral (format_spec 32 0 4 width (2 ^ 64 - 1)) false [] (digits 16 true n)

abbrev pub byte_text : ℕ → List ℕ
byte_text n = codes "0x" ++ hexadecimal 2 n

abbrev pub address_text : MemoryAddress → List ℕ
address_text (Direct address) = byte_text address
address_text (Offset index offset) = codes "(" ++ index_text index ++ codes ", " ++ byte_text offset ++ codes ")"
address_text (OffsetR3 index) = codes "(" ++ index_text index ++ codes ", r3)"
address_text (PostIncrement index step) = codes "(" ++ index_text index ++ codes ", " ++ byte_text step ++ codes ")+"
address_text (PreDecrement index step) = codes "-(" ++ index_text index ++ codes ", " ++ byte_text step ++ codes ")"

abbrev pub target_text : Target → List ℕ
target_text (Address address) = codes "0x" ++ hexadecimal 4 address
target_text Ip = codes "ip"

-- operands, with commas between them
abbrev pub two_operands : List ℕ → List ℕ → List ℕ
two_operands first second = codes " " ++ first ++ codes ", " ++ second

-- A comparison names what is compared, destination and source, and no result.
abbrev pub two_sources_text : Operation → Register → Register → Register → List ℕ
two_sources_text Cmpa result op1 op2 = codes "CMPA" ++ two_operands (register_text op2) (register_text op1)
two_sources_text Cmp result op1 op2 = codes "CMP" ++ two_operands (register_text op2) (register_text op1)
two_sources_text operation result op1 op2 = operation_text operation ++ two_operands (register_text result) (register_text op1 ++ codes ", " ++ register_text op2)

abbrev pub instruction_text : Instruction → List ℕ
instruction_text Nop = codes "NOP"
instruction_text Halt = codes "HALT"
instruction_text Sflag = codes "SFLAG"
instruction_text (Freq division) = codes "FREQ " ++ division_text division
instruction_text Push = codes "PUSH"
instruction_text Pop = codes "POP"
instruction_text Ret = codes "RET"
instruction_text Reti = codes "RETI"
instruction_text (Jump condition target) = jump_text condition ++ codes " " ++ target_text target
instruction_text (Call target) = codes "CALL " ++ target_text target
instruction_text (Calls target) = codes "CALLS " ++ target_text target
instruction_text (AluMemory operation register source) = operation_text operation ++ two_operands (register_text register) (address_text source)
instruction_text (AluImmediate operation register value) = operation_text operation ++ two_operands (register_text register) (codes "#" ++ byte_text value)
instruction_text (AluOneSource operation result source) = operation_text operation ++ two_operands (register_text result) (register_text source)
instruction_text (AluTwoSources operation result op1 op2) = two_sources_text operation result op1 op2
instruction_text (Store target source) = codes "MOVE" ++ two_operands (address_text target) (register_text source)
instruction_text (StoreImmediate target value) = codes "MOVE" ++ two_operands (byte_text target) (codes "#" ++ byte_text value)
