-- What the rules ask of an instruction: how it moves PC and stack, and which register it writes.
-- Assumes nothing.
use Rattle.std.specs.Prelude.{ℕ, Bool, true, false, cond, not, Some, None, Option}
use Rattle.words.specs.declared.conditions.Condition.{Condition}
use Rattle.words.specs.declared.conditions.Condition.TheVariants.{CarryClear, OverflowClear, ZeroClear, Always, CarrySet, OverflowSet, ZeroSet, Event}
use Rattle.words.specs.declared.instructions.Instruction.{Instruction}
use Rattle.words.specs.declared.instructions.Instruction.TheVariants.{Nop, Halt, Sflag, Freq, Push, Pop, Ret, Reti, Jump, Call, Calls, AluMemory, AluImmediate, AluOneSource, AluTwoSources, Store, StoreImmediate}
use Rattle.words.specs.declared.instructions.Target.{Target}
use Rattle.words.specs.declared.instructions.Target.TheVariants.{Address, Ip}
use Rattle.words.specs.declared.operations.Operation.{Operation}
use Rattle.words.specs.declared.operations.Operation.TheVariants.{Cmpa, Cmp, And, Subs, Subd, Subdc, Mula, Subsc, Xor, Move, Or, Add, Addc, Mul, Tstb, Shra, Inc, Cmvd, Cmvs, Shrc, Incc, Shr, Cpl1, Cpl2, Shl, Dec, Cpl2c, Shlc, Decc}
use Rattle.words.specs.declared.registers.Register.{Register}

-- what an instruction does to PC and stack
pub data Flow : Type 0 where
  -- goes on to the next word, and leaves the stack as it is
  plain : Flow
  push : Flow
  pop : Flow
  ret : Flow
  reti : Flow
  jump : Condition → Target → Flow
  call : Target → Flow
  calls : Flow

abbrev pub flow : Instruction → Flow
flow Nop = plain
flow Halt = plain
flow Sflag = plain
flow (Freq d) = plain
flow Push = push
flow Pop = pop
flow Ret = ret
flow Reti = reti
flow (Jump cc t) = jump cc t
flow (Call t) = call t
flow (Calls t) = calls
flow (AluMemory op r source) = plain
flow (AluImmediate op r value) = plain
flow (AluOneSource op result source) = plain
flow (AluTwoSources op result op1 op2) = plain
flow (Store target source) = plain
flow (StoreImmediate target value) = plain

-- the address that the word itself names
abbrev pub direct : Target → Option ℕ
direct (Address a) = Some a
direct Ip = None

abbrev pub named : Target → Bool
named (Address a) = true
named Ip = false

-- no CALLS, and no jump or call through ip: where these lead, the word does not say
abbrev pub permitted : Flow → Bool
permitted plain = true
permitted push = true
permitted pop = true
permitted ret = true
permitted reti = true
permitted (jump cc t) = named t
permitted (call t) = named t
permitted calls = false

abbrev pub unconditional : Condition → Bool
unconditional CarryClear = false
unconditional OverflowClear = false
unconditional ZeroClear = false
unconditional Always = true
unconditional CarrySet = false
unconditional OverflowSet = false
unconditional ZeroSet = false
unconditional Event = false

-- the next word may be run after this one: always, but for JUMP, RET and RETI
abbrev pub goes_on : Flow → Bool
goes_on plain = true
goes_on push = true
goes_on pop = true
goes_on ret = false
goes_on reti = false
goes_on (jump cc t) = not (unconditional cc)
goes_on (call t) = true
goes_on calls = true

-- where a jump goes, on any condition
abbrev pub jump_target : Flow → Option ℕ
jump_target plain = None
jump_target push = None
jump_target pop = None
jump_target ret = None
jump_target reti = None
jump_target (jump cc t) = direct t
jump_target (call t) = None
jump_target calls = None

-- where a CALL goes
abbrev pub call_target : Flow → Option ℕ
call_target plain = None
call_target push = None
call_target pop = None
call_target ret = None
call_target reti = None
call_target (jump cc t) = None
call_target (call t) = direct t
call_target calls = None

-- comparisons and the test of a bit write to no register
abbrev pub stores : Operation → Bool
stores Cmpa = false
stores Cmp = false
stores And = true
stores Subs = true
stores Subd = true
stores Subdc = true
stores Mula = true
stores Subsc = true
stores Xor = true
stores Move = true
stores Or = true
stores Add = true
stores Addc = true
stores Mul = true
stores Tstb = false
stores Shra = true
stores Inc = true
stores Cmvd = true
stores Cmvs = true
stores Shrc = true
stores Incc = true
stores Shr = true
stores Cpl1 = true
stores Cpl2 = true
stores Shl = true
stores Dec = true
stores Cpl2c = true
stores Shlc = true
stores Decc = true

abbrev pub result_in : Operation → Register → Option Register
result_in op r = cond (stores op) (Some r) None

-- the destination register, which the conditional moves have too
abbrev pub destination : Instruction → Option Register
destination Nop = None
destination Halt = None
destination Sflag = None
destination (Freq d) = None
destination Push = None
destination Pop = None
destination Ret = None
destination Reti = None
destination (Jump cc t) = None
destination (Call t) = None
destination (Calls t) = None
destination (AluMemory op r source) = result_in op r
destination (AluImmediate op r value) = result_in op r
destination (AluOneSource op result source) = result_in op result
destination (AluTwoSources op result op1 op2) = result_in op result
destination (Store target source) = None
destination (StoreImmediate target value) = None
