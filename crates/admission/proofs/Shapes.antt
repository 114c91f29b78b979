-- What an instruction is, by what it does to PC and stack.
-- Assumes nothing.
use Rattle.std.proofs.Common.{◌≡◌, refl}
use Rattle.words.specs.declared.instructions.Instruction.{Instruction}
use Rattle.words.specs.declared.instructions.Instruction.TheVariants.{Nop, Halt, Sflag, Freq, Push, Pop, Ret, Reti, Jump, Call, Calls, AluMemory, AluImmediate, AluOneSource, AluTwoSources, Store, StoreImmediate}
use Rattle.words.specs.declared.instructions.Target.{Target}
use Rattle.admission.specs.Instructions.{Flow, plain, push, pop, ret, reti, jump, call, calls, flow}

abbrev pub Shape : Flow → Instruction → Type 0
Shape plain i = Unit {0}
Shape push i = i ≡ Push
Shape pop i = i ≡ Pop
Shape ret i = i ≡ Ret
Shape reti i = i ≡ Reti
Shape (jump cc t) i = i ≡ Jump cc t
Shape (call t) i = i ≡ Call t
Shape calls i = (t : Target) × (i ≡ Calls t)

pub shape : (i : Instruction) → Shape (flow i) i
shape Nop = tt
shape Halt = tt
shape Sflag = tt
shape (Freq d) = tt
shape Push = refl
shape Pop = refl
shape Ret = refl
shape Reti = refl
shape (Jump cc t) = refl
shape (Call t) = refl
shape (Calls t) = (t, refl)
shape (AluMemory op r source) = tt
shape (AluImmediate op r value) = tt
shape (AluOneSource op result source) = tt
shape (AluTwoSources op result op1 op2) = tt
shape (Store target source) = tt
shape (StoreImmediate target value) = tt
