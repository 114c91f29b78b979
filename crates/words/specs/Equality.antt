-- When two instructions are the same: the same variant with the same fields.
-- Assumes nothing.
use Rattle.std.specs.Prelude.{ℕ, List, [], ◌∷◌}
use Rattle.words.specs.Codes.{register_code, index_code, condition_code, division_code, operation_code}
use Rattle.words.specs.declared.addresses.MemoryAddress.{MemoryAddress}
use Rattle.words.specs.declared.addresses.MemoryAddress.TheVariants.{Direct, Offset, OffsetR3, PostIncrement, PreDecrement}
use Rattle.words.specs.declared.instructions.Instruction.{Instruction}
use Rattle.words.specs.declared.instructions.Instruction.TheVariants.{Nop, Halt, Sflag, Freq, Push, Pop, Ret, Reti, Jump, Call, Calls, AluMemory, AluImmediate, AluOneSource, AluTwoSources, Store, StoreImmediate}
use Rattle.words.specs.declared.instructions.Target.{Target}
use Rattle.words.specs.declared.instructions.Target.TheVariants.{Address, Ip}

-- the number of the variant, and then the fields
abbrev pub target_numbers : Target → List ℕ
target_numbers (Address a) = 0 ∷ a ∷ []
target_numbers Ip = 1 ∷ []

abbrev pub address_numbers : MemoryAddress → List ℕ
address_numbers (Direct a) = 0 ∷ a ∷ []
address_numbers (Offset ix offset) = 1 ∷ index_code ix ∷ offset ∷ []
address_numbers (OffsetR3 ix) = 2 ∷ index_code ix ∷ []
address_numbers (PostIncrement ix step) = 3 ∷ index_code ix ∷ step ∷ []
address_numbers (PreDecrement ix step) = 4 ∷ index_code ix ∷ step ∷ []

abbrev pub numbers : Instruction → List ℕ
numbers Nop = 0 ∷ []
numbers Halt = 1 ∷ []
numbers Sflag = 2 ∷ []
numbers (Freq d) = 3 ∷ division_code d ∷ []
numbers Push = 4 ∷ []
numbers Pop = 5 ∷ []
numbers Ret = 6 ∷ []
numbers Reti = 7 ∷ []
numbers (Jump c t) = 8 ∷ condition_code c ∷ target_numbers t
numbers (Call t) = 9 ∷ target_numbers t
numbers (Calls t) = 10 ∷ target_numbers t
numbers (AluMemory op r source) = 11 ∷ operation_code op ∷ register_code r ∷ address_numbers source
numbers (AluImmediate op r value) = 12 ∷ operation_code op ∷ register_code r ∷ value ∷ []
numbers (AluOneSource op result source) = 13 ∷ operation_code op ∷ register_code result ∷ register_code source ∷ []
numbers (AluTwoSources op result op1 op2) = 14 ∷ operation_code op ∷ register_code result ∷ register_code op1 ∷ register_code op2 ∷ []
numbers (Store target source) = 15 ∷ register_code source ∷ address_numbers target
numbers (StoreImmediate target value) = 16 ∷ target ∷ value ∷ []
