-- `==` on instructions and on operations decides whether they are equal, and tests their numbers or their codes. It is derived, so this
-- is said of the trait's member, which is also all that a caller through a bound sees.
-- Assumes nothing.
use Rattle.std.proofs.Common.{◌≡◌, ℕ, ◌&&◌, ◌==◌, cond, not, Some, true, Bool, Option, Decides, nat_eq, unwrap_or, sym, refl, ap, subst, ◌∙◌, arith}
use borrow.Author.Tests.{clash}
use denote.Enum.Bare.{Bare, sameb, same_true, true_same}
use denote.Enum.Declared.{Declared}
use Rattle.std.proofs.lemmas.Bool.{agree_below, agree_below_at, eqb-true, and_parts}
use Rattle.std.proofs.Math.Bool.{and-true, and_comm}
use Rattle.std.specs.Bool.{one_answer}
use Rattle.std.specs.Cmp.{unsigned_Decides}
use Rattle.std.specs.Cmp.Lexicographic.{pointwise}
use Rattle.std.specs.Ordering.{on}
use Rattle.words.specs.Codes.{find, register_code, index_code, operation_code, operation}
use Rattle.words.specs.Equality.{target_numbers, address_numbers, numbers}
use Rattle.words.specs.contracts.addresses.MemoryAddressPartialEq.TheImpl as address_test
use Rattle.words.specs.contracts.conditions.Condition as condition_type
use Rattle.words.specs.contracts.divisions.Division as division_type
use Rattle.words.specs.contracts.instructions.InstructionEq.TheImpl.Laws as instruction_laws
use Rattle.words.specs.contracts.instructions.InstructionPartialEq.TheImpl as instruction_test
use Rattle.words.specs.contracts.instructions.TargetPartialEq.TheImpl as target_test
use Rattle.words.specs.contracts.operations.OperationPartialEq.TheImpl as operation_test
use Rattle.words.specs.contracts.registers.IndexRegister as index_type
use Rattle.words.specs.contracts.registers.Register as register_type
use Rattle.words.specs.declared.addresses.MemoryAddress.{MemoryAddress}
use Rattle.words.specs.declared.addresses.MemoryAddress.TheVariants.{Direct, Offset, OffsetR3, PostIncrement, PreDecrement}
use Rattle.words.specs.declared.instructions.Instruction.{Instruction}
use Rattle.words.specs.declared.instructions.Instruction.TheVariants.{Nop, Halt, Sflag, Freq, Push, Pop, Ret, Reti, Jump, Call, Calls, AluMemory, AluImmediate, AluOneSource, AluTwoSources, Store, StoreImmediate}
use Rattle.words.specs.declared.instructions.Target.{Target}
use Rattle.words.specs.declared.instructions.Target.TheVariants.{Address, Ip}
use Rattle.words.specs.declared.operations.Operation.{Operation}
use Rattle.words.specs.declared.operations.Operation.TheVariants.{Cmpa}
use Rattle.words.specs.declared.registers.IndexRegister.{IndexRegister}
use Rattle.words.specs.declared.registers.Register.{Register}
use Rattle.words.proofs.Names.{Naming, operation_stands, by_register, by_index, by_condition, by_division, by_operation}

-- ---- `==` compares the codes, and the numbers one by one.
some_one : {X : Type 0} (x y : X) → ◌≡◌ {A = Option X} (Some x) (Some y) → x ≡ y
some_one x y e = cc

code_decides : {X : Type 0} (N : Naming X) (x y : X) → Decides (nat_eq (N.code x) (N.code y)) (x ≡ y)
code_decides N x y =
    let codes = unsigned_Decides (N.code x) (N.code y) in
    (λ t. some_one x y (sym (N.stands x).1 ∙ ap (find N.code N.all) (codes.0 t) ∙ (N.stands y).1), λ e. codes.1 (ap N.code e))

coded : (D : Declared) → Bare D.parts → (N : Naming D.D) (x y : D.D) → sameb D x y ≡ nat_eq (N.code x) (N.code y)
coded D bare N x y = one_answer _ _ (same_true D bare x y, true_same D x y) (code_decides N x y)

register_coded : (x y : Register) → sameb register_type.the_type x y ≡ nat_eq (register_code x) (register_code y)
register_coded = coded register_type.the_type tt by_register

index_coded : (x y : IndexRegister) → sameb index_type.the_type x y ≡ nat_eq (index_code x) (index_code y)
index_coded = coded index_type.the_type tt by_index

-- The test of operations computes, whichever it is, so it is compared with that of the codes at each pair of codes.
abbrev named : ℕ → Operation
named n = unwrap_or (operation n) Cmpa

named_back : (x : Operation) → named (operation_code x) ≡ x
named_back x = ap (λ o. unwrap_or o Cmpa) (operation_stands x).1

abbrev agree : Operation → Operation → Bool
agree x y = cond (operation_test.ghosts.eq x y) (on operation_code nat_eq x y) (not (on operation_code nat_eq x y))

abbrev agree_all : ℕ → Bool
agree_all n = agree_below (λ k. agree (named n) (named k)) (λ k. true) 32

agreed : (x y : Operation) → agree x y ≡ true
agreed x y =
    let rows : agree_below agree_all (λ n. true) 32 ≡ true = refl in
    let row = agree_below_at agree_all (λ n. true) 32 (operation_code x) rows (operation_stands x).0 in
    let here = agree_below_at (λ k. agree (named (operation_code x)) (named k)) (λ k. true) 32 (operation_code y) row (operation_stands y).0 in
    subst (λ u. agree u y ≡ true) (named_back x) (subst (λ v. agree (named (operation_code x)) v ≡ true) (named_back y) here)

same_answer : (told codes : Bool) → cond told codes (not codes) ≡ true → told ≡ codes
same_answer told codes e = grind arith

pub told_by_code : (x y : Operation) → operation_test.ghosts.eq x y ≡ on operation_code nat_eq x y
told_by_code x y = same_answer _ _ (agreed x y)

pub same_code : (x y : Operation) → Decides (on operation_code nat_eq x y) (x ≡ y)
same_code = code_decides by_operation

pub operations_decided : (x y : Operation) → Decides (operation_test.ghosts.eq x y) (x ≡ y)
operations_decided x y = subst (λ told. Decides told (x ≡ y)) (sym (told_by_code x y)) (same_code x y)

-- ---- `==` answers whether the two are equal.
target_told : (x y : Target) → target_test.ghosts.eq x y ≡ true → x ≡ y
target_told (Address a) (Address b) t = ap Address (eqb-true a b t)
target_told Ip Ip t = refl
target_told x y t = absurd (clash t)

address_told : (x y : MemoryAddress) → address_test.ghosts.eq x y ≡ true → x ≡ y
address_told (Direct a) (Direct b) t = ap Direct (eqb-true a b t)
address_told (Offset i a) (Offset j b) t = let p = and_parts _ _ t in λ k. Offset (same_true index_type.the_type tt i j p.0 k) (eqb-true a b p.1 k)
address_told (OffsetR3 i) (OffsetR3 j) t = ap OffsetR3 (same_true index_type.the_type tt i j t)
address_told (PostIncrement i a) (PostIncrement j b) t = let p = and_parts _ _ t in λ k. PostIncrement (same_true index_type.the_type tt i j p.0 k) (eqb-true a b p.1 k)
address_told (PreDecrement i a) (PreDecrement j b) t = let p = and_parts _ _ t in λ k. PreDecrement (same_true index_type.the_type tt i j p.0 k) (eqb-true a b p.1 k)
address_told x y t = absurd (clash t)

instruction_told : (x y : Instruction) → instruction_test.ghosts.eq x y ≡ true → x ≡ y
instruction_told Nop Nop t = refl
instruction_told Halt Halt t = refl
instruction_told Sflag Sflag t = refl
instruction_told (Freq d) (Freq e) t = ap Freq (same_true division_type.the_type tt d e t)
instruction_told Push Push t = refl
instruction_told Pop Pop t = refl
instruction_told Ret Ret t = refl
instruction_told Reti Reti t = refl
instruction_told (Jump c x) (Jump d y) t = let p = and_parts _ _ t in λ k. Jump (same_true condition_type.the_type tt c d p.0 k) (target_told x y p.1 k)
instruction_told (Call x) (Call y) t = ap Call (target_told x y t)
instruction_told (Calls x) (Calls y) t = ap Calls (target_told x y t)
instruction_told (AluMemory f r m) (AluMemory g s n) t =
    let p = and_parts _ _ t in
    let q = and_parts _ _ p.1 in
    λ k. AluMemory ((operations_decided f g).0 p.0 k) (same_true register_type.the_type tt r s q.0 k) (address_told m n q.1 k)
instruction_told (AluImmediate f r a) (AluImmediate g s b) t =
    let p = and_parts _ _ t in
    let q = and_parts _ _ p.1 in
    λ k. AluImmediate ((operations_decided f g).0 p.0 k) (same_true register_type.the_type tt r s q.0 k) (eqb-true a b q.1 k)
instruction_told (AluOneSource f r a) (AluOneSource g s b) t =
    let p = and_parts _ _ t in
    let q = and_parts _ _ p.1 in
    λ k. AluOneSource ((operations_decided f g).0 p.0 k) (same_true register_type.the_type tt r s q.0 k) (same_true register_type.the_type tt a b q.1 k)
instruction_told (AluTwoSources f r a x) (AluTwoSources g s b y) t =
    let p = and_parts _ _ t in
    let q = and_parts _ _ p.1 in
    let u = and_parts _ _ q.1 in
    λ k. AluTwoSources ((operations_decided f g).0 p.0 k) (same_true register_type.the_type tt r s q.0 k) (same_true register_type.the_type tt a b u.0 k) (same_true register_type.the_type tt x y u.1 k)
instruction_told (Store m r) (Store n s) t = let p = and_parts _ _ t in λ k. Store (address_told m n p.0 k) (same_true register_type.the_type tt r s p.1 k)
instruction_told (StoreImmediate a x) (StoreImmediate b y) t = let p = and_parts _ _ t in λ k. StoreImmediate (eqb-true a b p.0 k) (eqb-true x y p.1 k)
instruction_told x y t = absurd (clash t)

pub instructions_decided : (x y : Instruction) → Decides (instruction_test.ghosts.eq x y) (x ≡ y)
instructions_decided x y = (instruction_told x y, λ e. subst (λ z. instruction_test.ghosts.eq x z ≡ true) e (instruction_laws.laws-law.refl x))

-- ---- `==` compares the numbers one by one.
-- the last number stands before the end of the list
last : (b : Bool) → b ≡ (b && true)
last b = sym (and-true b)

target_told_by_numbers : (x y : Target) → target_test.ghosts.eq x y ≡ pointwise nat_eq (target_numbers x) (target_numbers y)
target_told_by_numbers (Address a) (Address b) = last (a == b)
target_told_by_numbers Ip Ip = refl
target_told_by_numbers x y = refl

address_told_by_numbers : (x y : MemoryAddress) → address_test.ghosts.eq x y ≡ pointwise nat_eq (address_numbers x) (address_numbers y)
address_told_by_numbers (Direct a) (Direct b) = last (a == b)
address_told_by_numbers (Offset i a) (Offset j b) = λ k. index_coded i j k && last (a == b) k
address_told_by_numbers (OffsetR3 i) (OffsetR3 j) = index_coded i j ∙ last _
address_told_by_numbers (PostIncrement i a) (PostIncrement j b) = λ k. index_coded i j k && last (a == b) k
address_told_by_numbers (PreDecrement i a) (PreDecrement j b) = λ k. index_coded i j k && last (a == b) k
address_told_by_numbers x y = refl

pub told_by_numbers : (x y : Instruction) → instruction_test.ghosts.eq x y ≡ on numbers (pointwise nat_eq) x y
told_by_numbers Nop Nop = refl
told_by_numbers Halt Halt = refl
told_by_numbers Sflag Sflag = refl
told_by_numbers Push Push = refl
told_by_numbers Pop Pop = refl
told_by_numbers Ret Ret = refl
told_by_numbers Reti Reti = refl
told_by_numbers (Freq d) (Freq e) = coded division_type.the_type tt by_division d e ∙ last _
told_by_numbers (Jump c x) (Jump d y) = λ k. coded condition_type.the_type tt by_condition c d k && target_told_by_numbers x y k
told_by_numbers (Call x) (Call y) = target_told_by_numbers x y
told_by_numbers (Calls x) (Calls y) = target_told_by_numbers x y
told_by_numbers (AluMemory f r m) (AluMemory g s n) = λ k. told_by_code f g k && (register_coded r s k && address_told_by_numbers m n k)
told_by_numbers (AluImmediate f r a) (AluImmediate g s b) = λ k. told_by_code f g k && (register_coded r s k && last (a == b) k)
told_by_numbers (AluOneSource f r a) (AluOneSource g s b) = λ k. told_by_code f g k && (register_coded r s k && (register_coded a b ∙ last _) k)
told_by_numbers (AluTwoSources f r a x) (AluTwoSources g s b y) = λ k. told_by_code f g k && (register_coded r s k && (register_coded a b k && (register_coded x y ∙ last _) k))
told_by_numbers (Store m r) (Store n s) = and_comm (address_test.ghosts.eq m n) (sameb register_type.the_type r s) ∙ (λ k. register_coded r s k && address_told_by_numbers m n k)
told_by_numbers (StoreImmediate a x) (StoreImmediate b y) = λ k. a == b && last (x == y) k
told_by_numbers x y = refl

pub same_numbers : (x y : Instruction) → Decides (on numbers (pointwise nat_eq) x y) (x ≡ y)
same_numbers x y = subst (λ told. Decides told (x ≡ y)) (told_by_numbers x y) (instructions_decided x y)
