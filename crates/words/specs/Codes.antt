-- The codes by which a word names registers, conditions, divisions and operations (CoolRISC 816 manual, table 2.5).
-- Assumes nothing.
use Rattle.std.specs.Prelude.{ℕ, cond, List, [], ◌∷◌, Some, None, Option, ◌==◌}
use Rattle.std.specs.Option.{unwrap_or}
use Rattle.words.specs.declared.conditions.Condition.{Condition}
use Rattle.words.specs.declared.conditions.Condition.TheVariants.{CarryClear, OverflowClear, ZeroClear, Always, CarrySet, OverflowSet, ZeroSet, Event}
use Rattle.words.specs.declared.divisions.Division.{Division}
use Rattle.words.specs.declared.divisions.Division.TheVariants.{Undivided, By2, By4, By8, By16}
use Rattle.words.specs.declared.operations.Operation.{Operation}
use Rattle.words.specs.declared.operations.Operation.TheVariants.{Cmpa, Cmp, And, Subs, Subd, Subdc, Mula, Subsc, Xor, Move, Or, Add, Addc, Mul, Tstb, Shra, Inc, Cmvd, Cmvs, Shrc, Incc, Shr, Cpl1, Cpl2, Shl, Dec, Cpl2c, Shlc, Decc}
use Rattle.words.specs.declared.registers.IndexRegister.{IndexRegister}
use Rattle.words.specs.declared.registers.IndexRegister.TheVariants.{I0, I1, I2, I3}
use Rattle.words.specs.declared.registers.Register.{Register}
use Rattle.words.specs.declared.registers.Register.TheVariants.{I0l, I0h, I1l, I1h, I2l, I2h, I3l, I3h, Ipl, Iph, Stat, R3, R2, R1, R0, A}

-- the one of xs whose code is n
abbrev pub find : {X : Type 0} → (X → ℕ) → List X → ℕ → Option X
find code [] n = None
find code (x ∷ xs) n = cond (code x == n) (Some x) (find code xs n)

-- four bits name a register
abbrev pub register_code : Register → ℕ
register_code I0l = 0b0000
register_code I0h = 0b0001
register_code I1l = 0b0010
register_code I1h = 0b0011
register_code I2l = 0b0100
register_code I2h = 0b0101
register_code I3l = 0b0110
register_code I3h = 0b0111
register_code Ipl = 0b1000
register_code Iph = 0b1001
register_code Stat = 0b1010
register_code R3 = 0b1011
register_code R2 = 0b1100
register_code R1 = 0b1101
register_code R0 = 0b1110
register_code A = 0b1111

abbrev pub registers : List Register
registers = I0l ∷ I0h ∷ I1l ∷ I1h ∷ I2l ∷ I2h ∷ I3l ∷ I3h ∷ Ipl ∷ Iph ∷ Stat ∷ R3 ∷ R2 ∷ R1 ∷ R0 ∷ A ∷ []

abbrev pub register : ℕ → Register
register n = unwrap_or (find register_code registers n) A

-- two bits name an index register
abbrev pub index_code : IndexRegister → ℕ
index_code I0 = 0b00
index_code I1 = 0b01
index_code I2 = 0b10
index_code I3 = 0b11

abbrev pub index_registers : List IndexRegister
index_registers = I0 ∷ I1 ∷ I2 ∷ I3 ∷ []

abbrev pub index : ℕ → IndexRegister
index n = unwrap_or (find index_code index_registers n) I3

-- three bits name a condition
abbrev pub condition_code : Condition → ℕ
condition_code CarryClear = 0b000
condition_code OverflowClear = 0b001
condition_code ZeroClear = 0b010
condition_code Always = 0b011
condition_code CarrySet = 0b100
condition_code OverflowSet = 0b101
condition_code ZeroSet = 0b110
condition_code Event = 0b111

abbrev pub conditions : List Condition
conditions = CarryClear ∷ OverflowClear ∷ ZeroClear ∷ Always ∷ CarrySet ∷ OverflowSet ∷ ZeroSet ∷ Event ∷ []

abbrev pub condition : ℕ → Condition
condition n = unwrap_or (find condition_code conditions n) Event

-- four bits name a division of the clock, or nothing
abbrev pub division_code : Division → ℕ
division_code Undivided = 0b0000
division_code By2 = 0b1000
division_code By4 = 0b1100
division_code By8 = 0b1110
division_code By16 = 0b1111

abbrev pub divisions : List Division
divisions = Undivided ∷ By2 ∷ By4 ∷ By8 ∷ By16 ∷ []

abbrev pub division : ℕ → Option Division
division n = find division_code divisions n

-- five bits name an operation, or nothing; the four bits of the immediate form are the lower four of these
abbrev pub operation_code : Operation → ℕ
operation_code Cmpa = 0b00000
operation_code Cmp = 0b00001
operation_code And = 0b00010
operation_code Subs = 0b00011
operation_code Subd = 0b00100
operation_code Subdc = 0b00101
operation_code Mula = 0b00110
operation_code Subsc = 0b00111
operation_code Xor = 0b01000
operation_code Move = 0b01010
operation_code Or = 0b01011
operation_code Add = 0b01100
operation_code Addc = 0b01101
operation_code Mul = 0b01110
operation_code Tstb = 0b01111
operation_code Shra = 0b10000
operation_code Inc = 0b10001
operation_code Cmvd = 0b10010
operation_code Cmvs = 0b10011
operation_code Shrc = 0b10100
operation_code Incc = 0b10101
operation_code Shr = 0b10110
operation_code Cpl1 = 0b11000
operation_code Cpl2 = 0b11001
operation_code Shl = 0b11010
operation_code Dec = 0b11011
operation_code Cpl2c = 0b11100
operation_code Shlc = 0b11110
operation_code Decc = 0b11111

abbrev pub operations : List Operation
operations = Cmpa ∷ Cmp ∷ And ∷ Subs ∷ Subd ∷ Subdc ∷ Mula ∷ Subsc ∷ Xor ∷ Move ∷ Or ∷ Add ∷ Addc ∷ Mul ∷ Tstb ∷ Shra ∷ Inc ∷ Cmvd ∷ Cmvs ∷ Shrc ∷ Incc ∷ Shr ∷ Cpl1 ∷ Cpl2 ∷ Shl ∷ Dec ∷ Cpl2c ∷ Shlc ∷ Decc ∷ []

abbrev pub operation : ℕ → Option Operation
operation n = find operation_code operations n
