-- Which operations a form of instruction has (CoolRISC 816 manual, section 2.1 and table 2.5).
-- Assumes nothing.
use Rattle.std.specs.Prelude.{Bool, true, false}
use Rattle.words.specs.declared.operations.Form.{Form}
use Rattle.words.specs.declared.operations.Form.TheVariants.{Memory, Immediate, OneSource, TwoSources}
use Rattle.words.specs.declared.operations.Operation.{Operation}
use Rattle.words.specs.declared.operations.Operation.TheVariants.{Cmpa, Cmp, And, Subs, Subd, Subdc, Mula, Subsc, Xor, Move, Or, Add, Addc, Mul, Tstb, Shra, Inc, Cmvd, Cmvs, Shrc, Incc, Shr, Cpl1, Cpl2, Shl, Dec, Cpl2c, Shlc, Decc}

-- what an operation reads: MOVE alone reads one source and takes an immediate too, TSTB reads a register under a mask
pub data Kind : Type 0 where
  move : Kind
  unary : Kind
  binary : Kind
  mask : Kind

abbrev pub kind : Operation → Kind
kind Cmpa = binary
kind Cmp = binary
kind And = binary
kind Subs = binary
kind Subd = binary
kind Subdc = binary
kind Mula = binary
kind Subsc = binary
kind Xor = binary
kind Move = move
kind Or = binary
kind Add = binary
kind Addc = binary
kind Mul = binary
kind Tstb = mask
kind Shra = unary
kind Inc = unary
kind Cmvd = unary
kind Cmvs = unary
kind Shrc = unary
kind Incc = unary
kind Shr = unary
kind Cpl1 = unary
kind Cpl2 = unary
kind Shl = unary
kind Dec = unary
kind Cpl2c = unary
kind Shlc = unary
kind Decc = unary

abbrev pub in_form : Kind → Form → Bool
in_form move Memory = true
in_form move Immediate = true
in_form move OneSource = true
in_form move TwoSources = false
in_form unary Memory = true
in_form unary Immediate = false
in_form unary OneSource = true
in_form unary TwoSources = false
in_form binary Memory = true
in_form binary Immediate = true
in_form binary OneSource = false
in_form binary TwoSources = true
in_form mask Memory = false
in_form mask Immediate = true
in_form mask OneSource = false
in_form mask TwoSources = false

abbrev pub has_form : Operation → Form → Bool
has_form op form = in_form (kind op) form

abbrev pub one_source : Operation → Bool
one_source op = has_form op OneSource
