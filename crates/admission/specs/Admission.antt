-- What admission answers: the first rule that is broken, at its lowest place, or how deep the stack gets.
-- Assumes nothing.
use Rattle.std.specs.Prelude.{ℕ, ◌+◌, Bool, true, not, List, [], ◌∷◌, length, is_some, is_ok, Some, None, Ok, Err, Option, Result, nat_le}
use Rattle.platform.specs.Description.{in_limits}
use Rattle.platform.specs.Lowest.{lowest}
use Rattle.admission.specs.Chain.{link_sound}
use Rattle.admission.specs.Program.{Program}
use Rattle.admission.specs.Refusals.{rules}
use Rattle.admission.specs.Roles.{roles_of, deepest}
use Rattle.admission.specs.Tables.{records}
use Rattle.admission.specs.Tests.{sized, record_sound, line_checked, line_breach}
use Rattle.admission.specs.declared.faults.Breach.{Breach}
use Rattle.admission.specs.declared.faults.Breach.TheVariants.{Broken}
use Rattle.admission.specs.declared.faults.Fault.{Fault}
use Rattle.admission.specs.declared.roles.Roles.{Roles}
use Rattle.admission.specs.declared.rules.Rule.{Rule}
use Rattle.admission.specs.declared.rules.Rule.TheVariants.{Description, Sizes, Chain, Record, Entries, Line, Depth}

-- how many places a rule has, counted from 0
abbrev pub places : Rule → Program → ℕ
places Description P = 1
places Sizes P = 1
places Chain P = records P.table + 1
places (Record rule) P = records P.table + 1
places Entries P = 1
places (Line rule) P = length P.lines
places Depth P = 1

abbrev pub roles : Program → Option Roles
roles P = roles_of P.description.vectors P.table

abbrev pub fits : List ℕ → ℕ → Option Roles → Bool
fits T depth None = true
fits T depth (Some r) = nat_le (deepest T r) depth

-- a rule holds at a place
abbrev pub sound : Rule → Program → ℕ → Bool
sound Description P p = in_limits P.description
sound Sizes P p = sized P.count P.table P.lines
sound Chain P p = link_sound P.table p
sound (Record rule) P p = record_sound rule P.count P.table P.lines p
sound Entries P p = is_some (roles P)
sound (Line rule) P p = is_ok (line_checked rule P.count P.table P.lines (P.word p) p)
sound Depth P p = fits P.table P.description.depth (roles P)

-- the lowest place at which a rule is broken
abbrev pub broken : Rule → Program → Option ℕ
broken rule P = lowest (λ p. not (sound rule P p)) (places rule P)

-- what is wrong there: a word that is no instruction is refused with the decoder's own refusal
abbrev pub breach : Rule → Program → ℕ → Breach
breach Description P p = Broken Description
breach Sizes P p = Broken Sizes
breach Chain P p = Broken Chain
breach (Record rule) P p = Broken (Record rule)
breach Entries P p = Broken Entries
breach (Line rule) P p = line_breach rule P.count P.table P.lines (P.word p) p
breach Depth P p = Broken Depth

abbrev pub fault : Rule → Program → ℕ → Fault
fault rule P p = record { breach = breach rule P p; place = p }

abbrev pub unless_at : {X : Type 0} → Option ℕ → (ℕ → Fault) → Result X Fault → Result X Fault
unless_at None f rest = rest
unless_at (Some p) f rest = Err (f p)

-- the rules of the list, in their order; what comes last, if none is broken
abbrev pub checked : {X : Type 0} → List Rule → Program → Result X Fault → Result X Fault
checked [] P last = last
checked (rule ∷ rest) P last = unless_at (broken rule P) (fault rule P) (checked rest P last)

abbrev pub depth_of : List ℕ → Option Roles → ℕ
depth_of T None = 0
depth_of T (Some r) = deepest T r

unfoldable pub admission : Program → Result ℕ Fault
admission P = checked rules P (Ok (depth_of P.table (roles P)))
