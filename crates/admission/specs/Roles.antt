-- Which records are the background and the three interrupt routines.
-- Assumes nothing.
use Rattle.std.specs.Prelude.{ℕ, ◌+◌, max, Bool, false, cond, not, ◌&&◌, ◌||◌, List, [], ◌∷◌, is_some, Some, None, Option, ◌==◌, slice_index}
use Rattle.platform.specs.Lowest.{lowest}
use Rattle.admission.specs.Chain.{chained}
use Rattle.admission.specs.Tables.{records, entry, kind, need}
use Rattle.admission.specs.declared.kinds.Kind.{Kind}
use Rattle.admission.specs.declared.kinds.Kind.TheVariants.{Background, Quiet, Interrupt, Open}
use Rattle.admission.specs.declared.roles.Roles.{Roles}

abbrev pub kind_code : Kind → ℕ
kind_code Background = 1
kind_code Quiet = 2
kind_code Interrupt = 3
kind_code Open = 4

abbrev pub is : Option Kind → Kind → Bool
is None k = false
is (Some j) k = kind_code j == kind_code k

-- a chained record of that kind is entered there
abbrev pub in_role : List ℕ → Kind → ℕ → ℕ → Bool
in_role T κ e k = chained T k && (is (kind T k) κ && entry T k == e)

-- the lowest such record
abbrev pub found : List ℕ → Kind → ℕ → Option ℕ
found T κ e = lowest (in_role T κ e) (records T + 1)

abbrev pub level : Roles → ℕ → ℕ
level r i = slice_index r.levels i

-- a chained record is another background than that of r, or another interrupt routine
abbrev pub stray : List ℕ → Roles → ℕ → Bool
stray T r k =
    chained T k
    && ((is (kind T k) Background && not (k == r.background))
    || (is (kind T k) Interrupt && not (k == level r 0 || (k == level r 1 || k == level r 2))))

abbrev pub strays : List ℕ → Roles → Bool
strays T r = is_some (lowest (stray T r) (records T + 1))

abbrev pub unless_stray : List ℕ → Roles → Option Roles
unless_stray T r = cond (strays T r) None (Some r)

abbrev pub joint : List ℕ → Option ℕ → Option ℕ → Option ℕ → Option ℕ → Option Roles
joint T None l0 l1 l2 = None
joint T (Some b) None l1 l2 = None
joint T (Some b) (Some l0) None l2 = None
joint T (Some b) (Some l0) (Some l1) None = None
joint T (Some b) (Some l0) (Some l1) (Some l2) = unless_stray T (record { background = b; levels = l0 ∷ l1 ∷ l2 ∷ [] })

-- the background is entered at 0, and each level at its vector; no other chained record is of these kinds
abbrev pub roles_of : List ℕ → List ℕ → Option Roles
roles_of vectors T = joint T (found T Background 0) (found T Interrupt (slice_index vectors 0)) (found T Interrupt (slice_index vectors 1)) (found T Interrupt (slice_index vectors 2))

-- the background's need, the word that an entry pushes, and the largest need of an interrupt routine
abbrev pub deepest : List ℕ → Roles → ℕ
deepest T r = need T r.background + 1 + max (need T (level r 0)) (max (need T (level r 1)) (need T (level r 2)))
