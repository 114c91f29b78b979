-- Tests that decide statements, put together.
-- Assumes nothing.
use Rattle.std.proofs.Common.{◌≡◌, ℕ, ◌≤◌, Bool, true, false, not, ◌||◌, leb, is_some, is_ok, Some, None, Decides, Option, refl, arith}
use Rattle.std.proofs.lemmas.Bool.{false≢true, leb-true, le-leb}
use Rattle.std.proofs.lemmas.Option.{none-some}
use Rattle.admission.specs.Roles.{is}
use Rattle.admission.specs.Tests.{unless}
use Rattle.admission.specs.declared.kinds.Kind.{Kind}
use Rattle.admission.specs.declared.rules.LineRule.{LineRule}

pub decides_leb : (a b : ℕ) → Decides (leb a b) (a ≤ b)
decides_leb a b = (leb-true a b, le-leb a b)

pub decides_implies : {A B : Type 0} (a b : Bool) → Decides a A → Decides b B → Decides (not a || b) (A → B)
decides_implies true b da db = (λ e x. db.0 e, λ h. db.1 (h (da.0 refl)))
decides_implies false b da db = (λ e x. absurd (false≢true (da.1 x)), λ h. refl)

pub decides_is : (o : Option Kind) (k : Kind) → Decides (is o k) (o ≡ Some k)
decides_is o k = (λ e. grind arith, λ e. grind arith)

pub decides_is_some : {X : Type 0} (o : Option X) → Decides (is_some o) ((x : X) × (o ≡ Some x))
decides_is_some None = (λ e. absurd (false≢true e), λ h. absurd (none-some h.0 h.1))
decides_is_some (Some x) = (λ e. (x, refl), λ h. refl)

pub is_ok-unless : (b : Bool) (rule : LineRule) → is_ok (unless b rule) ≡ b
is_ok-unless b rule = grind arith
