-- What admission promises, whatever way it goes about it.
-- Assumes nothing.
use Rattle.std.specs.Prelude.{◌≡◌, ℕ, ◌<◌, ◌↔◌, Some, Ok, Err, Result}
use Rattle.words.specs.Decoding.{decoded}
use Rattle.words.specs.declared.errors.DecodeError.{DecodeError}
use Rattle.admission.specs.Program.{Program}
use Rattle.admission.specs.Refusals.{rule_number, refusal}
use Rattle.admission.specs.Rules.{Holds, Deepest}
use Rattle.admission.specs.declared.faults.Breach.TheVariants.{Undefined}
use Rattle.admission.specs.declared.faults.Fault.{Fault}
use Rattle.admission.specs.declared.rules.Rule.{Rule}

module _ (P : Program) where
  -- the rules before this one hold everywhere
  abbrev pub Before : Rule → Type 0
  Before rule = (other : Rule) → rule_number other < rule_number rule → (p : ℕ) → Holds P other p

  -- all rules hold everywhere
  abbrev pub AllHold : Type 0
  AllHold = (rule : Rule) (p : ℕ) → Holds P rule p

  -- this is the first rule that is broken, and p is the lowest place where it is
  pub record FirstBreak (rule : Rule) (p : ℕ) : Type 0 where
    pub before : Before rule
    pub below : (q : ℕ) → q < p → Holds P rule q
    pub breaks : Holds P rule p → ⊥

  -- what r says of P
  pub record Judges (r : Result ℕ Fault) : Type 0 where
    -- it admits a program exactly if all rules hold, and says how deep its stack gets
    pub admits : (d : ℕ) → (r ≡ Ok d) ↔ (AllHold × Deepest P d)
    -- it refuses with a rule's number and a place exactly if that rule is the first one broken, and there first
    pub refuses : (rule : Rule) (p : ℕ) → (refusal r ≡ Some (rule_number rule, p)) ↔ FirstBreak rule p
    -- a refusal of a word that is no instruction has the decoder's own in it, and no other has one
    pub carries : (p : ℕ) (e : DecodeError) → refusal r ≡ Some (8, p) → (r ≡ Err (record { breach = Undefined e; place = p })) ↔ (decoded (P.word p) ≡ Err e)
