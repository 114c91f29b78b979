-- What the loop over the lines finds, by one rule.
-- Assumes nothing.
use Rattle.std.proofs.Common.{◌≡◌, ℕ, ◌<◌, Bool, not, [], ◌∷◌, length, is_ok, None, Ok, Err, Result, MatchResult, unwrap_or, sym, ap, ◌∙◌, arith}
use Rattle.std.specs.Result.{result_err}
use Rattle.platform.specs.Lowest.{lowest}
use Rattle.platform.proofs.Search.{found}
use Rattle.admission.specs.Admission.{sound, fault, unless_at, checked}
use Rattle.admission.specs.Program.{Program}
use Rattle.admission.specs.Tests.{line_checked}
use Rattle.admission.specs.declared.faults.Breach.{Breach}
use Rattle.admission.specs.declared.faults.Breach.TheVariants.{Broken}
use Rattle.admission.specs.declared.faults.Fault.{Fault}
use Rattle.admission.specs.declared.rules.LineRule.{LineRule}
use Rattle.admission.specs.declared.rules.Rule.TheVariants.{Line}

module _ (rule : LineRule) (P : Program) where
  abbrev pub answer : ℕ → Result (Unit {0}) Breach
  answer a = line_checked rule P.count P.table P.lines (P.word a) a

  abbrev pub breaks : ℕ → Bool
  breaks a = not (sound (Line rule) P a)

  abbrev Checked : Type 0
  Checked = Result (Unit {0}) Fault

  -- m is the answer at a, with the place
  abbrev pub WithPlace : ℕ → Checked → Result (Unit {0}) Breach → Type 0
  WithPlace a m r = MatchResult r (λ u. m ≡ Ok u) (λ b. m ≡ Err (record { breach = b; place = a }))

  module _ (a : ℕ) (r : Result (Unit {0}) Breach) (m : Checked) (before : lowest breaks a ≡ None) where
    pub breaks_at : (f : Fault) → a < length P.lines → r ≡ answer a → WithPlace a m r → m ≡ Err f → ◌≡◌ {A = Checked} (Err f) (checked (Line rule ∷ []) P (Ok tt))
    breaks_at f lt = by r
      where
        by : (r : Result (Unit {0}) Breach) → r ≡ answer a → WithPlace a m r → m ≡ Err f → ◌≡◌ {A = Checked} (Err f) (checked (Line rule ∷ []) P (Ok tt))
        by (Ok v) is h err = grind arith
        by (Err b) is h err =
            let at = found breaks a (length P.lines) lt before (ap (λ x. not (is_ok x)) (sym is)) in
            let same = ap (λ x. unwrap_or (result_err x) (Broken (Line rule))) (sym is) in
            sym err ∙ h ∙ ap (λ x. Err (record { breach = x; place = a })) (sym same) ∙ sym (ap (λ o. unless_at {X = Unit {0}} o (fault (Line rule) P) (Ok tt)) at)
