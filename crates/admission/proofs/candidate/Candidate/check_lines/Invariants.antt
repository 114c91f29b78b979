use Rattle.std.proofs.Common.{◌≡◌, not, None}
use Rattle.platform.specs.Lowest.{lowest}
use Rattle.admission.specs.Admission.{sound}
use Rattle.admission.specs.Views.{program_in}
use Rattle.admission.specs.declared.rules.Rule.TheVariants.{Line}
use Rattle.admission.proofs.candidate.Candidate.check_lines.Given as goal

abbrev pub invariant-loop-index : goal.invariant-loop-index
invariant-loop-index g l = lowest (λ a. not (sound (Line l.rule) (program_in l.self (g.S.Store.word l.store)) a)) l.index ≡ None
