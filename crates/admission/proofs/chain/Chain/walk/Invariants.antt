use Rattle.std.proofs.Common.{◌-◌, ◌≤◌}
use Rattle.admission.specs.Tables.{records}
use Rattle.admission.proofs.Walk.{Walked}
use Rattle.admission.proofs.chain.Chain.walk.Given as goal

abbrev pub invariant-loop-table : goal.invariant-loop-table
invariant-loop-table l = Walked l.table.numbers.now l.marks l.index × (l.index ≤ records l.table.numbers.now)

abbrev pub decreases-loop-table : goal.decreases-loop-table
decreases-loop-table l = 256 - l.index
