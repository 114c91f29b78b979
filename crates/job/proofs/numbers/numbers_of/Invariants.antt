use Rattle.std.proofs.Common.{◌≡◌, map, take}
use Rattle.std.specs.Int.{w16, from_be_bytes}
use Rattle.job.proofs.numbers.numbers_of.Given as goal

abbrev pub invariant-loop-pair : goal.invariant-loop-pair
invariant-loop-pair g l = l.numbers.items ≡ map (from_be_bytes w16) (take l.pair-index l.pair-items)
