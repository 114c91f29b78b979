-- The program of nine words, judged by computing.
-- Assumes nothing.
use Rattle.std.proofs.Common.{refl}
use Rattle.words.specs.Decoding.{decoded}
use Rattle.admission.specs.Admission.{admission}
use Rattle.job.specs.Examples.{ThreeIsEnough}

pub three_is_enough : ThreeIsEnough
unfolding admission decoded
three_is_enough = record { at_three = refl; at_two = refl }
