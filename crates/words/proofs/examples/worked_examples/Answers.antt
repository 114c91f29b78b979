use Rattle.std.proofs.Common.{refl}
use Rattle.words.specs.Decoding.{decoded}
use Rattle.words.specs.Encoding.{encoded}
use Rattle.words.proofs.examples.worked_examples.Goals as goal

-- antt computes both ways
pub returns : goal.returns
unfolding decoded encoded
returns c = (record { value = refl; all_stand = (refl, refl, (refl, refl, (refl, refl, tt))) })
