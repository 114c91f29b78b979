use Rattle.std.proofs.Common.{arith}
use Rattle.std.proofs.lemmas.List.{take_all}
use Rattle.job.proofs.Pairs.{numbers_from_pairs}
use Rattle.job.proofs.numbers.numbers_of.Goals as goal

pub returns : goal.returns
returns g c = cc (take_all c.loop-pair.pair-index c.as_chunks.result.0.now (omega arith), numbers_from_pairs c.args.bytes.now)
