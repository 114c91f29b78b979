use Rattle.std.proofs.Common.{rules, tests}
use Rattle.admission.proofs.Searching.{lowest_from_find}
use Rattle.admission.proofs.candidate.Candidate.first_breaking.Goals as goal

pub returns : goal.returns
returns c = lowest_from_find _ _ _ _ c.indices.ensures c.find.ensures.ran (λ x b q k. search (rules, tests))
