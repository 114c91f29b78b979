use Rattle.std.proofs.Common.{rules, tests}
use Rattle.admission.specs.Roles.{in_role}
use Rattle.admission.specs.Views.{table_in}
use Rattle.admission.proofs.Searching.{lowest_from_find}
use Rattle.admission.proofs.chain.Chain.find.Goals as goal

pub returns : goal.returns
returns c = lowest_from_find _ (in_role (table_in c.args.self.now) c.args.kind c.args.entry) _ _ c.indices.ensures c.find.ensures.ran (λ x b q k. search (rules, tests))
