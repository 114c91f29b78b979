use Rattle.std.proofs.Common.{rules, tests}
use Rattle.admission.specs.Roles.{stray}
use Rattle.admission.specs.Views.{table_in}
use Rattle.admission.proofs.Searching.{is_some_from_any}
use Rattle.admission.proofs.chain.Chain.has_stray.Goals as goal

pub returns : goal.returns
returns c = is_some_from_any _ (stray (table_in c.args.self.now) c.args.roles) _ _ c.indices.ensures c.any.ensures.ran (λ x b q k. search (rules, tests))
