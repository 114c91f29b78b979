use Rattle.std.proofs.Common.{rules}
use Rattle.platform.proofs.Words.{tested_as}
use Rattle.platform.proofs.number_store.NumberStore.test.Goals as goal

pub returns-in-Some-clause-tests : goal.returns-in-Some-clause-tests
returns-in-Some-clause-tests g c = tested_as g.met.N.Numbers.is_reading _ _ (search rules)

pub returns-in-None-clause-tests : goal.returns-in-None-clause-tests
returns-in-None-clause-tests g c = tested_as g.met.N.Numbers.is_reading _ _ (search rules)
