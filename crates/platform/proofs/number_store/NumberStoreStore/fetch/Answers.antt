use Rattle.platform.proofs.Words.{narrow}
use Rattle.platform.proofs.number_store.NumberStoreStore.fetch.Goals as goal

pub returns-clause-narrow : goal.returns-clause-narrow
returns-clause-narrow g c = narrow g.met.N.Numbers.is_reading _ c.args.self.now.good c.args.address
