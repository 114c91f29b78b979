use Rattle.std.proofs.Common.{◌≡◌, ◌^◌, true, false, leb, rules}
use borrow.Author.Tests.{tests}
use Rattle.std.proofs.lemmas.Iterator.{first_from_Range}
use Rattle.platform.proofs.Search.{found_below}
use Rattle.platform.proofs.number_store.first_wide.Goals as goal

pub returns : goal.returns
returns g c =
    let word = g.N.Numbers.reading.number (g.N.Numbers.given c.args.numbers) in
    let both = found_below (λ a. leb (2 ^ 22) (word a)) c.args.count c.find.result (first_from_Range _ _ _ c.find.result (λ a. leb (2 ^ 22) (word a) ≡ true) (λ a. leb (2 ^ 22) (word a) ≡ false) c.find.ensures.ran (λ x q k. search (rules, tests)) (λ x q k. search (rules, tests))) in
    record { value = both.0; below = both.1 }
