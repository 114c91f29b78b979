use Rattle.std.proofs.Common.{length, Err, sym, ap, ◌∙◌}
use Rattle.std.proofs.lemmas.Bool.{eqb-true, and_parts}
use Rattle.std.proofs.lemmas.Result.{err_from_is_err_and}
use Rattle.admission.specs.Program.{program}
use Rattle.admission.proofs.Judging.{later, out_of_limits, missized, unchained, chained_well}
use Rattle.admission.proofs.gate.admit.Goals as goal

pub returns-then-not-is_in_limits : goal.returns-then-not-is_in_limits
returns-then-not-is_in_limits g c = out_of_limits _ _ (sym c.if-not-is_in_limits.ensures.value) (ap Err c.fault_of.ensures)

pub returns-then-not-has_sizes : goal.returns-then-not-has_sizes
returns-then-not-has_sizes g c =
    let sizes = rw c.word_count.ensures.value at (sym c.if-not-has_sizes.ensures) in
    missized _ _ (sym c.if-not-is_in_limits.ensures.value) sizes (ap Err c.fault_of-then-not-has_sizes.ensures)

pub returns-in_err-chain : goal.returns-in_err-chain
returns-in_err-chain g c =
    let sizes = rw c.word_count.ensures.value at (sym c.if-not-has_sizes.ensures) in
    let f = c.in_err-chain.field-0.0 in
    let walked = c.in_err-chain.ensures in
    let back = err_from_is_err_and c.from_residual.result c.from_residual.ensures.1 in
    unchained _ _ (sym c.if-not-is_in_limits.ensures.value) sizes f.place walked.1 (back.1 ∙ ap Err (back.2 ∙ ap (λ b. record { breach = b; place = f.place }) walked.0))

pub returns : goal.returns
returns g c =
    let d = c.args.description in
    let word = g.S.Store.word c.args.store.now in
    let T = c.args.table.now in
    let L = c.args.lines.now in
    let sizes = rw c.word_count.ensures.value at (sym c.if-not-has_sizes.ensures) in
    let count = eqb-true (length L) _ (and_parts _ _ sizes).1 in
    let same = ap (λ x. later (program d (length L) word x L)) c.in_ok-chain.ensures.0 ∙ ap (λ n. later (program d n word T L)) count in
    chained_well _ _ (sym c.if-not-is_in_limits.ensures.value) sizes c.in_ok-chain.ensures.1 (c.judge.ensures ∙ same)
