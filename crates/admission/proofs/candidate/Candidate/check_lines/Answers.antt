use Rattle.std.proofs.Common.{rules}
use Rattle.std.proofs.lemmas.Result.{err_from_is_err_and}
use Rattle.admission.specs.Views.{program_in}
use Rattle.admission.proofs.EachLine.{breaks_at}
use Rattle.admission.proofs.candidate.Candidate.check_lines.Goals as goal

pub returns-in_err-map_err : goal.returns-in_err-map_err
returns-in_err-map_err g c =
    let P = program_in c.args.self.now (g.S.Store.word c.args.store.now) in
    let p = err_from_is_err_and c.from_residual.result c.from_residual.ensures.1 in
    rw (p.1, p.2) (breaks_at c.args.rule P c.loop-index.index c.check_line.result _ c.loop-index.invariant _ c.loop-index-test.true (rw c.word_at.ensures at c.check_line.ensures) (search rules) c.in_err-map_err.was)
