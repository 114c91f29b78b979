use Rattle.std.proofs.Common.{is_ok, Err, sym, ap, ◌∙◌, rules}
use Rattle.std.proofs.lemmas.Result.{err_from_is_err_and}
use Rattle.job.specs.Jobs.{ruled}
use Rattle.job.proofs.Parts.{ruled_of_parts}
use Rattle.job.proofs.Saying.{saying}
use Rattle.job.proofs.judging.judge.Goals as goal

pub returns-in_err-parts-clause-says : goal.returns-in_err-parts-clause-says
returns-in_err-parts-clause-says c = saying c.args.job.now _ (search rules)

pub returns-in_err-test-clause-says : goal.returns-in_err-test-clause-says
returns-in_err-test-clause-says c = saying c.args.job.now _ (search rules)

pub returns-in_err-check_rules : goal.returns-in_err-check_rules
returns-in_err-check_rules c =
    let parts = c.in_ok-parts.ensures in
    let sized = sym c.read.ensures.variant ∙ ap is_ok c.in_ok-parts.was in
    let fit = sym c.test.ensures.value ∙ c.in_ok-test.was in
    let meant = ruled_of_parts c.args.job.now sized _ parts.words fit _ _ _ parts.description parts.table parts.lines _ c.check_rules.ensures in
    let refused = err_from_is_err_and _ c.from_residual-in_err-check_rules.ensures.1 in
    let value = refused.1 ∙ ap Err refused.2 ∙ ap ruled (sym c.in_err-check_rules.was) ∙ meant in
    record { value = value; says = saying c.args.job.now _ value }

pub returns : goal.returns
returns c =
    let parts = c.in_ok-parts.ensures in
    let sized = sym c.read.ensures.variant ∙ ap is_ok c.in_ok-parts.was in
    let fit = sym c.test.ensures.value ∙ c.in_ok-test.was in
    let value = ap ruled (sym c.in_ok-check_rules.was) ∙ ruled_of_parts c.args.job.now sized _ parts.words fit _ _ _ parts.description parts.table parts.lines _ c.check_rules.ensures in
    record { value = value; says = saying c.args.job.now _ value }
