-- `agreement::compare_results` meets its contract: counts, diagnostics, then the filled image.
use Rattle.std.proofs.Common.{◌∙◌}
use Rattle.std.proofs.lemmas.Result.{err_from_is_err_and}
use Rattle.agreement.proofs.Laws.{leaves-count, results-counts, results-differ, results_same, results-filled}
use Rattle.agreement.proofs.compare_results.Goals as goal

pub returns-then-ne : goal.returns-then-ne
returns-then-ne c = results-counts _ _ _ c.requires c.ne.ensures c.if-ne.true

pub compare_diagnostics-found-requires : goal.compare_diagnostics-found-requires
compare_diagnostics-found-requires c = (c.requires.reported, c.total.ensures.0 ∙ leaves-count c.requires)

pub returns-in_err-at : goal.returns-in_err-at
returns-in_err-at c =
    let p = err_from_is_err_and c.from_residual.result c.from_residual.ensures.1 in
    rw (p.1, p.2) (results-differ _ _ _ c.requires c.ne.ensures c.if-ne.false c.compare_diagnostics-found.ensures c.in_err-at.ensures.cases)

pub returns-then-not-filled_agrees : goal.returns-then-not-filled_agrees
returns-then-not-filled_agrees c = results-filled _ _ _ c.requires c.ne.ensures c.if-ne.false c.compare_diagnostics-found.ensures _ c.in_ok-at.ensures.cases c.filled_agrees.ensures c.if-not-filled_agrees.true

pub returns : goal.returns
returns c = results_same _ _ _ c.requires c.ne.ensures c.if-ne.false c.compare_diagnostics-found.ensures _ c.in_ok-at.ensures.cases c.filled_agrees.ensures c.if-not-filled_agrees.false
