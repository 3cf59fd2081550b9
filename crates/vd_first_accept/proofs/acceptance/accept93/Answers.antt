use Rattle.std.proofs.Common.{sym, subst}
use Rattle.std.proofs.lemmas.Result.{err_from_is_err_and}
use Rattle.vd_trees.specs.declared.revision.Revision.TheVariants.{V1993}
use Rattle.vd_first_accept.specs.Acceptance.{HasTokens}
use Rattle.vd_first_accept.proofs.AcceptanceLemmas.{accepts, names_refused}
use Rattle.vd_first_accept.proofs.acceptance.accept93.Goals as goal

pub returns-in_err-check_names-clause-ends : goal.returns-in_err-check_names-clause-ends
returns-in_err-check_names-clause-ends c =
    let file = c.args.file.now in
    let has = subst (HasTokens V1993 file) (sym c.as_slice.ensures.value) c.in_ok-tokens.ensures.tokens in
    let p = err_from_is_err_and c.from_residual-in_err-check_names.result c.from_residual-in_err-check_names.ensures.1 in
    rw (p.1, p.2) (names_refused V1993 file c.as_slice.result.now has c.in_ok-design.design c.units.result _ c.units.ensures.units c.in_ok-design.ensures.read c.in_err-check_names.ensures.ends)

pub returns-clause-accepted : goal.returns-clause-accepted
returns-clause-accepted c =
    let file = c.args.file.now in
    let has = subst (HasTokens V1993 file) (sym c.as_slice.ensures.value) c.in_ok-tokens.ensures.tokens in
    accepts V1993 file c.as_slice.result.now has c.in_ok-design.design c.units.result c.units.ensures.units c.in_ok-design.ensures.read c.in_ok-check_names.ensures.known
