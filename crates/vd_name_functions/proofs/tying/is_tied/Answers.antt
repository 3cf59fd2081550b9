use Rattle.std.proofs.Common.{◌≡◌, true, sym, ap, ◌∙◌, rules}
use Rattle.vd_name_rows.specs.Designs.{At}
use Rattle.vd_name_entering.specs.Ended.{seen_ended}
use Rattle.vd_naming.specs.Functions.{is_uninstantiated_function}
use Rattle.vd_name_functions.proofs.TyingLemmas.{tied_by_search}
use Rattle.vd_name_functions.proofs.tying.is_tied.Goals as goal

pub returns : goal.returns
returns c =
    let known : c.is_uninstantiated_function.result ≡ true = search rules in
    tied_by_search (seen_ended c.args.out.now c.args.names.now c.args.ended.now) c.args.id c.in_ok-tied.tied c.args.class c.outer.inside.region c.cursor-body.result
    (sym c.is_uninstantiated_function.ensures ∙ known)
    (ap (λ (a : At). a.region) c.outer.view_is) c.cursor-body.ensures c.in_ok-tied.ensures
