use Rattle.std.proofs.Common.{ap, ap₂, sym, ◌∙◌}
use Rattle.vd_walks.specs.Least.{least_of}
use Rattle.vd_meaning.specs.Tables.{pairs}
use Rattle.vd_value_rules.specs.Types.{type_actuals}
use Rattle.vd_static_rules.proofs.types.instance_refused.Goals as goal

pub returns : goal.returns
returns c = λ d k ks knows.
    let generics = c.generics_of-generics.result.now in
    let copies = c.generics_of.result.now in
    c.type_actuals.ensures d k ks (pairs generics copies) knows c.in_ok-copies.ensures
    ∙ ap₂ (λ gs cs. least_of (type_actuals d k.env (pairs gs cs) gs c.args.elements.now))
    (c.generics_of-generics.ensures ∙ ap (λ t. (t.declared c.args.generic).generics) (sym knows.table))
    (c.generics_of.ensures ∙ ap (λ t. (t.declared c.args.instance).generics) (sym knows.table))
