use Rattle.std.proofs.Common.{◌∷◌, ap, sym, ◌∙◌}
use Rattle.vd_static_rules.proofs.TypeLemmas.{may_be}
use Rattle.vd_value_rules.specs.Types.{is_type_generic}
use Rattle.vd_static_rules.proofs.types.may_be_actual.Goals as goal

pub returns-then-is_bounded : goal.returns-then-is_bounded
returns-then-is_bounded c = λ d k ks knows.
    may_be d k.env c.args.number c.base_of-base.result c.is_bounded-is_bounded.result c.is_type_generic.result (c.is_bounded-is_bounded.ensures d k ks knows) c.if-is_bounded.true
    (c.is_type_generic.ensures ∙ ap is_type_generic (c.class_of.ensures ∙ ap (λ t. (t.declared c.base_of-base.result).class) (sym knows.table))) (c.base_of-base.ensures d (k ∷ ks) knows)
