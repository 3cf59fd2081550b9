use Rattle.std.proofs.Common.{ap, not, sym, ◌∙◌}
use Rattle.vd_value_rules.specs.Choices.{is_selectable_form}
use Rattle.vd_choice_rules.proofs.selectors.is_selectable_before.Goals as goal

pub returns-in-Name : goal.returns-in-Name
returns-in-Name c = λ d r is.
    let n = c.args.selector.now in
    ap not (c.ends_in_conversion.ensures d r is) ∙ sym (ap (λ f. is_selectable_form f d n.parts) c.in-Name.is)
