use Rattle.std.proofs.Common.{List, ap, ℕ, ◌∙◌}
use Rattle.vd_port_modes.proofs.ReachLemmas.{fields_behind}
use Rattle.vd_port_modes.specs.Readings.{read_fields, read_text}
use Rattle.vd_value_rules.specs.Reaching.{Reached}
use Rattle.vd_port_modes.proofs.reaching.with_field.Goals as goal

pub returns : goal.returns
returns c =
    let made : List (List ℕ) → Reached = λ fields. record {
      declaration = c.args.reached.declaration;
      fields = fields;
      attribute = read_text c.args.reached.attribute;
      is_value = c.args.reached.is_value;
    } in
    ap made (ap read_fields c.in_ok-push.ensures.items ∙ fields_behind c.args.reached.fields.items c.args.name)
