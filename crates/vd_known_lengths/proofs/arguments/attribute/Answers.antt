use Rattle.std.proofs.Common.{ap, ◌∙◌}
use Rattle.vd_meaning.specs.Facets.{nth}
use Rattle.vd_meaning.specs.Meanings.{meanings}
use Rattle.vd_meaning.specs.Names.{attribute_named}
use Rattle.vd_value_rules.specs.Lengths.{is_function_of_type}
use Rattle.vd_known_lengths.proofs.arguments.attribute.Goals as goal

pub returns-clause-is : goal.returns-clause-is
returns-clause-is c = λ d k sees.
    let i = c.typed-extent.ensures.is d k sees in
    let text = ap (λ t. (nth 0 (meanings t c.args.parts.now)).text) sees.table ∙ (c.in_ok-name.ensures.node k.env sees.ground).sense.text in
    record {
      subtype = i.subtype;
      length = i.length;
      callee = ap (λ t. is_function_of_type (attribute_named t)) text ∙ c.is_of_type.ensures;
    }
