use Rattle.std.proofs.Common.{ap, subst, ◌∙◌}
use Rattle.vd_forest.specs.Forest.{parts_of}
use Rattle.vd_known_designs.specs.Designs.{AreIndicated}
use Rattle.vd_known_forms.proofs.FormLemmas.{at_part}
use Rattle.vd_value_rules.specs.Knowledge.{indicated_twice}
use Rattle.vd_known_forms.proofs.object_forms.declared_together.Goals as goal

pub returns-clause-numbers : goal.returns-clause-numbers
returns-clause-numbers c = λ d. c.in_ok-numbers.ensures d.table ∙ at_part (λ m. m.numbers) d c.args.identifiers c.args.parts.now c.skip.result c.skip.ensures

pub returns-clause-indicated : goal.returns-clause-indicated
returns-clause-indicated c = λ d k ks knows.
    subst (λ f. AreIndicated c.indicated_twice.new.design.table.subtypes c.in_ok-of.of (indicated_twice d k f)) (c.parts.ensures ∙ ap parts_of c.skip-2.ensures)
    (c.in_ok-of.ensures.indicated d k ks knows)
