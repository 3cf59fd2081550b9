use Rattle.std.proofs.Common.{ap, subst, sym, ◌∙◌}
use Rattle.std.specs.Prelude.{IfOk}
use Rattle.vd_forest.specs.Forest.{parts_of}
use Rattle.vd_known_designs.specs.Designs.{AreIndicated}
use Rattle.vd_known_forms.proofs.FormLemmas.{at_part, is_of_view, is_written}
use Rattle.vd_port_modes.specs.Source.{design_in}
use Rattle.vd_value_rules.specs.Knowledge.{indicated_twice}
use Rattle.vd_known_forms.proofs.object_forms.view_port_indicated.Goals as goal

pub returns-then-is_present-clause-indicated : goal.returns-then-is_present-clause-indicated
returns-then-is_present-clause-indicated c = λ d k ks views knows.
    let parts = c.args.parts.now in
    let present = sym (at_part (λ m. m.is_present) d 4 parts c.skip-indication.result c.skip-indication.ensures) ∙ sym (c.is_present.ensures d.table) ∙ c.if-is_present.true in
    subst (λ i. IfOk c.indicated_twice.result (λ x. AreIndicated c.indicated_twice.new.design.table.subtypes x i))
    (ap (indicated_twice d k) (c.parts.ensures ∙ ap parts_of c.skip-indication.ensures) ∙ sym (is_written d k parts present))
    (c.indicated_twice.ensures.indicated d k ks knows)

pub returns-else-is_present-clause-indicated : goal.returns-else-is_present-clause-indicated
returns-else-is_present-clause-indicated c = λ d k ks views knows.
    let parts = c.args.parts.now in
    let absent = sym (at_part (λ m. m.is_present) d 4 parts c.skip-indication.result c.skip-indication.ensures) ∙ sym (c.is_present.ensures d.table) ∙ c.if-is_present.false in
    subst (λ i. AreIndicated c.args.design.now.table.subtypes c.marked.result i)
    (is_of_view d k parts (design_in c.args.interfaces.now).units.views c.declaration_of.result c.mark_of_view-mark.result absent views
    (c.declaration_of.ensures d.table ∙ at_part (λ m. m.declaration) d 2 parts c.skip.result c.skip.ensures) c.mark_of_view-mark.ensures)
    (c.marked.ensures d k ks knows)
