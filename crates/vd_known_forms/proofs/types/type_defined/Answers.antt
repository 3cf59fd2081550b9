use Rattle.std.proofs.Common.{IfOk, ap, subst, ◌∙◌}
use Rattle.vd_forms.specs.declared.form.Form.TheVariants as form
use Rattle.vd_known_designs.specs.Designs.{AreIndicated}
use Rattle.vd_known_forms.proofs.TypeLemmas.{record_twice, type_first}
use Rattle.vd_known_forms.proofs.types.type_defined.Goals as goal

pub returns-in-ArrayType-clause-indicated : goal.returns-in-ArrayType-clause-indicated
returns-in-ArrayType-clause-indicated c = λ d k ks knows.
    let n = c.in-Some.first in
    subst (λ i. IfOk c.array_defined.result (λ x. AreIndicated c.array_defined.new.design.table.subtypes x i))
    (type_first d k c.args.definition.now n.form n.text.now n.place n.parts n.next form.ArrayType c.in-Some.ensures c.in-ArrayType.is)
    (c.array_defined.ensures.indicated d k ks knows)

pub returns-in-RecordType-clause-indicated : goal.returns-in-RecordType-clause-indicated
returns-in-RecordType-clause-indicated c = λ d k ks knows.
    let n = c.in-Some.first in
    subst (λ i. IfOk c.record_defined.result (λ x. AreIndicated c.record_defined.new.design.table.subtypes x i))
    (ap (record_twice d k) c.parts.ensures
    ∙ type_first d k c.args.definition.now n.form n.text.now n.place n.parts n.next form.RecordType c.in-Some.ensures c.in-RecordType.is)
    (c.record_defined.ensures.indicated d k ks knows)
