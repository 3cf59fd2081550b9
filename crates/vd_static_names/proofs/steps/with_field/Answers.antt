use Rattle.std.proofs.Common.{◌≤◌, ◌∙◌, length, refl, subst, sym, true}
use Rattle.vd_meaning.specs.Names.{stepped, to_field}
use Rattle.vd_static_values.specs.Names.{IsName, number_in}
use Rattle.vd_static_names.proofs.PartLemmas.{field_part}
use Rattle.vd_static_names.proofs.StepLemmas.{stepped_named}
use Rattle.vd_static_names.proofs.steps.with_field.Goals as goal

pub returns-clause-named : goal.returns-clause-named
returns-clause-named c = λ e m p n is field.
    let store = c.args.subtypes.now in
    let part = c.stored_part-part.result in
    let made = c.stored_part-part.ensures in
    let within : number_in part.subtype ≤ length store = subst (λ s. number_in s ≤ length store) (sym made.subtype) c.requires in
    subst (λ x. IsName store e x (stepped (to_field n) m p)) (sym c.part_of.ensures)
    (stepped_named store e (to_field n) m p c.args.name.now c.always.result true part is c.always.ensures refl within
    (field_part store e c.args.name.now part c.args.found c.is_tree-is_there.result made.subtype made.has made.shape made.no_shape n field.is
    (c.is_tree-is_there.ensures ∙ field.there)))
