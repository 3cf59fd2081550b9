use Rattle.std.proofs.Common.{◌≤◌, ◌∙◌, ap, length, refl, subst, sym, true}
use Rattle.vd_environments.specs.Got.{is_got}
use Rattle.vd_forest.specs.Store.{at}
use Rattle.vd_value_rules.specs.Indicated.{element_indicated, indicated_in}
use Rattle.vd_meaning.specs.Names.{element_of_subtype, stepped, to_element}
use Rattle.vd_static_values.specs.Names.{IsName, number_in}
use Rattle.vd_static_names.proofs.AlikeLemmas.{element_of_name, elements_of_name}
use Rattle.vd_static_names.proofs.PartLemmas.{element_part}
use Rattle.vd_static_names.proofs.StepLemmas.{stepped_named}
use Rattle.vd_static_names.proofs.steps.element.Goals as goal

pub returns-clause-named : goal.returns-clause-named
returns-clause-named c = λ e m p index kn inner is known.
    let store = c.args.subtypes.now in
    let found = c.element_of-found.result in
    let part = c.stored_part-part.result in
    let made = c.stored_part-part.ensures in
    let within : number_in part.subtype ≤ length store = subst (λ s. number_in s ≤ length store) (sym made.subtype) c.element_of-found.ensures.within in
    let is_found =
    c.element_of-found.ensures.is ∙ ap (λ n. element_indicated (indicated_in (at store n))) c.number_of-of.ensures ∙ sym (element_of_name store c.args.name.subtype) in
    let there =
    c.is_array-is_there.ensures ∙ ap (λ n. is_got (element_of_subtype (indicated_in (at store n)).subtype)) c.number_of-of.ensures
    ∙ sym (elements_of_name store c.args.name.subtype) in
    subst (λ x. IsName store e x (stepped (to_element index kn inner) m p)) (sym c.part_of.ensures)
    (stepped_named store e (to_element index kn inner) m p c.args.name c.args.known true part is known refl within
    (element_part store e c.args.name part found c.is_array-is_there.result made.subtype made.has made.shape made.no_shape index kn inner is_found there))
