use Rattle.std.proofs.Common.{Some, ap, subst, sym, ◌∙◌}
use Rattle.vd_environments.specs.Environments.{element_make, literals_of}
use Rattle.vd_value_rules.specs.Indicated.{indicated_in}
use Rattle.vd_plain_values.specs.Strings.{array_by, places_in}
use Rattle.vd_static_values.proofs.StringLemmas.{string_is, string_stops}
use Rattle.vd_static_values.specs.Characters.{HasCharacters}
use Rattle.vd_static_values.specs.Finding.{IsListFound}
use Rattle.vd_static_values.proofs.literals.string.Goals as goal

pub returns-in_default : goal.returns-in_default
returns-in_default c =
    let i = indicated_in c.args.subtype.now in
    let text = c.args.text.now in
    let literals = literals_of (element_make i.make) in
    let has : HasCharacters c.deref.result.now literals = subst (λ t. HasCharacters t literals) (sym c.deref.ensures.value) c.in_ok-table.ensures in
    string_stops i.subtype i.make text (subst (λ x. IsListFound x (places_in literals text)) c.in_default.is (c.in_ok-places.ensures literals has))

pub returns : goal.returns
returns c =
    let i = indicated_in c.args.subtype.now in
    let text = c.args.text.now in
    let literals = literals_of (element_make i.make) in
    let has : HasCharacters c.deref.result.now literals = subst (λ t. HasCharacters t literals) (sym c.deref.ensures.value) c.in_ok-table.ensures in
    let there : IsListFound (Some c.in-Some.places) (places_in literals text) =
    subst (λ x. IsListFound x (places_in literals text)) c.in-Some.is (c.in_ok-places.ensures literals has) in
    string_is i.subtype i.make text c.in-Some.places.items c.in_ok-array.array c.in_ok-value.value c.unless_stopped.result there c.in_ok-array.ensures
    (c.in_ok-value.ensures ∙ ap (array_by c.in_ok-array.array) c.deref-2.ensures.value) c.unless_stopped.ensures
