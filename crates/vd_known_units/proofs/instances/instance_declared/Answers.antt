use Rattle.std.proofs.Common.{ap, map, refl, subst, ◌∷◌, ◌∙◌}
use Rattle.std.specs.Prelude.{OnOk}
use Rattle.vd_known_designs.specs.Designs.{Knows}
use Rattle.vd_known_forms.proofs.FormLemmas.{at_part, knows_viewed, ready_again, viewed}
use Rattle.vd_known_designs.specs.Contents.{or_nothing}
use Rattle.vd_known_units.proofs.CopyLemmas.{copies_are}
use Rattle.vd_known_units.proofs.InstanceLemmas.{elements_found, remembers, taken_same, text_known}
use Rattle.vd_meaning.specs.Facets.{nth}
use Rattle.vd_meaning.specs.Meanings.{made, map_element, meanings}
use Rattle.vd_meaning.specs.Names.{number_or}
use Rattle.vd_value_rules.specs.Knowledge.{meaning_at}
use Rattle.vd_known_units.proofs.instances.instance_declared.Goals as goal

pub text_declared-requires : goal.text_declared-requires
text_declared-requires c =
    let r = c.requires.ready in
    record { ready = ready_again r.design c.remember.new.design r.now (r.now ∷ r.round) (c.in_ok-remember.ensures.knows r.design r.now r.round r.knows) }

pub taken-requires : goal.taken-requires
taken-requires c =
    let r = c.requires.ready in
    let d = viewed c.args.interfaces.now r.design in
    let here = c.in_ok-remember.ensures.knows d r.now r.round (knows_viewed c.args.interfaces.now r.design c.args.design.now (r.now ∷ r.round) r.knows) in
    record { remembering = remembers d c.text_declared.new.design _ r.now r.round (c.in_ok-text_declared.ensures.knows d r.now (r.now ∷ r.round) refl here) }

pub returns : goal.returns
returns c = record {
  knows = λ d k ks views knows.
      let parts = c.args.parts.now in
      let original = c.number_or-original.result in
      let instance = c.number_made-instance.result in
      let xs = map map_element (meanings d.table (or_nothing c.elements_of-elements.result)) in
      let text = or_nothing c.package-text.result in
      let originals = c.number_or-original.ensures ∙ ap number_or (c.declaration_of.ensures d.table ∙ at_part (λ m. m.declaration) d 1 parts c.skip.result c.skip.ensures) in
      let elements =
      elements_found d.table (λ t. (nth 0 (meanings t c.skip-2.result)).elements) c.elements_of-elements.result c.elements_of-elements.ensures
      ∙ at_part (λ m. m.elements) d 2 parts c.skip-2.result c.skip-2.ensures in
      let inside = c.in_ok-text_declared.ensures.knows d k (k ∷ ks) views (c.in_ok-remember.ensures.knows d k ks knows) in
      subst (λ q. OnOk c.taken.result (Knows d c.taken.new.design (q ∷ ks)))
      (taken_same d original (number_or (meaning_at d 1 parts).declaration) instance (number_or (made c.args.node.now (meaning_at d 0 parts))) xs (meaning_at d 2 parts).elements
      text (k.packages (number_or (meaning_at d 1 parts).declaration)) c.deref.result.now k originals (c.number_made-instance.ensures d.table) elements
      (c.package-text.ensures d.table k ks knows.known ∙ ap k.packages (c.number.ensures ∙ originals))
      (c.deref.ensures.value ∙ c.in_ok-copies.ensures
      ∙ copies_are d c.text_declared.new.design.revision c.text_declared.new.design.declarations.now inside.table original instance))
      (c.taken.ensures.knows d (text_known d original instance xs text k) k ks inside);
}
