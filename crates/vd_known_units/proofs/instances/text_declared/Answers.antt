use Rattle.std.proofs.Common.{ap, map, subst, sym, ◌∷◌, ◌∙◌}
use Rattle.std.specs.Prelude.{OnOk}
use Rattle.vd_forest.specs.Forest.{parts_of}
use Rattle.vd_known_designs.specs.Designs.{Knows}
use Rattle.vd_known_forms.proofs.FormLemmas.{ready_again}
use Rattle.vd_known_designs.specs.Contents.{or_nothing}
use Rattle.vd_known_units.proofs.InstanceLemmas.{text_known}
use Rattle.vd_meaning.specs.Meanings.{map_element, meanings}
use Rattle.vd_value_rules.specs.Declaring.{actuals_known, declared, generics_stand}
use Rattle.vd_value_rules.specs.Knowledge.{parts_at}
use Rattle.vd_known_units.proofs.instances.text_declared.Goals as goal

pub declared-requires : goal.declared-requires
declared-requires c =
    let r = c.requires.ready in
    record { ready = ready_again r.design c.generics_stand.new.design _ r.round (c.in_ok-generics_stand-in-Some.ensures.knows r.design r.now r.round r.knows) }

pub returns-in_ok-generics_stand-in-Some : goal.returns-in_ok-generics_stand-in-Some
returns-in_ok-generics_stand-in-Some c = record {
  knows = λ d k ks views knows.
      let text = or_nothing c.args.text.now in
      let is = sym (ap or_nothing c.in-Some.is) in
      let actuals = actuals_known d c.args.original c.args.instance (map map_element (meanings d.table (or_nothing c.args.elements.now))) k in
      subst (λ q. OnOk c.declared.result (Knows d c.declared.new.design (q ∷ ks)))
      (ap (λ f. declared d f (generics_stand d c.parts-generics.result actuals k)) (c.parts.ensures ∙ ap parts_of c.skip-in-Some.ensures ∙ ap (parts_at 2) is)
      ∙ ap (λ f. declared d (parts_at 2 text) (generics_stand d f actuals k)) (c.parts-generics.ensures ∙ ap parts_of c.skip.ensures ∙ ap (parts_at 1) is))
      (c.declared.ensures.knows d (generics_stand d c.parts-generics.result actuals k) ks views (c.in_ok-generics_stand-in-Some.ensures.knows d k ks knows));
}

pub returns-in-None : goal.returns-in-None
returns-in-None c = record {
  knows = λ d k ks views knows.
      subst (λ f. Knows d c.args.design.now (text_known d c.args.original c.args.instance (map map_element (meanings d.table (or_nothing c.args.elements.now))) f k ∷ ks))
      (sym (ap or_nothing c.in-None.is)) knows;
}
