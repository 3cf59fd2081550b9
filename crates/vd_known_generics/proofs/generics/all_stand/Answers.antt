use Rattle.std.proofs.Common.{◌∷◌, ap, sym, subst, ◌∙◌}
use Rattle.vd_forest.proofs.StoreLemmas.{extends_trans}
use Rattle.vd_known_designs.specs.Designs.{Knows}
use Rattle.vd_known_generics.proofs.StandingLemmas.{generic_more}
use Rattle.vd_value_rules.specs.Declaring.{generics_stand}
use Rattle.vd_known_generics.proofs.generics.all_stand.Goals as goal

pub generic_stands-requires : goal.generic_stands-requires
generic_stands-requires c =
    let r = c.requires.ready in
    let here = c.loop-first.invariant.stands r.design r.so_far r.round r.stands in
    record { ready = record { design = r.design; so_far = here.so_far; round = r.round; stands = here.stands } }

pub loop-first-preserved : goal.loop-first-preserved
loop-first-preserved c =
    let n = c.in-Some.first in
    record {
      stands = λ d s ks stands.
          generic_more d c.loop-first.design c.generic_stands.new.design ks c.loop-first.left.now c.in_ok-left.left.now c.loop-first.rest n.form n.text.now n.place n.parts n.next (generics_stand d c.args.generics.now s.left s.known)
          c.in-Some.ensures (c.loop-first.invariant.stands d s ks stands) (λ r so_far. c.in_ok-left.ensures.stands d r ks so_far);
      extends = extends_trans c.args.design.now.table.subtypes c.loop-first.design.table.subtypes c.generic_stands.new.design.table.subtypes c.loop-first.invariant.extends c.in_ok-left.ensures.extends;
    }

pub returns-clause-knows : goal.returns-clause-knows
returns-clause-knows c = λ d s ks stands.
    let here = c.loop-first.invariant.stands d s ks stands in
    subst (λ k. Knows d c.loop-first.design (k ∷ ks)) (sym (ap (λ f. generics_stand d f here.so_far.left here.so_far.known) c.in_default.ensures) ∙ here.comes_to) here.stands.knows
