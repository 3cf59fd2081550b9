use Rattle.std.proofs.Common.{◌∷◌, ap, subst, ◌∙◌}
use Rattle.std.specs.Prelude.{IfOk}
use Rattle.vd_forest.specs.Forest.{parts_of}
use Rattle.vd_known_generics.proofs.InstanceLemmas.{at_part}
use Rattle.vd_known_generics.proofs.StandingLemmas.{stands_grown}
use Rattle.vd_known_generics.specs.Standing.{Stands}
use Rattle.vd_meaning.specs.Facets.{nth}
use Rattle.vd_meaning.specs.Meanings.{meanings}
use Rattle.vd_value_rules.specs.Declaring.{constants_stand}
use Rattle.vd_value_rules.specs.Knowledge.{indicated_twice, meaning_at, parts_at}
use Rattle.vd_known_generics.proofs.constants.declared_constants_stand.Goals as goal

pub constants_stand-requires-clause-ready : goal.constants_stand-requires-clause-ready
constants_stand-requires-clause-ready c =
    let r = c.requires.ready in
    record {
      design = r.design;
      so_far = r.so_far;
      round = r.round;
      stands = stands_grown r.design c.args.design.now c.indicated_twice.new.design c.args.actuals.now r.so_far r.round r.stands
          (c.in_ok-of.ensures.knows r.design (r.so_far.known ∷ r.round) r.stands.knows) c.in_ok-of.ensures.extends;
    }

pub constants_stand-requires-clause-own_in : goal.constants_stand-requires-clause-own_in
constants_stand-requires-clause-own_in c =
    let r = c.requires.ready in (c.in_ok-of.ensures.indicated r.design r.so_far.known r.round r.stands.knows).own.within

pub constants_stand-requires-clause-choosing_in : goal.constants_stand-requires-clause-choosing_in
constants_stand-requires-clause-choosing_in c =
    let r = c.requires.ready in (c.in_ok-of.ensures.indicated r.design r.so_far.known r.round r.stands.knows).choosing.within

pub returns-clause-stands : goal.returns-clause-stands
returns-clause-stands c = λ d s ks stands.
    let parts = c.args.parts.now in
    let y = c.constants_stand.new.design in
    let here = stands_grown d c.args.design.now c.indicated_twice.new.design c.args.actuals.now s ks stands (c.in_ok-of.ensures.knows d (s.known ∷ ks) stands.knows) c.in_ok-of.ensures.extends in
    let i = indicated_twice d s.known c.parts.result in
    let all = c.constants_stand.ensures.stands d i s ks here (c.in_ok-of.ensures.indicated d s.known ks stands.knows) in
    subst (λ m. IfOk c.constants_stand.result (λ left. Stands d y left.now (constants_stand m (indicated_twice d s.known (parts_at 3 parts)) (meaning_at d 1 parts).numbers s.left s.known) ks))
    (at_part d 4 parts c.skip-3.result (λ m. m) c.skip-3.ensures)
    (subst (λ f. IfOk c.constants_stand.result (λ left. Stands d y left.now (constants_stand (nth 0 (meanings d.table c.skip-3.result)) (indicated_twice d s.known f) (meaning_at d 1 parts).numbers s.left s.known) ks))
    (c.parts.ensures ∙ ap parts_of c.skip-2.ensures)
    (subst (λ ns. IfOk c.constants_stand.result (λ left. Stands d y left.now (constants_stand (nth 0 (meanings d.table c.skip-3.result)) i ns s.left s.known) ks))
    (c.deref.ensures.value ∙ c.in_ok-numbers.ensures d.table ∙ at_part d 1 parts c.skip.result (λ m. m.numbers) c.skip.ensures) all))
