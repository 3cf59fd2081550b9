use Rattle.std.proofs.Common.{◌∷◌, map, subst, sym}
use Rattle.vd_known_generics.specs.Actuals.{AreActuals}
use Rattle.vd_known_generics.proofs.InstanceLemmas.{stands_first}
use Rattle.vd_known_designs.specs.Contents.{or_nothing}
use Rattle.vd_meaning.specs.Meanings.{map_element, meanings}
use Rattle.vd_value_rules.specs.Declaring.{actuals_known}
use Rattle.vd_known_generics.proofs.instances.generics_stand.Goals as goal

pub all_stand-requires : goal.all_stand-requires
all_stand-requires c =
    let r = c.requires.ready in
    let as' = actuals_known r.design c.args.generic c.args.instance (map map_element (meanings r.design.table (or_nothing c.args.elements.now))) r.now in
    record {
      ready = record {
        design = r.design;
        so_far = record { known = r.now; left = as' };
        round = r.round;
        stands = stands_first r.design c.actuals_known.new.design c.args.design.now.table.subtypes c.in_ok-actuals.actuals.items c.deref.result.now r.now as' r.round
            (c.in_ok-actuals.ensures.knows r.design _ r.knows) c.in_ok-actuals.ensures.subtypes c.deref.ensures.value (c.in_ok-actuals.ensures.actuals r.design r.now r.round r.knows);
      };
    }

pub returns-clause-knows : goal.returns-clause-knows
returns-clause-knows c = λ d k ks knows.
    let as' = actuals_known d c.args.generic c.args.instance (map map_element (meanings d.table (or_nothing c.args.elements.now))) k in
    c.all_stand.ensures.knows d (record { known = k; left = as' }) ks
    (stands_first d c.actuals_known.new.design c.args.design.now.table.subtypes c.in_ok-actuals.actuals.items c.deref.result.now k as' ks
    (c.in_ok-actuals.ensures.knows d _ knows) c.in_ok-actuals.ensures.subtypes c.deref.ensures.value (c.in_ok-actuals.ensures.actuals d k ks knows))
