use Rattle.std.proofs.Common.{refl}
use Rattle.vd_known_lengths.proofs.DesignLemmas.{sees_design}
use Rattle.vd_value_rules.specs.Lengths.{nth_shaping, shapings}
use Rattle.vd_known_lengths.proofs.shapes.shape_of.Goals as goal

pub returns-clause-shape : goal.returns-clause-shape
returns-clause-shape c = λ d k ks knows.
    let e = c.ground-ground.ensures in
    c.shape_in.ensures (nth_shaping 0 (shapings d k c.args.tree.now)).shaped
    (c.in_ok-measured.ensures.is d k (sees_design c.args.design.now _ d k ks knows refl e.revision e.declarations e.subtypes e.known)).extent
