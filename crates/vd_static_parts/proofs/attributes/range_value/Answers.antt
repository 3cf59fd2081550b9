use Rattle.vd_meaning.specs.Names.{scalar_type}
use Rattle.vd_static_parts.proofs.BoundLemmas.{shape_known}
use Rattle.vd_static_parts.proofs.attributes.range_value.Goals as goal

pub returns : goal.returns
returns c = λ e p ground is local.
    c.range_in.ensures (p.shape e) (scalar_type c.args.index e) (shape_known c.args.ground.now.subtypes.now e c.args.name.now p is local) (c.scalar_type.ensures e ground)
