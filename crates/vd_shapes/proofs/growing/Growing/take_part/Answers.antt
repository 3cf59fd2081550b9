use Rattle.std.proofs.Common.{◌+◌, subst}
use Rattle.vd_shapes.specs.Shapes.{with_leaf, leaf_form}
use Rattle.vd_shapes.specs.Machine.{counted}
use Rattle.vd_shapes.specs.Standing.{StandsAt}
use Rattle.vd_shapes.proofs.growing.Growing.take_part.Goals as goal

pub returns-clause-stands : goal.returns-clause-stands
returns-clause-stands c = λ m place h.
    let g = c.args.self.now in
    let s = with_leaf g.actions.now g.tokens.now (leaf_form c.args.symbol) m.taken m.so_far in
    let told = c.in_ok-count_part.ensures.stands (record m { so_far = s; taken = m.taken + 1 }) (c.in_ok-take.ensures.stands m h) in
    let k = c.in_ok-take.ensures.kept in
    subst (StandsAt c.count_part.new.self) (λ i. counted (k.actions i).now (k.tokens i).now m.open_ones s (m.taken + 1)) told
