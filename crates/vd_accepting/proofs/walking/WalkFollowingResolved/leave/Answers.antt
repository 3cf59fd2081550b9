use Rattle.std.proofs.Common.{◌++◌, ◌∙◌, ◌∷◌, ap, map, subst}
use Rattle.std.specs.Prelude.{option_to_list}
use Rattle.vd_walks.specs.Positions.{tree_of}
use Rattle.vd_known_designs.specs.Designs.{Knows}
use Rattle.vd_port_modes.specs.Source.{design_in}
use Rattle.vd_known_units.proofs.PassingLemmas.{end_known}
use Rattle.vd_accepting.proofs.WalkLemmas.{level_along, levels_less}
use Rattle.vd_accepting.specs.Walking.{asked, known_here, state_here}
use Rattle.vd_accepting.proofs.walking.WalkFollowingResolved.leave.Goals as goal

pub go_outside-requires : goal.go_outside-requires
go_outside-requires c =
    let x = c.args.self.now in
    let d = design_in x.interfaces.now in
    let at = c.requires.end in
    record {
      end = record {
        before = known_here d at.here;
        round = map (known_here d) at.round;
        knows = subst (λ k. Knows d x.design (k ∷ known_here d at.here ∷ map (known_here d) at.round)) (end_known asked d at.here (tree_of c.args.node.now)) at.knows.knows;
      };
    }

pub returns-clause-follows : goal.returns-clause-follows
returns-clause-follows c = λ rs p ps follows.
    let x = c.args.self.now in
    let d = design_in x.interfaces.now in
    let t = tree_of c.args.node.now in
    let ended = subst (λ k. Knows d x.design (k ∷ known_here d p ∷ map (known_here d) ps)) (end_known asked d p t) follows.knows in
    let levels = levels_less d c.pop.new.self.items x.round.items c.in-Some.outer (state_here d p) (map (state_here d) ps) (c.pop.ensures.items ∙ ap (λ o. c.pop.new.self.items ++ option_to_list o) c.in-Some.is) follows.levels.1 in
    record {
      same = follows.same;
      found = follows.found;
      knows = c.in_ok-go_outside.ensures.knows (known_here d p) (map (known_here d) ps) ended;
      levels = (level_along d c.go_on.new.level (state_here d p) t (c.go_on.ensures d (state_here d p) levels.0), levels.1);
    }
