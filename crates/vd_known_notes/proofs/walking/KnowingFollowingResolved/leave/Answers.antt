use Rattle.std.proofs.Common.{◌∷◌, map, subst}
use Rattle.vd_known_designs.specs.Designs.{Knows}
use Rattle.vd_known_units.proofs.PassingLemmas.{end_known}
use Rattle.vd_port_modes.specs.Source.{design_in}
use Rattle.vd_walks.specs.Positions.{tree_of}
use Rattle.vd_known_notes.specs.Knowing.{known_here, nothing_asked}
use Rattle.vd_known_notes.proofs.walking.KnowingFollowingResolved.leave.Goals as goal

pub go_outside-requires : goal.go_outside-requires
go_outside-requires c =
    let x = c.args.self.now in
    let d = design_in x.interfaces.now in
    let at = c.requires.end in
    record {
      end = record {
        before = known_here d at.here;
        round = map (known_here d) at.round;
        knows = subst (λ k. Knows d x.design (k ∷ known_here d at.here ∷ map (known_here d) at.round)) (end_known nothing_asked d at.here (tree_of c.args.node.now)) at.knows;
      };
    }

pub returns-clause-follows : goal.returns-clause-follows
returns-clause-follows c = λ rs p ps follows.
    let x = c.args.self.now in
    let d = design_in x.interfaces.now in
    let t = tree_of c.args.node.now in
    let ended = subst (λ k. Knows d x.design (k ∷ known_here d p ∷ map (known_here d) ps)) (end_known nothing_asked d p t) follows in
    c.go_outside.ensures.knows (known_here d p) (map (known_here d) ps) ended
