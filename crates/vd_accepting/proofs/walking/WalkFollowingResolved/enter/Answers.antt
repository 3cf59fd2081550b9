use Rattle.std.proofs.Common.{◌++◌, ◌∷◌, ◌∙◌, [], ap, map, subst, sym}
use Rattle.vd_port_modes.specs.Source.{design_in}
use Rattle.vd_value_rules.specs.Standings.{state_down}
use Rattle.vd_accepting.proofs.GroupLemmas.{joined_with}
use Rattle.vd_accepting.proofs.WalkLemmas.{levels_more}
use Rattle.vd_accepting.specs.Levels.{IsLevel}
use Rattle.vd_accepting.specs.Walking.{asked, known_here, state_here}
use Rattle.vd_accepting.proofs.walking.WalkFollowingResolved.enter.Goals as goal

pub refusals-requires : goal.refusals-requires
refusals-requires c =
    let d = design_in c.args.self.now.interfaces.now in
    let at = c.requires.place in
    record {
      ready = record { design = d; now = known_here d at.here; round = map (known_here d) at.round; knows = at.knows.knows };
      same = at.knows.same;
    }

pub first_part-requires : goal.first_part-requires
first_part-requires c =
    let d = design_in c.args.self.now.interfaces.now in
    let at = c.requires.place in
    record { ready = record { design = d; now = known_here d at.here; round = map (known_here d) at.round; knows = c.in_ok-found.ensures.knows d _ at.knows.knows } }

pub go_inside-requires : goal.go_inside-requires
go_inside-requires c =
    let d = design_in c.args.self.now.interfaces.now in
    let at = c.requires.place in
    record {
      ready = record {
        design = d;
        now = known_here d at.here;
        round = map (known_here d) at.round;
        knows = c.in_ok-inside.ensures.knows d _ (c.in_ok-found.ensures.knows d _ at.knows.knows);
      };
    }

pub returns-clause-follows : goal.returns-clause-follows
returns-clause-follows c = λ rs p ps follows.
    let x = c.args.self.now in
    let d = design_in x.interfaces.now in
    let n = c.args.node.now in
    let s = state_here d p in
    let round = map (known_here d) ps in
    let one = c.in_ok-found.ensures.knows d (s.known ∷ round) follows.knows in
    let two = c.in_ok-inside.ensures.knows d (s.known ∷ round) one in
    let around = c.surroundings-around.ensures d s follows.levels.0 in
    record {
      same = follows.same;
      found = c.together-self.ensures
          ∙ joined_with x.found c.in_ok-found.found rs (asked d s n.form n.text.now n.place n.parts) follows.found (c.in_ok-found.ensures.finds s round follows.knows around);
      knows = c.in_ok-go_inside.ensures.knows d s.known round two;
      levels = (
        subst (λ l. IsLevel d l (state_down d s n.form n.text.now n.place n.parts)) (sym c.replace-outer.ensures.after) (c.in_ok-inside.ensures.level s round one follows.levels.0),
        levels_more d x.round.items c.push.new.self.items x.here s (map (state_here d) ps)
            (c.in_ok-push.ensures.items ∙ ap (λ l. x.round.items ++ l ∷ []) c.replace-outer.ensures.value) follows.levels.0 follows.levels.1,
      );
    }
