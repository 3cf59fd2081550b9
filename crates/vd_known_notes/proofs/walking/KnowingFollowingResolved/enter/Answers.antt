use Rattle.std.proofs.Common.{◌∷◌, map}
use Rattle.vd_port_modes.specs.Source.{design_in}
use Rattle.vd_known_notes.specs.Knowing.{known_here}
use Rattle.vd_known_notes.proofs.walking.KnowingFollowingResolved.enter.Goals as goal

pub find-requires : goal.find-requires
find-requires c =
    let d = design_in c.args.self.now.interfaces.now in
    let at = c.requires.place in
    record { ready = record { design = d; now = known_here d at.here; round = map (known_here d) at.round; knows = at.knows } }

pub go_inside-requires : goal.go_inside-requires
go_inside-requires c =
    let d = design_in c.args.self.now.interfaces.now in
    let at = c.requires.place in
    record { ready = record { design = d; now = known_here d at.here; round = map (known_here d) at.round; knows = c.in_ok-find.ensures.knows d _ at.knows } }

pub returns-clause-follows : goal.returns-clause-follows
returns-clause-follows c = λ rs p ps follows.
    let d = design_in c.args.self.now.interfaces.now in
    let round = map (known_here d) ps in
    c.go_inside.ensures.knows d (known_here d p) round (c.in_ok-find.ensures.knows d (known_here d p ∷ round) follows)
