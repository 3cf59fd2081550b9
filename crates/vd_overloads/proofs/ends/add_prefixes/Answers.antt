use Rattle.std.proofs.Common.{◌++◌, ◌∷◌, [], subst}
use Rattle.vd_states.specs.declared.states.Prefix.{Prefix}
use Rattle.vd_overloads.specs.Goals.{prefixes_behind, SameMembers}
use Rattle.vd_overloads.proofs.MemberLemmas.{itself, no_ways_left, way_step}
use Rattle.vd_overloads.proofs.ends.add_prefixes.Goals as goal

pub loop-way-init : goal.loop-way-init
loop-way-init c = itself (c.args.found.now.items ++ prefixes_behind c.args.ways.now)

pub loop-way-preserved : goal.loop-way-preserved
loop-way-preserved c =
    way_step c.args.ways.now c.loop-way.way-index c.way-item.result c.loop-way.found.items c.add_prefix.new.found.items
    (c.args.found.now.items ++ prefixes_behind c.args.ways.now) c.loop-way-test.true c.way-item.is
    (subst (λ (q : Prefix). SameMembers c.add_prefix.new.found.items (c.loop-way.found.items ++ q ∷ [])) c.prefix_of.ensures c.in_ok-add_prefix.ensures)
    c.loop-way.invariant

pub returns : goal.returns
returns c = no_ways_left c.args.ways.now c.loop-way.way-index c.loop-way.found.items _ c.loop-way-test.false c.loop-way.invariant
