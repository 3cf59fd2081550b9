use Rattle.vd_composites.proofs.JoinedLemmas.{added_whole, added_read}
use Rattle.std.proofs.Common.{arith, ◌≡◌, ◌+◌, ap, ◌∙◌}
use Rattle.vd_composites.specs.Nodes.{after}
use Rattle.vd_composites.proofs.joining.add_items.Goals as goal

pub returns-clause-whole : goal.returns-clause-whole
returns-clause-whole c =
    let number : c.in-Some.number ≡ c.args.count + c.args.items = omega arith in
    ap (λ n. after n c.extend_from_slice.new.self.items) number
    ∙ added_whole c.args.count c.args.items c.args.nodes.now.items c.args.more.now c.extend_from_slice.new.self.items c.in_ok-extend_from_slice.ensures.items c.requires.first c.requires.second

pub returns-clause-joined : goal.returns-clause-joined
returns-clause-joined c = added_read c.args.count c.args.nodes.now.items c.args.more.now c.extend_from_slice.new.self.items c.in_ok-extend_from_slice.ensures.items c.requires.first
