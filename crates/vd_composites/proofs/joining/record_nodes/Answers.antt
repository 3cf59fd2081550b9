use Rattle.std.proofs.Common.{rules, ◌≡◌}
use Rattle.vd_composites.proofs.JoinedLemmas.{record_made}
use Rattle.vd_composites.proofs.joining.record_nodes.Goals as goal

pub returns-in-Ok-behind : goal.returns-in-Ok-behind
returns-in-Ok-behind c =
    let same : c.in-Ok.fields ≡ c.args.count = search rules in
    record_made c.args.count c.in-Ok.fields c.args.nodes.now c.in-Ok-behind.made.items c.requires same c.in-Ok-behind.ensures
