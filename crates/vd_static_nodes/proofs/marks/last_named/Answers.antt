use Rattle.std.proofs.Common.{sym}
use Rattle.vd_static_nodes.proofs.MarkLemmas.{last_declaration}
use Rattle.vd_static_nodes.proofs.marks.last_named.Goals as goal

pub returns : goal.returns
returns c = λ subtypes e ms are. last_declaration subtypes e c.args.parts.now ms are c.in_ok-last.last.now (sym c.in_ok-last.ensures.value)
