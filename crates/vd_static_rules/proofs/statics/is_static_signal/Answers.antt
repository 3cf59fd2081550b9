use Rattle.std.proofs.Common.{◌≡◌, ◌&&◌, arith}
use Rattle.vd_meaning.specs.Facets.{nth}
use Rattle.vd_meaning.specs.Meanings.{meanings}
use Rattle.vd_static_rules.proofs.StaticLemmas.{is_whole_signal}
use Rattle.vd_static_rules.proofs.statics.is_static_signal.Goals.{else-found, then-found}
use Rattle.vd_static_rules.proofs.statics.is_static_signal.Goals as goal

pub returns-clause-is : goal.returns-clause-is
returns-clause-is c = λ d k ks knows.
    let name = (c.in_ok-node.ensures.node d k ks knows).sense.name in
    let signal = c.in_ok-node.node.sense.name.is_signal in
    let whole = c.in_ok-node.node.sense.name.is_whole in
    let result_is : c.if-found.result ≡ (signal && whole) =
    elim c.if-found.branch [ then-found w ↦ grind arith | else-found w ↦ grind arith ] in
    is_whole_signal k.env (nth 0 (meanings d.table c.args.name.now)) c.if-found.result signal whole result_is name.is_signal name.is_whole
