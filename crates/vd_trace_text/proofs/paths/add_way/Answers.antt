use Rattle.std.proofs.Common.{◌++◌, ap, ◌∙◌, arith}
use Rattle.std.specs.List.{flat_map}
use Rattle.std.proofs.lemmas.List.{take_all}
use Rattle.std.proofs.lemmas.Result.{on_ok_weaker}
use Rattle.vd_trace_text.specs.Names.{label_with_dot, labels_of}
use Rattle.vd_trace_text.proofs.NameLemmas.{written_way}
use Rattle.vd_trace_text.proofs.paths.add_way.Goals as goal

pub returns : goal.returns
returns c =
    let levels = c.args.levels.now in
    let all = ap (λ ls. c.add_top.new.text.items ++ flat_map label_with_dot (labels_of ls)) (take_all c.loop-level.level-index levels (omega arith)) in
    on_ok_weaker c.add_labels-2.result
    (written_way c.args.text.now.items c.add_top.new.text.items c.loop-level.text.items c.add_labels-2.new.text.items levels c.args.generates.now
    (c.in_ok-add_top.ensures) (c.loop-level.invariant ∙ all))
    c.add_labels-2.ensures
