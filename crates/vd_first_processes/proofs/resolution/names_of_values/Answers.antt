use Rattle.std.proofs.Common.{sym, ap, ◌∙◌}
use Rattle.vd_forest.specs.Forest.{next_of}
use Rattle.vd_first_elaboration.specs.Expressions.{names_read, each_once}
use Rattle.vd_first_elaboration.specs.Processes.{names_assigned}
use Rattle.vd_first_processes.proofs.NameLemmas.{each_once_append}
use Rattle.vd_first_processes.proofs.resolution.names_of_values.Goals as goal

pub loop-first-preserved : goal.loop-first-preserved
loop-first-preserved c =
    let first = c.in-Some.first in
    let rest = names_assigned first.next in
    ap (λ ns. each_once ns rest) (c.in_ok-add_read.ensures ∙ ap (λ f. each_once c.loop-first.names (names_read f)) c.next.ensures)
    ∙ sym (each_once_append c.loop-first.names (names_read (next_of first.parts)) rest)
    ∙ ap (λ f. each_once c.loop-first.names (names_assigned f)) (sym c.in-Some.ensures)
    ∙ c.loop-first.invariant
