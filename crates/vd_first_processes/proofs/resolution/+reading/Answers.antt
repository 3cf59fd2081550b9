use Rattle.std.proofs.Common.{sym, ap, ◌∙◌, arith}
use Rattle.vd_forest.specs.Forest.{size}
use Rattle.vd_first_elaboration.specs.Expressions.{names_read, each_once}
use Rattle.vd_first_processes.specs.Resolved.{names_read_by}
use Rattle.vd_first_processes.proofs.NameLemmas.{each_once_append}
use Rattle.vd_first_processes.proofs.resolution.+reading.Goals as goal

pub add_read-loop-first-preserved : goal.add_read-loop-first-preserved
add_read-loop-first-preserved t c =
    let first = c.in-Some.first in
    let rest = names_read first.next in
    let so_far = c.loop-first.invariant in
    record {
      smaller = omega (arith, ap size c.in-Some.ensures, so_far.smaller);
      same = ap (λ ns. each_once ns rest) c.in_ok-add_read_by.ensures
          ∙ sym (each_once_append c.loop-first.names (names_read_by first.form first.parts) rest)
          ∙ ap (λ f. each_once c.loop-first.names (names_read f)) (sym c.in-Some.ensures)
          ∙ so_far.same;
    }
