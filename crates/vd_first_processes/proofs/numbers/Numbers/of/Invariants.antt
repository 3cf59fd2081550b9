use Rattle.std.proofs.Common.{◌≡◌, [], map, take}
use Rattle.vd_trees.specs.declared.paths.Path.{Path}
use Rattle.vd_first_elaboration.specs.Expressions.{each_once}
use Rattle.vd_first_elaboration.specs.Processes.{number_of}
use Rattle.vd_first_processes.proofs.numbers.Numbers.of.Given as goal

abbrev pub invariant-loop-i : goal.invariant-loop-i
invariant-loop-i l =
    let all = map (λ (p : Path). p.object) l.paths in
    record {
      names : l.names ≡ each_once [] (take l.i all);
      firsts : l.firsts.items ≡ map (number_of all) l.names;
    }
