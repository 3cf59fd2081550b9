use Rattle.std.proofs.Common.{take}
use Rattle.std.specs.List.{AllByRecursion}
use Rattle.vd_directives.specs.Lines.{ColumnsFit}
use Rattle.vd_design_files.specs.Files.{numbered, IsSelected}
use Rattle.vd_design_files.specs.InOrder.{HaveEach}
use Rattle.vd_design_files.proofs.selecting.selected.Given as goal

abbrev pub invariant-loop-i : goal.invariant-loop-i
invariant-loop-i l =
    record {
      have : HaveEach (IsSelected l.settings.tool_type) (take l.i (numbered 0 l.contents)) l.texts.items;
      fit : AllByRecursion ColumnsFit l.texts.items;
    }
