use Rattle.std.proofs.Common.{◌≡◌, ◌++◌, take}
use Rattle.std.specs.List.{flat_map}
use Rattle.vd_trees.specs.TraceText.{report_line}
use Rattle.vd_trace_text.proofs.reports.add_reports.Given as goal

abbrev pub invariant-loop-report : goal.invariant-loop-report
invariant-loop-report l = l.text.items ≡ l.fn.text.items ++ flat_map (report_line l.time l.delta) (take l.report-index l.reports)
