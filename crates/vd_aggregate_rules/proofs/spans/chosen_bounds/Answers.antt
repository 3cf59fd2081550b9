use Rattle.std.proofs.Common.{sym}
use Rattle.vd_aggregate_rules.proofs.SpanLemmas.{first_chosen, span_chosen}
use Rattle.vd_aggregate_rules.proofs.spans.chosen_bounds.Goals as goal

pub returns-in-Some : goal.returns-in-Some
returns-in-Some c = span_chosen c.args.bounds.now c.in-Some.span (sym c.in-Some.ensures)

pub returns-in-Some-first : goal.returns-in-Some-first
returns-in-Some-first c = first_chosen c.args.bounds.now c.in-Some-first.first.now (sym c.in-Some-first.ensures.value) (sym c.in_default.ensures)
