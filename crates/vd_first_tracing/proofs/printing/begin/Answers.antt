use Rattle.std.proofs.Common.{◌≡◌, [], ◌++◌, sym, ap, ◌∙◌, subst}
use Rattle.vd_trees.specs.TraceText.{step_lines}
use Rattle.vd_trace_text.specs.Types.{types_behind}
use Rattle.vd_trace_text.specs.Steps.{shown_step}
use Rattle.vd_first_tracing.specs.Printing.{HasPrinted}
use Rattle.vd_first_tracing.proofs.PrintLemmas.{shown_by, begins}
use Rattle.vd_first_tracing.proofs.printing.begin.Goals as goal

pub returns : goal.returns
returns c = λ e cycles started same.
    let run = c.args.run.now in
    let types = types_behind c.args.types.now in
    let after = c.add_shown.new.transcript in
    let step = shown_step run.simulation.time run.simulation.delta run.simulation.reports (shown_by run) in
    let text : after.text.items ≡ step_lines run.paths types 0 [] step =
    c.in_ok-add_shown.ensures.text
    ∙ ap (λ t. t ++ step_lines run.paths types 0 c.new-2.result.items step) c.new.ensures.items
    ∙ ap (λ vs. step_lines run.paths types 0 vs step) c.new-2.ensures.items in
    subst (λ vs. HasPrinted e cycles run after.text.items 1 cycles vs) (sym c.in_ok-add_shown.ensures.values)
    (begins e cycles run started c.requires types same after.text.items text)
