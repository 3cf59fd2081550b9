use Rattle.std.proofs.Common.{◌≡◌, length, replicate, sym, ap, ◌∙◌}
use Rattle.std.proofs.lemmas.List.{length-map}
use Rattle.vd_first_elaboration.specs.Signals.{ScalarSignal}
use Rattle.vd_first_elaboration.specs.Traces.{types_of}
use Rattle.vd_trace_text.specs.Types.{types_behind}
use Rattle.vd_first_tracing.proofs.TextLemmas.{types_are}
use Rattle.vd_first_tracing.proofs.printing.print_run.Goals as goal

pub returns-in-Ok-begin : goal.returns-in-Ok-begin
returns-in-Ok-begin c = λ e started.
    let count : c.signal_count.result ≡ length e.signals = c.signal_count.ensures ∙ ap length started.come.run_of.paths_are ∙ length-map e.signals (λ (s : ScalarSignal). s.path) in
    let same : types_behind c.in-Ok-types_of.types.items ≡ types_of e =
    c.in-Ok-types_of.ensures ∙ ap (λ n. replicate n c.in-Ok.one) count ∙ ap (replicate (length e.signals)) c.in-Ok.ensures ∙ sym (types_are e) in
    let begun = c.in-Ok-begin.ensures e c.args.cycles started (ap types_behind c.deref.ensures.value ∙ same) in
    c.add_cycles.ensures e started.within_limits (ap types_behind c.deref-in-Ok-begin.ensures.value ∙ same) begun
