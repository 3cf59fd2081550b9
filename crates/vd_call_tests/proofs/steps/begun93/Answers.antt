use Rattle.std.proofs.Common.{refl, sym, subst, ◌∙◌}
use Rattle.std.specs.Prelude.{IsSome}
use Rattle.vd_first_tracing.proofs.RunLemmas.{top_elaborated}
use Rattle.vd_call_tests.proofs.steps.begun93.Goals as goal

pub elaborate93-requires : goal.elaborate93-requires
elaborate93-requires c =
    let e = top_elaborated c.args.design.now c.args.top.now c.in-Ok-Some.top (sym c.in-Ok-Some.ensures ∙ c.in-Ok-Some.field-0-is) in
    record { top = subst IsSome (sym e.1) refl }
