use Rattle.std.proofs.Common.{sym, ap, is_some, ◌∙◌}
use Rattle.vd_kernel.specs.Traces.{with_two}
use Rattle.vd_first_runs.specs.Designs.{elaborated_of}
use Rattle.vd_first_runs.proofs.DesignLemmas.{one_source, two_stop}
use Rattle.vd_first_runs.proofs.elaboration.start.Goals as goal

pub returns-then-has_two_sources-clause-ends : goal.returns-then-has_two_sources-clause-ends
returns-then-has_two_sources-clause-ends c = λ u is.
    c.end_by_two.ensures (elaborated_of u)
    (two_stop u c.args.design is (ap (λ ss. is_some (with_two 0 ss)) (sym c.deref.ensures.value) ∙ sym c.has_two_sources.ensures ∙ c.if-has_two_sources.true))

pub returns-in-Ok-clause-run : goal.returns-in-Ok-clause-run
returns-in-Ok-clause-run c = λ u is.
    record {
      one_source = one_source u c.args.design is (ap (λ ss. is_some (with_two 0 ss)) (sym c.deref.ensures.value) ∙ sym c.has_two_sources.ensures ∙ c.if-has_two_sources.false);
      come = c.in-Ok.ensures.come u is;
    }
