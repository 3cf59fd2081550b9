use Rattle.std.proofs.Common.{refl, sym, subst}
use Rattle.std.specs.Prelude.{IsSome}
use Rattle.vd_trees.specs.declared.revision.Revision.TheVariants.{V2019}
use Rattle.vd_first_accept.specs.Acceptance.{IsAccepted}
use Rattle.vd_first_tracing.proofs.RunLemmas.{only_file, found_top, top_elaborated, design_traces, no_top_traces}
use Rattle.vd_first_tracing.proofs.runs.run19.Goals as goal

pub run_top19-requires : goal.run_top19-requires
run_top19-requires c =
    let found = found_top c.in_ok-design.design c.args.top.now c.top19.result c.in-Ok.top c.top19.ensures c.in-Ok.ensures in
    let e = top_elaborated c.in_ok-design.design c.args.top.now c.in-Ok.top found in
    subst IsSome (sym e.1) refl

pub returns-in-Ok : goal.returns-in-Ok
returns-in-Ok c =
    let found = found_top c.in_ok-design.design c.args.top.now c.top19.result c.in-Ok.top c.top19.ensures c.in-Ok.ensures in
    let e = top_elaborated c.in_ok-design.design c.args.top.now c.in-Ok.top found in
    record {
      exact = λ file only.
          let accepted = subst (λ s. IsAccepted V2019 s c.in_ok-design.design) (only_file c.args.files.now file c.index-files-0.result c.index-files-0.is only) c.in_ok-design.ensures.accepted in
          design_traces V2019 file c.args.top.now c.args.cycles e.0 (record { units = c.in_ok-design.design; accepted = accepted; top = c.in-Ok.top; is_top = found; is_design = e.1 }) c.run_top19.result (c.run_top19.ensures e.0 e.1);
    }

pub returns : goal.returns
returns c =
    record {
      exact = λ file only.
          let accepted = subst (λ s. IsAccepted V2019 s c.in_ok-design.design) (only_file c.args.files.now file c.index-files-0.result c.index-files-0.is only) c.in_ok-design.ensures.accepted in
          no_top_traces V2019 file c.args.top.now c.args.cycles c.in_ok-design.design accepted c.top19.result c.top19.ensures c.in-Err.end c.in-Err.ensures;
    }
