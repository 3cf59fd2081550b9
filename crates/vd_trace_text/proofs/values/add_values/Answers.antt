use Rattle.std.proofs.Common.{◌++◌, arith, sym, ap, ◌∙◌}
use Rattle.std.proofs.Math.Seq.{drop-cons}
use Rattle.std.proofs.lemmas.List.{append-nil}
use Rattle.vd_trace_text.proofs.ValueLemmas.{left_from-end, written_one}
use Rattle.vd_trace_text.proofs.values.add_values.Goals as goal

pub returns : goal.returns
returns c =
    let old = c.loop-index.text.items in
    sym (ap (λ x. old ++ x) (left_from-end c.args.paths.now c.args.types.now c.args.earlier.now c.args.values.now c.loop-index.index (omega arith)) ∙ append-nil old) ∙ c.loop-index.invariant

pub loop-index-preserved : goal.loop-index-preserved
loop-index-preserved c =
    let i = c.loop-index.index in
    let path = c.in-Some-Some.ensures.lookup in
    let type_text = c.in-Some-Some.ensures'.lookup in
    written_one c.args.paths.now c.args.types.now c.args.earlier.now c.args.values.now i c.in-Some-Some.path.now c.in-Some-Some.type_text.now _
    c.loop-index.text.items c.add_if_new.new.text.items _
    path.3.0 path.1 type_text.3.0 type_text.1 (drop-cons c.args.values.now i _ (omega arith)) c.is_new-is_new.ensures c.in_ok-add_if_new.ensures
    ∙ c.loop-index.invariant
