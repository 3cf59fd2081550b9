use Rattle.std.proofs.lemmas.Result.{on_ok_weaker}
use Rattle.vd_trace_text.proofs.NameLemmas.{written_path}
use Rattle.vd_trace_text.proofs.paths.add_path.Goals as goal

pub returns : goal.returns
returns c =
    let P = written_path c.args.text.now.items c.add_way.new.text.items c.extend_from_slice.new.self.items c.add_steps.new.text.items c.args.path.now
    (cc (c.in_ok-add_way.ensures)) (cc (c.in_ok-extend_from_slice.ensures.items)) in
    on_ok_weaker c.add_steps.result (λ e. P (cc)) c.add_steps.ensures
