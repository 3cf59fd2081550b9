use Rattle.std.proofs.Common.{◌≡◌, ◌-◌, vec_len, length, take, ap, ◌∙◌, arith}
use Rattle.std.specs.Prelude.{◌==◌}
use Rattle.vd_trace_text.proofs.NameLemmas.{written_scope}
use Rattle.vd_trace_text.proofs.paths.add_scope.Goals as goal

pub returns : goal.returns
returns c =
    let way = c.add_way.new.text in
    let size : vec_len way ≡ length way.items = omega arith in
    written_scope c.args.text.now.items way.items c.pop-dot.new.self.items c.args.scope.now
    (c.if-is_empty.ensures ∙ ap (λ levels. length levels == 0) c.as_slice-levels.ensures)
    (cc (c.in_ok-add_way.ensures))
    (c.pop-dot.ensures.rest ∙ ap (λ k. take (k - 1) way.items) size)
