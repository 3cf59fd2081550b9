use Rattle.std.proofs.Common.{◌∙◌}
use Rattle.vd_modes.proofs.LineLemmas.{line_put}
use Rattle.vd_modes.proofs.lines.add_warning.Goals as goal

pub returns : goal.returns
returns c =
    line_put c.args.text.now.items c.args.file.now c.args.warning.now
    c.as_bytes.result.now (c.as_bytes.ensures.value ∙ c.in_ok-head.ensures) c.extend_from_slice.new.self.items c.in_ok-extend_from_slice.ensures.items
    c.as_slice.result.now c.as_slice.ensures c.extend_from_slice-2.new.self.items c.in_ok-extend_from_slice-2.ensures.items c.push.new.self.items c.in_ok-push.ensures.items
