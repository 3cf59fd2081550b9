use Rattle.std.proofs.Common.{◌-◌, length}
use Rattle.vd_visible_names.proofs.writer.shared_links.Given as goal

abbrev pub decreases-loop-link : goal.decreases-loop-link
decreases-loop-link l = l.count - length l.link.items
