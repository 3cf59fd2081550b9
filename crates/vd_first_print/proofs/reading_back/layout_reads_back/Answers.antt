use Rattle.vd_first_print.proofs.ReadsBack.{layout_reads_back}
use Rattle.vd_first_print.proofs.reading_back.layout_reads_back.Goals as goal

pub returns : goal.returns
returns c = layout_reads_back
