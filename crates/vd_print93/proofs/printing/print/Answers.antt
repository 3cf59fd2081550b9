use Rattle.vd_print93.specs.PrintReading.{PrintReadsBack, PrintIsOfDesign}
use Rattle.vd_print93.proofs.PrintLemmas.{of_bytes, layout_reads_back, layout_is_of_design}
use Rattle.vd_print93.proofs.printing.print.Goals as goal

pub returns-clause-reads_back : goal.returns-clause-reads_back
returns-clause-reads_back c =
    of_bytes (PrintReadsBack c.args.design.now) _ c.lay_out.result (layout_reads_back c.args.design.now c.lay_out.ensures.valid) c.lay_out.ensures.laid_out

pub returns-clause-of_design : goal.returns-clause-of_design
returns-clause-of_design c =
    of_bytes (PrintIsOfDesign c.args.design.now) _ c.lay_out.result (layout_is_of_design c.args.design.now c.lay_out.ensures.valid) c.lay_out.ensures.laid_out
