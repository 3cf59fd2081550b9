use Rattle.vd_derivations93.proofs.DepthLemmas.{not_refused}
use Rattle.vd_derivations93.proofs.depth.is_deeper.Goals as goal

pub returns-in-Err-At : goal.returns-in-Err-At
returns-in-Err-At c =
    let h = rw c.in-Err-At.field-0-is at c.in-Err-At.ensures.answer in
    absurd (not_refused c.args.table.now.table c.args.symbols.now c.requires.text c.args.deep c.in-Err-At.field-0-0 h)
