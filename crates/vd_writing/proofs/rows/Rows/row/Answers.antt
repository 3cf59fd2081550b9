use Rattle.std.proofs.Common.{arith}
use Rattle.vd_writing.proofs.StartLemmas.{found_start, kept_start}
use Rattle.vd_writing.proofs.rows.Rows.row.Goals as goal

pub invariant_of-self : goal.invariant_of-self
invariant_of-self c =
    let table = c.self.inside.table.now in
    let at = c.place_of-at.result in
    let start = c.find-start-2.result in
    kept_start table c.self.inside.starts.items at start c.self.invariant (omega arith)
    (found_start table at start c.args.state c.args.form c.place_of-at.ensures (omega arith) c.find-start-2.ensures.within c.find-start-2.ensures.row)
