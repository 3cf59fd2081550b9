use Rattle.vd_known_designs.proofs.KnownLemmas.{known_nothing}
use Rattle.vd_known_designs.proofs.table.KnownTable.new.Goals as goal

pub returns : goal.returns
returns c = λ t.
    known_nothing t c.new.result c.new-2.result c.new-3.result.items c.new-4.result.items c.new.ensures c.new-2.ensures c.new-3.ensures.items
    c.new-4.ensures.items
