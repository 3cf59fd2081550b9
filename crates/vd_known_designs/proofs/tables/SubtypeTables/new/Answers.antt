use Rattle.vd_known_designs.proofs.tables.SubtypeTables.new.Goals as goal

pub invariant_of-result : goal.invariant_of-result
invariant_of-result c = record { inside_of = c.new-2.ensures c.new.result; bounds_of = c.new-3.ensures c.new.result }
