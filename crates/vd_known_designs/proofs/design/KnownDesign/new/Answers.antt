use Rattle.vd_known_designs.proofs.design.KnownDesign.new.Goals as goal

pub returns : goal.returns
returns c = λ d same. record { table = same; known = c.in_ok-table.ensures d.table; jumps = c.new.ensures c.in_ok-table.table.subtypes }
