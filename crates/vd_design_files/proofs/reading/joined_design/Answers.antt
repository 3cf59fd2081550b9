use Rattle.std.proofs.Common.{sym, ◌∙◌, arith}
use Rattle.vd_design_files.proofs.FileLemmas.{only_joined}
use Rattle.vd_design_files.proofs.reading.joined_design.Goals as goal

pub returns : goal.returns
returns c = only_joined c.args.designs.items c.pop.new.self.items c.in-Some.only c.in-Some.ensures.items (let ok = c.args.designs.ok.0 in let one = sym c.len.ensures ∙ c.if-len-eq1.true in omega (arith, ok, one))
