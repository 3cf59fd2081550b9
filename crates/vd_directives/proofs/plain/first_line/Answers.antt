use Rattle.std.proofs.Common.{sym}
use Rattle.vd_directives.proofs.LineLemmas.{first_line-feed, first_line-last}
use Rattle.vd_directives.proofs.plain.first_line.Goals as goal

pub returns-in-Some-clause-first : goal.returns-in-Some-clause-first
returns-in-Some-clause-first c = first_line-feed c.args.rest.now c.in-Some.feed (sym c.in-Some.ensures) _ c.without_return.ensures

pub returns-in-None-clause-first : goal.returns-in-None-clause-first
returns-in-None-clause-first c = first_line-last c.args.rest.now c.requires (sym c.in-None.ensures)
