use Rattle.std.proofs.Common.{arith}
use Rattle.std.proofs.lemmas.Grind.{common_steps}
use Rattle.vd_readings.proofs.SearchLemmas.{known_kept}
use Rattle.vd_readings.proofs.search.Search.advance.Goals as goal

pub returns-in_ok-keep-in-None-clause-known : goal.returns-in_ok-keep-in-None-clause-known
returns-in_ok-keep-in-None-clause-known g c =
    known_kept (g.L.Language.rules c.args.self.now.language.now) c.args.self.now.store.now c.args.known.now.out c.args.known.now.memo.entries
    c.keep.new.memo.entries c.args.trial.asked c.args.trial.found c.requires.known c.in_ok-keep-in-None.ensures.kept (grind (arith, common_steps))
