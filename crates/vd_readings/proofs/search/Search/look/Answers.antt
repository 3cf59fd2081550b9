use Rattle.vd_readings.proofs.SearchLemmas.{known_recalled}
use Rattle.vd_readings.proofs.search.Search.look.Goals as goal

pub returns-clause-found : goal.returns-clause-found
returns-clause-found g c =
    known_recalled (g.L.Language.rules c.args.self.now.language.now) c.args.self.now.store.now c.args.known.now.out c.args.known.now.memo.entries
    c.args.asked.now c.recall.result c.requires.known c.recall.ensures
