use Rattle.std.proofs.Common.{refl}
use Rattle.vd_forest.proofs.StoreLemmas.{extends_same}
use Rattle.vd_readings.proofs.FoundLemmas.{given_several, several_by_some}
use Rattle.vd_readings.proofs.search.Search.give.Goals as goal

pub returns-in-Only-rest-2 : goal.returns-in-Only-rest-2
returns-in-Only-rest-2 g c =
    let node = c.node-head.result in
    record {
      found = given_several (g.L.Language.rules c.args.self.now.language.now) _ c.args.way.now node.form node.text.now node.place _ _ c.node-head.ensures.is
          (several_by_some c.args.known.now.out _ _ _ _ c.in-Several.is c.in-Only-rest-2.is c.requires.inner c.requires.rest);
      extends = extends_same c.args.known.now.out;
      memo = refl;
    }
