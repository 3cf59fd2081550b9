use Rattle.vd_port_associations.proofs.PairLemmas.{added}
use Rattle.vd_port_associations.proofs.elements.add_pair.Goals as goal

pub returns : goal.returns
returns c n d place = added n d place c.args.pairs.now.keys c.insert.new.self.keys c.args.pair c.in_ok-insert.ensures.keys
