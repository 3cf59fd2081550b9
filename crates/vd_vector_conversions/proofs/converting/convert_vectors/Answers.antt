use Rattle.vd_vector_conversions.proofs.WholeLemmas.{apart_made}
use Rattle.vd_vector_conversions.proofs.converting.convert_vectors.Goals as goal

pub returns : goal.returns
returns c = apart_made c.args.tree c.of.result c.in_ok-facts.facts c.converted.new.out c.in_ok-units.units c.in_ok-units.ensures c.of.ensures
