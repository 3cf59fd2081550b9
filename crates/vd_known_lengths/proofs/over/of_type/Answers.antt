use Rattle.std.proofs.Common.{Some, ◌≡◌}
use Rattle.vd_known_lengths.proofs.OverLemmas.{marked_is}
use Rattle.vd_known_lengths.proofs.over.of_type.Goals as goal

pub returns-in-Some-clause-within : goal.returns-in-Some-clause-within
returns-in-Some-clause-within c =
    let r = c.requires in
    let named : c.args.mark ≡ Some c.number.result = cc in
    (marked_is c.args.over.now c.args.mark c.number.result c.choosing.result named c.choosing.ensures r.design r.now r.sees).within
