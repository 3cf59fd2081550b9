use Rattle.vd_gram.proofs.AdvanceLemmas.{parse_told}
use Rattle.vd_gram.proofs.parsing.parse.Goals as goal

pub returns : goal.returns
returns c =
    let p = c.in_ok-tell.ensures.answer in
    parse_told c.args.table.now.table c.args.symbols.now c.args.deep c.tell.new.builder.steps.items p.tree c.in_ok-derivation.derivation p.parse p.taken c.in_ok-derivation.ensures
