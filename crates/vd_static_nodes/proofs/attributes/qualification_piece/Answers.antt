use Rattle.std.proofs.Common.{Ok, subst}
use Rattle.vd_meaning.specs.Brackets.{argument_read, bracketed_known, bracketed_value, qualification_piece}
use Rattle.vd_meaning.specs.Names.{number_or, qualified}
use Rattle.vd_static_values.specs.Entries.{table_of}
use Rattle.vd_static_values.specs.Names.{IsName}
use Rattle.vd_static_nodes.proofs.attributes.qualification_piece.Goals as goal

pub returns-clause-node : goal.returns-clause-node
returns-clause-node c = λ e ms ground nodes.
    let store = c.args.ground.now.subtypes.now in
    let n = c.args.node in
    let d = number_or n.declaration in
    let value = λ (f : Rattle.vd_environments.specs.Environments.Env). bracketed_value n.mark ms (Ok (f.denotes d).subtype) f in
    c.piece.ensures.node store e ms (qualification_piece (table_of c.args.ground.now) n ms)
    (λ p.
    subst (λ k. IsName store e c.in_ok-name.name (qualified k n.mark value (bracketed_known ms) (argument_read p ms))) c.number_or.ensures
    (c.in_ok-name.ensures.named e n.mark value (bracketed_known ms) (argument_read p ms) ground (c.bracketed_known-known.ensures store e ms nodes)
    (λ local. c.in_ok-value.ensures store e ms n.mark (Ok (e.denotes d).subtype) nodes local)))
