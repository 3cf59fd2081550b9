use Rattle.vd_choice_rules.proofs.StatementLemmas.{no_statement, statement_refused}
use Rattle.vd_value_rules.specs.Choices.{selecting_of}
use Rattle.vd_choice_rules.proofs.statements.refused_statement.Goals as goal

pub refused_choices-requires : goal.refused_choices-requires
refused_choices-requires c =
    let r = c.requires.ready in
    record { ready = record { design = r.design; now = r.now; round = r.round; knows = c.in_ok-found.ensures.knows r.design _ r.knows } }

pub returns-in-None-clause-refused : goal.returns-in-None-clause-refused
returns-in-None-clause-refused c = λ d s ks knows revision label.
    let n = c.args.node.now in
    no_statement s.known.env c.in_ok-found.found (selecting_of n.form.form d s n.place n.parts) c.in-None.is
    (c.in_ok-found.ensures.selecting d s ks knows revision label)

pub returns-in-Some-clause-refused : goal.returns-in-Some-clause-refused
returns-in-Some-clause-refused c = λ d s ks knows revision label.
    let n = c.args.node.now in
    statement_refused s.known.env c.in_ok-found.found c.in-Some.selecting (selecting_of n.form.form d s n.place n.parts) c.refused_choices.result c.in-Some.is
    (c.in_ok-found.ensures.selecting d s ks knows revision label)
    (λ t is. c.refused_choices.ensures d s.known ks t (c.in_ok-found.ensures.knows d _ knows) is)
