use Rattle.std.proofs.Common.{arith, [], slice_index, ◌∙◌}
use Rattle.std.proofs.lemmas.List.{get_or_past}
use Rattle.vd_first_lex.proofs.TokenLemmas.{same_kind, none_begins, less_begins, single_begins}
use Rattle.vd_first_lex.proofs.lexer.mark.Goals as goal
use Rattle.vd_first_lex.proofs.lexer.mark.Goals.{else-rest-gt1-via-then-rest-gt1+else-rest-eq61, else-rest-gt1-via-else-rest-gt1}

pub returns-else-rest-gt1-clause-none : goal.returns-else-rest-gt1-clause-none
returns-else-rest-gt1-clause-none c = λ r. less_begins r c.args.rest.now c.requires.some c.if-rest-eq60.true
    (elim c.else-rest-gt1.branch [
      | else-rest-gt1-via-then-rest-gt1+else-rest-eq61 w ↦ w.if-rest-eq61.false
      | else-rest-gt1-via-else-rest-gt1 w ↦ λ e. let past = get_or_past c.args.rest.now 1 0 w.if-rest-gt1.false in omega (arith, past, e)
    ])

pub returns-in-Some-clause-found : goal.returns-in-Some-clause-found
returns-in-Some-clause-found c = λ r.
    let b = slice_index c.args.rest.now 0 in
    let other = c.requires.other in
    single_begins r c.args.rest.now c.in-Some.n c.requires.some (same_kind r b [] other ∙ c.in-Some.ensures.found)
    (λ more some. same_kind r b more other ∙ c.in-Some.ensures.longest more some)

pub returns-in-None-clause-none : goal.returns-in-None-clause-none
returns-in-None-clause-none c = λ r. none_begins r c.args.rest.now c.requires.some (λ more. same_kind r (slice_index c.args.rest.now 0) more c.requires.other ∙ c.in-None.ensures.none more)
