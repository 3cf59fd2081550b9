use Rattle.std.proofs.Common.{◌≡◌, subst, sym}
use Rattle.std.specs.Prelude.{IfOk}
use Rattle.vd_contexts.proofs.RowLemmas.{fixed_otherwise}
use Rattle.vd_contexts.specs.Rows.{fixed}
use Rattle.vd_contexts.specs.Standing.{standing_of, standings_in}
use Rattle.vd_value_rules.specs.Standings.{unless_formal}
use Rattle.vd_contexts.proofs.lists.fixed.Goals as goal

pub returns-in-Branches : goal.returns-in-Branches
returns-in-Branches c = λ d. subst (λ r. IfOk c.branches.result (λ xs. standings_in d xs.items ≡ fixed r (standing_of d c.args.own))) (sym c.in-Branches.is) (c.branches.ensures d)

pub returns-in-Guarded : goal.returns-in-Guarded
returns-in-Guarded c = λ d. subst (λ r. IfOk c.guarded.result (λ xs. standings_in d xs.items ≡ fixed r (standing_of d c.args.own))) (sym c.in-Guarded.is) (c.guarded.ensures d)

pub returns-in-Choosing : goal.returns-in-Choosing
returns-in-Choosing c = λ d. subst (λ r. IfOk c.of_association.result (λ xs. standings_in d xs.items ≡ fixed r (standing_of d c.args.own))) (sym c.in-Choosing.is) (c.of_association.ensures d)

pub returns-in-Remaining : goal.returns-in-Remaining
returns-in-Remaining c = λ d. subst (λ r. IfOk c.remaining.result (λ xs. standings_in d xs.items ≡ fixed r (standing_of d c.args.own))) (sym c.in-Remaining.is) (c.remaining.ensures d)

pub returns-in-Naming : goal.returns-in-Naming
returns-in-Naming c = λ d.
    subst (λ r. IfOk c.unless_formal.result (λ xs. standings_in d xs.items ≡ fixed r (standing_of d c.args.own))) (sym c.in-Naming.is)
    (subst (λ others. IfOk c.unless_formal.result (λ xs. standings_in d xs.items ≡ unless_formal (standing_of d c.args.own) (standings_in d others))) c.new.ensures.items
    (c.unless_formal.ensures d))

pub returns-in_default : goal.returns-in_default
returns-in_default c = λ d.
    let x = c.in_default in
    subst (λ ss. IfOk c.assigned.result (λ xs. standings_in d xs.items ≡ ss))
    (sym (fixed_otherwise c.args.row (standing_of d c.args.own) x.not-Branches x.not-Guarded x.not-Choosing x.not-Remaining x.not-Naming)) (c.assigned.ensures d)
