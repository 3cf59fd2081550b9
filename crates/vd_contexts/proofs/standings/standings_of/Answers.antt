use Rattle.std.proofs.Common.{◌≡◌, ◌∙◌, subst, sym}
use Rattle.std.specs.Prelude.{IfOk}
use Rattle.vd_port_modes.specs.Source.{design_in}
use Rattle.vd_contexts.proofs.RowLemmas.{found_is}
use Rattle.vd_contexts.specs.Rows.{bounded_by, fixed, mapped, passed_by}
use Rattle.vd_contexts.specs.Standing.{standings_in}
use Rattle.vd_contexts.specs.declared.rows.Sort.TheVariants.{Bounded, Fixed, Mapped, Passed}
use Rattle.vd_value_rules.specs.Standings.{standing, standings}
use Rattle.vd_contexts.proofs.standings.standings_of.Goals as goal

pub returns-in-Bounded-clause-standings : goal.returns-in-Bounded-clause-standings
returns-in-Bounded-clause-standings c = λ s ks knows own.
    let d = design_in c.args.interfaces.now in
    let n = c.args.node.now in
    let ps = c.args.parts.now in
    let e : bounded_by c.row_of-row.result d s n ps ≡ standings n.form d s n ps = found_is n.form d s n ps c.row_of-row.result Bounded c.row_of-row.ensures (sym c.in-Bounded.is ∙ c.sort_of.ensures) in
    subst (λ ss. IfOk c.bounded.result (λ xs. standings_in d xs.items ≡ ss)) e
    (c.bounded.ensures.standings d s ks knows own)

pub returns-in-Passed-clause-standings : goal.returns-in-Passed-clause-standings
returns-in-Passed-clause-standings c = λ s ks knows own.
    let d = design_in c.args.interfaces.now in
    let n = c.args.node.now in
    let ps = c.args.parts.now in
    let e : passed_by c.row_of-row.result d s.known.env (standing s) n ps ≡ standings n.form d s n ps = found_is n.form d s n ps c.row_of-row.result Passed c.row_of-row.ensures (sym c.in-Passed.is ∙ c.sort_of.ensures) in
    subst (λ ss. IfOk c.passed_by.result (λ xs. standings_in d xs.items ≡ ss)) e
    (subst (λ o. IfOk c.passed_by.result (λ xs. standings_in d xs.items ≡ passed_by c.row_of-row.result d s.known.env o n ps)) (sym own) (c.passed_by.ensures s.known ks knows))

pub returns-in-Mapped-clause-standings : goal.returns-in-Mapped-clause-standings
returns-in-Mapped-clause-standings c = λ s ks knows own.
    let d = design_in c.args.interfaces.now in
    let n = c.args.node.now in
    let ps = c.args.parts.now in
    let e : mapped c.row_of-row.result d ps ≡ standings n.form d s n ps = found_is n.form d s n ps c.row_of-row.result Mapped c.row_of-row.ensures (sym c.in-Mapped.is ∙ c.sort_of.ensures) in
    subst (λ ss. IfOk c.mapped.result (λ xs. standings_in d xs.items ≡ ss)) e
    (c.mapped.ensures d)

pub returns-in-Fixed-clause-standings : goal.returns-in-Fixed-clause-standings
returns-in-Fixed-clause-standings c = λ s ks knows own.
    let d = design_in c.args.interfaces.now in
    let n = c.args.node.now in
    let ps = c.args.parts.now in
    let e : fixed c.row_of-row.result (standing s) ≡ standings n.form d s n ps = found_is n.form d s n ps c.row_of-row.result Fixed c.row_of-row.ensures (sym c.in-Fixed.is ∙ c.sort_of.ensures) in
    subst (λ ss. IfOk c.fixed.result (λ xs. standings_in d xs.items ≡ ss)) e
    (subst (λ o. IfOk c.fixed.result (λ xs. standings_in d xs.items ≡ fixed c.row_of-row.result o)) (sym own) (c.fixed.ensures d))
