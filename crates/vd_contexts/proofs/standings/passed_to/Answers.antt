use Rattle.std.proofs.Common.{◌&&◌, ◌∙◌, ◌≡◌, ap, ap₂, not, subst}
use Rattle.std.specs.Prelude.{IfOk, slice_index_or}
use Rattle.vd_meaning.specs.Meanings.{meanings}
use Rattle.vd_meaning.specs.Tables.{is_predefined, no_declaration, table}
use Rattle.vd_port_modes.specs.Source.{design_in}
use Rattle.vd_contexts.specs.Standing.{standings_in}
use Rattle.vd_value_rules.specs.Standings.{is_bounded_object, passed}
use Rattle.vd_contexts.proofs.standings.passed_to.Goals as goal

pub returns : goal.returns
returns c = λ k ks knows.
    let i = c.args.interfaces.now in
    let d = design_in i in
    let f = c.args.function in
    let same = c.declarations-declarations.ensures in
    let written = ap not (c.is_predefined-gives_bounds.ensures ∙ ap₂ (λ r ds. is_predefined (table r ds) f) c.revision.ensures same) in
    let numbers = c.parameters_of.ensures ∙ ap (λ ds. (slice_index_or ds f no_declaration).parameters) same in
    let ms = meanings d.table c.args.elements.now in
    subst (λ b. IfOk c.passed.result (λ xs. standings_in d xs.items ≡ passed (λ n. b && is_bounded_object k.env n) (d.table.declared f).parameters ms)) written
    (subst (λ ns. IfOk c.passed.result (λ xs. standings_in d xs.items ≡ passed (λ n. not c.is_predefined-gives_bounds.result && is_bounded_object k.env n) ns ms)) numbers
    (c.passed.ensures d k ks knows))
