use Rattle.std.proofs.Common.{◌≡◌, ◌+◌, ◌||◌, drop, true, false, slice_index_or, ap, sym, ◌∙◌}
use Rattle.vd_meaning.specs.Tables.{no_declaration, sort_of, table}
use Rattle.vd_name_rules.proofs.OperatorLemmas.{marks, next_parameter}
use Rattle.vd_trees.specs.declared.revision.Revision.TheVariants.{V2019}
use Rattle.vd_value_rules.specs.Operators.{any_nine_valued, is_nine_valued}
use Rattle.vd_name_rules.proofs.operators.any_nine_valued.Goals as goal

pub returns-then-is_of_nine_values : goal.returns-then-is_of_nine_values
returns-then-is_of_nine_values c =
    let ds = c.args.declarations.now in
    let ps = c.args.parameters.now in
    let i = c.loop-parameter.parameter-index in
    let p = c.parameter-item.result in
    let yes : is_nine_valued (sort_of (table V2019 ds) (slice_index_or ds p no_declaration).mark) ≡ true =
    ap (λ q. is_nine_valued (sort_of (table V2019 ds) (slice_index_or ds q no_declaration).mark)) (sym c.number.ensures)
    ∙ sym c.is_of_nine_values.ensures ∙ c.if-is_of_nine_values.true in
    sym (next_parameter ds ps i p c.loop-parameter-test.true c.parameter-item.is
    ∙ ap (λ b. b || any_nine_valued (table V2019 ds) (marks ds (drop (i + 1) ps))) yes) ∙ c.loop-parameter.invariant

pub loop-parameter-preserved : goal.loop-parameter-preserved
loop-parameter-preserved c =
    let ds = c.args.declarations.now in
    let ps = c.args.parameters.now in
    let i = c.loop-parameter.parameter-index in
    let p = c.parameter-item.result in
    let no : is_nine_valued (sort_of (table V2019 ds) (slice_index_or ds p no_declaration).mark) ≡ false =
    ap (λ q. is_nine_valued (sort_of (table V2019 ds) (slice_index_or ds q no_declaration).mark)) (sym c.number.ensures)
    ∙ sym c.is_of_nine_values.ensures ∙ c.if-is_of_nine_values.false in
    sym (next_parameter ds ps i p c.loop-parameter-test.true c.parameter-item.is
    ∙ ap (λ b. b || any_nine_valued (table V2019 ds) (marks ds (drop (i + 1) ps))) no) ∙ c.loop-parameter.invariant
