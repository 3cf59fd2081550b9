use Rattle.std.proofs.Common.{ap, ap₂, arith, ◌∙◌}
use Rattle.std.specs.Prelude.{slice_index_or}
use Rattle.vd_meaning.specs.Operators.{symbol}
use Rattle.vd_meaning.specs.Tables.{no_declaration, sort_of, table}
use Rattle.vd_trees.specs.declared.revision.Revision.TheVariants.{V2019}
use Rattle.vd_match.specs.Writings.{by_one}
use Rattle.vd_match.proofs.WritingLemmas.{kept_otherwise, one_operand, two_operands, two_same}
use Rattle.vd_match.proofs.writings.writing_of.Goals as goal

pub returns-then-parameters-eq1 : goal.returns-then-parameters-eq1
returns-then-parameters-eq1 c =
    let t = table V2019 c.args.declarations.now in
    let d = slice_index_or c.args.declarations.now c.args.number no_declaration in
    let named = c.symbol_named-symbol.ensures ∙ ap symbol c.name_of.ensures in
    let mark = c.mark_of-operand.ensures ∙ ap (λ n. (t.declared n).mark) (c.number.ensures ∙ c.index-parameters-0.is) in
    c.by_one.ensures
    ∙ ap₂ by_one named (c.sort_of.ensures V2019 ∙ ap (sort_of t) mark)
    ∙ one_operand t (symbol d.name) (λ p. (t.declared p).mark) c.index-parameters-0.result c.parameters_of-parameters.result.now d.parameters c.parameters_of-parameters.ensures (omega arith)

pub returns-then-parameters-eq2 : goal.returns-then-parameters-eq2
returns-then-parameters-eq2 c =
    let t = table V2019 c.args.declarations.now in
    let d = slice_index_or c.args.declarations.now c.args.number no_declaration in
    let named = c.symbol_named-symbol.ensures ∙ ap symbol c.name_of.ensures in
    let l = c.mark_of-l.ensures ∙ ap (λ n. (t.declared n).mark) (c.number-then-parameters-eq2.ensures ∙ c.index-parameters-0-then-parameters-eq2.is) in
    let r = c.mark_of-r.ensures ∙ ap (λ n. (t.declared n).mark) (c.number-then-parameters-eq2-2.ensures ∙ c.index-parameters-1.is) in
    c.by_two.ensures
    ∙ two_same _ _ _ _ _ _ named (c.sort_of-then-parameters-eq2.ensures V2019 ∙ ap (sort_of t) l) (c.sort_of-then-parameters-eq2-2.ensures V2019 ∙ ap (sort_of t) r)
    ∙ two_operands t (symbol d.name) (λ p. (t.declared p).mark) c.index-parameters-0-then-parameters-eq2.result c.index-parameters-1.result c.parameters_of-parameters.result.now d.parameters c.parameters_of-parameters.ensures (omega arith)

pub returns-else-parameters-eq2 : goal.returns-else-parameters-eq2
returns-else-parameters-eq2 c =
    let t = table V2019 c.args.declarations.now in
    let d = slice_index_or c.args.declarations.now c.args.number no_declaration in
    kept_otherwise t (symbol d.name) (λ p. (t.declared p).mark) c.parameters_of-parameters.result.now d.parameters c.parameters_of-parameters.ensures (omega arith) (omega arith)
