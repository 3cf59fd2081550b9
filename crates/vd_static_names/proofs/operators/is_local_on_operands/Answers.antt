use Rattle.std.proofs.Common.{arith}
use Rattle.std.specs.Prelude.{slice_index_or}
use Rattle.vd_meaning.specs.Operators.{symbol}
use Rattle.vd_meaning.specs.Tables.{no_declaration, table}
use Rattle.vd_static_names.proofs.OperatorLemmas.{other_operands}
use Rattle.vd_static_names.proofs.operators.is_local_on_operands.Goals as goal

pub returns-else-parameters-eq2 : goal.returns-else-parameters-eq2
returns-else-parameters-eq2 c = λ revision.
    let t = table revision c.args.declarations.now in
    let d = slice_index_or c.args.declarations.now c.args.number no_declaration in
    other_operands t (symbol d.name) (λ p. (t.declared p).mark) c.parameters_of-parameters.result.now d.parameters c.parameters_of-parameters.ensures (omega arith) (omega arith)
