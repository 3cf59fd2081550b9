use Rattle.std.proofs.Common.{subst, sym}
use Rattle.vd_meaning.specs.Meanings.{meanings}
use Rattle.vd_known_lengths.specs.Extents.{IsExtent}
use Rattle.vd_value_rules.specs.Lengths.{array_operand, of_type_of}
use Rattle.vd_known_lengths.proofs.measuring.of_operand.Goals as goal

pub returns-clause-is : goal.returns-clause-is
returns-clause-is c = λ d k ss sees are.
    let n = c.args.tree.now.form in
    c.alone.ensures.is (of_type_of k n (array_operand n (meanings d.table c.args.tree.now.parts) ss))
    (subst (λ l. IsExtent c.args.over.now.ground.subtypes.now c.typed.result (of_type_of k n l)) (sym (c.operand_length-length.ensures d.table ss are)) (c.typed.ensures.is d k sees))
