use Rattle.std.proofs.Common.{subst, sym}
use Rattle.vd_operations.specs.Roles.{read_role}
use Rattle.vd_known_lengths.specs.Extents.{IsExtent}
use Rattle.vd_value_rules.specs.Lengths.{first_shaped}
use Rattle.vd_known_lengths.proofs.declared.by_role.Goals as goal

pub returns-in-Constant-clause-is : goal.returns-in-Constant-clause-is
returns-in-Constant-clause-is c = λ d k sees.
    subst (λ r. IsExtent c.args.over.now.ground.subtypes.now c.declared.result (first_shaped (read_role r) d k c.args.node)) (sym c.in-Constant.is) (c.declared.ensures.is d k sees)

pub returns-in-Variable-clause-is : goal.returns-in-Variable-clause-is
returns-in-Variable-clause-is c = λ d k sees.
    subst (λ r. IsExtent c.args.over.now.ground.subtypes.now c.declared-in-Variable.result (first_shaped (read_role r) d k c.args.node)) (sym c.in-Variable.is) (c.declared-in-Variable.ensures.is d k sees)

pub returns-in-Signal-clause-is : goal.returns-in-Signal-clause-is
returns-in-Signal-clause-is c = λ d k sees.
    subst (λ r. IsExtent c.args.over.now.ground.subtypes.now c.declared-in-Signal.result (first_shaped (read_role r) d k c.args.node)) (sym c.in-Signal.is) (c.declared-in-Signal.ensures.is d k sees)

pub returns-in-Mark-clause-is : goal.returns-in-Mark-clause-is
returns-in-Mark-clause-is c = λ d k sees.
    subst (λ r. IsExtent c.args.over.now.ground.subtypes.now c.declared-in-Mark.result (first_shaped (read_role r) d k c.args.node)) (sym c.in-Mark.is) (c.declared-in-Mark.ensures.is d k sees)

pub returns-in-Literal-clause-is : goal.returns-in-Literal-clause-is
returns-in-Literal-clause-is c = λ d k sees.
    subst (λ r. IsExtent c.args.over.now.ground.subtypes.now c.typed.result (first_shaped (read_role r) d k c.args.node)) (sym c.in-Literal.is) (c.typed.ensures.is d k sees)

pub returns-in-Element-clause-is : goal.returns-in-Element-clause-is
returns-in-Element-clause-is c = λ d k sees.
    subst (λ r. IsExtent c.args.over.now.ground.subtypes.now c.typed-in-Element.result (first_shaped (read_role r) d k c.args.node)) (sym c.in-Element.is) (c.typed-in-Element.ensures.is d k sees)

pub returns-in-Nothing-clause-is : goal.returns-in-Nothing-clause-is
returns-in-Nothing-clause-is c = λ d k sees.
    subst (λ r. IsExtent c.args.over.now.ground.subtypes.now c.typed-in-Nothing.result (first_shaped (read_role r) d k c.args.node)) (sym c.in-Nothing.is) (c.typed-in-Nothing.ensures.is d k sees)
