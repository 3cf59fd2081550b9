-- What a role of the code is read as.
use Rattle.vd_operations.specs.declared.roles.Role.{Role as WrittenRole}
use Rattle.vd_operations.specs.declared.roles.Role.TheVariants.{Constant, Element, Function, Literal, Mark, Nothing, Signal, Variable}
use Rattle.vd_meaning.specs.Tables.{ConstantRole, ElementRole, FunctionRole, LiteralRole, MarkRole, NoRole, Role, SignalRole, VariableRole}

abbrev pub read_role : WrittenRole → Role
read_role Constant = ConstantRole
read_role Variable = VariableRole
read_role Signal = SignalRole
read_role Literal = LiteralRole
read_role Function = FunctionRole
read_role Mark = MarkRole
read_role Element = ElementRole
read_role Nothing = NoRole
