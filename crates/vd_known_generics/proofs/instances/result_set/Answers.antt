use Rattle.std.proofs.Common.{ap, false, not, refl}
use Rattle.vd_environments.specs.Environments.{Static}
use Rattle.vd_environments.specs.Got.{senseless}
use Rattle.vd_value_rules.specs.Knowledge.{known_in}
use Rattle.vd_known_generics.proofs.instances.result_set.Goals as goal

pub returns-clause-knows : goal.returns-clause-knows
returns-clause-knows c = λ d i k ks knows are.
    c.function_set.ensures.knows d i (λ _. senseless) (λ _. senseless) (known_in k.env) k ks knows (record {
      result_is = are;
      calls_are = ap (λ b. let s : Static = record { is_local = false; is_global = not b } in s) (c.is_inside.ensures d.table k ks knows.known);
      operator_is = λ local as'. refl;
    })
