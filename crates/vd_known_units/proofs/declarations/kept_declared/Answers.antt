use Rattle.std.proofs.Common.{ap}
use Rattle.vd_known_units.proofs.KindLemmas.{of_kind}
use Rattle.vd_known_units.specs.Kinds.{kept_of}
use Rattle.vd_value_rules.specs.Declaring as rules
use Rattle.vd_known_units.proofs.declarations.kept_declared.Goals as goal

pub returns-in-Function : goal.returns-in-Function
returns-in-Function c = record {
  knows = λ d inner k ks knows.
      of_kind rules.AFunction (kept_of c.args.kept) d c.args.node.now c.args.parts.now inner k ks c.function_declared.new.design c.function_declared.result (ap kept_of c.in-Function.is)
      (c.function_declared.ensures.knows d inner k ks knows);
}
