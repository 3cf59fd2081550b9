use Rattle.std.proofs.Common.{ap}
use Rattle.vd_known_units.proofs.KindLemmas.{of_kind}
use Rattle.vd_known_units.specs.Kinds.{alone_of}
use Rattle.vd_value_rules.specs.Declaring as rules
use Rattle.vd_known_units.proofs.declarations.alone_declared.Goals as goal

pub returns-in-Type : goal.returns-in-Type
returns-in-Type c = record {
  knows = λ d inner k ks views knows.
      of_kind rules.AType (alone_of c.args.alone) d c.args.node.now c.args.parts.now inner k ks c.type_declared.new.design c.type_declared.result (ap alone_of c.in-Type.is)
      (c.type_declared.ensures.knows d inner k ks knows);
}

pub returns-in-Subtype : goal.returns-in-Subtype
returns-in-Subtype c = record {
  knows = λ d inner k ks views knows.
      of_kind rules.ASubtype (alone_of c.args.alone) d c.args.node.now c.args.parts.now inner k ks c.subtype_declared.new.design c.subtype_declared.result (ap alone_of c.in-Subtype.is)
      (c.subtype_declared.ensures.knows d inner k ks knows);
}

pub returns-in-GenericFunction : goal.returns-in-GenericFunction
returns-in-GenericFunction c = record {
  knows = λ d inner k ks views knows.
      of_kind rules.AGenericFunction (alone_of c.args.alone) d c.args.node.now c.args.parts.now inner k ks c.generic_function_declared.new.design c.generic_function_declared.result (ap alone_of c.in-GenericFunction.is)
      (c.generic_function_declared.ensures.knows d inner k ks knows);
}
