use Rattle.std.proofs.Common.{ap}
use Rattle.vd_known_units.proofs.KindLemmas.{of_kind}
use Rattle.vd_known_units.specs.Kinds.{objects_of}
use Rattle.vd_value_rules.specs.Declaring as rules
use Rattle.vd_known_units.proofs.declarations.objects_declared.Goals as goal

pub returns-in-Constants : goal.returns-in-Constants
returns-in-Constants c = record {
  knows = λ d n inner k ks views knows.
      of_kind rules.Constants (objects_of c.args.objects) d n c.args.parts.now inner k ks c.constants_declared.new.design c.constants_declared.result (ap objects_of c.in-Constants.is)
      (c.constants_declared.ensures.knows d n inner k ks knows);
}

pub returns-in-Variables : goal.returns-in-Variables
returns-in-Variables c = record {
  knows = λ d n inner k ks views knows.
      of_kind rules.Variables (objects_of c.args.objects) d n c.args.parts.now inner k ks c.variables_declared.new.design c.variables_declared.result (ap objects_of c.in-Variables.is)
      (c.variables_declared.ensures.knows d n inner k ks knows);
}

pub returns-in-Signals : goal.returns-in-Signals
returns-in-Signals c = record {
  knows = λ d n inner k ks views knows.
      of_kind rules.SomeSignals (objects_of c.args.objects) d n c.args.parts.now inner k ks c.signals_declared.new.design c.signals_declared.result (ap objects_of c.in-Signals.is)
      (c.signals_declared.ensures.knows d n inner k ks knows);
}

pub returns-in-Ports : goal.returns-in-Ports
returns-in-Ports c = record {
  knows = λ d n inner k ks views knows.
      of_kind rules.SomePorts (objects_of c.args.objects) d n c.args.parts.now inner k ks c.ports_declared.new.design c.ports_declared.result (ap objects_of c.in-Ports.is)
      (c.ports_declared.ensures.knows d n inner k ks knows);
}

pub returns-in-ViewPorts : goal.returns-in-ViewPorts
returns-in-ViewPorts c = record {
  knows = λ d n inner k ks views knows.
      of_kind rules.ViewPorts (objects_of c.args.objects) d n c.args.parts.now inner k ks c.view_ports_declared.new.design c.view_ports_declared.result (ap objects_of c.in-ViewPorts.is)
      (c.view_ports_declared.ensures.knows d n inner k ks views knows);
}

pub returns-in-GenericConstants : goal.returns-in-GenericConstants
returns-in-GenericConstants c = record {
  knows = λ d n inner k ks views knows.
      of_kind rules.GenericConstants (objects_of c.args.objects) d n c.args.parts.now inner k ks c.generics_declared.new.design c.generics_declared.result (ap objects_of c.in-GenericConstants.is)
      (c.generics_declared.ensures.knows d n inner k ks knows);
}

pub returns-in-Parameters : goal.returns-in-Parameters
returns-in-Parameters c = record {
  knows = λ d n inner k ks views knows.
      of_kind rules.SomeParameters (objects_of c.args.objects) d n c.args.parts.now inner k ks c.parameters_declared.new.design c.parameters_declared.result (ap objects_of c.in-Parameters.is)
      (c.parameters_declared.ensures.knows d n inner k ks knows);
}
