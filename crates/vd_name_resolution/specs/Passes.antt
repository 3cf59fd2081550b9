-- Trees with what their numbers stand for, as a pass.
use Rattle.std.specs.Prelude.{List}
use Rattle.vd_resolved.specs.declared.node.Resolved.{Resolved}
use Rattle.vd_rewriting.specs.Forms.{forms_pass}
use Rattle.vd_rewriting.specs.Inheriting.{Rules, rules_of}
use Rattle.vd_name_rows.specs.declared.notes.Taken.{Taken}
use Rattle.vd_naming.specs.Settled.{settled_node}

abbrev pub settling_rules : List Taken → Rules Resolved Resolved (Unit {0})
settling_rules ts = rules_of (forms_pass (settled_node ts))
