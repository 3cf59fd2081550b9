use Rattle.std.proofs.Common.{List, ◌++◌}
use Rattle.vd_environments.specs.Environments.{Env}
use Rattle.vd_forest.specs.Forest.{Forest}
use Rattle.vd_given_choices.proofs.ChoiceLemmas.{Walked}
use Rattle.vd_value_rules.specs.declared.forms.IndicatedForm.{IndicatedForm}
use Rattle.vd_meaning.specs.Meanings.{meanings}
use Rattle.vd_static_values.specs.Nodes.{AreNodes}
use Rattle.vd_static_values.specs.declared.nodes.Node.{Node}
use Rattle.vd_value_rules.specs.Designs.{Design}
use Rattle.vd_given_choices.proofs.choices.with_places.Given as goal

abbrev pub invariant-loop-node : goal.invariant-loop-node
invariant-loop-node l =
    (d : Design) (subtypes : List (Forest IndicatedForm)) (e : Env) (zs : List Node) → AreNodes subtypes e (l.yielded ++ zs) (meanings d.table l.trees)
    → Walked d subtypes e l.trees l.rest zs l.choices.items
