-- Calls, by whether their function looks at a signal.
use Rattle.std.proofs.Common.{◌≡◌, List, false, true, ℕ}
use Rattle.vd_composites.specs.Composites.{Value}
use Rattle.vd_composites.specs.Stops.{◌>>=◌}
use Rattle.vd_environments.specs.Environments.{Env}
use Rattle.vd_environments.specs.Environments as environments
use Rattle.vd_environments.specs.Got.{Got}
use Rattle.vd_forest.specs.Forest.{Forest}
use Rattle.vd_value_rules.specs.declared.forms.IndicatedForm.{IndicatedForm}
use Rattle.vd_meaning.specs.Brackets.{argument_read, arguments_for, called_with}
use Rattle.vd_meaning.specs.Facets.{Meaning, known_of, nth}
use Rattle.vd_meaning.specs.Names.{Named, call, fresh}
use Rattle.vd_meaning.specs.Operators.{Apply, Edge, Join, Lazily, NoOperation, Operation, TruthText, edge}
use Rattle.vd_meaning.specs.Tables.{Table}
use Rattle.vd_resolved.specs.declared.node.Resolved.{Resolved}
use Rattle.vd_static_values.specs.Names.{IsName}
use Rattle.vd_static_values.specs.declared.names.KnownName.{KnownName}
use Rattle.vd_static_nodes.specs.Calls.{is_edge}
use Rattle.vd_values.specs.declared.scalar.Scalar.{Scalar}

module _ (subtypes : List (Forest IndicatedForm)) (e : Env) (t : Table) (d : ℕ) (n : Resolved) (ms : List Meaning) (p : Named) (x : KnownName) where
  pub edge_named : (op : Operation) → is_edge op ≡ true
      → ((v : Env → Got (Value Scalar)) → IsName subtypes e x (fresh v n.mark (λ _. environments.never) (argument_read p ms)))
      → IsName subtypes e x (called_with op t d n ms p)
  edge_named (Edge rising) is named = named (λ e'. (nth 0 ms).name.signals e' >>= edge rising e'.view)
  edge_named (Apply op) is named = absurd (cc)
  edge_named (Lazily o) is named = absurd (cc)
  edge_named (Join l r) is named = absurd (cc)
  edge_named TruthText is named = absurd (cc)
  edge_named NoOperation is named = absurd (cc)

  pub call_named : (op : Operation) → is_edge op ≡ false
      → IsName subtypes e x (call t d (arguments_for 0 (t.declared d).parameters ms) n.mark (known_of ms) (argument_read p ms))
      → IsName subtypes e x (called_with op t d n ms p)
  call_named (Edge rising) is named = absurd (cc)
  call_named (Apply op) is named = named
  call_named (Lazily o) is named = named
  call_named (Join l r) is named = named
  call_named TruthText is named = named
  call_named NoOperation is named = named
