-- What is known of names of subtypes, and of indexes of any bounds.
use Rattle.std.proofs.Common.{◌-◌, ◌≡◌, List, Option, Some, length, slice_get, subst, sym, ℕ}
use Rattle.vd_environments.specs.Environments.{Env}
use Rattle.vd_forest.specs.Forest.{Forest}
use Rattle.vd_value_rules.specs.declared.forms.IndicatedForm.{IndicatedForm}
use Rattle.vd_meaning.specs.Facets.{Meaning, last_of, of_node}
use Rattle.vd_resolved.specs.declared.node.Resolved.{Resolved}
use Rattle.vd_static_values.specs.Nodes.{AreNodes, IsNode}
use Rattle.vd_static_values.specs.Senses.{IsSense}
use Rattle.vd_static_values.specs.declared.nodes.Node.{Node}
use Rattle.vd_static_values.specs.declared.senses.Sense.{Sense}
use Rattle.vd_static_parts.proofs.PartLemmas.{last_part}
use Rattle.vd_static_parts.specs.Parts.{IsPart}

module _ (subtypes : List (Forest IndicatedForm)) (e : Env) where
  module _ (s : Sense) where
    pub declaring : (n : Resolved) (text : List ℕ) (ms : List Meaning) (d c : Option ℕ) → IsSense subtypes e s (of_node n text ms) → d ≡ c
        → IsSense subtypes e (record s { declaration = d }) (record (of_node n text ms) { declaration = c })
    declaring n text ms d c is same = record {
      text = is.text;
      declaration = sym same;
      mark = is.mark;
      position = is.position;
      is_present = is.is_present;
      known = is.known;
      value = is.value;
      range = is.range;
      name = is.name;
      association = is.association;
      choices = is.choices;
      is_open = is.is_open;
    }

  module _ (xs : List Node) (ms : List Meaning) (are : AreNodes subtypes e xs ms) where
    pub last_declaration : (x : Node) → slice_get xs (length xs - 1) ≡ Some x → x.sense.declaration ≡ (last_of ms).declaration
    last_declaration x is =
        let node : IsNode subtypes e x (last_of ms) = subst (λ p. IsPart subtypes e p (last_of ms)) is (last_part subtypes e xs ms are) in
        sym node.sense.declaration
