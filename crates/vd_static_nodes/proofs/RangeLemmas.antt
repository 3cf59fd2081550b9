-- What is known of ranges.
use Rattle.std.proofs.Common.{◌≡◌, List, None, Option, Some, ap, false, refl, slice_get, subst, sym, true, ℕ, ◌∙◌}
use Rattle.std.proofs.Math.Bool.{and-false}
use Rattle.vd_composites.specs.Stops.{◌>>=◌}
use Rattle.vd_composites.specs.declared.ranges.Bounds.{Bounds}
use Rattle.vd_environments.specs.Environments.{Env, Static, both, never, unknown}
use Rattle.vd_environments.specs.Got.{Got, is_got, senseless}
use Rattle.vd_forest.specs.Forest.{Forest}
use Rattle.vd_value_rules.specs.declared.forms.IndicatedForm.{IndicatedForm}
use Rattle.vd_meaning.specs.Facets.{Meaning, expression, known_of, nth, of_node, value_of}
use Rattle.vd_meaning.specs.Names.{name_bounds, position_in}
use Rattle.vd_resolved.specs.declared.node.Resolved.{Resolved}
use Rattle.vd_static_values.specs.Entries.{IsFound}
use Rattle.vd_static_values.specs.Names.{IsRanging}
use Rattle.vd_static_values.specs.Nodes.{AreNodes}
use Rattle.vd_static_values.specs.Senses.{IsSense}
use Rattle.vd_static_values.specs.declared.names.Ranging.{Ranging}
use Rattle.vd_static_values.specs.declared.nodes.Node.{Node}
use Rattle.vd_static_values.specs.declared.senses.Sense.{Sense}
use Rattle.vd_static_parts.proofs.PartLemmas.{nth_here, nth_local, nth_missing}
use Rattle.vd_static_nodes.specs.Ranges.{position_at}

-- ---- nodes that stand for ranges

module _ (subtypes : List (Forest IndicatedForm)) (e : Env) (s : Sense) (n : Resolved) (text : List ℕ) (ms : List Meaning) where
  pub with_range : (r : Ranging) (range : Option (Env → Got Bounds)) (kn : Env → Static)
      → IsSense subtypes e s (expression n text ms (λ _ _. senseless) kn) → IsRanging r range (kn e) e
      → IsSense subtypes e (record s { range = r }) (record (of_node n text ms) { range = range; known = kn })
  with_range r range kn is ranges = record {
    text = is.text;
    declaration = is.declaration;
    mark = is.mark;
    position = is.position;
    is_present = is.is_present;
    known = is.known;
    value = is.value;
    range = ranges;
    name = is.name;
    association = is.association;
    choices = is.choices;
    is_open = is.is_open;
  }

-- ---- limits

module _ (subtypes : List (Forest IndicatedForm)) (e : Env) (n : ℕ) (xs : List Node) (ms : List Meaning) (are : AreNodes subtypes e xs ms) where
  -- the value of a part, which is there
  pub part_value : (x : Node) → (known_of ms e).is_local ≡ true → slice_get xs n ≡ Some x → IsFound x.sense.value (value_of (nth n ms) e)
  part_value x local is = (nth_here subtypes e n xs ms x are is).sense.value (nth_local subtypes e n xs ms x are is local) unknown

  pub no_position : slice_get xs n ≡ None → is_got (position_at n ms e) ≡ false
  no_position is = subst (λ (m : Meaning). is_got (value_of m e >>= position_in) ≡ false) (sym (nth_missing subtypes e n xs ms are is)) refl

-- ---- how static a range of a mark is

pub known_missing : (subtypes : List (Forest IndicatedForm)) (e : Env) (xs : List Node) (ms : List Meaning) → AreNodes subtypes e xs ms → slice_get xs 1 ≡ None
    → never ≡ both (name_bounds (nth 0 ms).name e) ((nth 1 ms).known e)
known_missing subtypes e xs ms are is =
    let own = name_bounds (nth 0 ms).name e in
    (λ i. record { is_local = sym (and-false own.is_local) i; is_global = sym (and-false own.is_global) i })
    ∙ ap (λ (m : Meaning). both own (m.known e)) (sym (nth_missing subtypes e 1 xs ms are is))
