-- What is known of choices.
use Rattle.std.proofs.Common.{◌≡◌, ◌∙◌, ◌∷◌, Bool, List, None, Option, Some, [], ap, map, refl, sym, ℕ}
use Rattle.std.specs.Global.{Global}
use Rattle.std.specs.Prelude.{Vec}
use Rattle.vd_composites.specs.Composites.{Value}
use Rattle.vd_environments.specs.Environments.{Env, Static, both}
use Rattle.vd_environments.specs.Got.{Got, senseless}
use Rattle.vd_forest.specs.Forest.{Forest}
use Rattle.vd_value_rules.specs.Indicated.{static_of}
use Rattle.vd_value_rules.specs.declared.forms.IndicatedForm.{IndicatedForm}
use Rattle.vd_meaning.specs.Brackets.{choice_known, choice_of, choices_known}
use Rattle.vd_meaning.specs.Facets.{Comparison, Meaning, expression, of_node}
use Rattle.vd_resolved.specs.declared.node.Resolved.{Resolved}
use Rattle.vd_static_values.specs.Nodes.{AreNodes}
use Rattle.vd_static_values.specs.Senses.{IsSense}
use Rattle.vd_static_values.specs.declared.nodes.Node.{Node}
use Rattle.vd_static_values.specs.declared.senses.Sense.{Sense}
use Rattle.vd_static_nodes.specs.Choices.{known_among, known_with, named_among}
use Rattle.vd_values.specs.declared.scalar.Scalar.{Scalar}

-- ---- how static

known_by : (mark : Option ℕ) (kn : Env → Static) (e : Env) → known_with mark (kn e) ≡ choice_known mark kn e
known_by None kn e = refl
known_by (Some mark) kn e = refl

module _ (subtypes : List (Forest IndicatedForm)) (e : Env) where
  known_of_one : (s : Sense) (m : Meaning) → IsSense subtypes e s m → known_with s.mark (static_of s.known) ≡ choice_known m.mark m.known e
  known_of_one s m is = ap (known_with s.mark) is.known ∙ known_by s.mark m.known e ∙ ap (λ mark. choice_known mark m.known e) (sym is.mark)

  pub known_of_choices : (xs : List Node) (ms : List Meaning) → AreNodes subtypes e xs ms → known_among xs ≡ choices_known ms e
  known_of_choices [] [] are = refl
  known_of_choices [] (m ∷ ms) are = absurd are
  known_of_choices (x ∷ xs) [] are = absurd are
  known_of_choices (x ∷ xs) (m ∷ ms) are = λ i. both (known_of_one x.sense m are.0.sense i) (known_of_choices xs ms are.1 i)

  -- ---- what they name

  pub named_by_choices : (xs : List Node) (ms : List Meaning) → AreNodes subtypes e xs ms → map (λ c. c.named) (map choice_of ms) ≡ named_among xs
  named_by_choices [] [] are = refl
  named_by_choices [] (m ∷ ms) are = absurd are
  named_by_choices (x ∷ xs) [] are = absurd are
  named_by_choices (x ∷ xs) (m ∷ ms) are = λ i. are.0.sense.declaration i ∷ named_by_choices xs ms are.1 i

  -- ---- nodes

  module _ (s : Sense) (n : Resolved) (text : List ℕ) (ms : List Meaning) where
    pub list_sense : (named : Vec (Option ℕ) Global) (covers : Comparison → Value Scalar → Env → Got Bool)
        → IsSense subtypes e s (expression n text ms (λ _ _. senseless) (choices_known ms)) → map (λ c. c.named) (map choice_of ms) ≡ named.items
        → IsSense subtypes e (record s { choices = named }) (record (of_node n text ms) { choices = map choice_of ms; known = choices_known ms; covers = covers })
    list_sense named covers is names = record {
      text = is.text;
      declaration = is.declaration;
      mark = is.mark;
      position = is.position;
      is_present = is.is_present;
      known = is.known;
      value = is.value;
      range = is.range;
      name = is.name;
      association = is.association;
      choices = names;
      is_open = is.is_open;
    }
