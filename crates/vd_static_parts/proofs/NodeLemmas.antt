-- What is known of nodes by what they are.
use Rattle.std.proofs.Common.{◌≡◌, ◌∙◌, Bool, Global, List, Option, Vec, [], refl, subst, sym, true, ℕ}
use Rattle.vd_composites.specs.Composites.{Value}
use Rattle.vd_declarations.specs.declared.ids.DeclId.{DeclId}
use Rattle.vd_environments.specs.Commands.{Command}
use Rattle.vd_environments.specs.Environments.{Env}
use Rattle.vd_environments.specs.Got.{Got}
use Rattle.vd_forest.specs.Forest.{Forest}
use Rattle.vd_value_rules.specs.declared.forms.IndicatedForm.{IndicatedForm}
use Rattle.vd_meaning.specs.Facets.{Comparison, Meaning, Waveform, expression}
use Rattle.vd_meaning.specs.Meanings.{whole_name}
use Rattle.vd_meaning.specs.Names.{Named}
use Rattle.vd_resolved.specs.declared.node.Resolved.{Resolved}
use Rattle.vd_static_values.specs.Entries.{IsFound}
use Rattle.vd_static_values.specs.Names.{IsName, IsRanging}
use Rattle.vd_static_values.specs.Senses.{IsSense}
use Rattle.vd_static_values.specs.declared.names.KnownName.{KnownName}
use Rattle.vd_static_values.specs.declared.names.Ranging.{Ranging}
use Rattle.vd_static_values.specs.declared.senses.Sense.{Sense}
use Rattle.vd_values.specs.declared.scalar.Scalar.{Scalar}

module _ (subtypes : List (Forest IndicatedForm)) (e : Env) (s : Sense) where
  -- with another name
  pub named_sense : (m : Meaning) (x : KnownName) (p : Named) → IsSense subtypes e s m → IsName subtypes e x p
      → IsSense subtypes e (record s { name = x }) (record m { name = p })
  named_sense m x p is named = record {
    text = is.text;
    declaration = is.declaration;
    mark = is.mark;
    position = is.position;
    is_present = is.is_present;
    known = is.known;
    value = is.value;
    range = is.range;
    name = named;
    association = is.association;
    choices = is.choices;
    is_open = is.is_open;
  }

  -- these facets count for nothing where a value is looked for
  pub unseen : (m : Meaning) (piece : Named → Named) (covers : Comparison → Value Scalar → Env → Got Bool) (chosen : (Waveform → Command) → Command)
      (texts : List (List ℕ)) (numbers : List ℕ) → IsSense subtypes e s m
      → IsSense subtypes e s (record m { piece = piece; covers = covers; chosen = chosen; texts = texts; numbers = numbers })
  unseen m piece covers chosen texts numbers is = record {
    text = is.text;
    declaration = is.declaration;
    mark = is.mark;
    position = is.position;
    is_present = is.is_present;
    known = is.known;
    value = is.value;
    range = is.range;
    name = is.name;
    association = is.association;
    choices = is.choices;
    is_open = is.is_open;
  }

  -- open
  pub opened : (m : Meaning) → IsSense subtypes e s m → IsSense subtypes e (record s { is_open = true }) (record m { is_open = true })
  opened m is = record {
    text = is.text;
    declaration = is.declaration;
    mark = is.mark;
    position = is.position;
    is_present = is.is_present;
    known = is.known;
    value = is.value;
    range = is.range;
    name = is.name;
    association = is.association;
    choices = is.choices;
    is_open = refl;
  }

  module _ (n : Resolved) (text : List ℕ) where
    -- a name with all its pieces may stand for a range
    pub whole_sense : (r : Ranging) (p : Named) → IsSense subtypes e s (record (expression n text [] (λ _. p.value) p.known) { name = p })
        → IsRanging r p.range (p.known e) e → IsSense subtypes e (record s { range = r }) (whole_name n text p)
    whole_sense r p is range = record {
      text = is.text;
      declaration = is.declaration;
      mark = is.mark;
      position = is.position;
      is_present = is.is_present;
      known = is.known;
      value = is.value;
      range = range;
      name = is.name;
      association = is.association;
      choices = is.choices;
      is_open = is.is_open;
    }

-- the same sense once more
pub same_sense : (subtypes : List (Forest IndicatedForm)) (e : Env) (s : Sense) (m : Meaning) (v : Option (Value Scalar)) (x : KnownName) (cs : Vec (Option DeclId) Global)
    → v ≡ s.value → x ≡ s.name → cs.items ≡ s.choices.items → IsSense subtypes e s m
    → IsSense subtypes e (record s { value = v; name = x; choices = cs }) m
same_sense subtypes e s m v x cs same_value same_name same_choices is = record {
  text = is.text;
  declaration = is.declaration;
  mark = is.mark;
  position = is.position;
  is_present = is.is_present;
  known = is.known;
  value = λ local given. subst (λ w. IsFound w (m.value given e)) (sym same_value) (is.value local given);
  range = is.range;
  name = subst (λ y. IsName subtypes e y m.name) (sym same_name) is.name;
  association = is.association;
  choices = is.choices ∙ sym same_choices;
  is_open = is.is_open;
}
