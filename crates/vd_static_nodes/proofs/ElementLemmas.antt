-- What is known of elements of lists in brackets.
use Rattle.std.proofs.Common.{◌≡◌, ◌∷◌, List, None, Option, Some, [], false, map, refl, slice_get, subst, sym, true, ℕ}
use Rattle.std.specs.Global.{Global}
use Rattle.std.specs.Prelude.{Vec}
use Rattle.vd_composites.specs.Subtypes.{Subtype}
use Rattle.vd_composites.specs.declared.ranges.Bounds.{Bounds}
use Rattle.vd_environments.specs.Environments.{Env, Signals, Static}
use Rattle.vd_environments.specs.Got.{Got, is_got}
use Rattle.vd_forest.specs.Forest.{Forest}
use Rattle.vd_value_rules.specs.Indicated.{static_of}
use Rattle.vd_value_rules.specs.declared.forms.IndicatedForm.{IndicatedForm}
use Rattle.vd_value_rules.specs.declared.statics.StaticSort.{StaticSort}
use Rattle.vd_meaning.specs.Facets.{Choice, Meaning, known_of, no_meaning, nth}
use Rattle.vd_meaning.specs.Facets as facets
use Rattle.vd_static_values.specs.Entries.{IsFound}
use Rattle.vd_static_values.specs.Names.{IsRanging}
use Rattle.vd_static_values.specs.Nodes.{AreNodes, IsNode}
use Rattle.vd_static_values.specs.Senses.{IsSense}
use Rattle.vd_static_values.specs.declared.names.Ranging.{Ranging}
use Rattle.vd_static_values.specs.declared.names.Ranging.TheVariants.{NoRange, Range}
use Rattle.vd_static_values.specs.declared.nodes.Node.{Node}
use Rattle.vd_static_values.specs.declared.senses.Association.TheVariants.{ByChoices, ForOthers}
use Rattle.vd_static_values.specs.declared.senses.Sense.{Sense}
use Rattle.vd_static_nodes.specs.Elements.{IsExpression, choices_in}
use Rattle.vd_static_parts.proofs.PartLemmas.{nth_local}

-- what is known where a part is known is known where all are
ranging_where : (r : Ranging) (range : Option (Env → Got Bounds)) (own all : Static) (e : Env) → (all.is_local ≡ true → own.is_local ≡ true)
    → IsRanging r range own e → IsRanging r range all e
ranging_where NoRange None own all e where_all is = tt
ranging_where NoRange (Some range) own all e where_all is = absurd is
ranging_where (Range b) None own all e where_all is = absurd is
ranging_where (Range b) (Some range) own all e where_all is = λ local. is (where_all local)

module _ (subtypes : List (Forest IndicatedForm)) (e : Env) where
  pub expression_there : (xs : List Node) (ms : List Meaning) (x y : Node) → AreNodes subtypes e xs ms → slice_get xs 1 ≡ Some x
      → IsNode subtypes e y (nth 1 ms) → IsExpression subtypes e ms y
  expression_there xs ms x y are there is = record {
    node = is;
    value = λ local. is.sense.value (nth_local subtypes e 1 xs ms x are there local);
    range = ranging_where y.sense.range (nth 1 ms).range ((nth 1 ms).known e) (known_of ms e) e (nth_local subtypes e 1 xs ms x are there) is.sense.range;
  }

  stopping : (s : Sense) → IsSense subtypes e s no_meaning → IsSense subtypes e (record s { value = None; range = NoRange }) no_meaning
  stopping s is = record {
    text = is.text;
    declaration = is.declaration;
    mark = is.mark;
    position = is.position;
    is_present = is.is_present;
    known = is.known;
    value = λ local. absurd (cc);
    range = tt;
    name = is.name;
    association = is.association;
    choices = is.choices;
    is_open = is.is_open;
  }

  pub expression_missing : (ms : List Meaning) (x : Node) → IsNode subtypes e x no_meaning → nth 1 ms ≡ no_meaning
      → IsExpression subtypes e ms (record { sense = record x.sense { value = None; range = NoRange }; piece = x.piece })
  expression_missing ms x is none =
      let y : Node = record { sense = record x.sense { value = None; range = NoRange }; piece = x.piece } in
      let node : IsNode subtypes e y no_meaning = record { sense = stopping x.sense is.sense; piece = is.piece } in
      record {
        node = subst (IsNode subtypes e y) (sym none) node;
        value = λ local given. subst (λ (m : Meaning). is_got (m.value given e) ≡ false) (sym none) refl;
        range = subst (λ (m : Meaning). IsRanging NoRange m.range (known_of ms e) e) (sym none) tt;
      }

  pub first_named : (xs : List Node) (ms : List Meaning) → AreNodes subtypes e xs ms → map (λ c. c.named) (nth 0 ms).choices ≡ choices_in xs
  first_named [] [] are = refl
  first_named [] (m ∷ ms) are = absurd are
  first_named (x ∷ xs) [] are = absurd are
  first_named (x ∷ xs) (m ∷ ms) are = are.0.sense.choices

  module _ (s : Sense) (m : Meaning) (is : IsSense subtypes e s m) where
    pub with_choices : (k : StaticSort) (kn : Env → Static) (named : Vec (Option ℕ) Global) (cs : List Choice) (reads : Env → Got (List Signals))
        → static_of k ≡ kn e → ((kn e).is_local ≡ true → (given : Got Subtype) → IsFound s.value (m.value given e)) → IsRanging s.range m.range (kn e) e
        → map (λ c. c.named) cs ≡ named.items
        → IsSense subtypes e (record s { known = k; association = ByChoices; choices = named })
        (record m { association = facets.ByChoices; choices = cs; known = kn; reads = reads })
    with_choices k kn named cs reads known value range names = record {
      text = is.text;
      declaration = is.declaration;
      mark = is.mark;
      position = is.position;
      is_present = is.is_present;
      known = known;
      value = value;
      range = range;
      name = is.name;
      association = refl;
      choices = names;
      is_open = is.is_open;
    }

    pub for_others : IsSense subtypes e (record s { association = ForOthers }) (record m { association = facets.ForOthers })
    for_others = record {
      text = is.text;
      declaration = is.declaration;
      mark = is.mark;
      position = is.position;
      is_present = is.is_present;
      known = is.known;
      value = is.value;
      range = is.range;
      name = is.name;
      association = refl;
      choices = is.choices;
      is_open = is.is_open;
    }
