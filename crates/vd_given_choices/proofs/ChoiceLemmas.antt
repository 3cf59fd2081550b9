-- The choices of a list, node by node.
use Rattle.std.proofs.Common.{◌≡◌, ◌∷◌, ◌++◌, List, [], refl, subst, sym, ap, true, ℕ, ◌∙◌, Option, map}
use Rattle.std.specs.Prelude.{Err, IfOk, Ok, Result}
use Rattle.std.proofs.lemmas.List.{append_assoc}
use Rattle.vd_bytes.specs.declared.places.Place.{Place}
use Rattle.vd_environments.specs.Environments.{Env}
use Rattle.vd_composites.specs.declared.ranges.Bounds.{Bounds}
use Rattle.vd_forest.specs.Forest.{Forest, more, next_of, no_place, nothing, place_of}
use Rattle.vd_given_choices.specs.Choices.{AreChoices, IsChoice}
use Rattle.vd_given_choices.specs.declared.choices.Choice.{Choice}
use Rattle.vd_value_rules.specs.declared.forms.IndicatedForm.{IndicatedForm}
use Rattle.vd_meaning.specs.Brackets.{choice_bounds}
use Rattle.vd_meaning.specs.Facets.{Meaning, value_of}
use Rattle.vd_meaning.specs.Meanings.{meanings}
use Rattle.vd_resolved.specs.declared.node.Resolved.{Resolved}
use Rattle.vd_static_values.specs.Entries.{IsFound}
use Rattle.vd_static_values.specs.Nodes.{AreNodes, IsNode}
use Rattle.vd_static_values.specs.Senses.{IsSense}
use Rattle.vd_static_values.specs.declared.nodes.Node.{Node}
use Rattle.vd_static_values.specs.declared.senses.Sense.{Sense}
use Rattle.vd_value_rules.specs.Choices.{choice_given, choices_given, first_meaning, place_or, Given}
use Rattle.vd_value_rules.specs.Designs.{Design}

pub one_more : {A : Type 0} (xs ys : List A) (x : A) → (xs ++ x ∷ []) ++ ys ≡ xs ++ x ∷ ys
one_more xs ys x = append_assoc xs (x ∷ []) ys

pub none_behind : {A : Type 0} (xs : List A) → xs ++ [] ≡ xs
none_behind [] = refl
none_behind (x ∷ xs) = rw (none_behind xs) refl

pub same_map : {A : Type 0} (xs : List A) → map (λ x. x) xs ≡ xs
same_map [] = refl
same_map (x ∷ xs) = ap (λ ys. x ∷ ys) (same_map xs)

module _ (d : Design) (subtypes : List (Forest IndicatedForm)) (e : Env) where
  -- what is made of the trees so far, and the nodes of those that are left
  pub record Walked (trees rest : Forest Resolved) (zs : List Node) (xs : List Choice) : Type 0 where
    pub nodes : AreNodes subtypes e zs (meanings d.table rest)
    pub choices : (ys : List Choice) → AreChoices ys (choices_given d e rest) → AreChoices (xs ++ ys) (choices_given d e trees)

  pub walked_start : (trees : Forest Resolved) (zs : List Node) → AreNodes subtypes e zs (meanings d.table trees) → Walked trees trees zs []
  walked_start trees zs are = record { nodes = are; choices = λ ys those. those }

  opened : (trees next : Forest Resolved) (zs : List Node) (xs : List Choice) (node : Node) (x : Choice) (n : Resolved) (text : List ℕ)
      (place : Place) (parts : Forest Resolved) → Walked trees (more n text place parts next) (node ∷ zs) xs
      → ((m : Meaning) → IsNode subtypes e node m → IsChoice x (choice_given m place e)) → Walked trees next zs (xs ++ x ∷ [])
  opened trees next zs xs node x n text place parts w is = record {
    nodes = w.nodes.1;
    choices = λ ys are. subst (λ l. AreChoices l (choices_given d e trees)) (sym (one_more xs ys x))
        (w.choices (x ∷ ys) (is (first_meaning d (more n text place parts nothing)) w.nodes.0, are));
  }

  pub walked_more : (trees rest next : Forest Resolved) (zs : List Node) (xs ys : List Choice) (node : Node) (x : Choice) (place : Place)
      → place ≡ place_or (place_of rest) no_place → next ≡ next_of rest → ys ≡ xs ++ x ∷ [] → Walked trees rest (node ∷ zs) xs
      → ((m : Meaning) → IsNode subtypes e node m → IsChoice x (choice_given m place e)) → Walked trees next zs ys
  walked_more trees nothing next zs xs ys node x place here is_next pushed w is = absurd w.nodes
  walked_more trees (more n text at parts behind) next zs xs ys node x place here is_next pushed w is =
      let made = opened trees behind zs xs node x n text at parts w (subst (λ p. (m : Meaning) → IsNode subtypes e node m → IsChoice x (choice_given m p e)) here is) in
      subst (λ f. Walked trees f zs ys) (sym is_next) (subst (λ l. Walked trees behind zs l) (sym pushed) made)

  pub walked_end : (trees rest : Forest Resolved) (xs : List Choice) → Walked trees rest [] xs → AreChoices xs (choices_given d e trees)
  walked_end trees nothing xs w = subst (λ l. AreChoices l (choices_given d e trees)) (none_behind xs) (w.choices [] tt)
  walked_end trees (more n text place parts next) xs w = absurd w.nodes

-- ---- one choice

pub choice_is : (subtypes : List (Forest IndicatedForm)) (e : Env) (m : Meaning) (s : Sense) (place : Place) (range : Option Bounds) → IsSense subtypes e s m
    → (s.known.is_local ≡ true → IsFound range (choice_bounds m.range (value_of m) e))
    → IsChoice (record { place = place; is_static = s.known.is_local; mark = s.mark; range = range; value = s.value }) (choice_given m place e)
choice_is subtypes e m s place range is found =
    let same = ap (λ k. k.is_local) is.known in record {
      place = refl;
      static = sym same;
      mark = is.mark;
      range = found;
      value = λ local. is.value (sym same ∙ local) _;
    }

-- what holds anyway holds under a condition
pub anyway : {T E : Type 0} (A : Type 0) (P : T → Type 0) (r : Result T E) → IfOk r P → IfOk r (λ x. A → P x)
anyway A P (Ok x) is = λ a. is
anyway A P (Err e) is = tt

-- ---- lists of choices, one behind the other

pub joined : (xs ys : List Choice) (gs hs : List Given) → AreChoices xs gs → AreChoices ys hs → AreChoices (xs ++ ys) (gs ++ hs)
joined [] ys [] hs are those = those
joined [] ys (g ∷ gs) hs are those = absurd are
joined (x ∷ xs) ys [] hs are those = absurd are
joined (x ∷ xs) ys (g ∷ gs) hs are those = (are.0, joined xs ys gs hs are.1 those)
