-- What is found of lists of readings that are joined, and of those by a way of a node. No name has a dash, so that a caller can name
-- each in `#[tactic(auto, using(..))]`.
use Rattle.std.proofs.Common.{◌≡◌, ◌≤◌, ◌*◌, ◌⊎◌, inl, inr, ℕ, List, [], ◌∷◌, ◌++◌, map, length, refl, sym, ap, subst, ◌∙◌, arith, length-append}
use Rattle.std.proofs.Math.Nat.{mul-le-mul_left}
use Rattle.std.proofs.lemmas.List.{length-map}
use Rattle.vd_bytes.specs.declared.places.Place.{Place}
use Rattle.vd_forest.specs.Forest.{Forest, nothing, more, parts_of, next_of}
use Rattle.vd_forest.specs.Store.{at, Holds, Extends}
use Rattle.vd_forms.specs.declared.form.Form.{Form}
use Rattle.vd_resolved.specs.declared.node.Resolved.{Resolved}
use Rattle.vd_states.specs.declared.ways.Way.{Way}
use Rattle.vd_readings.specs.Readings.{Rules, resolved, with_node, readings}
use Rattle.vd_readings.specs.Found.{HoldsOnly, IsFound, both}
use Rattle.vd_readings.specs.Search.{given_by}
use Rattle.vd_readings.specs.declared.found.Found.{Found}
use Rattle.vd_readings.specs.declared.found.Found.TheVariants.{Nothing, Only, Several}

-- ---- a store that grows, and two lists

pub found_grown : (gs hs : List (Forest Resolved)) (found : Found) (all : List (Forest Resolved)) → Extends gs hs → IsFound gs found all → IsFound hs found all
found_grown gs hs Nothing all grown is = is
found_grown gs hs (Only number) all grown is = record {
  within = omega (arith, is.within, grown.grows);
  only = is.only ∙ ap (λ f. f ∷ []) (sym (grown.keeps number is.within));
}
found_grown gs hs Several all grown is = is

pub found_both : (gs : List (Forest Resolved)) (a b : Found) (xs ys : List (Forest Resolved))
    → IsFound gs a xs → IsFound gs b ys → IsFound gs (both a b) (xs ++ ys)
found_both gs Nothing b xs ys first second = subst (λ zs. IsFound gs b (zs ++ ys)) (sym first) second
found_both gs (Only a) Nothing xs ys first second = record {
  within = first.within;
  only = ap (λ zs. zs ++ ys) first.only ∙ ap (λ zs. at gs a ∷ zs) second;
}
found_both gs (Only a) (Only b) xs ys first second = omega (arith, length-append xs ys, ap length first.only, ap length second.only)
found_both gs (Only a) Several xs ys first second = omega (arith, length-append xs ys, second)
found_both gs Several b xs ys first second = omega (arith, length-append xs ys, first)

-- several of the one, and some of the other
pub several_by_some : (gs : List (Forest Resolved)) (a b : Found) (xs ys : List (Forest Resolved)) → a ≡ Several
    → (((number : ℕ) × (b ≡ Only number)) ⊎ (b ≡ Several)) → IsFound gs a xs → IsFound gs b ys → 2 ≤ length xs * length ys
several_by_some gs a b xs ys several some first second =
    let many : 2 ≤ length xs = subst (λ f. IsFound gs f xs) several first in
    elim some [
      | inl one ↦
          let only = subst (λ f. IsFound gs f ys) one.1 second in
          subst (λ n. 2 ≤ length xs * n) (sym (ap length only.only)) (omega (arith, many))
      | inr more_than_one ↦
          let more_ys : 2 ≤ length ys = subst (λ f. IsFound gs f ys) more_than_one second in
          omega (arith, mul-le-mul_left (length xs) more_ys, many)
    ]

-- ---- a node before each list of trees, over each list of parts

module _ (node : Resolved) (text : List ℕ) (place : Place) where
  pub none_behind : (inners : List (Forest Resolved)) → with_node node text place inners [] ≡ []
  none_behind [] = refl
  none_behind (inner ∷ inners) = none_behind inners

  pub length_with_node : (inners rests : List (Forest Resolved)) → length (with_node node text place inners rests) ≡ length inners * length rests
  length_with_node [] rests = omega arith
  length_with_node (inner ∷ inners) rests =
      omega (
        arith,
        length-append (map (more node text place inner) rests) (with_node node text place inners rests),
        length-map rests (more node text place inner),
        length_with_node inners rests,
      )

  pub one_with_node : (inners rests : List (Forest Resolved)) (inner rest : Forest Resolved) → inners ≡ inner ∷ [] → rests ≡ rest ∷ []
      → with_node node text place inners rests ≡ more node text place inner rest ∷ []
  one_with_node inners rests inner rest one other =
      ap (λ is. with_node node text place is rests) one ∙ ap (with_node node text place (inner ∷ [])) other

-- ---- a way of a first node

module _ (rules : Rules) (f : Forest Form) (way : Way) where
  -- nothing fits inside
  pub given_none_inside : readings rules (parts_of f) way.inside ≡ [] → given_by rules f way ≡ []
  given_none_inside none = by f none
    where
      by : (g : Forest Form) → readings rules (parts_of g) way.inside ≡ [] → given_by rules g way ≡ []
      by nothing none = refl
      by (more form text place parts next) none =
          ap (λ is. with_node (resolved form way) text place is (readings rules next way.after)) none

  -- nothing fits behind
  pub given_none_behind : readings rules (next_of f) way.after ≡ [] → given_by rules f way ≡ []
  given_none_behind none = by f none
    where
      by : (g : Forest Form) → readings rules (next_of g) way.after ≡ [] → given_by rules g way ≡ []
      by nothing none = refl
      by (more form text place parts next) none =
          ap (with_node (resolved form way) text place (readings rules parts way.inside)) none
          ∙ none_behind (resolved form way) text place (readings rules parts way.inside)

  pub given_several : (form : Form) (text : List ℕ) (place : Place) (parts next : Forest Form) → f ≡ more form text place parts next
      → 2 ≤ length (readings rules (parts_of f) way.inside) * length (readings rules (next_of f) way.after) → 2 ≤ length (given_by rules f way)
  given_several form text place parts next opened several =
      subst (λ g. 2 ≤ length (given_by rules g way)) (sym opened)
      (omega (
        arith,
        length_with_node (resolved form way) text place (readings rules parts way.inside) (readings rules next way.after),
        subst (λ g. 2 ≤ length (readings rules (parts_of g) way.inside) * length (readings rules (next_of g) way.after)) opened several,
      ))

  pub given_only : (gs hs : List (Forest Resolved)) (inner rest made : ℕ) (form : Form) (text : List ℕ) (place : Place) (parts next : Forest Form)
      → f ≡ more form text place parts next
      → HoldsOnly gs inner (readings rules (parts_of f) way.inside) → HoldsOnly gs rest (readings rules (next_of f) way.after)
      → Holds hs made (more (resolved form way) text place (at gs inner) (at gs rest)) → HoldsOnly hs made (given_by rules f way)
  given_only gs hs inner rest made form text place parts next opened inside behind held = record {
    within = held.within;
    only = ap (λ g. given_by rules g way) opened
        ∙ one_with_node (resolved form way) text place (readings rules parts way.inside) (readings rules next way.after) (at gs inner) (at gs rest)
        (subst (λ g. readings rules (parts_of g) way.inside ≡ at gs inner ∷ []) opened inside.only)
        (subst (λ g. readings rules (next_of g) way.after ≡ at gs rest ∷ []) opened behind.only)
        ∙ ap (λ g. g ∷ []) (sym held.is);
  }

pub ruleset giving = (found_grown, found_both, given_none_inside, given_none_behind, given_several, given_only)
