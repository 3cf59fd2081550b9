-- What is found where some trees side by side are looked at.
use Rattle.std.proofs.Common.{◌≡◌, ◌++◌, ℕ, List, [], ◌∷◌, Option, Some, None, refl, sym, ap, ap₂, ◌∙◌}
use Rattle.std.proofs.lemmas.List.{append-nil}
use Rattle.vd_bytes.specs.declared.places.Place.{Place}
use Rattle.vd_meaning.specs.NodeFacets.{Part, gathered, nth, of_meaning}
use Rattle.vd_meaning.specs.Parts.{node_part, parts}
use Rattle.vd_forest.specs.Forest.{Forest, more, nothing}
use Rattle.vd_forms.specs.declared.form.Form.{Form}
use Rattle.vd_function_names.specs.declared.counting.Counted.{Counted}
use Rattle.vd_walks.specs.Gathering.{all_found, with_answer}
use Rattle.vd_meaning.specs.Facets.{no_meaning}
use Rattle.vd_meaning.specs.Tables.{Table}
use Rattle.vd_port_facts.specs.Seeking.{seeker}
use Rattle.vd_resolved.specs.declared.node.Resolved.{Resolved}
use Rattle.vd_function_names.specs.declared.counting.Counted.TheVariants as trees

pub with_joined : {A : Type 0} (o : Option A) (xs ys : List A) → with_answer o (xs ++ ys) ≡ with_answer o xs ++ ys
with_joined None xs ys = refl
with_joined (Some a) xs ys = refl

-- a node, what is found in its parts, and what is found behind it
pub node_then : {A : Type 0} (o : Option A) (inside next inside_is next_is here : List A) → inside ≡ inside_is → next ≡ next_is
    → here ≡ with_answer o inside_is → with_answer o (inside ++ next) ≡ here ++ next_is
node_then o inside next inside_is next_is here is_inside is_next is_here =
    ap₂ (λ xs ys. with_answer o (xs ++ ys)) is_inside is_next ∙ with_joined o inside_is next_is ∙ ap (λ xs. xs ++ next_is) (sym is_here)

pub node_alone : {A : Type 0} (o : Option A) (inside next inside_is here : List A) → inside ≡ inside_is → next ≡ []
    → here ≡ with_answer o inside_is → with_answer o (inside ++ next) ≡ here
node_alone o inside next inside_is here is_inside is_next is_here =
    node_then o inside next inside_is [] here is_inside is_next is_here ∙ append-nil here

module _ {A : Type 0} (t : Table) (answer : Resolved → Forest Resolved → Option A) (inner : Form → Counted) (value : Part → List A) where
  -- of the trees that are looked at, what is looked for
  abbrev pub seen : Counted → Forest Resolved → List A
  seen trees.Each f = gathered value (parts t f)
  seen trees.FirstAlone f = value (nth 0 (parts t f))
  seen trees.SecondAlone f = value (nth 1 (parts t f))
  seen trees.NoTrees f = []

  module _ (empty : value (of_meaning no_meaning) ≡ [])
      (step : (n : Resolved) (text : List ℕ) (place : Place) (inside : Forest Resolved)
      → value (node_part t n text place (parts t inside)) ≡ with_answer (answer n inside) (seen (inner n.form) inside)) where
    pub found_seen : (c : Counted) (f : Forest Resolved) → all_found (seeker answer inner) c f ≡ seen c f
    found_seen trees.Each nothing = refl
    found_seen trees.FirstAlone nothing = sym empty
    found_seen trees.SecondAlone nothing = sym empty
    found_seen trees.NoTrees nothing = refl
    found_seen trees.Each (more n text place inside next) =
        node_then (answer n inside) (all_found (seeker answer inner) (inner n.form) inside) (all_found (seeker answer inner) trees.Each next)
        (seen (inner n.form) inside) (seen trees.Each next) (value (node_part t n text place (parts t inside)))
        (found_seen (inner n.form) inside) (found_seen trees.Each next) (step n text place inside)
    found_seen trees.FirstAlone (more n text place inside next) =
        node_alone (answer n inside) (all_found (seeker answer inner) (inner n.form) inside) (all_found (seeker answer inner) trees.NoTrees next)
        (seen (inner n.form) inside) (value (node_part t n text place (parts t inside)))
        (found_seen (inner n.form) inside) (found_seen trees.NoTrees next) (step n text place inside)
    found_seen trees.SecondAlone (more n text place inside next) =
        ap₂ ◌++◌ (found_seen trees.NoTrees inside) (found_seen trees.FirstAlone next)
    found_seen trees.NoTrees (more n text place inside next) =
        ap₂ ◌++◌ (found_seen trees.NoTrees inside) (found_seen trees.NoTrees next)
