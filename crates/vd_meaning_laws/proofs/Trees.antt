-- Trees and elaborations with other numbers.
use Rattle.std.proofs.Common.{ℕ, List, [], ◌∷◌, Option, Some, None, map, refl, sym, subst}
use Rattle.std.specs.Prelude.{Ok, Err}
use Rattle.std.specs.List.{AllZip}
use Rattle.vd_values.specs.declared.scalar.Scalar.{Scalar}
use Rattle.vd_forest.specs.Forest.{Forest, nothing, more}
use Rattle.vd_rewriting.specs.Forms.{with_forms}
use Rattle.vd_resolved.specs.declared.node.Resolved.{Resolved}
use Rattle.vd_composites.specs.Composites.{Value}
use Rattle.vd_meaning.specs.Tables.{Table, table}
use Rattle.vd_meaning.specs.Kinds
use Rattle.vd_meaning.specs.Building.{Built, State}
use Rattle.vd_meaning.specs.NodeFacets.{View, Hierarchy, Part}
use Rattle.vd_meaning.specs.Hierarchies.{EntityText, ArchitectureText, entity_in, architecture_in, hierarchy}
use Rattle.vd_meaning.specs.Parts.{kind, node_part, parts}
use Rattle.vd_meaning.specs.Elaborations.{given_actual, Top, top_instance, top_scope, top_elaborated, Elaboration, of_built, Units, units_of, hierarchy_of, beginning, elaborated_with, elaborated_units}
use Rattle.vd_meaning_laws.specs.Agreement.{Link, IsApart}
use Rattle.vd_meaning_laws.specs.Renumbering.{SameTable, AlikeMeaning, renumbered}
use Rattle.vd_meaning_laws.proofs.Cases.{kind_alike}
use Rattle.vd_meaning_laws.proofs.Facing.{with_value}
use Rattle.vd_meaning_laws.proofs.Parts.{none_alike}
use Rattle.vd_meaning_laws.specs.ElaborationAgreement.{view_under, AlikeActual, AlikeInstance, AlikeState, AlikeStates, AlikeHierarchy, AlikePart}
use Rattle.vd_meaning_laws.specs.LawsOfElaboration.{PartNodesAlike, PartTreesAlike, generic_in, top_in, AlikeUnits, AlikeElaborations, KeepsGiven, UnitsElaborateAlike, TreesElaborateAlike}
use Rattle.vd_meaning_laws.proofs.Built.{built_then}
use Rattle.vd_meaning_laws.proofs.Associating.{AlikeEntity, AlikeArchitecture, entity_alike}
use Rattle.vd_meaning_laws.proofs.Nesting.{SameEntity, SameArchitecture, entity_in_alike, architecture_in_alike, hierarchy_alike}
use Rattle.vd_meaning_laws.proofs.ElaborationCases.{part_alike, gathered_units, gathered_views}
use Rattle.vd_meaning_laws.proofs.Instances.{packages_alike, all_views_same}

-- ---- trees

module _ (l : Link) (numbers : IsApart l) (t t' : Table) (tables : SameTable l t t') where
  mapped_meanings : (ps qs : List Part) → AllZip (AlikePart l) ps qs → AllZip (AlikeMeaning l) (map (λ p. p.meaning) ps) (map (λ p. p.meaning) qs)
  mapped_meanings [] [] h = tt
  mapped_meanings (p ∷ ps) (q ∷ qs) h = (h.0.meaning, mapped_meanings ps qs h.1)
  mapped_meanings _ _ h = absurd h

  node_alike : (n : Resolved) (text : List ℕ) (place : Rattle.vd_bytes.specs.declared.places.Place.Place) (ps qs : List Part) → AllZip (AlikePart l) ps qs
      → AlikePart l (node_part t n text place ps) (node_part t' (renumbered l n) text place qs)
  node_alike n text place ps qs h =
      part_alike l numbers ps qs h (kind n.form) n _ _ (kind_alike l numbers t t' tables _ _ (mapped_meanings ps qs h) (Kinds.kind n.form) n text)

  trees_alike : (f : Forest Resolved) → AllZip (AlikePart l) (parts t f) (parts t' (with_forms (renumbered l) f))
  trees_alike nothing = tt
  trees_alike (more n text place inner next) = (node_alike n text place (parts t inner) (parts t' (with_forms (renumbered l) inner)) (trees_alike inner), trees_alike next)

pub all_nodes : PartNodesAlike
all_nodes l numbers t t' tables n text place ps qs h = node_alike l numbers t t' tables n text place ps qs h

pub all_trees : PartTreesAlike
all_trees l numbers t t' tables f = trees_alike l numbers t t' tables f

-- ---- elaborations

module _ (l : Link) (numbers : IsApart l) where
  given_alike : (gs : List (ℕ × Value Scalar)) → AllZip (AlikeActual l) (map given_actual gs) (map given_actual (map (generic_in l) gs))
  given_alike [] = tt
  given_alike (g ∷ gs) = (record { formal = refl; meaning = with_value l (none_alike l numbers) (λ _ _. Ok g.1) (λ _ _. Ok g.1) (λ known e k. refl) }, given_alike gs)

  top_alike : (top : Top) → AlikeInstance l (top_instance top) (top_instance (top_in l top))
  top_alike top = record { label = refl; entity = refl; architecture = refl; generics = given_alike top.generics; ports = tt }

  built_alike : (x y : Built State) → AlikeStates l x y → AlikeElaborations l (of_built x) (of_built y)
  built_alike (Ok s) (Ok t) h = h.made
  built_alike (Err f) (Err g) h = h
  built_alike (Ok s) (Err g) h = absurd h
  built_alike (Err f) (Ok t) h = absurd h

  module _ (views : List View) (h k : Hierarchy) (hs : AlikeHierarchy l h k) (top : Top) where
    top_states : (c d : EntityText) → AlikeEntity l numbers c d → (a b : ArchitectureText) → AlikeArchitecture l numbers a b → (s t : State) → AlikeState l s t
        → AlikeStates l (top_elaborated views h top c a s) (top_elaborated (map (view_under l) views) k (top_in l top) d b t)
    top_states c d z a b e s t j =
        subst (λ name. AlikeStates l (top_elaborated views h top c a s) (Rattle.vd_meaning.specs.Hierarchies.entity_elaborated (map (view_under l) views) k (top_scope top name) (top_scope top name) d b (top_instance (top_in l top)) 0 t)) (sym e.name)
        (entity_alike l numbers views h k hs (top_scope top a.name) (top_scope top a.name) c d z a b e (top_instance top) (top_instance (top_in l top)) (top_alike top) 0 0 refl s t j)

  module _ (given : KeepsGiven l) (u v : Units) (z : AlikeUnits l u v) (top : Top) where
    hierarchies_alike : AlikeHierarchy l (hierarchy_of u) (hierarchy (map (view_under l) u.views) v.units 64)
    hierarchies_alike = hierarchy_alike l numbers u.views u.units v.units z.units 64

    begins : AlikeState l beginning beginning
    begins = record { env = given; made = record { signals = refl; counted = refl; sources = refl; driven = refl; processes = tt } }

    abbrev with_views : List View → Option EntityText → Option ArchitectureText → Elaboration
    with_views views x y = elaborated_with (record { units = v.units; views = views }) (top_in l top) x y

    either_top : (x x' : Option EntityText) → SameEntity l numbers x x' → (y y' : Option ArchitectureText) → SameArchitecture l numbers y y'
        → AlikeElaborations l (elaborated_with u top x y) (with_views (map (view_under l) u.views) x' y')
    either_top (Some a) (Some b) e (Some c) (Some d) f =
        built_alike _ _ (built_then (AlikeState l) (AlikeState l) _ _ _ _ (packages_alike l numbers _ _ hierarchies_alike [] [] tt u.units v.units z.units beginning beginning begins)
        (top_states u.views _ _ hierarchies_alike top a b e c d f))
    either_top None None e y y' f = tt
    either_top (Some a) (Some b) e None None f = tt
    either_top None (Some b) e y y' f = absurd e
    either_top (Some a) None e y y' f = absurd e
    either_top (Some a) (Some b) e (Some c) None f = absurd f
    either_top (Some a) (Some b) e None (Some d) f = absurd f

    units_alike : AlikeElaborations l (elaborated_units u top) (elaborated_units v (top_in l top))
    units_alike =
        subst (λ views. AlikeElaborations l (elaborated_units u top) (with_views views (entity_in None v.units top.entity) (architecture_in None v.units top.entity top.architecture))) (sym z.views)
        (either_top _ _ (entity_in_alike l numbers None None tt u.units v.units z.units top.entity) _ _ (architecture_in_alike l numbers None None tt u.units v.units z.units top.entity top.architecture))

pub all_units : UnitsElaborateAlike
all_units l numbers given u v z top = units_alike l numbers given u v z top

pub all_elaborations : TreesElaborateAlike
all_elaborations l numbers given r s a b tables e top =
    let h = trees_alike l numbers (table r a.declarations) (table s b.declarations) tables a.units in
    subst (λ f. AlikeElaborations l (elaborated_units (units_of r a) top) (elaborated_units (units_of s (record b { units = f })) (top_in l top))) (sym e)
    (units_alike l numbers given (units_of r a) (units_of s (record b { units = with_forms (renumbered l) a.units }))
    (record {
      units = gathered_units l numbers _ _ h;
      views = all_views_same l numbers _ _ (gathered_units l numbers _ _ h) _ _ (gathered_views l numbers _ _ h);
    }) top)
