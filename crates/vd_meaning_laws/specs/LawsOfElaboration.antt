-- What holds of elaborations.
use Rattle.std.specs.Prelude.{◌≡◌, ◌≤◌, ℕ, List, ◌++◌, map, length}
use Rattle.std.specs.List.{All, AllZip}
use Rattle.vd_values.specs.declared.scalar.Scalar.{Scalar}
use Rattle.vd_bytes.specs.declared.places.Place.{Place}
use Rattle.vd_trees.specs.declared.revision.Revision.{Revision}
use Rattle.vd_forest.specs.Forest.{Forest}
use Rattle.vd_rewriting.specs.Forms.{with_forms}
use Rattle.vd_kernel.specs.Models.{Stimulus}
use Rattle.vd_kernel.specs.Correspondence.{SameRun}
use Rattle.vd_composites.specs.Composites.{Value}
use Rattle.vd_resolved.specs.declared.node.Resolved.{Resolved}
use Rattle.vd_resolved.specs.Trees.{ResolvedTree}
use Rattle.vd_resolved.specs.Validity.{IsOwn, IsResolved}
use Rattle.vd_declarations.specs.declared.declarations.Declaration.{Declaration}
use Rattle.vd_meaning.specs.Tables.{Table, given_count, table}
use Rattle.vd_meaning.specs.Building.{Made}
use Rattle.vd_meaning.specs.NodeFacets.{Part}
use Rattle.vd_meaning.specs.Parts.{node_part, parts}
use Rattle.vd_meaning.specs.Elaborations.{Top, Elaboration, Elaborates, Fails, NoTop, Units, beginning, elaborated_units, elaboration, model_of, trace_of, trace_of_top, design_trace_text}
use Rattle.vd_meaning_laws.specs.Agreement.{Link, IsApart, Agree}
use Rattle.vd_meaning_laws.specs.Renumbering.{SameTable, renumbered}
use Rattle.vd_meaning_laws.specs.ElaborationAgreement.{view_under, AlikeUnit, AlikePart, AlikeMade}

-- ---- parts: what a pass cites at the nodes that it leaves

-- A node of any kind comes to the same in elaboration with other numbers, where its parts do.
abbrev pub PartNodesAlike : Type 0
PartNodesAlike = (l : Link) → IsApart l → (t t' : Table) → SameTable l t t' → (n : Resolved) (text : List ℕ) (place : Place) (ps qs : List Part)
    → AllZip (AlikePart l) ps qs → AlikePart l (node_part t n text place ps) (node_part t' (renumbered l n) text place qs)

-- So does a tree.
abbrev pub PartTreesAlike : Type 0
PartTreesAlike = (l : Link) → IsApart l → (t t' : Table) → SameTable l t t' → (f : Forest Resolved)
    → AllZip (AlikePart l) (parts t f) (parts t' (with_forms (renumbered l) f))

-- ---- elaborations

abbrev pub generic_in : Link → ℕ × Value Scalar → ℕ × Value Scalar
generic_in l g = (l.number g.0, g.1)

-- the same top, its generics under their new numbers
abbrev pub top_in : Link → Top → Top
top_in l top = record { entity = top.entity; architecture = top.architecture; generics = map (generic_in l) top.generics }

pub record AlikeUnits (l : Link) (u v : Units) : Type 0 where
  pub units : AllZip (AlikeUnit l) u.units v.units
  pub views : v.views ≡ map (view_under l) u.views

-- Two designs that are alike, the same stop or limit, or no top in either.
abbrev pub AlikeElaborations : Link → Elaboration → Elaboration → Type 0
AlikeElaborations l (Elaborates m) (Elaborates n) = AlikeMade l m n
AlikeElaborations l (Fails f) (Fails g) = g ≡ f
AlikeElaborations l NoTop NoTop = Unit {0}
AlikeElaborations l _ _ = ⊥

-- The given declarations stand for the same under their new numbers.
abbrev pub KeepsGiven : Link → Type 0
KeepsGiven l = Agree l beginning.env beginning.env

-- Units that are alike, however they are written, are elaborated alike.
abbrev pub UnitsElaborateAlike : Type 0
UnitsElaborateAlike = (l : Link) → IsApart l → KeepsGiven l → (u v : Units) → AlikeUnits l u v → (top : Top)
    → AlikeElaborations l (elaborated_units u top) (elaborated_units v (top_in l top))

-- A tree with other numbers is elaborated alike, of whatever revision it is.
abbrev pub TreesElaborateAlike : Type 0
TreesElaborateAlike = (l : Link) → IsApart l → KeepsGiven l → (r s : Revision) (a b : ResolvedTree) → SameTable l (table r a.declarations) (table s b.declarations)
    → b.units ≡ with_forms (renumbered l) a.units → (top : Top) → AlikeElaborations l (elaboration r a top) (elaboration s b (top_in l top))

-- ---- designs

-- Designs that are alike have the same run: signal joins signal by its number.
abbrev pub DesignsRunAlike : Type 0
DesignsRunAlike = (l : Link) → IsApart l → (m n : Made) → AlikeMade l m n → SameRun (λ i j. i ≡ j) (model_of m) (model_of n)

-- They have one trace, and one text of it.
abbrev pub DesignsHaveOneTrace : Type 0
DesignsHaveOneTrace = (l : Link) → IsApart l → (m n : Made) → AlikeMade l m n → (given : Stimulus) (cycles : ℕ) → trace_of n given cycles ≡ trace_of m given cycles

abbrev pub DesignsHaveOneText : Type 0
DesignsHaveOneText = (l : Link) → IsApart l → (m n : Made) → AlikeMade l m n → (given : Stimulus) (cycles : ℕ) → design_trace_text n given cycles ≡ design_trace_text m given cycles

-- Elaborations that are alike have one trace, also where they stop.
abbrev pub ElaborationsHaveOneTrace : Type 0
ElaborationsHaveOneTrace = (l : Link) → IsApart l → (x y : Elaboration) → AlikeElaborations l x y → (given : Stimulus) (cycles : ℕ) → trace_of_top y given cycles ≡ trace_of_top x given cycles

-- ---- what isn't named

-- Declarations that stand behind those of a tree, and that it therefore doesn't name, change nothing: each top has the trace that it had.
abbrev pub DeclarationsBehindKeepTraces : Type 0
DeclarationsBehindKeepTraces = (r : Revision) (tree : ResolvedTree) (new : List Declaration) → IsResolved r tree → given_count r ≤ length tree.declarations
    → (top : Top) → All (λ g. IsOwn tree.declarations g.0) top.generics → (given : Stimulus) (cycles : ℕ)
    → trace_of_top (elaboration r (record tree { declarations = tree.declarations ++ new }) top) given cycles ≡ trace_of_top (elaboration r tree top) given cycles
