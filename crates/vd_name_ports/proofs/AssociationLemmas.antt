-- Associations, in a store that grows.
use Rattle.std.proofs.Common.{◌≡◌, ◌≤◌, ℕ, List, [], length, Option, Some, None, refl, ap, ◌∙◌}
use Rattle.vd_bytes.specs.declared.answers.Refused.{Refused}
use Rattle.vd_bytes.specs.declared.places.Place.{Place}
use Rattle.vd_forest.specs.Forest.{Forest, nothing, more, joined}
use Rattle.vd_forest.specs.Store.{at, Holds, Extends}
use Rattle.vd_forms.specs.declared.form.Form.{Form}
use Rattle.vd_forms.specs.declared.form.Form.TheVariants as form
use Rattle.vd_resolved.specs.declared.node.Resolved.{Resolved}
use Rattle.vd_regions.specs.Scopes.{declaration_at}
use Rattle.vd_name_rows.specs.Designs.{At, Design, Outcome}
use Rattle.vd_name_rows.specs.Noting.{formal_at}
use Rattle.vd_name_rows.specs.Refusals.{lesser}
use Rattle.vd_naming.specs.Expressions.{resolved, mark_of}
use Rattle.vd_naming.specs.Ports.{Front, OfPort, Converted, OtherFront, Map, choices_node, association_node, associated, associated_with, by_conversion, converted_type, not_back}
use Rattle.vd_name_expressions.specs.Reads.{IsRead}
use Rattle.vd_name_expressions.specs.declared.reading.Read.{Read}
use Rattle.vd_name_ports.specs.Fronts.{known_front, by_front}

-- what stands in front of `=>` is all that is asked of it
pub associated_by_front : (front : Front) (entity : ℕ) (at : At) (d : Design) (place : Place) (choices value tree : Forest Form) (m : Map)
    → associated front entity at d place choices value tree m ≡ by_front (known_front front) entity at d place choices value tree m
associated_by_front (OfPort (Some k)) entity at d place choices value tree m = refl
associated_by_front (OfPort None) entity at d place choices value tree m = refl
associated_by_front (Converted (Some k)) entity at d place choices value tree m = refl
associated_by_front (Converted None) entity at d place choices value tree m = refl
associated_by_front OtherFront entity at d place choices value tree m = refl

-- an association with its front and its actual, made one after the other
pub association_read : (fs hs gs : List (Forest Resolved)) (place : Place) (choices : Forest Form) (inside : ℕ) (o : Outcome) (first : Option Refused)
    (read whole : Read) → inside ≤ length fs → Extends fs hs → IsRead hs read o
    → Holds gs whole.tree (more (resolved form.Association None None) [] place (joined (choices_node choices (at hs inside)) (at hs read.tree)) nothing)
    → whole.first ≡ lesser first read.first
    → IsRead gs whole (association_node place choices (at fs inside) o first)
association_read fs hs gs place choices inside o first read whole within grown is held firsts =
    let node : (front actual : Forest Resolved) → Forest Resolved
    = λ front actual. more (resolved form.Association None None) [] place (joined (choices_node choices front) actual) nothing in
    record {
      holds = record {
        within = held.within;
        is = held.is ∙ ap (λ f. node f (at hs read.tree)) (grown.keeps inside within) ∙ ap (node (at fs inside)) is.holds.is;
      };
      first = firsts ∙ ap (lesser first) is.first;
    }

-- a conversion of a port tells the type of its actual
pub conversion_is : (k : ℕ) (a : At) (d : Design) (place : Place) (choices value : Forest Form) (o : Outcome) (m m' : Map) (mark : Option ℕ)
    (inside : Forest Resolved) (first back : Option Refused)
    → mark ≡ converted_type (formal_at d k).mode (mark_of o.tree) (declaration_at d.scopes k).mark → inside ≡ o.tree → first ≡ lesser o.first back
    → back ≡ not_back k a d (mark_of o.tree) (declaration_at d.scopes k).mark value → m' ≡ m
    → associated_with k mark a d place choices value inside first m' ≡ by_conversion k a d place choices value o m
conversion_is k a d place choices value o m m' mark inside first back marks insides firsts backs maps =
    let t = converted_type (formal_at d k).mode (mark_of o.tree) (declaration_at d.scopes k).mark in
    ap (λ u. associated_with k u a d place choices value inside first m') marks
    ∙ ap (λ i. associated_with k t a d place choices value i first m') insides
    ∙ ap (λ r. associated_with k t a d place choices value o.tree r m') (firsts ∙ ap (lesser o.first) backs)
    ∙ ap (associated_with k t a d place choices value o.tree (lesser o.first (not_back k a d (mark_of o.tree) (declaration_at d.scopes k).mark value))) maps
