-- What an expression comes to where it has one interpretation, and where it hasn't.
use Rattle.std.proofs.Common.{◌≡◌, inl, inr, List, [], ◌∷◌, length, Option, Some, None, refl, sym, ap, subst, ◌∙◌, arith}
use Rattle.vd_bytes.specs.declared.answers.Refused.{Refused}
use Rattle.vd_forest.specs.Forest.{Forest}
use Rattle.vd_forest.specs.Store.{at, Holds}
use Rattle.vd_forms.specs.declared.form.Form.{Form}
use Rattle.vd_walks.specs.Least.{lesser}
use Rattle.vd_walks.proofs.OrderLaws.{lesser_right}
use Rattle.vd_overloads.specs.Environment.{rules_at, scene_at}
use Rattle.vd_overloads.specs.Interpretations.{alone, first_place, interpretations, refusal, IsNotOne}
use Rattle.vd_overloads.specs.declared.wanted.Wanted.{Wanted}
use Rattle.vd_readings.specs.Found.{HoldsOnly}
use Rattle.vd_resolved.specs.declared.node.Resolved.{Resolved}
use Rattle.vd_readings.specs.Readings.{readings_in}
use Rattle.vd_states.specs.declared.states.State.{State}
use Rattle.vd_visible.specs.Sights.{Standpoint, sight_from}
use Rattle.vd_name_rows.specs.Designs.{At, Design, standpoint}
use Rattle.vd_naming.specs.Edges.{edge_of_no_signal}
use Rattle.vd_naming.specs.Expressions.{only_reading, refused_unless_one, unresolved, mark_states, mark_readings}
use Rattle.vd_name_expressions.specs.Reads.{IsRead, interpreted, refused_whole, read_beside, refused_mark, mark_read_beside}
use Rattle.vd_name_expressions.specs.declared.reading.Read.{Read}

-- a list that hasn't exactly one member
pub left_out : (tree : Forest Form) (rs : List (Forest Resolved)) → IsNotOne rs → only_reading tree rs ≡ unresolved tree
left_out tree [] none = refl
left_out tree (r ∷ []) (inl none) = absurd (omega (arith, ap length none))
left_out tree (r ∷ []) (inr several) = absurd (omega (arith, several))
left_out tree (r ∷ other ∷ rs) several = refl

pub refused_whole_list : (r : Option Refused) (rs : List (Forest Resolved)) → IsNotOne rs → refused_unless_one r rs ≡ r
refused_whole_list r [] none = refl
refused_whole_list r (x ∷ []) (inl none) = absurd (omega (arith, ap length none))
refused_whole_list r (x ∷ []) (inr several) = absurd (omega (arith, several))
refused_whole_list r (x ∷ other ∷ rs) several = refl

abbrev pub interpreted_from : Standpoint → Wanted → Forest Form → List (Forest Resolved)
interpreted_from p w tree = interpretations (rules_at p) (scene_at p) w (alone tree)

module _ (at' : At) (d : Design) (w : Wanted) (tree : Forest Form) (pieces : Option Refused) (store : List (Forest Resolved)) (read : Read) where
  abbrev all : List (Forest Resolved)
  all = interpreted at' d w tree

  pub read_one : (p : Standpoint) → p ≡ standpoint at' d → HoldsOnly store read.tree (interpreted_from p w tree)
      → read.first ≡ lesser pieces (edge_of_no_signal d.scopes (at store read.tree)) → IsRead store read (read_beside at' d w tree pieces)
  read_one p same held first =
      let only : all ≡ at store read.tree ∷ [] = sym (ap (λ q. interpreted_from q w tree) same) ∙ held.only in
      let tree_is : only_reading tree all ≡ at store read.tree = ap (only_reading tree) only in
      let nothing_more : refused_unless_one (Some (refused_whole at' d w tree)) all ≡ None = ap (refused_unless_one (Some (refused_whole at' d w tree))) only in
      record {
        holds = record { within = held.within; is = sym tree_is };
        first = first ∙ ap (λ t. lesser pieces (edge_of_no_signal d.scopes t)) (sym tree_is) ∙ sym (lesser_right _)
            ∙ ap (lesser (lesser pieces (edge_of_no_signal d.scopes (only_reading tree all)))) (sym nothing_more);
      }

  abbrev pub refused_from : Standpoint → Forest Form → Refused
  refused_from p t = refusal ((scene_at p).refused w t) ((scene_at p).unknown t) (first_place t) (interpreted_from p w tree)

  pub read_none : (p : Standpoint) (r : Refused) → p ≡ standpoint at' d → alone tree ≡ tree → IsNotOne (interpreted_from p w tree)
      → r ≡ refused_from p (alone tree) → Holds store read.tree (unresolved tree)
      → read.first ≡ lesser (lesser pieces (edge_of_no_signal d.scopes (at store read.tree))) (Some r) → IsRead store read (read_beside at' d w tree pieces)
  read_none p r same single several refused held first =
      let not_one : IsNotOne all = subst (λ q. IsNotOne (interpreted_from q w tree)) same several in
      let tree_is : only_reading tree all ≡ unresolved tree = left_out tree all not_one in
      let whole : r ≡ refused_whole at' d w tree = refused ∙ ap (refused_from p) single ∙ ap (λ q. refused_from q tree) same in
      record {
        holds = record { within = held.within; is = held.is ∙ sym tree_is };
        first = first
            ∙ ap (λ t. lesser (lesser pieces (edge_of_no_signal d.scopes t)) (Some r)) (held.is ∙ sym tree_is)
            ∙ ap (λ x. lesser (lesser pieces (edge_of_no_signal d.scopes (only_reading tree all))) (Some x)) whole
            ∙ ap (lesser (lesser pieces (edge_of_no_signal d.scopes (only_reading tree all)))) (sym (refused_whole_list (Some (refused_whole at' d w tree)) all not_one));
      }

-- ---- marks

abbrev pub marks_from : Standpoint → Forest Form → List (Forest Resolved)
marks_from p tree = readings_in (rules_at p) (alone tree) (mark_states (sight_from p))

-- what was found in the states of a standpoint is what was found at the place
pub mark_found : (at' : At) (d : Design) (tree : Forest Form) (p : Standpoint) (states : List State) → p ≡ standpoint at' d → states ≡ mark_states (sight_from p)
    → alone tree ≡ tree → readings_in (rules_at p) tree states ≡ mark_readings at' d tree
mark_found at' d tree p states same are single =
    ap (readings_in (rules_at p) tree) are ∙ ap (λ t. readings_in (rules_at p) t (mark_states (sight_from p))) (sym single) ∙ ap (λ q. marks_from q tree) same

module _ (at' : At) (d : Design) (tree : Forest Form) (pieces : Option Refused) (store : List (Forest Resolved)) (read : Read) where
  pub mark_one : HoldsOnly store read.tree (mark_readings at' d tree) → read.first ≡ pieces → IsRead store read (mark_read_beside at' d tree pieces)
  mark_one held first = record {
    holds = record { within = held.within; is = sym (ap (only_reading tree) held.only) };
    first = first ∙ sym (lesser_right pieces) ∙ ap (lesser pieces) (sym (ap (refused_unless_one (refused_mark at' d tree)) held.only));
  }

  pub mark_none : IsNotOne (mark_readings at' d tree) → Holds store read.tree (unresolved tree)
      → read.first ≡ lesser pieces (refused_mark at' d tree) → IsRead store read (mark_read_beside at' d tree pieces)
  mark_none not_one held first = record {
    holds = record { within = held.within; is = held.is ∙ sym (left_out tree (mark_readings at' d tree) not_one) };
    first = first ∙ ap (lesser pieces) (sym (refused_whole_list (refused_mark at' d tree) (mark_readings at' d tree) not_one));
  }
