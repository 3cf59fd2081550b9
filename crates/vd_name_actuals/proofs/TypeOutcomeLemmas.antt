-- What the actual of a generic type comes to where it has no reading as a mark, or several.
use Rattle.std.proofs.Common.{◌≡◌, List, Option, refl, ap, sym, ◌∙◌}
use Rattle.vd_bytes.specs.declared.answers.Refused.{Refused}
use Rattle.vd_bytes.specs.declared.places.Place.{Place}
use Rattle.vd_forest.specs.Forest.{Forest}
use Rattle.vd_forest.specs.Store.{Holds}
use Rattle.vd_forms.specs.declared.form.Form.{Form}
use Rattle.vd_walks.specs.Least.{lesser}
use Rattle.vd_overloads.specs.Interpretations.{IsNotOne}
use Rattle.vd_resolved.specs.declared.node.Resolved.{Resolved}
use Rattle.vd_name_rows.specs.Designs.{At, Design}
use Rattle.vd_naming.specs.Expressions.{unresolved, mark_readings}
use Rattle.vd_naming.specs.Actuals.{type_outcome}
use Rattle.vd_name_expressions.proofs.ReadLemmas.{left_out, refused_whole_list}
use Rattle.vd_name_entering.specs.Made.{IsMade}
use Rattle.vd_name_entering.specs.declared.made.Made.{Made}
use Rattle.vd_name_actuals.specs.Kinds.{no_type_at, pieces_at}

pub no_mark_made : (store : List (Forest Resolved)) (at : At) (d : Design) (place : Place) (tree : Forest Form) (made : Made) (pieces refused : Option Refused)
    → IsNotOne (mark_readings at d tree) → Holds store made.tree (unresolved tree) → made.first ≡ lesser pieces refused → pieces ≡ pieces_at at d tree
    → refused ≡ no_type_at at d place tree → IsMade store d made (type_outcome at d place tree)
no_mark_made store at d place tree made pieces refused not_one held first pieces_are refused_is = record {
  holds = record { within = held.within; is = held.is ∙ sym (left_out tree (mark_readings at d tree) not_one) };
  design = refl;
  first =
      first ∙ ap (λ p. lesser p refused) pieces_are ∙ ap (lesser (pieces_at at d tree)) refused_is
      ∙ ap (lesser (pieces_at at d tree)) (sym (refused_whole_list (no_type_at at d place tree) (mark_readings at d tree) not_one));
}
