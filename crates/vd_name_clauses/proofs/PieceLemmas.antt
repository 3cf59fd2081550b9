-- The last piece of a selected name.
use Rattle.std.proofs.Common.{◌≡◌, ℕ, List, Option, Some, None, Bool, true, false, refl}
use Rattle.vd_bytes.specs.declared.places.Place.{Place}
use Rattle.vd_forest.specs.Forest.{Forest, nothing, more, form_of, text_of}
use Rattle.vd_forms.specs.declared.form.Form.{Form}
use Rattle.vd_forms.specs.declared.form.Form.TheVariants as form
use Rattle.vd_visible.specs.Kinds.{kind_of}
use Rattle.vd_ways.specs.Ways.{selected_name}
use Rattle.vd_naming.specs.Ports.{last_text}
use Rattle.vd_naming.specs.Units.{last_piece, is_all}
use Rattle.vd_name_clauses.specs.Pieces.{last_tree}

abbrev pub name_of_form : Option Form → List ℕ → Option (List ℕ)
name_of_form None text = None
name_of_form (Some f) text = selected_name (kind_of f) text

abbrev pub is_form_all : Option Form → Bool
is_form_all (Some form.All) = true
is_form_all _ = false

pub last_name_is : (pieces : Forest Form) → last_piece pieces ≡ name_of_form (form_of (last_tree pieces)) (text_of (last_tree pieces))
last_name_is nothing = refl
last_name_is (more f text place parts nothing) = refl
last_name_is (more f text place parts (more f' text' place' parts' next)) = last_name_is (more f' text' place' parts' next)

all_alone : (f : Form) (text : List ℕ) (place : Place) (parts : Forest Form) → is_all (more f text place parts nothing) ≡ is_form_all (Some f)
all_alone form.All text place parts = refl
all_alone _ text place parts = refl

pub last_all_is : (pieces : Forest Form) → is_all pieces ≡ is_form_all (form_of (last_tree pieces))
last_all_is nothing = refl
last_all_is (more f text place parts nothing) = all_alone f text place parts
last_all_is (more f text place parts (more f' text' place' parts' next)) = last_all_is (more f' text' place' parts' next)

pub last_text_is : (pieces : Forest Form) → last_text pieces ≡ text_of (last_tree pieces)
last_text_is nothing = refl
last_text_is (more f text place parts nothing) = refl
last_text_is (more f text place parts (more f' text' place' parts' next)) = last_text_is (more f' text' place' parts' next)
