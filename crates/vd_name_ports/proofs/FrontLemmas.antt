-- Pieces of a name in front of `=>`.
use Rattle.std.proofs.Common.{◌≡◌, ℕ, List, refl}
use Rattle.vd_bytes.specs.declared.places.Place.{Place}
use Rattle.vd_forest.specs.Forest.{Forest, more}
use Rattle.vd_forms.specs.declared.form.Form.{Form}
use Rattle.vd_forms.specs.declared.form.Form.TheVariants as form
use Rattle.vd_naming.specs.Ports.{last_argument}

-- the argument of the last piece is that of the last one behind the first
pub not_last : (f : Form) (text : List ℕ) (place : Place) (parts : Forest Form) (f' : Form) (text' : List ℕ) (place' : Place) (parts' next : Forest Form)
    → last_argument (more f text place parts (more f' text' place' parts' next)) ≡ last_argument (more f' text' place' parts' next)
not_last form.Arguments text place parts f' text' place' parts' next = refl
not_last _ text place parts f' text' place' parts' next = refl
