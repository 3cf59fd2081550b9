-- How the logic stores an element of a map, so that it can tell two of them apart.
use Rattle.std.specs.Prelude.{ℕ, Bool, Option, refl}
use Rattle.std.specs.Coded.{Coded, code_by, coded×, coded_ℕ, coded_bool, coded_option}
use Rattle.vd_bytes.specs.declared.places.Place.{Place}
use Rattle.vd_forest.specs.Code.{coded_forest, coded_place}
use Rattle.vd_forest.specs.Forest.{Forest}
use Rattle.vd_forms.specs.contracts.form.Form as forms
use Rattle.vd_forms.specs.declared.form.Form.{Form}
use Rattle.vd_naming.specs.Associations.{Element}

abbrev pub coded_element : Coded Element
coded_element =
    code_by (Place × (Option ℕ × (Bool × Forest Form)))
    (coded× coded_place (coded× (coded_option coded_ℕ) (coded× coded_bool (coded_forest forms.the_row.coded))))
    (λ e. (e.place, (e.generic, (e.is_known, e.actual))))
    (λ t. record { place = t.0; generic = t.1.0; is_known = t.1.1.0; actual = t.1.1.1 }) (λ _. refl)
