-- Lists of trees in the other order.
use Rattle.std.proofs.Common.{◌≡◌, ap, refl, reverse, ◌∙◌}
use mathlib.Core.List.{reverse_aux}
use Rattle.vd_forest.specs.Forest.{Forest, more, nothing, turned}
use Rattle.vd_value_rules.specs.Indicated.{fields_in, texts_in}
use Rattle.vd_value_rules.specs.declared.forms.IndicatedForm.{IndicatedForm}

texts_turned_onto : (f g : Forest IndicatedForm) → texts_in (turned f g) ≡ reverse_aux (texts_in f) (texts_in g)
texts_turned_onto nothing g = refl
texts_turned_onto (more form text place parts next) g = texts_turned_onto next (more form text place parts g)

fields_turned_onto : (f g : Forest IndicatedForm) → fields_in (turned f g) ≡ reverse_aux (fields_in f) (fields_in g)
fields_turned_onto nothing g = refl
fields_turned_onto (more form text place parts next) g = fields_turned_onto next (more form text place parts g)

pub texts_turned : (h f : Forest IndicatedForm) → h ≡ turned f nothing → texts_in h ≡ reverse (texts_in f)
texts_turned h f is = ap texts_in is ∙ texts_turned_onto f nothing

pub fields_turned : (h f : Forest IndicatedForm) → h ≡ turned f nothing → fields_in h ≡ reverse (fields_in f)
fields_turned h f is = ap fields_in is ∙ fields_turned_onto f nothing
