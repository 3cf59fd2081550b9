-- The fields of a record by number.
use Rattle.std.proofs.Common.{◌≡◌, ℕ, zero, suc, refl, ap}
use Rattle.vd_environments.specs.Environments.{nth_make}
use Rattle.vd_forest.specs.Forest.{Forest, nothing, more, skipped}
use Rattle.vd_forest.proofs.ForestLemmas.{skipped_nothing}
use Rattle.vd_value_rules.specs.declared.forms.IndicatedForm.{IndicatedForm}
use Rattle.vd_value_rules.specs.Indicated.{fields_in, indicated_in}
use Rattle.vd_meaning.specs.Declarations.{makes_of, subtypes_of}
use Rattle.vd_meaning.specs.Names.{nth_subtype}
use Rattle.vd_value_rules.specs.Lengths.{or_none}

pub field_skipped : (n : ℕ) (parts : Forest IndicatedForm)
    → indicated_in (skipped n parts) ≡ or_none (nth_subtype n (subtypes_of (fields_in parts))) (nth_make n (makes_of (fields_in parts)))
field_skipped n nothing = ap indicated_in (skipped_nothing n)
field_skipped zero (more form text place parts next) = refl
field_skipped (suc n) (more form text place parts next) = field_skipped n next
