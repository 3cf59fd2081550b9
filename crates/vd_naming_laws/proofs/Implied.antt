-- The example, computed.
use Rattle.std.proofs.Common.{◌≡◌, false, [], ◌∷◌, refl}
use Rattle.std.specs.Char.{encode_utf8}
use Rattle.std.specs.Str.{is_utf8, chars}
use Rattle.vd_forms.specs.declared.form.Form.TheVariants as form
use Rattle.vd_forms.specs.Validity.{AreValid}
use Rattle.vd_predefined.specs.Table.{standard_types, standard_operators, logic_types, logic_operators}
use Rattle.vd_regions.specs.InOrder.{visible_in, selected_in_order}
use Rattle.vd_resolved.specs.Trees.{syntax_of}
use Rattle.vd_trees.specs.declared.revision.Revision.TheVariants.{V2019}
use Rattle.vd_naming.specs.Naming.{names_of}
use Rattle.vd_naming_laws.specs.Example.{node, bit, waiting_until, OperatorIsImplied}

valid : AreValid V2019 false (waiting_until bit)
valid = assumption refl

implied : syntax_of (names_of V2019 (waiting_until bit)).tree ≡ waiting_until (node form.Condition (bit ∷ []))
unfolding standard_types standard_operators logic_types logic_operators visible_in selected_in_order is_utf8 chars encode_utf8
implied = refl

pub operator_implied : OperatorIsImplied
operator_implied = record { valid = record { are_units = refl; are_valid = valid }; implied = implied }
