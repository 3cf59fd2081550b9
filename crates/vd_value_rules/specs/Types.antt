-- The actual of a type that is a generic: the mark of a scalar, a constrained array or a record subtype, and no type that is a generic itself.
-- (IEEE 1076-2019, interface type declarations; generic map aspects.)
use Rattle.std.specs.Prelude.{Bool, List, None, Option, Some, [], false, not, true, ℕ, ◌&&◌, ◌++◌}
use Rattle.vd_bytes.specs.declared.answers.Refused.{Refused}
use Rattle.vd_declarations.specs.declared.classes.Class.{Class}
use Rattle.vd_meaning.specs.Elaborations.{copied}
use Rattle.vd_environments.specs.Environments.{Env}
use Rattle.vd_forest.specs.Forest.{Forest, more, nothing}
use Rattle.vd_forms.specs.declared.form.Form.{Form}
use Rattle.vd_meaning.specs.Brackets.{or_else}
use Rattle.vd_meaning.specs.Meanings.{made}
use Rattle.vd_meaning.specs.Names.{number_or}
use Rattle.vd_meaning.specs.Tables.{actual_mark, pairs}
use Rattle.vd_resolved.specs.declared.node.Resolved.{Resolved}
use Rattle.vd_value_rules.specs.Choices.{first_meaning}
use Rattle.vd_value_rules.specs.Designs.{Design, class_of}
use Rattle.vd_value_rules.specs.Judging.{refused_if}
use Rattle.vd_value_rules.specs.Knowledge.{meaning_at, parts_at}
use Rattle.vd_value_rules.specs.Standings.{State, formal_of_element, further_numbers, is_bounded_object}
use Rattle.vd_value_rules.specs.StaticNames.{place_of_actual}
use Rattle.vd_declarations.specs.declared.classes.Class.TheVariants as class
use Rattle.vd_forms.specs.declared.form.Form.TheVariants as form

abbrev pub is_type_generic : Class → Bool
is_type_generic class.GenericType = true
is_type_generic _ = false

-- the type of a mark, which is a type or a subtype
abbrev pub base_of : Design → ℕ → ℕ
base_of d n = number_or (or_else (d.table.declared n).mark (Some n))

abbrev pub may_be_actual : Design → Env → ℕ → Bool
may_be_actual d e n = is_bounded_object e n && not (is_type_generic (class_of d (base_of d n)))

-- what an instance declares for a type that is a generic has the actual as its mark
abbrev pub is_refused_type : Design → Env → Option ℕ → Option ℕ → Bool
is_refused_type d e (Some n) (Some copy) = is_type_generic (class_of d n) && not (may_be_actual d e (actual_mark d.table copy))
is_refused_type d e _ _ = false

abbrev pub copy_of : List (ℕ × ℕ) → Option ℕ → Option ℕ
copy_of copies None = None
copy_of copies (Some n) = copied copies n

abbrev pub type_actuals : Design → Env → List (ℕ × ℕ) → List ℕ → Forest Resolved → List Refused
type_actuals d e copies ns nothing = []
type_actuals d e copies ns (more n text place parts next) =
    let formal = formal_of_element (first_meaning d (more n text place parts nothing)) ns in
    refused_if (is_refused_type d e formal (copy_of copies formal)) (place_of_actual n.form place parts) 415
    ++ type_actuals d e copies (further_numbers ns) next

abbrev pub types_of_instance : Design → Env → ℕ → ℕ → Forest Resolved → List Refused
types_of_instance d e generic instance elements =
    type_actuals d e (pairs (d.table.declared generic).generics (d.table.declared instance).generics) (d.table.declared generic).generics elements

abbrev pub types_broken : Form → Design → Env → Resolved → Forest Resolved → List Refused
types_broken form.PackageInstantiation d e n parts =
    types_of_instance d e (number_or (meaning_at d 1 parts).declaration) (number_or (made n (meaning_at d 0 parts))) (parts_at 2 parts)
types_broken form.FunctionInstantiation d e n parts =
    types_of_instance d e (number_or (meaning_at d 2 parts).declaration) (number_or (made n (meaning_at d 1 parts))) (parts_at 3 parts)
types_broken _ d e n parts = []

-- 415
abbrev pub broken_types : Design → State → Resolved → Forest Resolved → List Refused
broken_types d s n parts = types_broken n.form d s.known.env n parts
