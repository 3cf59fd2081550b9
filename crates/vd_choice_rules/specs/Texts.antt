-- Choices of selectors of array types, in memory, and all that is refused of them but choices that match.
use Rattle.std.specs.Global.{Global}
use Rattle.std.specs.List.{list_all, list_any}
use Rattle.std.specs.Option.{option_map}
use Rattle.std.specs.Ordering.{int_eq}
use Rattle.std.specs.Prelude.{◌≡◌, Bool, List, None, Option, Some, Vec, [], false, if◌then◌else◌, is_some, length, map, not, ◌&&◌, ◌++◌, ◌==◌, ◌∷◌, ℕ, ℤ}
use lib.Pointwise.{pointwise}
use Rattle.vd_bytes.specs.declared.answers.Refused.{Refused}
use Rattle.vd_composites.specs.Composites.{Value, leaves}
use Rattle.vd_composites.specs.Ranges.{values_in}
use Rattle.vd_composites.specs.Scalars.{position_of}
use Rattle.vd_composites.specs.declared.ranges.Bounds.{Bounds}
use Rattle.vd_given_choices.specs.Refusals.{known_where, those_known}
use Rattle.vd_given_choices.specs.declared.choices.Choice.{Choice}
use Rattle.vd_value_rules.specs.Choices.{Selecting, are_texts_covered, early_text, left_out, other_lengths, repeated, same_text, texts_leave_out}
use Rattle.vd_value_rules.specs.Judging.{refused_if}
use Rattle.vd_values.specs.declared.scalar.Scalar.{Scalar}
use Rattle.vd_vectors.specs.declared.logics.LogicType.{LogicType}

-- the items of a vector, where there is one
abbrev pub items_where : {A : Type 0} → Option (Vec A Global) → Option (List A)
items_where None = None
items_where (Some v) = Some v.items

-- ---- what is known of a choice

abbrev pub value_in : Choice → Option (Value Scalar)
value_in x = known_where x.is_static x.value

-- the scalar values that it is made of
abbrev pub leaves_in : Choice → Option (List Scalar)
leaves_in x = option_map leaves (value_in x)

abbrev pub is_other_length : ℕ → Option (List Scalar) → Bool
is_other_length n None = false
is_other_length n (Some xs) = not (length xs == n)

-- the positions of so many
abbrev pub text_of : ℕ → Option (List Scalar) → Option (List ℤ)
text_of n None = None
text_of n (Some xs) = if length xs == n then Some (map position_of xs) else None

abbrev pub text_in : ℕ → Choice → Option (List ℤ)
text_in n x = text_of n (leaves_in x)

-- ---- what is refused of choices

abbrev pub other_lengths_in : ℕ → List Choice → List Refused
other_lengths_in n [] = []
other_lengths_in n (x ∷ xs) = refused_if (is_other_length n (leaves_in x)) x.place 405 ++ other_lengths_in n xs

-- arrays of so many elements from a range are left out, where all choices are known
abbrev pub texts_missing : ℕ → Bounds → List Choice → Bool
texts_missing n taken xs =
    list_all (λ x. is_some (value_in x)) xs && not (are_texts_covered n (values_in taken) (those_known (text_in n) xs))

-- whether `others` is missing
abbrev pub lacks_others : Option LogicType → Bool → Bool → Bool
lacks_others None is_left_out has_others = is_left_out && not has_others
lacks_others (Some of) is_left_out has_others = not has_others

-- all that is refused but choices that match
abbrev pub texts_refused : ℕ → Selecting → List Refused
texts_refused n x =
    refused_if (not x.is_selectable) x.selector_place 405 ++ other_lengths n x.choices ++ left_out x.comparison (texts_leave_out n x) x
    ++ repeated same_text (early_text n) [] x.choices

-- ---- texts in a set

abbrev pub has_text : List (Vec ℤ Global) → List ℤ → Bool
has_text keys text = list_any (λ key. pointwise int_eq text key.items) keys

-- the set has these texts, and no others
abbrev pub HasTexts : List (Vec ℤ Global) → List (List ℤ) → Type 0
HasTexts keys known = (text : List ℤ) → has_text keys text ≡ list_any (λ earlier. same_text earlier text) known
