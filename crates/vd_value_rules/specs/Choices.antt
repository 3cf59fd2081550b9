-- Choices of `case`, of selected assignments and of `case` generates: they are locally static and of the selector's length, none is given twice, and
-- they give all values that they must take, unless there is `others`. (IEEE 1076, case statement; selected signal assignment; case generate.)
-- What choices must take is what `IsCovered` and `AreTextsCovered` of vd_choices say, and what is given twice what `IsFirstRepeated` says. Here it is
-- computed; that this is the same is a law (`CoveringIsGiving`, `TextsAreGiven`).
use Rattle.std.specs.Prelude.{Bool, Err, List, None, Ok, Option, Some, [], false, if◌then◌else◌, int_le, length, map, not, pos, suc, true, zero, ℕ, ℤ, ◌&&◌, ◌++◌, ◌+ℤ◌, ◌==◌, ◌||◌, ◌∷◌}
use Rattle.std.specs.List.{list_all, list_any}
use Rattle.std.specs.Ordering.{int_eq}
use Rattle.vd_bytes.specs.declared.answers.Refused.{Refused}
use Rattle.vd_bytes.specs.declared.places.Place.{Place}
use Rattle.vd_composites.specs.Composites.{Value, leaves}
use Rattle.vd_composites.specs.Ranges.{high_of, is_null, is_within, low_of, values_in}
use Rattle.vd_composites.specs.Scalars.{position_of, whole_range}
use Rattle.vd_composites.specs.Stops.{◌>>=◌}
use Rattle.vd_composites.specs.Subtypes.{Arrays, Scalars, Subtype}
use Rattle.vd_composites.specs.declared.ranges.Bounds.{Bounds}
use Rattle.vd_composites.specs.declared.scalars.ScalarSubtype.{ScalarSubtype}
use Rattle.vd_environments.specs.Environments.{Env, Indicated, element_make, is_static, own_bounds}
use Rattle.vd_environments.specs.Got.{Got, is_got, senseless}
use Rattle.vd_forest.specs.Forest.{Forest, more, no_place, nothing, place_of, skipped}
use Rattle.vd_forms.specs.declared.form.Form.{Form}
use Rattle.vd_meaning.specs.Brackets.{choice_bounds}
use Rattle.vd_meaning.specs.Facets.{ByEquality, ByMatching, Comparison, Meaning, nth, value_of}
use Rattle.vd_meaning.specs.Meanings.{meanings}
use Rattle.vd_meaning.specs.Names.{scalar_type}
use Rattle.vd_meaning.specs.Statements.{comparison, is_chosen, range_values}
use Rattle.vd_meaning.specs.Tables.{MarkRole, Role, role_of}
use Rattle.vd_resolved.specs.declared.node.Resolved.{Resolved}
use Rattle.vd_value_rules.specs.Designs.{Design, is_2019}
use Rattle.vd_value_rules.specs.Judging.{refused_if}
use Rattle.vd_value_rules.specs.Knowledge.{later_bounds, meaning_at, parts_at}
use Rattle.vd_value_rules.specs.Lengths.{Shaped, shape_at}
use Rattle.vd_value_rules.specs.Standings.{State}
use Rattle.vd_values.specs.declared.scalar.Scalar.{Scalar}
use Rattle.vd_forms.specs.declared.form.Form.TheVariants as form

-- A choice: where it stands, whether it is locally static, the range of values that it stands for, where it is scalar, and its value else.
pub record Given : Type 0 where
  pub place : Place
  pub is_static : Bool
  pub mark : Option ℕ
  pub range : Got Bounds
  pub value : Got (Value Scalar)

abbrev pub choice_given : Meaning → Place → Env → Given
choice_given m place e =
    record { place = place; is_static = (m.known e).is_local; mark = m.mark; range = choice_bounds m.range (value_of m) e; value = value_of m e }

abbrev pub first_meaning : Design → Forest Resolved → Meaning
first_meaning d f = nth 0 (meanings d.table f)

-- the choices of a list
abbrev pub choices_given : Design → Env → Forest Resolved → List Given
choices_given d e nothing = []
choices_given d e (more n text place parts next) =
    choice_given (first_meaning d (more n text place parts nothing)) place e ∷ choices_given d e next

-- ---- the choices of a statement

abbrev pub choices_of_form : Form → Design → Env → Forest Resolved → List Given
choices_of_form form.Choices d e parts = choices_given d e parts
choices_of_form _ d e parts = []

-- of a tree, which is `others` or a list of choices
abbrev pub choices_in : Design → Env → Forest Resolved → List Given
choices_in d e nothing = []
choices_in d e (more n text place parts next) = choices_of_form n.form d e parts

abbrev pub is_others_form : Form → Bool
is_others_form form.Others = true
is_others_form _ = false

abbrev pub is_others : Forest Resolved → Bool
is_others nothing = false
is_others (more n text place parts next) = is_others_form n.form

-- of alternatives, whose choices are the part with this number
abbrev pub all_choices : Design → Env → ℕ → Forest Resolved → List Given
all_choices d e at nothing = []
all_choices d e at (more n text place parts next) = choices_in d e (skipped at parts) ++ all_choices d e at next

abbrev pub has_others : ℕ → Forest Resolved → Bool
has_others at nothing = false
has_others at (more n text place parts next) = is_others (skipped at parts) || has_others at next

-- ---- the values that choices must take

-- the values of a scalar subtype, where its bounds are locally static, or else of its type
abbrev pub range_taken : Bool → ScalarSubtype → Bounds
range_taken true s = s.range
range_taken false s = whole_range s.of_type

abbrev pub element_subtype_of : Subtype → Subtype
element_subtype_of (Arrays index bounds element) = element
element_subtype_of s = s

abbrev pub taken_of_scalar : Subtype → Bool → Bounds
taken_of_scalar (Scalars s) is_static = range_taken is_static s
taken_of_scalar _ is_static = later_bounds

-- of a selector, or of the elements of a selector
abbrev pub taken_by : Indicated → Bounds
taken_by i = taken_of_scalar i.subtype (own_bounds i.make).is_local

abbrev pub taken_by_elements : Indicated → Bounds
taken_by_elements i = taken_of_scalar (element_subtype_of i.subtype) (own_bounds (element_make i.make)).is_local

abbrev pub is_array : Subtype → Bool
is_array (Arrays index bounds element) = true
is_array _ = false

-- ---- all are given: scalars. The least value is, and so is the one behind each choice, as far as choices must go.

abbrev pub is_given : List Bounds → ℤ → Bool
is_given bs i = list_any (λ b. is_within b i) bs

abbrev pub goes_on_behind : Bounds → List Bounds → Bounds → Bool
goes_on_behind within bs b =
    is_null b || (not (is_within within (high_of b +ℤ pos 1)) || is_given bs (high_of b +ℤ pos 1))

abbrev pub are_covered : Bounds → List Bounds → Bool
are_covered within bs = is_null within || (is_given bs (low_of within) && list_all (goes_on_behind within bs) bs)

-- ---- arrays: all of so many elements, each of such values

-- the rest of those that begin with a value
abbrev pub rest_behind : ℤ → List (List ℤ) → List (List ℤ)
rest_behind i [] = []
rest_behind i ([] ∷ ts) = rest_behind i ts
rest_behind i ((j ∷ js) ∷ ts) = if int_eq i j then js ∷ rest_behind i ts else rest_behind i ts

abbrev pub is_any : {A : Type 0} → List A → Bool
is_any [] = false
is_any (x ∷ xs) = true

abbrev pub same_text : List ℤ → List ℤ → Bool
same_text [] [] = true
same_text (i ∷ is) (j ∷ js) = int_eq i j && same_text is js
same_text _ _ = false

abbrev pub are_texts_covered : ℕ → List ℤ → List (List ℤ) → Bool
are_texts_covered zero values texts = list_any (same_text []) texts
are_texts_covered (suc n) values texts =
    if is_any texts then list_all (λ i. are_texts_covered n values (rest_behind i texts)) values else not (is_any values)

abbrev pub positions_in : Value Scalar → List ℤ
positions_in v = map position_of (leaves v)

-- ---- what is known of choices: those that are locally static

abbrev pub and_got : {A : Type 0} → Got A → List A → List A
and_got (Ok x) xs = x ∷ xs
and_got (Err halt) xs = xs

abbrev pub those_got : {A : Type 0} → List (Got A) → List A
those_got [] = []
those_got (g ∷ gs) = and_got g (those_got gs)

abbrev pub early : {A : Type 0} → Bool → Got A → Got A
early is_static g = if is_static then g else senseless

abbrev pub early_bounds : Given → Got Bounds
early_bounds g = early g.is_static g.range

-- the positions of the elements of a choice of so many
abbrev pub text_of_length : ℕ → Value Scalar → Got (List ℤ)
text_of_length n v = if length (leaves v) == n then Ok (positions_in v) else senseless

abbrev pub early_text : ℕ → Given → Got (List ℤ)
early_text n g = early g.is_static g.value >>= text_of_length n

abbrev pub are_all_got : {A : Type 0} → List (Got A) → Bool
are_all_got gs = list_all is_got gs

-- ---- values that are given twice

abbrev pub share : Bounds → Bounds → Bool
share a b = not (is_null a) && not (is_null b) && int_le (low_of a) (high_of b) && int_le (low_of b) (high_of a)

-- Each choice that has something in common with an earlier one, where what it stands for is known.
abbrev pub repeats_in : {A : Type 0} → (A → A → Bool) → List A → Got A → Bool
repeats_in shared before (Ok x) = list_any (λ y. shared y x) before
repeats_in shared before (Err halt) = false

abbrev pub with_got : {A : Type 0} → List A → Got A → List A
with_got before (Ok x) = before ++ x ∷ []
with_got before (Err halt) = before

abbrev pub repeated : {A : Type 0} → (A → A → Bool) → (Given → Got A) → List A → List Given → List Refused
repeated shared of before [] = []
repeated shared of before (g ∷ gs) = refused_if (repeats_in shared before (of g)) g.place 404 ++ repeated shared of (with_got before (of g)) gs

-- ---- matching choices: the values that each stands for, each taken as a choice of its own

abbrev pub or_else_got : {A : Type 0} → Got A → Got A → Got A
or_else_got (Ok x) other = Ok x
or_else_got (Err halt) other = other

abbrev pub values_of_choice : Env → Given → Got (List (Value Scalar))
values_of_choice e g =
    early g.is_static (or_else_got (g.range >>= λ b. scalar_type g.mark e >>= λ t. Ok (range_values t b)) (g.value >>= λ v. Ok (v ∷ [])))

abbrev pub is_matched : Got Bool → Bool
is_matched (Ok b) = b
is_matched (Err halt) = false

abbrev pub match : Comparison → Value Scalar → Value Scalar → Bool
match c v w = is_matched (is_chosen c v w)

-- whether one of some values matches an earlier one
abbrev pub any_matches : Comparison → List (Value Scalar) → List (Value Scalar) → Bool
any_matches c before [] = false
any_matches c before (v ∷ vs) = list_any (λ w. match c w v) before || any_matches c (before ++ v ∷ []) vs

abbrev pub values_or_none : Got (List (Value Scalar)) → List (Value Scalar)
values_or_none (Ok vs) = vs
values_or_none (Err halt) = []

abbrev pub matching : Comparison → Env → List (Value Scalar) → List Given → List Refused
matching c e before [] = []
matching c e before (g ∷ gs) =
    let vs = values_or_none (values_of_choice e g) in refused_if (any_matches c before vs) g.place 404 ++ matching c e (before ++ vs) gs

-- ---- the rules

abbrev pub not_static : List Given → List Refused
not_static [] = []
not_static (g ∷ gs) = refused_if (not g.is_static) g.place 406 ++ not_static gs

-- a choice of another length than the selector
abbrev pub has_other_length : ℕ → Got (Value Scalar) → Bool
has_other_length n (Ok v) = not (length (leaves v) == n)
has_other_length n (Err halt) = false

abbrev pub other_lengths : ℕ → List Given → List Refused
other_lengths n [] = []
other_lengths n (g ∷ gs) = refused_if (g.is_static && has_other_length n g.value) g.place 405 ++ other_lengths n gs

-- A statement with choices.
pub record Selecting : Type 0 where
  pub place : Place
  pub selector_place : Place
  pub selector : Shaped
  -- in 1993 whether the selector may be one of an array type
  pub is_selectable : Bool
  pub comparison : Comparison
  pub has_others : Bool
  pub choices : List Given

-- values are left out, where all choices are known
abbrev pub leave_out : {A : Type 0} → List (Got A) → (List A → Bool) → Bool
leave_out gs are_all = are_all_got gs && not (are_all (those_got gs))

abbrev pub scalars_leave_out : Selecting → Bool
scalars_leave_out x = leave_out (map early_bounds x.choices) (are_covered (taken_by x.selector.indicated))

-- A choice of another length covers nothing.
abbrev pub texts_leave_out : ℕ → Selecting → Bool
texts_leave_out n x =
    are_all_got (map (λ g. early g.is_static g.value) x.choices)
    && not (are_texts_covered n (values_in (taken_by_elements x.selector.indicated)) (those_got (map (early_text n) x.choices)))

abbrev pub left_out : Comparison → Bool → Selecting → List Refused
left_out (ByMatching of) b x = refused_if (not x.has_others) x.place 403
left_out ByEquality b x = refused_if (b && not x.has_others) x.place 403

abbrev pub given_twice : {A : Type 0} → Comparison → Env → (A → A → Bool) → (Given → Got A) → Selecting → List Refused
given_twice (ByMatching of) e shared early x = repeated shared early [] x.choices ++ matching (ByMatching of) e [] x.choices
given_twice ByEquality e shared early x = repeated shared early [] x.choices

abbrev pub scalar_choices : Env → Selecting → List Refused
scalar_choices e x = left_out x.comparison (scalars_leave_out x) x ++ given_twice x.comparison e share early_bounds x

abbrev pub array_choices : Env → Option ℕ → Selecting → List Refused
array_choices e None x = record { place = x.selector_place; rule = 405 } ∷ left_out x.comparison false x
array_choices e (Some n) x =
    refused_if (not x.is_selectable) x.selector_place 405 ++ other_lengths n x.choices ++ left_out x.comparison (texts_leave_out n x) x
    ++ given_twice x.comparison e same_text (early_text n) x

abbrev pub choices_broken : Env → Selecting → List Refused
choices_broken e x =
    not_static x.choices ++ (if is_array x.selector.indicated.subtype then array_choices e x.selector.length x else scalar_choices e x)

-- ---- statements

abbrev pub place_or : Option Place → Place → Place
place_or None place = place
place_or (Some label) place = label

abbrev pub place_at : ℕ → Forest Resolved → Place
place_at n parts = place_or (place_of (skipped n parts)) no_place

-- In 1993 the selector of an array type is a name, a call or a qualified expression: no operator and no conversion.
abbrev pub is_mark_role : Role → Bool
is_mark_role MarkRole = true
is_mark_role _ = false

abbrev pub is_conversion_piece : Design → Resolved → Form → Bool
is_conversion_piece d n form.Arguments = is_mark_role (role_of d.table n.declaration)
is_conversion_piece d n _ = false

abbrev pub ends_in_conversion : Design → Forest Resolved → Bool
ends_in_conversion d nothing = false
ends_in_conversion d (more n text place parts nothing) = is_conversion_piece d n n.form
ends_in_conversion d (more n text place parts next) = ends_in_conversion d next

abbrev pub is_selectable_form : Form → Design → Forest Resolved → Bool
is_selectable_form form.Name d parts = not (ends_in_conversion d parts)
is_selectable_form form.OperatorName d parts = true
is_selectable_form _ d parts = false

abbrev pub is_selectable : Design → Forest Resolved → Bool
is_selectable d nothing = false
is_selectable d (more n text place parts next) = is_2019 d.revision || is_selectable_form n.form d parts

-- by the numbers of the parts for the selector and the word `?`, and of the choices in an alternative
abbrev pub selecting_with : Design → State → Place → Forest Resolved → ℕ → ℕ → ℕ → Forest Resolved → Selecting
selecting_with d s place parts selector word at alternatives =
    record {
      place = place_or s.label place;
      selector_place = place_at selector parts;
      selector = shape_at d s.known selector parts;
      is_selectable = is_selectable d (skipped selector parts);
      comparison = comparison d.table (meaning_at d word parts).is_present (meaning_at d selector parts);
      has_others = has_others at alternatives;
      choices = all_choices d s.known.env at alternatives;
    }

abbrev pub selecting_of : Form → Design → State → Place → Forest Resolved → Option Selecting
selecting_of form.CaseStatement d s place parts = Some (selecting_with d s place parts 1 0 0 (parts_at 2 parts))
selecting_of form.SelectedSignalAssignment d s place parts = Some (selecting_with d s place parts 0 1 1 (skipped 4 parts))
selecting_of form.SelectedVariableAssignment d s place parts = Some (selecting_with d s place parts 0 1 1 (skipped 3 parts))
-- a `case` generate has no word `?`: its last part is a name
selecting_of form.CaseGenerate d s place parts = Some (record (selecting_with d s place parts 0 3 0 (parts_at 1 parts)) { comparison = ByEquality })
selecting_of _ d s place parts = None

abbrev pub broken_by_selecting : Env → Option Selecting → List Refused
broken_by_selecting e None = []
broken_by_selecting e (Some x) = choices_broken e x

-- 403, 404, 405 and 406 of statements with choices
abbrev pub broken_choices : Design → State → Resolved → Place → Forest Resolved → List Refused
broken_choices d s n place parts = broken_by_selecting s.known.env (selecting_of n.form d s place parts)
