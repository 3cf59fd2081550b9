-- What is refused of choices, by what is known of them in memory.
use Rattle.std.specs.Prelude.{Bool, List, None, Option, Some, [], false, if◌then◌else◌, not, ◌++◌, ◌∷◌}
use Rattle.std.specs.List.{list_any}
use Rattle.vd_bytes.specs.declared.answers.Refused.{Refused}
use Rattle.vd_composites.specs.declared.ranges.Bounds.{Bounds}
use Rattle.vd_given_choices.specs.declared.choices.Choice.{Choice}
use Rattle.vd_value_rules.specs.Judging.{refused_if}

-- what is known of a choice, where that is locally static
abbrev pub known_where : {A : Type 0} → Bool → Option A → Option A
known_where is_static o = if is_static then o else None

-- the range of values that it stands for
abbrev pub bounds_in : Choice → Option Bounds
bounds_in x = known_where x.is_static x.range

abbrev pub listed : {A : Type 0} → Option A → List A
listed None = []
listed (Some a) = a ∷ []

abbrev pub those_known : {A : Type 0} → (Choice → Option A) → List Choice → List A
those_known of [] = []
those_known of (x ∷ xs) = listed (of x) ++ those_known of xs

-- choices that aren't locally static
abbrev pub not_static_in : List Choice → List Refused
not_static_in [] = []
not_static_in (x ∷ xs) = refused_if (not x.is_static) x.place 406 ++ not_static_in xs

-- choices that have something in common with an earlier one, where what they stand for is known
abbrev pub repeats_known : {A : Type 0} → (A → A → Bool) → List A → Option A → Bool
repeats_known shared before None = false
repeats_known shared before (Some a) = list_any (λ b. shared b a) before

abbrev pub repeated_known : {A : Type 0} → (A → A → Bool) → (Choice → Option A) → List A → List Choice → List Refused
repeated_known shared of before [] = []
repeated_known shared of before (x ∷ xs) =
    refused_if (repeats_known shared before (of x)) x.place 404 ++ repeated_known shared of (before ++ listed (of x)) xs
