-- What is known of a part of a name, by what is known of the whole. No part is locally static, so that it has no value.
use Rattle.std.specs.Prelude.{◌≡◌, ◌&&◌, ◌||◌, Bool, List, None, Option, false, is_some, ℕ}
use Rattle.vd_value_rules.specs.declared.statics.StaticSort.{StaticSort}
use Rattle.vd_composites.specs.Stops.{◌>>=◌}
use Rattle.vd_composites.specs.declared.ranges.Bounds.{Bounds}
use Rattle.vd_environments.specs.Got.{Got, is_got}
use Rattle.vd_forest.specs.Forest.{Forest, form_of}
use Rattle.vd_forest.specs.Store.{at}
use Rattle.vd_value_rules.specs.Indicated.{field_indicated, indicated_in}
use Rattle.vd_value_rules.specs.declared.forms.IndicatedForm.{IndicatedForm}
use Rattle.vd_meaning.specs.Names.{field_subtype, sliced_bounds}
use Rattle.vd_static_values.specs.Names.{indicated_by}
use Rattle.vd_static_values.specs.declared.names.KnownName.{KnownName}
use Rattle.vd_static_values.specs.declared.names.NameSubtype.{NameSubtype}
use Rattle.vd_static_values.specs.declared.names.NameSubtype.TheVariants.{Slice, Stored}
use Rattle.vd_static_values.specs.declared.names.Ranging.TheVariants.{NoRange}
use Rattle.vd_static_names.specs.declared.steps.Part.{Part}

-- behind a step that is so static, and whose range is locally static where it is a slice
abbrev pub known_part : KnownName → StaticSort → Bool → Part → KnownName
known_part x k is_local part =
    record {
      value = None;
      known = record { is_local = false; is_global = x.known.is_global && k.is_global };
      subtype = part.subtype;
      has_subtype = part.has_subtype;
      shape = part.shape;
      is_object = x.is_object;
      local_slices = x.local_slices && is_local;
      is_mark = false;
      range = NoRange;
      callee = None;
      is_signal = x.is_signal;
      is_whole = x.is_signal && (x.is_whole && (k.is_local || k.is_global));
    }

-- the bounds of a slice, by those of the whole and its own
abbrev pub bounds_within : Got Bounds → Got Bounds → Got Bounds
bounds_within whole own = whole >>= λ w. own >>= sliced_bounds w

-- A slice of a slice is one of the same array. In elaboration it is known where both are.
abbrev pub slice_in : NameSubtype → Option Bounds → StaticSort → NameSubtype
slice_in (Stored number) range k = Slice number range k
slice_in (Slice of bounds before) range k = Slice of range (record { is_local = k.is_local; is_global = k.is_global && before.is_global })

-- The number stands for the subtype of a field, and for no tree where there is none.
pub record IsField (subtypes : List (Forest IndicatedForm)) (n : ℕ) (of : NameSubtype) (number : ℕ) : Type 0 where
  pub is : indicated_in (at subtypes number) ≡ field_indicated n (indicated_by subtypes of)
  pub there : is_some (form_of (at subtypes number)) ≡ is_got (field_subtype n (indicated_by subtypes of).subtype)
