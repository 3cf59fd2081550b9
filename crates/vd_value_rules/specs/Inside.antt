-- Subtypes of what is declared inside a process or a function.
use Rattle.std.specs.Prelude.{◌≡◌, ◌+◌, ◌<◌, ◌≤◌, List, false, length, map, slice_index_or, ℕ}
use Rattle.vd_environments.specs.Environments.{Field, Indicated, made_inside}
use Rattle.vd_forest.specs.Forest.{Forest}
use Rattle.vd_forest.specs.Store.{at}
use Rattle.vd_value_rules.specs.Indicated.{fields_in, texts_in}
use Rattle.vd_value_rules.specs.declared.forms.IndicatedForm.{IndicatedForm}
use Rattle.vd_value_rules.specs.declared.forms.IndicatedForm.TheVariants as form
use Rattle.vd_value_rules.specs.declared.statics.StaticSort.{StaticSort}

abbrev pub inside_of : Indicated → Indicated
inside_of i = record { subtype = i.subtype; make = made_inside i.make }

abbrev pub field_inside : Field → Field
field_inside field = record { name = field.name; indicated = inside_of field.indicated }

-- ---- nodes

abbrev pub sort_inside : StaticSort → StaticSort
sort_inside s = record { is_local = s.is_local; is_global = false }

abbrev pub form_inside : IndicatedForm → IndicatedForm
form_inside (form.Scalar s is_resolved range) = form.Scalar s is_resolved (sort_inside range)
form_inside (form.Unbounded index known) = form.Unbounded index (sort_inside known)
form_inside (form.Bounded index b known) = form.Bounded index b (sort_inside known)
form_inside form.Record = form.Record
form_inside form.Literal = form.Literal

-- ---- tables

-- the number stands for these trees, as they are inside
pub record IsInside (store : List (Forest IndicatedForm)) (number : ℕ) (trees : Forest IndicatedForm) : Type 0 where
  pub within : number ≤ length store
  pub texts : texts_in (at store number) ≡ texts_in trees
  pub fields : fields_in (at store number) ≡ map field_inside (fields_in trees)

-- a table has for the first numbers of a store those that stand for the same inside
pub record AreInside (table : List ℕ) (store : List (Forest IndicatedForm)) : Type 0 where
  pub within : length table ≤ length store + 1
  pub are : (number : ℕ) → number < length table → IsInside store (slice_index_or table number 0) (at store number)
