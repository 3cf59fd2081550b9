-- Subtypes as trees, with what is known of each: how it is inside a process or a function, and how static its bounds are.
use Rattle.std.specs.Prelude.{Bool, List, if◌then◌else◌, ℕ}
use Rattle.vd_environments.specs.Environments.{Indicated, made_inside}
use Rattle.vd_forest.specs.Forest.{Forest}
use Rattle.vd_value_rules.specs.TreeBounds.{IsTableOf}
use Rattle.vd_value_rules.specs.declared.bounds.TreeBounds.{TreeBounds}
use Rattle.vd_value_rules.specs.declared.forms.IndicatedForm.{IndicatedForm}
use Rattle.vd_value_rules.specs.Inside.{AreInside}

-- two tables are of these trees
pub record AreTables (inside : List ℕ) (bounds : List TreeBounds) (forests : List (Forest IndicatedForm)) : Type 0 where
  pub inside_of : AreInside inside forests
  pub bounds_of : IsTableOf bounds forests

-- a subtype that is declared inside of a process or a function, or outside
abbrev pub declared_in : Bool → Indicated → Indicated
declared_in is_inside i = record { subtype = i.subtype; make = if is_inside then made_inside i.make else i.make }
