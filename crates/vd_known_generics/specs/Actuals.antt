-- The actuals of an instance in memory. (IEEE 1076, generic map aspects.)
use Rattle.std.specs.Prelude.{◌≡◌, ◌∷◌, List, Option, Some, [], if◌then◌else◌, true, ℕ}
use Rattle.vd_environments.specs.Environments.{Function, Static}
use Rattle.vd_forest.specs.Forest.{Forest}
use Rattle.vd_value_rules.specs.Indicated.{static_of}
use Rattle.vd_value_rules.specs.declared.forms.IndicatedForm.{IndicatedForm}
use Rattle.vd_known_generics.specs.Elements.{IsGiven}
use Rattle.vd_known_generics.specs.declared.actuals.Actual.{Actual}
use Rattle.vd_known_generics.specs.declared.functions.ActualFunction.{ActualFunction}
use Rattle.vd_known_designs.specs.Designs.{AreIndicated}
use Rattle.vd_meaning.specs.Facets.{MapElement}
use Rattle.vd_meaning.specs.Generics.{actual_of, element_for}
use Rattle.vd_meaning.specs.Tables.{Table, is_predefined}
use Rattle.vd_static_values.specs.Entries.{IsFunction}
use Rattle.vd_value_rules.specs.Declaring.{TwoActuals, function_denoted, result_in}
use Rattle.vd_value_rules.specs.Designs.{Design}
use Rattle.vd_value_rules.specs.Knowledge.{Known, TwoIndicated}

-- what gives the subtype of a function's result: of an operator its type, and else what the function itself stands for
abbrev pub result_mark : Table → ℕ → Option ℕ
result_mark t n = if is_predefined t n then (t.declared n).mark else Some n

-- the subtypes of the result of a function
abbrev pub results_of : Design → Known → ℕ → TwoIndicated
results_of d k n = record { own = result_in d n k.env; choosing = result_in d n k.choosing }

-- A function with a result of these subtypes: an operator that it stands for, where its calls are locally static.
pub record IsCalled (subtypes : List (Forest IndicatedForm)) (t : Table) (x : ActualFunction) (result : TwoIndicated) (function : Function) (calls : Static) : Type 0 where
  pub result_is : AreIndicated subtypes x.of_result result
  pub calls_are : static_of x.calls ≡ calls
  pub operator_is : calls.is_local ≡ true → IsFunction t x.operator (function_denoted result.own function calls)

-- For a constant what the map gives counts, for a type the subtypes, and for a function what the instance declares for it.
pub record IsActual (subtypes : List (Forest IndicatedForm)) (t : Table) (x : Actual) (a : TwoActuals) : Type 0 where
  pub given_is : IsGiven x.given a.own.value a.own.known
  pub indicated_is : AreIndicated subtypes x.indicated (record { own = a.own.indicated; choosing = a.choosing.indicated })
  pub copy_is : a.copy ≡ x.copy

abbrev pub AreActuals : List (Forest IndicatedForm) → Table → List Actual → List TwoActuals → Type 0
AreActuals subtypes t [] [] = Unit {0}
AreActuals subtypes t (x ∷ xs) (a ∷ as') = IsActual subtypes t x a × AreActuals subtypes t xs as'
AreActuals subtypes t _ _ = ⊥

-- the actual of a generic with a place, for which the instance declares a copy
abbrev pub actual_at : Design → Known → List MapElement → (place generic copy : ℕ) → TwoActuals
actual_at d k xs place generic copy =
    record {
      own = actual_of d.table (element_for place generic xs) k.env copy;
      choosing = actual_of d.table (element_for place generic xs) k.choosing copy;
      copy = copy;
    }
