-- Functions in the table of what is known.
use Rattle.std.proofs.Common.{◌≡◌, ◌∷◌, ◌∙◌, List, None, ap, false, refl, subst, sym, ℕ}
use Rattle.std.specs.Prelude.{OnOk, Result}
use Rattle.vd_composites.specs.Composites.{One, Value}
use Rattle.vd_environments.specs.Environments.{Denotation, Function, Static, all_bounds, never}
use Rattle.vd_forest.specs.Forest.{Forest}
use Rattle.vd_forest.specs.Store.{at}
use Rattle.vd_value_rules.specs.Indicated.{indicated_in, static_of}
use Rattle.vd_value_rules.specs.declared.forms.IndicatedForm.{IndicatedForm}
use Rattle.vd_value_rules.specs.declared.statics.StaticSort.{StaticSort}
use Rattle.vd_static_names.specs.Jumps.{AreJumps}
use Rattle.vd_value_rules.specs.Made.{Indicates}
use Rattle.vd_known_generics.specs.Actuals.{IsCalled, results_of}
use Rattle.vd_known_generics.specs.declared.functions.ActualFunction.{ActualFunction}
use Rattle.vd_known_designs.specs.Designs.{Knows}
use Rattle.vd_known_designs.specs.declared.design.KnownDesign.{KnownDesign}
use Rattle.vd_known_generics.proofs.InstanceLemmas.{on_ok}
use Rattle.vd_known_generics.specs.Standing.{called_stands, function_of_copy}
use Rattle.vd_known_designs.specs.Known.{AreKnown}
use Rattle.vd_known_designs.specs.declared.table.KnownTable.{KnownTable}
use Rattle.vd_meaning.specs.Names.{calls_known}
use Rattle.vd_meaning.specs.Operators.{function_of}
use Rattle.vd_meaning.specs.Tables.{Table, followed}
use Rattle.vd_static_values.specs.Entries.{IsEntry}
use Rattle.vd_static_values.specs.declared.entries.Entry.{Entry}
use Rattle.vd_value_rules.specs.Declaring.{TwoActuals, function_denoted}
use Rattle.vd_value_rules.specs.Designs.{Design}
use Rattle.vd_value_rules.specs.Knowledge.{Known, TwoIndicated, denoted, indicated_of}
use Rattle.vd_values.specs.declared.scalar.Scalar.{Scalar}
use Rattle.vd_values.specs.declared.scalar.Scalar.TheVariants.{Literal}

-- what stands in the table for a function
abbrev pub called_entry : Value Scalar → StaticSort → ActualFunction → Entry
called_entry value bounds f =
    record { value = value; known = f.calls; subtype = f.of_result.own; bounds = bounds; shape = None; is_signal = false; operator = f.operator }

called_is : (fs : List (Forest IndicatedForm)) (t : Table) (value : Value Scalar) (bounds : StaticSort) (f : ActualFunction) (i : TwoIndicated) (gives : Function) (calls : Static)
    → value ≡ One (Literal 0) → IsCalled fs t f i gives calls → static_of bounds ≡ all_bounds (indicated_in (at fs f.of_result.own)).make
    → IsEntry fs t (called_entry value bounds f) (function_denoted i.own gives calls)
called_is fs t value bounds f i gives calls any is of_bounds = record {
  within = is.result_is.own.within;
  subtype = is.result_is.own.is;
  bounds = of_bounds ∙ ap (λ j. all_bounds j.make) is.result_is.own.is;
  known = is.calls_are;
  value = λ local. sym any;
  value_shape = refl;
  signal_shape = refl;
  function = is.operator_is;
}

pub called_set : {A E : Type 0} (r : Result A E) (d : Design) (x : KnownDesign) (k : Known) (ks : List Known) (ss : List (Forest IndicatedForm)) (y : KnownTable) (n g : ℕ)
    (f : ActualFunction) (i : TwoIndicated) (gives other : Function) (calls : Static) (value : Value Scalar) (bounds : StaticSort)
    → ss ≡ x.table.subtypes → g ≡ n → Knows d x (k ∷ ks) → IsCalled x.table.subtypes d.table f i gives calls → value ≡ One (Literal 0)
    → static_of bounds ≡ all_bounds (indicated_in (at x.table.subtypes f.of_result.own)).make → y.subtypes ≡ ss
    → ((t : Table) (own c : Denotation) (l : Known) (ls : List Known) → AreKnown t (record x.table { subtypes = ss }) (l ∷ ls) → IsEntry ss t (called_entry value bounds f) own
    → Indicates ss f.of_result.choosing (indicated_of c) → OnOk r (AreKnown t y (denoted g own c l ∷ ls)))
    → OnOk r (Knows d (record x { table = y }) (called_stands n i gives other calls k ∷ ks))
called_set r d x k ks ss y n g f i gives other calls value bounds same number knows is any of_bounds kept set =
    let was : AreKnown d.table (record x.table { subtypes = ss }) (k ∷ ks) = subst (λ fs. AreKnown d.table (record x.table { subtypes = fs }) (k ∷ ks)) (sym same) knows.known in
    let entry = subst (λ fs. IsEntry fs d.table (called_entry value bounds f) (function_denoted i.own gives calls)) (sym same)
    (called_is x.table.subtypes d.table value bounds f i gives calls any is of_bounds) in
    let choosing = subst (λ fs. Indicates fs f.of_result.choosing i.choosing) (sym same) is.result_is.choosing in
    on_ok r (λ known. record {
      table = knows.table;
      known = subst (λ m. AreKnown d.table y (called_stands m i gives other calls k ∷ ks)) number known;
      jumps = subst (AreJumps x.fields.jumps.items) (sym (kept ∙ same)) knows.jumps;
    })
    (set d.table (function_denoted i.own gives calls) (function_denoted i.choosing other never) k ks was entry choosing)

-- a function by what the instance declares
pub copy_stands : (d : Design) (y : KnownDesign) (n copy : ℕ) (a : TwoActuals) (k : Known) (ks : List Known) → a.copy ≡ copy
    → (let f = followed d.table copy in
    Knows d y (called_stands n (results_of d k f) (function_of d.table f k.env) (function_of d.table f k.choosing) (calls_known d.table f k.env) k ∷ ks))
    → Knows d y (function_of_copy d n a k ∷ ks)
copy_stands d y n copy a k ks is knows =
    subst (λ c. let f = followed d.table c in
    Knows d y (called_stands n (results_of d k f) (function_of d.table f k.env) (function_of d.table f k.choosing) (calls_known d.table f k.env) k ∷ ks)) (sym is) knows
