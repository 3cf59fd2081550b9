-- Functions that generics stand for.
use Rattle.std.proofs.Common.{Bool, ◌≡◌, ◌∙◌, List, None, Option, Some, ap, false, if◌then◌else◌, refl, subst, sym, true, ℕ}
use Rattle.vd_environments.specs.Environments.{Env, Static}
use Rattle.vd_forest.specs.Forest.{Forest}
use Rattle.vd_value_rules.specs.Indicated.{static_of}
use Rattle.vd_value_rules.specs.declared.forms.IndicatedForm.{IndicatedForm}
use Rattle.vd_value_rules.specs.declared.statics.StaticSort.{StaticSort}
use Rattle.vd_value_rules.specs.Made.{Indicates}
use Rattle.vd_known_generics.specs.Actuals.{IsCalled, result_mark, results_of}
use Rattle.vd_known_designs.specs.Designs.{AreIndicated}
use Rattle.vd_known_designs.specs.declared.indications.TwoSubtypes.{TwoSubtypes}
use Rattle.vd_meaning.specs.Names.{calls_known}
use Rattle.vd_meaning.specs.Operators.{function_of, operate, operation}
use Rattle.vd_meaning.specs.Tables.{Table, followed, is_predefined}
use Rattle.vd_static_values.specs.Entries.{IsFunction, operate_on}
use Rattle.vd_static_parts.proofs.CallLemmas.{known_of_text, predefined_value}
use Rattle.vd_static_values.proofs.OperationLemmas.{operated_at_mark}
use Rattle.vd_value_rules.specs.Declaring.{function_denoted, result_in}
use Rattle.vd_value_rules.specs.Designs.{Design}
use Rattle.vd_value_rules.specs.Knowledge.{Known, at_mark}

marked_by : (t : Table) (n : ℕ) (e : Env) (b : Bool)
    → at_mark (if b then (t.declared n).mark else Some n) e ≡ (if b then at_mark (t.declared n).mark e else at_mark (Some n) e)
marked_by t n e true = refl
marked_by t n e false = refl

-- the subtype of a result by what gives it
pub result_at : (d : Design) (n : ℕ) (e : Env) → at_mark (result_mark d.table n) e ≡ result_in d n e
result_at d n e = marked_by d.table n e (is_predefined d.table n)

-- what is predefined stands for itself
pub predefined_function : (d : Design) (n : ℕ) (e : Env) (s : Static) → is_predefined d.table n ≡ true
    → IsFunction d.table (Some n) (function_denoted (result_in d n e) (function_of d.table n e) s)
predefined_function d n e s is = λ as'.
    sym (predefined_value d.table n e as' is) ∙ operated_at_mark (operation d.table n) (d.table.declared n).mark e as'
    ∙ sym (ap (λ b. operate_on (operation d.table n) (if b then at_mark (d.table.declared n).mark e else at_mark (Some n) e).subtype as') is)

-- and what is written for what the table says
text_function : (d : Design) (n : ℕ) (e : Env) (s : Static) (o : Option ℕ) → is_predefined d.table n ≡ false → IsFunction d.table o (e.denotes n)
    → IsFunction d.table o (function_denoted (result_in d n e) (function_of d.table n e) s)
text_function d n e s None is stands = λ as'.
    ap (λ b. (if b then operate (operation d.table n) (d.table.declared n).mark e else (e.denotes n).function) as') is ∙ stands as'
text_function d n e s (Some f) is stands = λ as'.
    ap (λ b. (if b then operate (operation d.table n) (d.table.declared n).mark e else (e.denotes n).function) as') is ∙ stands as'
    ∙ sym (ap (λ b. operate_on (operation d.table f) (if b then at_mark (d.table.declared n).mark e else at_mark (Some n) e).subtype as') is)

pub written_function : (d : Design) (n : ℕ) (e : Env) (o : Option ℕ) → is_predefined d.table n ≡ false → (calls_known d.table n e).is_local ≡ true
    → ((e.denotes n).known.is_local ≡ true → IsFunction d.table o (e.denotes n))
    → IsFunction d.table o (function_denoted (result_in d n e) (function_of d.table n e) (calls_known d.table n e))
written_function d n e o is local stands = text_function d n e (calls_known d.table n e) o is (stands (known_of_text d.table n e is local))

-- all that is known of a function
pub called_function : (d : Design) (k : Known) (fs : List (Forest IndicatedForm)) (copy f : ℕ) (mark : Option ℕ) (of : TwoSubtypes) (calls : StaticSort) (o : Option ℕ)
    → f ≡ followed d.table copy → mark ≡ result_mark d.table f
    → AreIndicated fs of (record { own = at_mark mark k.env; choosing = at_mark mark k.choosing }) → static_of calls ≡ calls_known d.table f k.env
    → ((calls_known d.table f k.env).is_local ≡ true → IsFunction d.table o (function_denoted (result_in d f k.env) (function_of d.table f k.env) (calls_known d.table f k.env)))
    → IsCalled fs d.table (record { of_result = of; calls = calls; operator = o }) (results_of d k (followed d.table copy)) (function_of d.table (followed d.table copy) k.env)
    (calls_known d.table (followed d.table copy) k.env)
called_function d k fs copy f mark of calls o follows marks are called stands =
    subst (λ n. IsCalled fs d.table (record { of_result = of; calls = calls; operator = o }) (results_of d k n) (function_of d.table n k.env) (calls_known d.table n k.env)) follows
    (record {
      result_is = record {
        own = subst (Indicates fs of.own) (ap (λ m. at_mark m k.env) marks ∙ result_at d f k.env) are.own;
        choosing = subst (Indicates fs of.choosing) (ap (λ m. at_mark m k.choosing) marks ∙ result_at d f k.choosing) are.choosing;
      };
      calls_are = called;
      operator_is = stands;
    })
