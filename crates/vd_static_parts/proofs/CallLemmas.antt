-- What calls come to.
use Rattle.std.proofs.Common.{◌≡◌, ◌&&◌, ◌||◌, ◌∙◌, Bool, IfOk, List, None, Option, Result, Some, ap, false, if◌then◌else◌, nat_lt, subst, sym, true, ℕ}
use Rattle.vd_composites.specs.Composites.{Value}
use Rattle.vd_environments.specs.Environments.{Argument, Env, Indicated, Static, always, only_global}
use Rattle.vd_environments.specs.Got.{Got, is_got}
use Rattle.vd_forest.specs.Store.{at}
use Rattle.vd_value_rules.specs.Indicated.{indicated_in}
use Rattle.vd_meaning.specs.Names.{calls_known}
use Rattle.vd_meaning.specs.Operators.{Operation, function_of, is_local_of, operate, operation, symbol}
use Rattle.vd_meaning.specs.Tables.{Table, is_brought, is_predefined, operand_types}
use Rattle.vd_static_values.specs.Entries.{IsFound, IsFunction, IsGround, entry_at, operate_on, table_of}
use Rattle.vd_static_values.specs.declared.entries.Ground.{Ground}
use Rattle.vd_static_values.proofs.OperationLemmas.{operated_at_mark}
use Rattle.vd_value_rules.specs.Knowledge.{at_mark}
use Rattle.vd_values.specs.declared.scalar.Scalar.{Scalar}

-- what gives one thing gives its equal
pub found_same : {E : Type 0} (answer : Result (Option (Value Scalar)) E) (f g : Got (Value Scalar)) → f ≡ g
    → IfOk answer (λ x. IsFound x f) → IfOk answer (λ x. IsFound x g)
found_same answer f g same found = subst (λ (h : Got (Value Scalar)). IfOk answer (λ x. IsFound x h)) same found

-- ---- what is predefined

pub predefined_value : (t : Table) (n : ℕ) (e : Env) (as' : List Argument) → is_predefined t n ≡ true
    → operate (operation t n) (t.declared n).mark e as' ≡ function_of t n e as'
predefined_value t n e as' is =
    sym (ap (λ b. (if b then operate (operation t n) (t.declared n).mark e else (e.denotes n).function) as') is)

-- ---- how static

by_cases : (given brought local : Bool) (s : Static) → (given || brought) ≡ false
    → (if brought && local then always else (if given || brought then only_global always else s)).is_local ≡ true → s.is_local ≡ true
by_cases true brought local s unlike is = absurd (cc)
by_cases false true local s unlike is = absurd (cc)
by_cases false false local s unlike is = is

-- of what isn't predefined the calls are as static as the table says
pub known_of_text : (t : Table) (n : ℕ) (e : Env) → is_predefined t n ≡ false → (calls_known t n e).is_local ≡ true → (e.denotes n).known.is_local ≡ true
known_of_text t n e unlike local =
    by_cases (nat_lt n t.given) (is_brought (t.declared n).class) (is_local_of t (symbol (t.declared n).name) (operand_types t n)) (e.denotes n).known unlike local

-- ---- values

pub operator_found : (t : Table) (n : ℕ) (e : Env) (as' : List Argument) (op : Operation) (mark : Option ℕ) (i : Indicated)
    → op ≡ operation t n → mark ≡ (t.declared n).mark → i ≡ at_mark mark e → operate_on op i.subtype as' ≡ operate (operation t n) (t.declared n).mark e as'
operator_found t n e as' op mark i same of_type is =
    ap (λ o. operate_on o i.subtype as') same
    ∙ ap (λ (j : Indicated). operate_on (operation t n) j.subtype as') (is ∙ ap (λ m. at_mark m e) of_type)
    ∙ sym (operated_at_mark (operation t n) (t.declared n).mark e as')

pub function_found : (g : Ground) (n : ℕ) (e : Env) (as' : List Argument) (f : ℕ) → IsGround g e → (e.denotes n).known.is_local ≡ true
    → (entry_at g.entries.now n).operator ≡ Some f
    → operate_on (operation (table_of g) f) (indicated_in (at g.subtypes.now (entry_at g.entries.now n).subtype)).subtype as' ≡ (e.denotes n).function as'
function_found g n e as' f ground local is =
    ap (λ (i : Indicated). operate_on (operation (table_of g) f) i.subtype as') (ground n).subtype
    ∙ sym (subst (λ o. IsFunction (table_of g) o (e.denotes n)) is ((ground n).function local) as')

-- what stands for no operator stops
pub no_function : (g : Ground) (n : ℕ) (e : Env) (as' : List Argument) → IsGround g e → (e.denotes n).known.is_local ≡ true
    → (entry_at g.entries.now n).operator ≡ None → is_got ((e.denotes n).function as') ≡ false
no_function g n e as' ground local is =
    ap is_got (subst (λ o. IsFunction (table_of g) o (e.denotes n)) is ((ground n).function local) as')
