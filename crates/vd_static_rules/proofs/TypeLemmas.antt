-- The actuals of generics that are types.
use Rattle.std.proofs.Common.{◌≡◌, ◌∙◌, ◌&&◌, Bool, List, None, Option, Some, ap, ap₂, not, refl, subst, sym, true, ℕ}
use Rattle.std.specs.Prelude.{Err, IfOk, Ok, Result}
use Rattle.vd_bytes.specs.declared.answers.Refused.{Refused}
use Rattle.vd_bytes.specs.declared.places.Place.{Place}
use Rattle.vd_environments.specs.Environments.{Env}
use Rattle.vd_operations.proofs.PassingLemmas.{nth_skipped}
use Rattle.vd_forest.specs.Forest.{Forest, more, nothing, skipped}
use Rattle.vd_forms.specs.declared.form.Form.{Form}
use Rattle.vd_forms.specs.declared.form.Form.TheVariants as form
use Rattle.vd_walks.specs.Least.{least_of, lesser}
use Rattle.vd_meaning.specs.Facets.{Meaning, nth}
use Rattle.vd_meaning.specs.Meanings.{made, meanings}
use Rattle.vd_meaning.specs.Names.{number_or}
use Rattle.vd_meaning.specs.Tables.{actual_mark, pairs}
use Rattle.vd_resolved.specs.declared.node.Resolved.{Resolved}
use Rattle.vd_value_rules.specs.Groups.{firsts_of}
use Rattle.vd_value_rules.specs.declared.firsts.Firsts.{Firsts}
use Rattle.vd_static_rules.proofs.RuleLemmas.{AreRules, one_more_refused, rules_alone, rules_both, rules_if}
use Rattle.vd_static_rules.specs.Elements.{formal_or}
use Rattle.vd_value_rules.specs.Choices.{first_meaning}
use Rattle.vd_value_rules.specs.Designs.{Design, class_of}
use Rattle.vd_value_rules.specs.Judging.{refused_if}
use Rattle.vd_value_rules.specs.Knowledge.{meaning_at, parts_at}
use Rattle.vd_value_rules.specs.Standings.{first_number, formal_of_element, further_numbers, is_bounded_object}
use Rattle.vd_value_rules.specs.StaticNames.{place_of_actual}
use Rattle.vd_value_rules.specs.Types.{base_of, copy_of, is_refused_type, is_type_generic, may_be_actual, type_actuals, types_broken, types_of_instance}

-- ---- one element more

pub type_more : (d : Design) (e : Env) (cs : List (ℕ × ℕ)) (ns : List ℕ) (f : Forest Resolved) (n : Resolved) (text : List ℕ) (place : Place) (parts next : Forest Resolved)
    (before now all : Option Refused) (b : Bool) (formal copy : Option ℕ) (left : List ℕ) (at : Place) (one : Option Refused)
    → f ≡ more n text place parts next → formal ≡ formal_or (first_number ns) (nth 0 (meanings d.table f)) → copy ≡ copy_of cs formal → b ≡ is_refused_type d e formal copy
    → at ≡ place_of_actual n.form place parts → one ≡ least_of (refused_if b at 415) → now ≡ lesser before one → left ≡ further_numbers ns
    → lesser before (least_of (type_actuals d e cs ns f)) ≡ all → lesser now (least_of (type_actuals d e cs left next)) ≡ all
type_more d e cs ns f n text place parts next before now all b formal copy left at one is is_formal is_copy is_refused is_at is_one is_now is_left so_far =
    let own = formal_of_element (first_meaning d (more n text place parts nothing)) ns in
    let here = refused_if (is_refused_type d e own (copy_of cs own)) (place_of_actual n.form place parts) 415 in
    let formal_is : formal ≡ own = is_formal ∙ ap (λ g. formal_or (first_number ns) (nth 0 (meanings d.table g))) is in
    let refused_is : b ≡ is_refused_type d e own (copy_of cs own) = is_refused ∙ ap₂ (is_refused_type d e) formal_is (is_copy ∙ ap (copy_of cs) formal_is) in
    let one_is : one ≡ least_of here = is_one ∙ ap₂ (λ x y. least_of (refused_if x y 415)) refused_is is_at in
    ap₂ (λ x y. lesser x (least_of (type_actuals d e cs y next))) (is_now ∙ ap (lesser before) one_is) is_left
    ∙ one_more_refused before here (type_actuals d e cs (further_numbers ns) next)
    ∙ sym (ap (λ g. lesser before (least_of (type_actuals d e cs ns g))) is) ∙ so_far

-- ---- refusals of rules alone

actual_rules : (d : Design) (e : Env) (cs : List (ℕ × ℕ)) (ns : List ℕ) (f : Forest Resolved) → AreRules (type_actuals d e cs ns f)
actual_rules d e cs ns nothing = tt
actual_rules d e cs ns (more n text place parts next) =
    let own = formal_of_element (first_meaning d (more n text place parts nothing)) ns in
    let b = is_refused_type d e own (copy_of cs own) in
    rules_both (refused_if b (place_of_actual n.form place parts) 415) (type_actuals d e cs (further_numbers ns) next)
    (rules_if b (place_of_actual n.form place parts) 415 refl) (actual_rules d e cs (further_numbers ns) next)

instance_rules : (d : Design) (e : Env) (generic instance : ℕ) (f : Forest Resolved) → AreRules (types_of_instance d e generic instance f)
instance_rules d e generic instance f =
    actual_rules d e (pairs (d.table.declared generic).generics (d.table.declared instance).generics) (d.table.declared generic).generics f

node_rules : (f : Form) (d : Design) (e : Env) (n : Resolved) (parts : Forest Resolved) → AreRules (types_broken f d e n parts)
node_rules form.PackageInstantiation d e n parts =
    instance_rules d e (number_or (meaning_at d 1 parts).declaration) (number_or (made n (meaning_at d 0 parts))) (parts_at 2 parts)
node_rules form.FunctionInstantiation d e n parts =
    instance_rules d e (number_or (meaning_at d 2 parts).declaration) (number_or (made n (meaning_at d 1 parts))) (parts_at 3 parts)
node_rules _ d e n parts = tt

pub type_firsts : (d : Design) (e : Env) (n : Resolved) (parts : Forest Resolved) (found : Option Refused) → found ≡ least_of (types_broken n.form d e n parts)
    → let firsts : Firsts = record { of_names = None; of_rules = found } in firsts ≡ firsts_of (types_broken n.form d e n parts)
type_firsts d e n parts found is =
    ap (λ o. record { of_names = None; of_rules = o }) is ∙ sym (rules_alone (types_broken n.form d e n parts) (node_rules n.form d e n parts))

-- ---- instances

-- what is read of a part
pub at_part : {B : Type 0} (d : Design) (n : ℕ) (parts skips : Forest Resolved) (of : Meaning → B) → skips ≡ skipped n parts
    → of (nth 0 (meanings d.table skips)) ≡ of (meaning_at d n parts)
at_part d n parts skips of is = ap (λ f. of (nth 0 (meanings d.table f))) is ∙ ap of (sym (nth_skipped n d.table parts))

pub instance_same : {E : Type 0} (d : Design) (e : Env) (r : Result (Option Refused) E) (g h i j : ℕ) (f elements : Forest Resolved) → g ≡ h → i ≡ j → f ≡ elements
    → IfOk r (λ found. found ≡ least_of (types_of_instance d e g i f)) → IfOk r (λ found. found ≡ least_of (types_of_instance d e h j elements))
instance_same d e (Ok found) g h i j f elements generic instance are is =
    is ∙ ap (λ x. least_of (types_of_instance d e x i f)) generic ∙ ap (λ x. least_of (types_of_instance d e h x f)) instance ∙ ap (λ x. least_of (types_of_instance d e h j x)) are
instance_same d e (Err err) g h i j f elements generic instance are is = tt

pub package_types : {E : Type 0} (d : Design) (e : Env) (f : Form) (n : Resolved) (parts : Forest Resolved) (r : Result (Option Refused) E) (generic instance : ℕ) (elements : Forest Resolved)
    → f ≡ form.PackageInstantiation → generic ≡ number_or (meaning_at d 1 parts).declaration → instance ≡ number_or (made n (meaning_at d 0 parts)) → elements ≡ parts_at 2 parts
    → IfOk r (λ found. found ≡ least_of (types_of_instance d e generic instance elements)) → IfOk r (λ found. found ≡ least_of (types_broken f d e n parts))
package_types d e f n parts r generic instance elements is names made_is are found =
    subst (λ g. IfOk r (λ o. o ≡ least_of (types_broken g d e n parts))) (sym is)
    (instance_same d e r generic (number_or (meaning_at d 1 parts).declaration) instance (number_or (made n (meaning_at d 0 parts))) elements (parts_at 2 parts) names made_is are found)

pub function_types : {E : Type 0} (d : Design) (e : Env) (f : Form) (n : Resolved) (parts : Forest Resolved) (r : Result (Option Refused) E) (generic instance : ℕ) (elements : Forest Resolved)
    → f ≡ form.FunctionInstantiation → generic ≡ number_or (meaning_at d 2 parts).declaration → instance ≡ number_or (made n (meaning_at d 1 parts)) → elements ≡ parts_at 3 parts
    → IfOk r (λ found. found ≡ least_of (types_of_instance d e generic instance elements)) → IfOk r (λ found. found ≡ least_of (types_broken f d e n parts))
function_types d e f n parts r generic instance elements is names made_is are found =
    subst (λ g. IfOk r (λ o. o ≡ least_of (types_broken g d e n parts))) (sym is)
    (instance_same d e r generic (number_or (meaning_at d 2 parts).declaration) instance (number_or (made n (meaning_at d 1 parts))) elements (parts_at 3 parts) names made_is are found)

-- ---- one actual

pub may_be : (d : Design) (e : Env) (n base : ℕ) (bounded generic : Bool) → bounded ≡ is_bounded_object e n → bounded ≡ true → generic ≡ is_type_generic (class_of d base)
    → base ≡ base_of d n → not generic ≡ may_be_actual d e n
may_be d e n base bounded generic is_bounded holds is_generic is_base =
    ap not (is_generic ∙ ap (λ b. is_type_generic (class_of d b)) is_base)
    ∙ ap (λ b. b && not (is_type_generic (class_of d (base_of d n)))) (sym holds ∙ is_bounded)

pub refused_by : (d : Design) (e : Env) (formal copy mark : ℕ) (generic may : Bool) → mark ≡ actual_mark d.table copy → may ≡ may_be_actual d e mark
    → generic ≡ is_type_generic (class_of d formal) → generic ≡ true → not may ≡ is_refused_type d e (Some formal) (Some copy)
refused_by d e formal copy mark generic may is_mark is_may is_generic holds =
    ap not (is_may ∙ ap (may_be_actual d e) is_mark)
    ∙ ap (λ b. b && not (may_be_actual d e (actual_mark d.table copy))) (sym holds ∙ is_generic)
