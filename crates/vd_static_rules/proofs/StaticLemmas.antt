-- What must be known in elaboration, and the names of sensitivity lists: refusals of rules alone.
use Rattle.std.proofs.Common.{◌≡◌, ◌++◌, ◌∙◌, ◌&&◌, ◌⊎◌, [], Bool, List, None, Option, ap, ap₂, false, if◌then◌else◌, inl, inr, is_some, not, refl, subst, sym, true, ℕ}
use Rattle.std.specs.Prelude.{Err, IfOk, Ok, Result}
use Rattle.vd_bytes.specs.declared.answers.Refused.{Refused}
use Rattle.vd_bytes.specs.declared.places.Place.{Place}
use Rattle.vd_environments.specs.Environments.{Env, is_static}
use Rattle.vd_operations.proofs.PassingLemmas.{nth_skipped}
use Rattle.vd_forest.specs.Forest.{Forest, more, nothing, parts_of, skipped}
use Rattle.vd_forms.specs.declared.form.Form.{Form}
use Rattle.vd_forms.specs.declared.form.Form.TheVariants as form
use Rattle.vd_value_rules.specs.Indicated.{static_of}
use Rattle.vd_value_rules.specs.declared.statics.StaticSort.{StaticSort}
use Rattle.vd_walks.proofs.LeastLaws.{least_of_append}
use Rattle.vd_walks.specs.Least.{least_of, lesser}
use Rattle.vd_meaning.specs.Facets.{Meaning, nth}
use Rattle.vd_meaning.specs.Meanings.{meanings}
use Rattle.vd_resolved.specs.declared.node.Resolved.{Resolved}
use Rattle.vd_value_rules.specs.Groups.{firsts_of}
use Rattle.vd_value_rules.specs.declared.firsts.Firsts.{Firsts}
use Rattle.vd_static_rules.proofs.RuleLemmas.{AreRules, one_more_refused, rules_alone, rules_both, rules_if}
use Rattle.vd_static_rules.specs.Elements.{formal_or}
use Rattle.vd_value_rules.specs.Designs.{Design}
use Rattle.vd_value_rules.specs.Choices.{first_meaning, place_at}
use Rattle.vd_value_rules.specs.Judging.{refused_if}
use Rattle.vd_value_rules.specs.Knowledge.{meaning_at, parts_at}
use Rattle.vd_value_rules.specs.Standings.{first_number, formal_of_element, further_numbers, generics_of}
use Rattle.vd_value_rules.specs.StaticNames.{is_later_actual, is_of_constant, is_static_signal, known_at, later_actuals_of, meaning_of_actual, not_global, not_global_if_there, not_static_signals, place_of_actual, sensitivity_broken, static_broken}

module _ (d : Design) (e : Env) where
  part_rules : (n : ℕ) (parts : Forest Resolved) → AreRules (not_global d e n parts)
  part_rules n parts = rules_if (not (is_static (known_at d e n parts))) (place_at n parts) 406 refl

  there_rules : (n : ℕ) (parts : Forest Resolved) (b : Bool) → AreRules (if b then not_global d e n parts else [])
  there_rules n parts true = part_rules n parts
  there_rules n parts false = tt

  actual_rules : (ns : List ℕ) (f : Forest Resolved) → AreRules (later_actuals_of d e ns f)
  actual_rules ns nothing = tt
  actual_rules ns (more n text place parts next) =
      let m = first_meaning d (more n text place parts nothing) in
      let here = refused_if (is_later_actual d e (meaning_of_actual n.form d parts m) (formal_of_element m ns)) (place_of_actual n.form place parts) 406 in
      rules_both here (later_actuals_of d e (further_numbers ns) next)
      (rules_if (is_later_actual d e (meaning_of_actual n.form d parts m) (formal_of_element m ns)) (place_of_actual n.form place parts) 406 refl)
      (actual_rules (further_numbers ns) next)

  signal_rules : (f : Forest Resolved) → AreRules (not_static_signals d e f)
  signal_rules nothing = tt
  signal_rules (more n text place parts next) =
      let b = not (is_static_signal e (first_meaning d (more n text place parts nothing))) in
      rules_both (refused_if b place 407) (not_static_signals d e next) (rules_if b place 407 refl) (signal_rules next)

  static_rules : (f : Form) (parts : Forest Resolved) → AreRules (static_broken f d e parts)
  static_rules form.IfGenerate parts = part_rules 0 parts
  static_rules form.ElsifGenerate parts = part_rules 0 parts
  static_rules form.ForGenerate parts = part_rules 1 parts
  static_rules form.CaseGenerate parts = part_rules 0 parts
  static_rules form.PortDeclaration parts = there_rules 4 parts (meaning_at d 4 parts).is_present
  static_rules form.PackageInstantiation parts = actual_rules (generics_of d (meaning_at d 1 parts).declaration) (parts_at 2 parts)
  static_rules _ parts = tt

  sensitivity_rules : (f : Form) (parts : Forest Resolved) → AreRules (sensitivity_broken f d e parts)
  sensitivity_rules form.SensitivityList parts = signal_rules parts
  sensitivity_rules _ parts = tt

  pub node_rules : (f : Form) (parts : Forest Resolved) → AreRules (static_broken f d e parts ++ sensitivity_broken f d e parts)
  node_rules f parts = rules_both (static_broken f d e parts) (sensitivity_broken f d e parts) (static_rules f parts) (sensitivity_rules f parts)

-- ---- one part

-- what is read of a part
pub at_part : {B : Type 0} (d : Design) (n : ℕ) (parts skips : Forest Resolved) (of : Meaning → B) → skips ≡ skipped n parts
    → of (nth 0 (meanings d.table skips)) ≡ of (meaning_at d n parts)
at_part d n parts skips of is = ap (λ f. of (nth 0 (meanings d.table f))) is ∙ ap of (sym (nth_skipped n d.table parts))

pub part_refused : (d : Design) (e : Env) (n : ℕ) (parts skips : Forest Resolved) (found : Option Refused) (b : Bool) (s : StaticSort) (place : Place)
    → found ≡ least_of (refused_if (not b) place 406) → b ≡ is_static (static_of s) → static_of s ≡ (nth 0 (meanings d.table skips)).known e
    → skips ≡ skipped n parts → place ≡ place_at n parts → found ≡ least_of (not_global d e n parts)
part_refused d e n parts skips found b s place is static known part at =
    is ∙ ap (λ c. least_of (refused_if (not c) place 406)) (static ∙ ap is_static (known ∙ at_part d n parts skips (λ m. m.known e) part))
    ∙ ap (λ p. least_of (refused_if (not (is_static (known_at d e n parts))) p 406)) at

pub there_refused : {E : Type 0} (d : Design) (e : Env) (n : ℕ) (parts : Forest Resolved) (r : Result (Option Refused) E) → (meaning_at d n parts).is_present ≡ true
    → IfOk r (λ found. found ≡ least_of (not_global d e n parts)) → IfOk r (λ found. found ≡ least_of (not_global_if_there d e n parts))
there_refused d e n parts (Ok found) there is = is ∙ ap (λ b. least_of (if b then not_global d e n parts else [])) (sym there)
there_refused d e n parts (Err err) there is = tt

pub absent_refused : (d : Design) (e : Env) (n : ℕ) (parts : Forest Resolved) → (meaning_at d n parts).is_present ≡ false
    → let none : Option Refused = None in none ≡ least_of (not_global_if_there d e n parts)
absent_refused d e n parts absent = ap (λ b. least_of (if b then not_global d e n parts else [])) (sym absent)

-- ---- actuals

pub not_of_constant : (d : Design) (e : Env) (m : Meaning) (formal : Option ℕ) → is_of_constant d formal ≡ false → false ≡ is_later_actual d e m formal
not_of_constant d e m formal is = sym (ap (λ b. b && (not m.is_open && not (is_static (m.known e)))) is)

pub is_later : (d : Design) (e : Env) (m : Meaning) (formal : Option ℕ) (r opened known : Bool) (s : StaticSort) → is_of_constant d formal ≡ true → r ≡ (not opened && not known)
    → opened ≡ m.is_open → known ≡ is_static (static_of s) → static_of s ≡ m.known e → r ≡ is_later_actual d e m formal
is_later d e m formal r opened known s constant is is_opened is_known static =
    is ∙ ap₂ (λ a b. not a && not b) is_opened (is_known ∙ ap is_static static) ∙ sym (ap (λ b. b && (not m.is_open && not (is_static (m.known e)))) constant)

pub actual_more : (d : Design) (e : Env) (ns : List ℕ) (f : Forest Resolved) (n : Resolved) (text : List ℕ) (place : Place) (parts next : Forest Resolved) (actual : Forest Resolved)
    (before now all : Option Refused) (b : Bool) (formal : Option ℕ) (left : List ℕ) (at : Place) (one : Option Refused)
    → f ≡ more n text place parts next → formal ≡ formal_or (first_number ns) (nth 0 (meanings d.table f)) → b ≡ is_later_actual d e (nth 0 (meanings d.table actual)) formal
    → nth 0 (meanings d.table actual) ≡ meaning_of_actual n.form d parts (nth 0 (meanings d.table f)) → at ≡ place_of_actual n.form place parts
    → one ≡ least_of (refused_if b at 406) → now ≡ lesser before one → left ≡ further_numbers ns
    → lesser before (least_of (later_actuals_of d e ns f)) ≡ all → lesser now (least_of (later_actuals_of d e left next)) ≡ all
actual_more d e ns f n text place parts next actual before now all b formal left at one is is_formal is_later_one is_actual is_at is_one is_now is_left so_far =
    let m = first_meaning d (more n text place parts nothing) in
    let here = refused_if (is_later_actual d e (meaning_of_actual n.form d parts m) (formal_of_element m ns)) (place_of_actual n.form place parts) 406 in
    let same : nth 0 (meanings d.table f) ≡ m = ap (λ g. nth 0 (meanings d.table g)) is in
    let formal_is : formal ≡ formal_of_element m ns = is_formal ∙ ap (formal_or (first_number ns)) same in
    let later_is : b ≡ is_later_actual d e (meaning_of_actual n.form d parts m) (formal_of_element m ns) =
    is_later_one ∙ ap₂ (λ x y. is_later_actual d e x y) (is_actual ∙ ap (meaning_of_actual n.form d parts) same) formal_is in
    let one_is : one ≡ least_of here = is_one ∙ ap₂ (λ x y. least_of (refused_if x y 406)) later_is is_at in
    ap₂ (λ x y. lesser x (least_of (later_actuals_of d e y next))) (is_now ∙ ap (lesser before) one_is) is_left
    ∙ one_more_refused before here (later_actuals_of d e (further_numbers ns) next)
    ∙ sym (ap (λ g. lesser before (least_of (later_actuals_of d e ns g))) is) ∙ so_far

-- ---- names

pub signal_more : (d : Design) (e : Env) (f : Forest Resolved) (n : Resolved) (text : List ℕ) (place : Place) (parts next : Forest Resolved) (before now one all : Option Refused) (b : Bool)
    → f ≡ more n text place parts next → b ≡ is_static_signal e (nth 0 (meanings d.table f)) → one ≡ least_of (refused_if (not b) place 407) → now ≡ lesser before one
    → lesser before (least_of (not_static_signals d e f)) ≡ all → lesser now (least_of (not_static_signals d e next)) ≡ all
signal_more d e f n text place parts next before now one all b is is_signal is_one is_now so_far =
    let m = first_meaning d (more n text place parts nothing) in
    let here = refused_if (not (is_static_signal e m)) place 407 in
    let one_is : one ≡ least_of here = is_one ∙ ap (λ x. least_of (refused_if (not x) place 407)) (is_signal ∙ ap (λ g. is_static_signal e (nth 0 (meanings d.table g))) is) in
    ap (λ x. lesser x (least_of (not_static_signals d e next))) (is_now ∙ ap (lesser before) one_is)
    ∙ one_more_refused before here (not_static_signals d e next)
    ∙ sym (ap (λ g. lesser before (least_of (not_static_signals d e g))) is) ∙ so_far

-- ---- a node

pub static_firsts : (d : Design) (e : Env) (f : Form) (parts : Forest Resolved) (a b c : Option Refused) → a ≡ least_of (static_broken f d e parts)
    → b ≡ least_of (sensitivity_broken f d e parts) → c ≡ lesser a b
    → let firsts : Firsts = record { of_names = None; of_rules = c } in firsts ≡ firsts_of (static_broken f d e parts ++ sensitivity_broken f d e parts)
static_firsts d e f parts a b c is_a is_b is_c =
    let both = is_c ∙ ap₂ lesser is_a is_b ∙ sym (least_of_append (static_broken f d e parts) (sensitivity_broken f d e parts)) in
    ap (λ o. record { of_names = None; of_rules = o }) both
    ∙ sym (rules_alone (static_broken f d e parts ++ sensitivity_broken f d e parts) (node_rules d e f parts))

pub package_refused : {E : Type 0} (d : Design) (e : Env) (parts behind unit elements : Forest Resolved) (generics : List ℕ) (id : Option ℕ) (r : Result (Option Refused) E)
    → generics ≡ generics_of d id → id ≡ (nth 0 (meanings d.table unit)).declaration → unit ≡ skipped 1 parts → elements ≡ parts_of behind → behind ≡ skipped 2 parts
    → IfOk r (λ found. found ≡ least_of (later_actuals_of d e generics elements))
    → IfOk r (λ found. found ≡ least_of (static_broken form.PackageInstantiation d e parts))
package_refused d e parts behind unit elements generics id r are names unit_is elements_are behind_is found =
    subst (λ ns. IfOk r (λ o. o ≡ least_of (later_actuals_of d e ns (parts_at 2 parts)))) (are ∙ ap (generics_of d) (names ∙ at_part d 1 parts unit (λ m. m.declaration) unit_is))
    (subst (λ f. IfOk r (λ o. o ≡ least_of (later_actuals_of d e generics f))) (elements_are ∙ ap parts_of behind_is) found)

-- a name that is a signal, and whole
pub is_whole_signal : (e : Env) (m : Meaning) (r signal whole : Bool) → r ≡ (signal && whole) → is_some m.name.prefix ≡ signal → m.name.is_whole e ≡ whole → r ≡ is_static_signal e m
is_whole_signal e m r signal whole is is_signal is_whole = is ∙ ap₂ (λ a b. a && b) (sym is_signal) (sym is_whole)

-- what is found for a form, for its equal
pub form_refused : {E : Type 0} (d : Design) (e : Env) (f g : Form) (parts : Forest Resolved) (r : Result (Option Refused) E) → f ≡ g
    → IfOk r (λ found. found ≡ least_of (static_broken g d e parts)) → IfOk r (λ found. found ≡ least_of (static_broken f d e parts))
form_refused d e f g parts r is found = subst (λ h. IfOk r (λ o. o ≡ least_of (static_broken h d e parts))) (sym is) found

pub list_refused : {E : Type 0} (d : Design) (e : Env) (f : Form) (parts : Forest Resolved) (r : Result (Option Refused) E) → f ≡ form.SensitivityList
    → IfOk r (λ found. found ≡ least_of (not_static_signals d e parts)) → IfOk r (λ found. found ≡ least_of (sensitivity_broken f d e parts))
list_refused d e f parts r is found = subst (λ h. IfOk r (λ o. o ≡ least_of (sensitivity_broken h d e parts))) (sym is) found

-- forms whose first part must be known
pub generates_refused : {E : Type 0} (d : Design) (e : Env) (f : Form) (parts : Forest Resolved) (r : Result (Option Refused) E)
    → (f ≡ form.IfGenerate) ⊎ ((f ≡ form.ElsifGenerate) ⊎ (f ≡ form.CaseGenerate)) → IfOk r (λ found. found ≡ least_of (not_global d e 0 parts))
    → IfOk r (λ found. found ≡ least_of (static_broken f d e parts))
generates_refused d e f parts r (inl is) found = form_refused d e f form.IfGenerate parts r is found
generates_refused d e f parts r (inr (inl is)) found = form_refused d e f form.ElsifGenerate parts r is found
generates_refused d e f parts r (inr (inr is)) found = form_refused d e f form.CaseGenerate parts r is found
