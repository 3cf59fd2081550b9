-- The groups are all of the rules.
use Rattle.std.proofs.Common.{◌≡◌, ℕ, Bool, true, false, if◌then◌else◌, List, [], ◌++◌, Option, refl, sym, ap, ap₂, ◌∙◌}
use Rattle.vd_bytes.specs.declared.answers.Refused.{Refused}
use Rattle.vd_bytes.specs.declared.places.Place.{Place}
use Rattle.vd_forest.specs.Forest.{Forest}
use Rattle.vd_forms.specs.declared.form.Form.{Form}
use Rattle.vd_walks.specs.Least.{lesser, all_broken}
use Rattle.vd_resolved.specs.declared.node.Resolved.{Resolved}
use Rattle.vd_value_rules.specs.Designs.{Design, design_of, is_2019}
use Rattle.vd_value_rules.specs.Names.{broken_name, name_broken}
use Rattle.vd_value_rules.specs.Operators.{broken_operator}
use Rattle.vd_value_rules.specs.Types.{broken_types}
use Rattle.vd_walks.proofs.OrderLaws.{lesser_brackets}
use Rattle.vd_value_rules.specs.Rules.{broken_at, is_of_names, value_rules}
use Rattle.vd_value_rules.specs.Standings.{State, beginning, state_along, state_down}
use Rattle.vd_resolved.specs.Trees.{ResolvedTree}
use Rattle.vd_trees.specs.declared.revision.Revision.{Revision}
use Rattle.vd_value_rules.specs.declared.firsts.Firsts.{Firsts}
use Rattle.vd_value_rules.specs.Groups.{Breaking, either_group, firsts_by, is_of_rules, joined_firsts, judge_by, name_used, name_in_function, names_used, names_in_functions, assignments, choices, aggregates, static_expressions, bounds, bodies, instances, view_ports, operators, types}
use Rattle.vd_value_rules.specs.GroupLaws.{GroupsAreAll}
use Rattle.vd_value_rules.proofs.FirstLemmas.{first_of_kind, first_of_both}
use Rattle.vd_value_rules.proofs.WalkLemmas.{first_of_sum}
use Rattle.vd_forms.specs.declared.form.Form.TheVariants as form

-- a name breaks what it breaks where it stands, and what it breaks in a function
of_name : (p : Refused → Bool) (f : Form) (d : Design) (s : State) (place : Place) (parts : Forest Resolved)
    → first_of_kind p (name_broken f d s place parts) ≡ lesser (first_of_kind p (name_used f d s place parts)) (first_of_kind p (name_in_function f d s place parts))
of_name p form.Name d s place parts = first_of_both p (name_used form.Name d s place parts) (name_in_function form.Name d s place parts)
of_name p _ d s place parts = refl

of_either : (p : Refused → Bool) (b : Bool) (rs qs : List Refused)
    → first_of_kind p (if b then rs ++ qs else []) ≡ lesser (first_of_kind p (if b then rs else [])) (first_of_kind p (if b then qs else []))
of_either p true rs qs = first_of_both p rs qs
of_either p false rs qs = refl

-- ---- twelve judges of one walk

twelve : (a b c d e f g h i j k l : Option Refused)
    → lesser a (lesser b (lesser c (lesser d (lesser e (lesser f (lesser g (lesser h (lesser i (lesser j (lesser k l))))))))))
    ≡ lesser (lesser (lesser (lesser (lesser (lesser (lesser (lesser (lesser (lesser a b) c) d) e) f) g) h) i) j) (lesser k l)
twelve a b c d e f g h i j k l = simp lesser_brackets

module _ {F S : Type 0} (p : Refused → Bool) (down along : S → F → List ℕ → Place → Forest F → S) where
  abbrev Breaks : Type 0
  Breaks = S → F → List ℕ → Place → Forest F → List Refused

  -- what two break, and the first refusal of a forest
  abbrev plus : Breaks → Breaks → Breaks
  plus a b s n text place parts = a s n text place parts ++ b s n text place parts

  abbrev first : Breaks → S → Forest F → Option Refused
  first a s f = first_of_kind p (all_broken (record { broken = a; down = down; along = along }) s f)

  abbrev IsSum : Breaks → Breaks → Breaks → Type 0
  IsSum c a b = (s : S) (n : F) (text : List ℕ) (place : Place) (parts : Forest F)
      → first_of_kind p (c s n text place parts) ≡ lesser (first_of_kind p (a s n text place parts)) (first_of_kind p (b s n text place parts))

  of_plus : (a b : Breaks) (s : S) (f : Forest F) → first (plus a b) s f ≡ lesser (first a s f) (first b s f)
  of_plus a b = first_of_sum p down along a b (plus a b) (λ s n text place parts. first_of_both p (a s n text place parts) (b s n text place parts))

  of_all : (all name used inner asg ch ag st bo bd im vp ot op ty : Breaks)
      → ((s : S) (n : F) (text : List ℕ) (place : Place) (parts : Forest F)
      → all s n text place parts ≡ plus (plus (plus (plus (plus (plus (plus (plus (plus name asg) ch) ag) st) bo) bd) im) vp) ot s n text place parts)
      → IsSum name used inner → IsSum ot op ty → (s : S) (f : Forest F)
      → lesser (first used s f) (lesser (first inner s f) (lesser (first asg s f) (lesser (first ch s f) (lesser (first ag s f) (lesser (first st s f)
      (lesser (first bo s f) (lesser (first bd s f) (lesser (first im s f) (lesser (first vp s f) (lesser (first op s f) (first ty s f)))))))))))
      ≡ first all s f
  of_all all name used inner asg ch ag st bo bd im vp ot op ty is_all is_name is_ot s f =
      let two : Breaks = plus name asg in
      let three : Breaks = plus two ch in
      let four : Breaks = plus three ag in
      let five : Breaks = plus four st in
      let six : Breaks = plus five bo in
      let seven : Breaks = plus six bd in
      let eight : Breaks = plus seven im in
      let nine : Breaks = plus eight vp in
      let with_next : (a b : Breaks) (o : Option Refused) → first a s f ≡ o → first (plus a b) s f ≡ lesser o (first b s f) =
      λ a b o is. of_plus a b s f ∙ ap (λ x. lesser x (first b s f)) is in
      let last : first all s f ≡ lesser (first nine s f) (first ot s f) =
      first_of_sum p down along nine ot all
      (λ s n text place parts. ap (first_of_kind p) (is_all s n text place parts) ∙ first_of_both p (nine s n text place parts) (ot s n text place parts)) s f in
      twelve (first used s f) (first inner s f) (first asg s f) (first ch s f) (first ag s f) (first st s f) (first bo s f) (first bd s f) (first im s f) (first vp s f) (first op s f) (first ty s f)
      ∙ sym (last ∙ ap₂ lesser
      (with_next eight vp _ (with_next seven im _ (with_next six bd _ (with_next five bo _ (with_next four st _ (with_next three ag _ (with_next two ch _ (with_next name asg _
      (first_of_sum p down along used inner name is_name s f)))))))))
      (first_of_sum p down along op ty ot is_ot s f))

abbrev first_in : (Refused → Bool) → Design → Breaking → State → Forest Resolved → Option Refused
first_in p d broken s f = first_of_kind p (all_broken (judge_by broken d) s f)

-- the first refusal of a kind in all groups
groups_of_kind : (p : Refused → Bool) (d : Design) (s : State) (f : Forest Resolved)
    → lesser (first_in p d names_used s f) (lesser (first_in p d names_in_functions s f) (lesser (first_in p d assignments s f)
    (lesser (first_in p d choices s f) (lesser (first_in p d aggregates s f) (lesser (first_in p d static_expressions s f)
    (lesser (first_in p d bounds s f) (lesser (first_in p d bodies s f) (lesser (first_in p d instances s f)
    (lesser (first_in p d view_ports s f) (lesser (first_in p d operators s f) (first_in p d types s f)))))))))))
    ≡ first_of_kind p (all_broken (value_rules d) s f)
groups_of_kind p d s f =
    of_all p (state_down d) (state_along d) (broken_at d) (λ s n text place parts. broken_name d s n place parts) (names_used d) (names_in_functions d) (assignments d) (choices d)
    (aggregates d) (static_expressions d) (bounds d) (bodies d) (instances d) (view_ports d)
    (λ s n text place parts. if is_2019 d.revision then broken_operator d n place parts ++ broken_types d s n parts else []) (operators d) (types d)
    (λ s n text place parts. refl)
    (λ s n text place parts. of_name p n.form d s place parts)
    (λ s n text place parts. of_either p (is_2019 d.revision) (broken_operator d n place parts) (broken_types d s n parts)) s f

pub groups_are_all : GroupsAreAll
groups_are_all r tree =
    let both : Option Refused → Option Refused → Firsts = λ a b. record { of_names = a; of_rules = b } in
    ap₂ both (groups_of_kind is_of_names (design_of r tree) beginning tree.units) (groups_of_kind is_of_rules (design_of r tree) beginning tree.units)

-- the first refusals of two groups together
pub firsts_of_either : (one other : Breaking) (r : Revision) (tree : ResolvedTree)
    → firsts_by (either_group one other) r tree ≡ joined_firsts (firsts_by one r tree) (firsts_by other r tree)
firsts_of_either one other r tree =
    let both : Option Refused → Option Refused → Firsts = λ a b. record { of_names = a; of_rules = b } in
    let d : Design = design_of r tree in
    ap₂ both (of_plus is_of_names (state_down d) (state_along d) (one d) (other d) beginning tree.units)
    (of_plus is_of_rules (state_down d) (state_along d) (one d) (other d) beginning tree.units)
