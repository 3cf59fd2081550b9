-- What the walk comes to is what the group refuses. No name has a dash, so that a caller can name each in `#[tactic(auto, using(..))]`.
use Rattle.std.proofs.Common.{◌≡◌, Bool, List, None, Option, Some, [], ap, false, refl, sym, true, ℕ, ◌∙◌}
use Rattle.std.specs.Prelude.{if◌then◌else◌}
use Rattle.std.specs.List.{filter}
use Rattle.vd_bytes.specs.declared.answers.Refused.{Refused}
use Rattle.vd_bytes.specs.declared.places.Place.{Place}
use Rattle.vd_forest.specs.Forest.{Forest, more, nothing}
use Rattle.vd_forms.specs.declared.form.Form.{Form}
use Rattle.vd_function_names.specs.Functions.{among, is_function, names_walker}
use Rattle.vd_walks.proofs.OrderLaws.{lesser_brackets}
use Rattle.vd_walks.specs.Least.{Judge, least, least_of, lesser}
use Rattle.vd_resolved.specs.Trees.{ResolvedTree}
use Rattle.vd_resolved.specs.declared.node.Resolved.{Resolved}
use Rattle.vd_value_rules.proofs.WalkLemmas.{firsts_of_rules_alone, least_alike}
use Rattle.vd_value_rules.specs.Groups.{firsts_by, judge_by, name_in_function, names_in_functions}
use Rattle.vd_value_rules.specs.declared.firsts.Firsts.{Firsts}
use Rattle.vd_trees.specs.declared.revision.Revision.{Revision}
use Rattle.vd_value_rules.specs.Designs.{Design, design_of}
use Rattle.vd_value_rules.specs.Names.{broken_in_function, is_foreign}
use Rattle.vd_value_rules.specs.Judging.{refused_if}
use Rattle.vd_value_rules.specs.Rules.{is_of_names}
use Rattle.vd_value_rules.specs.Reaching.{reached}
use Rattle.vd_value_rules.specs.Standings.{State, beginning, locals_down}
use Rattle.vd_walks.specs.Walking.{Entry, Inside, Walked, followed, through, walked}
use Rattle.vd_forms.specs.declared.form.Form.TheVariants as form

-- ---- of the state the variables alone count

abbrev pub names_judge : Design → Judge Resolved (Option (List ℕ))
names_judge d = record {
  broken = λ locals n text place parts. name_in_function n.form d (among locals) place parts;
  down = λ locals n text place parts. locals_down n.form d parts locals;
  along = λ locals n text place parts. locals;
}

same_name : (f : Form) (d : Design) (s : State) (place : Place) (parts : Forest Resolved)
    → name_in_function f d (among s.locals) place parts ≡ name_in_function f d s place parts
same_name form.Name d s place parts = refl
same_name _ d s place parts = refl

none_of_names : (f : Form) (d : Design) (s : State) (place : Place) (parts : Forest Resolved) → filter is_of_names (name_in_function f d s place parts) ≡ []
none_of_names form.Name d s place parts = by s.locals
  where
    by_case : (b : Bool) → filter is_of_names (refused_if b place 409) ≡ []
    by_case true = refl
    by_case false = refl

    by : (locals : Option (List ℕ)) → filter is_of_names (broken_in_function locals d place (reached d parts)) ≡ []
    by None = refl
    by (Some locals) = by_case (is_foreign locals d (reached d parts))
none_of_names _ d s place parts = refl

same_least : (d : Design) (s : State) (f : Forest Resolved) → least (names_judge d) s.locals f ≡ least (judge_by names_in_functions d) s f
same_least d s f =
    least_alike (names_judge d) (judge_by names_in_functions d) (λ locals t. t.locals ≡ locals)
    (λ locals t n text place parts alike. ap (λ ls. name_in_function n.form d (among ls) place parts) (sym alike) ∙ same_name n.form d t place parts)
    (λ locals t n text place parts alike. ap (locals_down n.form d parts) alike)
    (λ locals t n text place parts alike. alike)
    s.locals s f refl

-- ---- the walk

no_name : (f : Form) → is_function f ≡ true → (d : Design) (s : State) (place : Place) (parts : Forest Resolved) → name_in_function f d s place parts ≡ []
no_name form.Name is d s place parts = cc
no_name _ is d s place parts = refl

same_locals : (f : Form) → is_function f ≡ false → (d : Design) (parts : Forest Resolved) (locals : Option (List ℕ)) → locals_down f d parts locals ≡ locals
same_locals form.FunctionBody is d parts locals = cc
same_locals form.FunctionDeclaration is d parts locals = cc
same_locals form.GenericFunction is d parts locals = cc
same_locals _ is d parts locals = refl

module _ {G D : Type 0} (d : Design) where
  abbrev refusing : Option (List ℕ) → D → Option Refused → Walked G (Option (List ℕ)) D
  refusing locals table first = record { tree = nothing; at = locals; design = table; first = first }

  -- a node, where its parts come to what is refused in them
  module _ (n : Resolved) (text : List ℕ) (place : Place) (parts : Forest Resolved) (inner : Option (List ℕ) → D → Walked G (Option (List ℕ)) D) (locals : Option (List ℕ)) (table : D) (inside : (ls : Option (List ℕ)) → inner ls table ≡ refusing ls table (least (names_judge d) ls parts)) where
    abbrev entered : Bool → Entry G (Option (List ℕ)) D (Option (Option (List ℕ)))
    entered b = if b then Inside (locals_down n.form d parts locals) table (Some locals) else Inside locals table None

    abbrev wanted : Walked G (Option (List ℕ)) D
    wanted = refusing locals table (lesser (least_of (name_in_function n.form d (among locals) place parts)) (least (names_judge d) (locals_down n.form d parts locals) parts))

    node_is : (b : Bool) → is_function n.form ≡ b → through (names_walker d) n text place parts inner (entered b) ≡ wanted
    node_is true is =
        let down = locals_down n.form d parts locals in
        ap (λ w. (names_walker d).leave (Some locals) n text place parts w) (inside down)
        ∙ ap (λ rs. refusing locals table (lesser (least_of rs) (least (names_judge d) down parts)))
        (no_name n.form is d (among down) place parts ∙ sym (no_name n.form is d (among locals) place parts))
    node_is false is =
        ap (λ w. (names_walker d).leave None n text place parts w) (inside locals)
        ∙ ap (λ ls. refusing locals table (lesser (least_of (name_in_function n.form d (among locals) place parts)) (least (names_judge d) ls parts)))
        (sym (same_locals n.form is d parts locals))

  pub walk_is : (f : Forest Resolved) (locals : Option (List ℕ)) (table : D)
      → walked (names_walker d) f locals table ≡ refusing locals table (least (names_judge d) locals f)
  walk_is nothing locals table = refl
  walk_is (more n text place parts next) locals table =
      let here = least_of (name_in_function n.form d (among locals) place parts) in
      let inside = least (names_judge d) (locals_down n.form d parts locals) parts in
      let after = least (names_judge d) locals next in
      ap (λ o. followed o (walked (names_walker d) next))
      (node_is n text place parts (walked (names_walker d) parts) locals table (λ ls. walk_is parts ls table) (is_function n.form) refl)
      ∙ ap (λ (o : Walked G (Option (List ℕ)) D). record o { first = lesser (lesser here inside) o.first }) (walk_is next locals table)
      ∙ ap (refusing locals table) (lesser_brackets here inside after)

-- ---- the first refusals

pub firsts_are : {G D : Type 0} (r : Revision) (tree : ResolvedTree) (table : D) (units : Forest Resolved) (w : Walked G (Option (List ℕ)) D) (first : Option Refused)
    → units ≡ tree.units → w ≡ walked (names_walker (design_of r tree)) units None table → first ≡ w.first
    → record { of_names = None; of_rules = first } ≡ firsts_by names_in_functions r tree
firsts_are {G} {D} r tree table units w first units_are is first_is =
    let d = design_of r tree in
    let firsts : Option Refused → Firsts = λ o. record { of_names = None; of_rules = o } in
    ap firsts
    (first_is
    ∙ ap (λ (o : Walked G (Option (List ℕ)) D). o.first) (is ∙ ap (λ f. walked (names_walker d) f None table) units_are ∙ walk_is d tree.units None table)
    ∙ same_least d beginning tree.units)
    ∙ sym (firsts_of_rules_alone names_in_functions r tree (λ e s n text place parts. none_of_names n.form e s place parts))
