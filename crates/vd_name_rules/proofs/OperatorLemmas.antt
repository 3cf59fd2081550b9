-- Operators that are refused. No name has a dash, so that a caller can name each in `#[tactic(auto, using(..))]`.
use Rattle.std.proofs.Common.{◌≡◌, ℕ, zero, suc, ◌+◌, ◌≤◌, ◌<◌, Bool, true, false, ◌&&◌, ◌||◌, if◌then◌else◌, List, [], ◌∷◌, ◌++◌, length, map, drop, get_or, min, nat_lt, Option, Some, None, add-one, drop-cons, length-drop, slice_index_or, refl, sym, ap, ap₂, ◌∙◌, arith}
use Rattle.vd_declarations.specs.declared.declarations.Declaration.{Declaration}
use Rattle.std.proofs.lemmas.List.{get_or_past}
use Rattle.vd_meaning.specs.Facets.{MapElement}
use Rattle.vd_meaning.specs.Operators.{symbol}
use Rattle.vd_meaning.specs.Tables.{Table, followed, is_brought, no_declaration, sort_of, table}
use Rattle.vd_trees.specs.declared.revision.Revision.TheVariants.{V1993, V2019}
use Rattle.std.specs.List.{filter}
use Rattle.vd_bytes.specs.declared.answers.Refused.{Refused}
use Rattle.vd_bytes.specs.declared.places.Place.{Place}
use Rattle.vd_meaning.specs.Elaborations.{Units, units_of}
use Rattle.vd_forms.specs.declared.form.Form.{Form}
use Rattle.vd_forest.specs.Forest.{Forest, nothing, more}
use Rattle.vd_walks.specs.Least.{Judge, all_broken, least}
use Rattle.vd_name_rules.specs.Designs.{design, operator_judge}
use Rattle.vd_resolved.specs.Trees.{ResolvedTree}
use Rattle.vd_resolved.specs.declared.node.Resolved.{Resolved}
use Rattle.vd_value_rules.proofs.WalkLemmas.{firsts_of_rules_alone, least_without_state}
use Rattle.vd_value_rules.specs.Groups.{firsts_by, firsts_of, judge_by, operators}
use Rattle.vd_value_rules.specs.declared.firsts.Firsts.{Firsts}
use Rattle.vd_trees.specs.declared.revision.Revision.{Revision}
use Rattle.vd_value_rules.specs.Designs.{design_of}
use Rattle.vd_value_rules.specs.Judging.{refused_if}
use Rattle.vd_value_rules.specs.Rules.{is_of_names}
use Rattle.vd_value_rules.specs.Standings.{State, beginning}
use Rattle.vd_value_rules.specs.Operators.{any_found, any_nine_valued, broken_operator, instance_finds, is_found, refuses, is_nine_valued, is_ordering, is_refused_operator, names_refused}
use Rattle.vd_forms.specs.declared.form.Form.TheVariants as form

abbrev pub marks : List Declaration → List ℕ → List (Option ℕ)
marks ds ps = map (λ p. (slice_index_or ds p no_declaration).mark) ps

-- what isn't declared is no such operator
pub none_refused_past : (ds : List Declaration) (n : ℕ) → length ds ≤ n → is_refused_operator (table V2019 ds) n ≡ false
none_refused_past ds n past =
    ap (λ x. (nat_lt n 463 || is_brought x.class) && (is_ordering (symbol x.name) && any_nine_valued (table V2019 ds) (marks ds x.parameters)))
    (get_or_past ds n no_declaration past)
    ∙ never (nat_lt n 463 || is_brought no_declaration.class)
  where
    never : (b : Bool) → (b && false) ≡ false
    never true = refl
    never false = refl

-- ---- parameters of an operator

pub next_parameter : (ds : List Declaration) (ps : List ℕ) (i p : ℕ) → i < length ps → p ≡ get_or ps i p
    → any_nine_valued (table V2019 ds) (marks ds (drop i ps))
    ≡ (is_nine_valued (sort_of (table V2019 ds) (slice_index_or ds p no_declaration).mark) || any_nine_valued (table V2019 ds) (marks ds (drop (i + 1) ps)))
next_parameter ds ps i p within is =
    ap (λ l. any_nine_valued (table V2019 ds) (marks ds l)) (split ∙ ap (λ q. q ∷ drop (i + 1) ps) (sym is))
  where
    split : drop i ps ≡ get_or ps i p ∷ drop (i + 1) ps
    split = rw (add-one, drop-cons ps i p)

-- ---- generics of an instance

pub next_found : (t : Table) (i : ℕ) (gs cs : List ℕ) (xs : List MapElement) (g c : ℕ) → i < length gs → i < length cs → g ≡ get_or gs i g → c ≡ get_or cs i c
    → any_found t i (drop i gs) (drop i cs) xs ≡ (is_found t i g c xs || any_found t (i + 1) (drop (i + 1) gs) (drop (i + 1) cs) xs)
next_found t i gs cs xs g c in_gs in_cs is_g is_c =
    ap₂ (λ l m. any_found t i l m xs) (split gs g in_gs ∙ ap (λ q. q ∷ drop (i + 1) gs) (sym is_g)) (split cs c in_cs ∙ ap (λ q. q ∷ drop (i + 1) cs) (sym is_c))
    ∙ ap (λ k. is_found t i g c xs || any_found t k (drop (i + 1) gs) (drop (i + 1) cs) xs) (sym (add-one i))
  where
    split : (l : List ℕ) (d : ℕ) → i < length l → drop i l ≡ get_or l i d ∷ drop (i + 1) l
    split l d within = rw (add-one, drop-cons l i d)

pub none_found : (t : Table) (i : ℕ) (gs cs : List ℕ) (xs : List MapElement) → min (length gs) (length cs) ≤ i
    → any_found t i (drop i gs) (drop i cs) xs ≡ false
none_found t i gs cs xs past = by_which (drop i gs) (drop i cs) (omega (arith, length-drop i gs, length-drop i cs))
  where
    by_which : (l m : List ℕ) → min (length l) (length m) ≡ 0 → any_found t i l m xs ≡ false
    by_which [] m none = refl
    by_which (g ∷ l) [] none = refl
    by_which (g ∷ l) (c ∷ m) none = absurd (omega arith)

-- what a table tells of a declaration
pub named_refused : (ds : List Declaration) (refused : List Bool) (o : Option ℕ) (n k : ℕ) (b : Bool)
    → ((m : ℕ) → slice_index_or refused m false ≡ is_refused_operator (table V2019 ds) m)
    → o ≡ Some n → k ≡ followed (table V2019 ds) n → b ≡ slice_index_or refused k false → b ≡ names_refused (table V2019 ds) o
named_refused ds refused o n k b all is_o is_k is_b =
    is_b ∙ all k ∙ ap (is_refused_operator (table V2019 ds)) is_k ∙ sym (ap (names_refused (table V2019 ds)) is_o)

-- ---- whole designs

all_nothing : {F S : Type 0} (judge : Judge F S)
    → ((s : S) (n : F) (text : List ℕ) (place : Place) (parts : Forest F) → judge.broken s n text place parts ≡ []) → (s : S) (f : Forest F) → all_broken judge s f ≡ []
all_nothing judge none s nothing = refl
all_nothing judge none s (more n text place parts next) =
    ap₂ (λ xs ys. xs ++ ys) (none s n text place parts)
    (ap₂ (λ xs ys. xs ++ ys) (all_nothing judge none (judge.down s n text place parts) parts) (all_nothing judge none (judge.along s n text place parts) next))

-- revision 1993 has no such operators
pub none_of_1993 : (r : Revision) (tree : ResolvedTree) → r ≡ V1993 → firsts_of [] ≡ firsts_by operators r tree
none_of_1993 r tree is =
    ap firsts_of (sym (all_nothing (judge_by operators (design_of V1993 tree)) (λ s n text place parts. refl) beginning tree.units))
    ∙ ap (λ q. firsts_by operators q tree) (sym is)

no_names : (c b : Bool) (place : Place) → filter is_of_names (if c then refused_if b place 414 else []) ≡ []
no_names true true place = refl
no_names true false place = refl
no_names false b place = refl

-- the rule hangs on the declarations of a design alone
same_found : (f : Form) (r q : Revision) (t : Table) (u v : Units) (n : Resolved) (parts : Forest Resolved)
    → instance_finds f (record { revision = r; table = t; units = u }) n parts ≡ instance_finds f (record { revision = q; table = t; units = v }) n parts
same_found form.PackageInstantiation r q t u v n parts = refl
same_found form.FunctionInstantiation r q t u v n parts = refl
same_found _ r q t u v n parts = refl

same_rule : (tree : ResolvedTree) (s : Unit {0}) (z : State) (n : Resolved) (text : List ℕ) (place : Place) (parts : Forest Resolved)
    → broken_operator (design tree.declarations) n place parts ≡ broken_operator (design_of V2019 tree) n place parts
same_rule tree s z n text place parts =
    ap (λ b. refused_if (refuses n.form (table V2019 tree.declarations) n parts || b) place 414)
    (same_found n.form V2019 V2019 (table V2019 tree.declarations) (record { units = []; views = [] }) (units_of V2019 tree) n parts)

abbrev with_rules : Option Refused → Firsts
with_rules o = record { of_names = None; of_rules = o }

pub first_of_2019 : (r : Revision) (tree : ResolvedTree) (ds : List Declaration) (units : Forest Resolved) (o : Option Refused)
    → r ≡ V2019 → ds ≡ tree.declarations → units ≡ tree.units → o ≡ least (operator_judge ds) tt units
    → record { of_names = None; of_rules = o } ≡ firsts_by operators r tree
first_of_2019 r tree ds units o is_2019 is_ds is_units is_o =
    ap with_rules (is_o ∙ ap₂ (λ l f. least (operator_judge l) tt f) is_ds is_units
    ∙ least_without_state (operator_judge tree.declarations) (judge_by operators (design_of V2019 tree)) (same_rule tree) tt beginning tree.units)
    ∙ sym (firsts_of_rules_alone operators V2019 tree (λ d s n text place parts. no_names (Rattle.vd_value_rules.specs.Designs.is_2019 d.revision) (refuses n.form d.table n parts || instance_finds n.form d n parts) place))
    ∙ ap (λ q. firsts_by operators q tree) (sym is_2019)

-- ---- a table that is filled

pub told_more : (told : List Bool) (f : ℕ → Bool) (b : Bool) → b ≡ f (length told) → ((n : ℕ) → n < length told → slice_index_or told n false ≡ f n)
    → (n : ℕ) → n < length told + 1 → slice_index_or (told ++ b ∷ []) n false ≡ f n
told_more [] f b is all zero within = is
told_more [] f b is all (suc n) within = absurd (omega arith)
told_more (c ∷ told) f b is all zero within = all 0 (omega arith)
told_more (c ∷ told) f b is all (suc n) within = told_more told (λ k. f (suc k)) b is (λ k lt. all (suc k) (omega arith)) n (omega arith)

pub told_all : (told : List Bool) (f : ℕ → Bool) → ((n : ℕ) → n < length told → slice_index_or told n false ≡ f n) → ((n : ℕ) → length told ≤ n → f n ≡ false)
    → (n : ℕ) → slice_index_or told n false ≡ f n
told_all [] f all past n = sym (past n (omega arith))
told_all (b ∷ told) f all past zero = all 0 (omega arith)
told_all (b ∷ told) f all past (suc n) = told_all told (λ k. f (suc k)) (λ k lt. all (suc k) (omega arith)) (λ k le. past (suc k) (omega arith)) n
