-- The rules of a node, one by one; what is searched for; the tables of a design. No name has a dash, so that a caller can name each in
-- `#[tactic(auto, using(..))]`.
use mathlib.Core.Path.{fun_ext}
use Rattle.std.proofs.Common.{◌≡◌, ℕ, Bool, ◌||◌, List, [], ◌∷◌, ◌++◌, Option, Some, None, is_some, refl, sym, ap, ap₂, ◌∙◌, arith}
use Rattle.vd_bytes.specs.declared.places.Place.{Place}
use Rattle.vd_bytes.specs.declared.answers.Refused.{Refused}
use Rattle.vd_trees.specs.declared.revision.Revision.{Revision}
use Rattle.vd_forest.specs.Forest.{Forest, nothing, more}
use Rattle.vd_walks.specs.Finding.{or_else, first_found}
use Rattle.vd_walks.specs.Least.{lesser, least_of, least, refusals}
use Rattle.vd_walks.proofs.LeastLaws.{least_of_append, least_of_refusals}
use Rattle.vd_walks.proofs.OrderLaws.{lesser_brackets, lesser_right}
use Rattle.vd_resolved.specs.declared.node.Resolved.{Resolved}
use Rattle.vd_structure_rules.specs.declared.around.Around.{Around}
use Rattle.vd_structure_rules.specs.declared.loops.LabelledLoop.{LabelledLoop}
use Rattle.vd_structure_rules.specs.Functions.{return_of, is_return, has_return, return_finder, is_among, bodies}
use Rattle.vd_structure_rules.specs.Loops.{loop_of, labelled_loops}
use Rattle.vd_structure_rules.specs.Statements.{statement_place}
use Rattle.vd_structure_rules.specs.Choices.{has_choices, early_in}
use Rattle.vd_structure_rules.specs.StructureRules.{Design, broken_by_statement, broken_by_declaration, broken_at, structure_judge, outside, first_refused}

pub seven_rules : (a b c d e f k : Option Refused)
    → lesser (lesser (lesser a b) (lesser c d)) (lesser e (lesser f k)) ≡ least_of (refusals (a ∷ b ∷ c ∷ d ∷ e ∷ f ∷ k ∷ []))
seven_rules a b c d e f k = simp (least_of_refusals, lesser_right, lesser_brackets)

-- step by step, as they are computed
pub seven_steps : {a b c d e f k a' b' c' d' e' f' k' ab cd fk abcd efk all : Option Refused}
    → a ≡ a' → b ≡ b' → c ≡ c' → d ≡ d' → e ≡ e' → f ≡ f' → k ≡ k'
    → ab ≡ lesser a b → cd ≡ lesser c d → fk ≡ lesser f k → abcd ≡ lesser ab cd → efk ≡ lesser e fk → all ≡ lesser abcd efk
    → all ≡ least_of (refusals (a' ∷ b' ∷ c' ∷ d' ∷ e' ∷ f' ∷ k' ∷ []))
seven_steps {a} {b} {c} {d} {e} {f} {k} {a'} {b'} {c'} {d'} {e'} {f'} {k'} {ab} {cd} {fk} {abcd} {efk} {all} is_a is_b is_c is_d is_e is_f is_k is_ab is_cd is_fk is_abcd is_efk is_all =
    let joined : lesser (lesser (lesser a b) (lesser c d)) (lesser e (lesser f k)) ≡ lesser (lesser (lesser a' b') (lesser c' d')) (lesser e' (lesser f' k')) = cc in
    let whole : all ≡ lesser (lesser (lesser a b) (lesser c d)) (lesser e (lesser f k)) = cc in
    whole ∙ joined ∙ seven_rules a' b' c' d' e' f' k'

pub five_rules : (a b c d e : Option Refused)
    → lesser (lesser a b) (lesser (lesser c d) e) ≡ least_of (refusals (a ∷ b ∷ c ∷ d ∷ e ∷ []))
five_rules a b c d e = simp (least_of_refusals, lesser_right, lesser_brackets)

pub three_kinds : (rs qs ps : List Refused) → lesser (least_of rs) (lesser (least_of qs) (least_of ps)) ≡ least_of (rs ++ (qs ++ ps))
three_kinds rs qs ps = sym (least_of_append rs (qs ++ ps) ∙ ap (lesser (least_of rs)) (least_of_append qs ps))

-- step by step; what is wrong with a statement is asked at the place of its label
pub three_steps : (r : Revision) (d : Design) (around : Around) (n : Resolved) (text : List ℕ) (place at : Place) (parts : Forest Resolved)
    (statement declaration choices both all : Option Refused)
    → at ≡ statement_place around.label place
    → statement ≡ least_of (refusals (broken_by_statement d around at n place parts))
    → declaration ≡ least_of (refusals (broken_by_declaration r d around n text place parts))
    → choices ≡ least_of (refusals (early_in (has_choices n.form) parts))
    → both ≡ lesser declaration choices → all ≡ lesser statement both
    → all ≡ least_of (broken_at r d around n text place parts)
three_steps r d around n text place at parts statement declaration choices both all is_at is_statement is_declaration is_choices is_both is_all =
    is_all ∙ ap (lesser statement) (is_both ∙ ap₂ lesser is_declaration is_choices)
    ∙ ap (λ o. lesser o (lesser (least_of (refusals (broken_by_declaration r d around n text place parts))) (least_of (refusals (early_in (has_choices n.form) parts)))))
    (is_statement ∙ ap (λ p. least_of (refusals (broken_by_statement d around p n place parts))) is_at)
    ∙ three_kinds (refusals (broken_by_statement d around (statement_place around.label place) n place parts)) (refusals (broken_by_declaration r d around n text place parts)) (refusals (early_in (has_choices n.form) parts))

-- one more of a list
pub one_more : (found o : Option Refused) (os : List (Option Refused))
    → lesser (lesser found o) (least_of (refusals os)) ≡ lesser found (least_of (refusals (o ∷ os)))
one_more found o os = lesser_brackets found o (least_of (refusals os)) ∙ ap (lesser found) (sym (least_of_refusals o os))

pub none_found : (found : Option Refused) → lesser found (least_of (refusals [])) ≡ found
none_found found = lesser_right found

pub ruleset refusal_steps = (one_more, none_found)

-- ---- returns

some_or_else : {A : Type 0} (a b : Option A) → is_some (or_else a b) ≡ (is_some a || is_some b)
some_or_else None b = refl
some_or_else (Some a) b = refl

return_here : (f : Rattle.vd_forms.specs.declared.form.Form.Form) → is_some (return_of f) ≡ is_return f
return_here f = grind arith

pub return_found : (f : Forest Resolved) → is_some (first_found return_finder 0 f) ≡ has_return f
return_found nothing = refl
return_found (more n text place parts next) =
    some_or_else (return_of n.form) (or_else (first_found return_finder 0 parts) (first_found return_finder 0 next))
    ∙ ap (λ b. b || is_some (or_else (first_found return_finder 0 parts) (first_found return_finder 0 next))) (return_here n.form)
    ∙ ap (λ b. is_return n.form || b) (some_or_else (first_found return_finder 0 parts) (first_found return_finder 0 next))
    ∙ ap (λ b. is_return n.form || (b || is_some (first_found return_finder 0 next))) (return_found parts)
    ∙ ap (λ b. is_return n.form || (has_return parts || b)) (return_found next)

-- ---- tables

-- what is asked of tables that agree with the lists of a design is what is asked of the design
pub same_design : (r : Revision) (units : Forest Resolved) (with_body : ℕ → Bool) (loops : ℕ → Option LabelledLoop)
    → ((k : ℕ) → with_body k ≡ is_among (bodies units) k) → ((k : ℕ) → loops k ≡ loop_of (labelled_loops units) k)
    → least (structure_judge r (record { with_body = with_body; loops = loops })) outside units ≡ first_refused r units
same_design r units with_body loops bodies_are loops_are =
    ap (λ b. least (structure_judge r (record { with_body = b; loops = loops })) outside units) (fun_ext bodies_are)
    ∙ ap (λ l. least (structure_judge r (record { with_body = is_among (bodies units); loops = l })) outside units) (fun_ext loops_are)
