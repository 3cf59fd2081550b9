-- Drafts one behind the other.
use Rattle.std.proofs.Common.{◌≡◌, ℕ, zero, suc, List, [], ◌∷◌, ◌++◌, map, Some, slice_get, slice_index_or, refl, sym, ap, ◌∙◌, subst, append_assoc}
use Rattle.vd_gram.specs.declared.tables.Production.{Production}
use Rattle.vd_gram.specs.declared.tables.Table.{Table}
use Rattle.vd_gram.specs.Derivations.{Derive}
use Rattle.vd_forest.specs.Forest.{Forest}
use Rattle.vd_forms.specs.declared.form.Form.{Form}
use Rattle.vd_shapes.specs.declared.actions.Action.{Action}
use Rattle.vd_shapes.specs.Shapes.{leaf_form, action_of, acted}
use Rattle.vd_shapes.specs.Reading.{symbol_of}
use Rattle.vd_shapes.specs.Rows.{plain as plain_row}
use Rattle.vd_templates.specs.Templates.{lexeme}
use Rattle.vd_derivations.specs.Drafts.{Draft, none, word, rule, plain, lexemes, followed, with_text, grows}

pub followed_derived : (t : Table) (d e : Draft) (xs ys : List ℕ) → Derive t xs (plain d) → Derive t ys (plain e) → Derive t (xs ++ ys) (plain (followed d e))
followed_derived t none e [] ys h k = k
followed_derived t none e (x ∷ xs) ys h k = absurd h
followed_derived t (word kind text n) e [] ys h k = absurd h
followed_derived t (word kind text n) e (x ∷ xs) ys h k = (h.0, h.1, followed_derived t n e xs ys h.2 k)
followed_derived t (rule q a n) e [] ys h k = absurd h
followed_derived t (rule q a n) e (x ∷ xs) ys h k = (h.0, h.1, h.2, h.3, followed_derived t n e xs ys h.4 k)

pub followed_lexemes : (d e : Draft) → lexemes (followed d e) ≡ lexemes d ++ lexemes e
followed_lexemes none e = refl
followed_lexemes (word kind text n) e = ap (λ ls. lexeme kind text ∷ ls) (followed_lexemes n e)
followed_lexemes (rule q a n) e = ap (λ ls. lexemes a ++ ls) (followed_lexemes n e) ∙ sym (append_assoc (lexemes a) (lexemes n) (lexemes e))

pub followed_grows : (actions : List Action) (d e : Draft) (f : Forest Form) → grows actions (followed d e) f ≡ grows actions e (grows actions d f)
followed_grows actions none e f = refl
followed_grows actions (word kind text n) e f = followed_grows actions n e (with_text (leaf_form (symbol_of kind)) text f)
followed_grows actions (rule q a n) e f = followed_grows actions n e (acted actions [] (action_of actions [] q) 0 (grows actions a) f)

-- ---- productions by their rows

pub record HasProduction (ps : List Production) (q left : ℕ) (right : List ℕ) : Type 0 where
  pub production : Production
  pub at : slice_get ps q ≡ Some production
  pub left_is : production.left ≡ left
  pub right_is : production.right.now ≡ right

pub production_at_row : (ps : List Production) (q left : ℕ) (right : List ℕ) → slice_index_or (map plain_row ps) q [] ≡ left ∷ right → HasProduction ps q left right
production_at_row [] q left right h = absurd (empty left right h)
  where
    empty : (x : ℕ) (xs : List ℕ) → [] ≡ x ∷ xs → ⊥
    empty x xs e = cc
production_at_row (p ∷ ps) zero left right h =
    let l : p.left ≡ left = cc in
    let r : p.right.now ≡ right = cc in
    record { production = p; at = refl; left_is = l; right_is = r }
production_at_row (p ∷ ps) (suc q) left right h =
    let rec = production_at_row ps q left right h in
    record { production = rec.production; at = rec.at; left_is = rec.left_is; right_is = rec.right_is }

-- a node of a production with that row
pub rule_derived : (t : Table) (rows : List (List ℕ)) (q left : ℕ) (right : List ℕ) (a : Draft) → map plain_row t.productions.now ≡ rows → slice_index_or rows q [] ≡ left ∷ right
    → Derive t right (plain a) → Derive t (left ∷ []) (plain (rule q a none))
rule_derived t rows q left right a are at h =
    let p = production_at_row t.productions.now q left right (ap (λ rs. slice_index_or rs q []) are ∙ at) in
    (p.production, p.at, p.left_is, subst (λ xs. Derive t xs (plain a)) (sym p.right_is) h, tt)
