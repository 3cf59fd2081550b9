-- The names that a process reads, each once, are those of its value.
use Rattle.std.proofs.Common.{◌≡◌, ℕ, Bool, true, false, List, [], ◌∷◌, ◌++◌, refl, ap, ◌∙◌}
use Rattle.std.specs.Prelude.{if◌then◌else◌}
use Rattle.std.specs.List.{AllByRecursion}
use Rattle.vd_forest.specs.Forest.{Forest, nothing, more}
use Rattle.vd_forest.specs.Texts.{with_text}
use Rattle.vd_forest.proofs.ForestLemmas.{joined_nothing}
use Rattle.vd_first_trees.specs.declared.form.Form.{Form}
use Rattle.vd_first_trees.specs.declared.form.Form.TheVariants as form
use Rattle.vd_first_lex.specs.declared.tokens.Token.{Token}
use Rattle.vd_first_grammar.specs.Derivations.{Expression, name, brackets, inverted, conjoined}
use Rattle.vd_first_grammar.specs.Conditions.{expression_names}
use Rattle.vd_first_grammar.specs.Shapes.{identifier, expression_shape, name_nodes, assignment_shape}
use Rattle.vd_first_passes.specs.Lowering.{names_in, is_among, unless, firsts, read_set}
use Rattle.vd_first_accept.proofs.ExpressionNames.{expression_named}
use Rattle.vd_first_written.proofs.WrittenFile.{first_name, other_names, once, read_once}

pub names_begin : (e : Expression) → expression_names e ≡ first_name e ∷ other_names e
names_begin (name t) = refl
names_begin (brackets o e c) = names_begin e
names_begin (inverted w e) = names_begin e
names_begin (conjoined e w f) = ap (λ ts. ts ++ expression_names f) (names_begin e)

-- ---- each name once

unless_same : (b : Bool) (t : Token) (ts : List Token) (rest : Forest Form) → rest ≡ name_nodes ts
    → unless b form.Name [] t.place (identifier t nothing) rest ≡ name_nodes (if b then ts else t ∷ ts)
unless_same true t ts rest h = h
unless_same false t ts rest h = ap (more form.Name [] t.place (identifier t nothing)) h

firsts_once : (before : List (List ℕ)) (ts : List Token) → firsts before (name_nodes ts) ≡ name_nodes (once before ts)
firsts_once before [] = refl
firsts_once before (t ∷ ts) = unless_same (is_among before t.text) t (once (with_text before t.text) ts) (firsts (with_text before t.text) (name_nodes ts)) (firsts_once (with_text before t.text) ts)

pub read_set_is : (target : Token) (value : Expression) → read_set (assignment_shape target value nothing) ≡ name_nodes (read_once value)
read_set_is target value =
    ap (firsts [])
    (joined_nothing (names_in (expression_shape value nothing)) ∙ expression_named value nothing ∙ joined_nothing (name_nodes (expression_names value)) ∙ ap name_nodes (names_begin value))
    ∙ ap (more form.Name [] (first_name value).place (identifier (first_name value) nothing)) (firsts_once ((first_name value).text ∷ []) (other_names value))

all_kept : (P : Token → Type 0) (b : Bool) (t : Token) (ts : List Token) → P t → AllByRecursion P ts → AllByRecursion P (if b then ts else t ∷ ts)
all_kept P true t ts h k = k
all_kept P false t ts h k = (h, k)

-- what holds of all names holds of each that is kept
all_once : (P : Token → Type 0) (before : List (List ℕ)) (ts : List Token) → AllByRecursion P ts → AllByRecursion P (once before ts)
all_once P before [] h = tt
all_once P before (t ∷ ts) h = all_kept P (is_among before t.text) t (once (with_text before t.text) ts) h.0 (all_once P (with_text before t.text) ts h.1)

pub all_read_once : (P : Token → Type 0) (e : Expression) → AllByRecursion P (first_name e ∷ other_names e) → AllByRecursion P (read_once e)
all_read_once P e h = (h.0, all_once P ((first_name e).text ∷ []) (other_names e) h.1)
