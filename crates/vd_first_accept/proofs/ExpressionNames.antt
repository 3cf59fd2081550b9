-- The names in the tree of an expression are those of its derivation.
use Rattle.std.proofs.Common.{◌≡◌, List, [], ◌∷◌, ◌++◌, refl, sym, ap, ◌∙◌}
use Rattle.vd_forest.specs.Forest.{Forest, nothing, more, joined}
use Rattle.vd_forest.proofs.ForestLemmas.{joined_nothing}
use Rattle.vd_first_trees.specs.declared.form.Form.{Form}
use Rattle.vd_first_trees.specs.declared.form.Form.TheVariants as form
use Rattle.vd_first_lex.specs.declared.tokens.Token.{Token}
use Rattle.vd_first_grammar.specs.Derivations.{Expression, name, brackets, inverted, conjoined}
use Rattle.vd_first_grammar.specs.Conditions.{expression_names}
use Rattle.vd_first_grammar.specs.Shapes.{identifier, expression_shape, name_nodes}
use Rattle.vd_first_passes.specs.Lowering.{names_in}

pub name_nodes-append : (ts us : List Token) → name_nodes (ts ++ us) ≡ joined (name_nodes ts) (name_nodes us)
name_nodes-append [] us = refl
name_nodes-append (t ∷ ts) us = ap (more form.Name [] t.place (identifier t nothing)) (name_nodes-append ts us)

pub expression_named : (e : Expression) (next : Forest Form) → names_in (expression_shape e next) ≡ joined (name_nodes (expression_names e)) (names_in next)
expression_named (name t) next = refl
expression_named (brackets o e c) next = expression_named e next
expression_named (inverted w e) next = ap (λ f. joined f (names_in next)) (expression_named e nothing ∙ joined_nothing (name_nodes (expression_names e)))
expression_named (conjoined e w f) next =
    ap (λ g. joined g (names_in next))
    (expression_named e (expression_shape f nothing)
    ∙ ap (joined (name_nodes (expression_names e))) (expression_named f nothing ∙ joined_nothing (name_nodes (expression_names f)))
    ∙ sym (name_nodes-append (expression_names e) (expression_names f)))
