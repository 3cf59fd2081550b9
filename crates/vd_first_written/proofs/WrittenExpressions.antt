-- The expression that is written for one: it keeps to the grammar, reads the same names, has the same tree up to places,
-- and its tokens are those of its tree.
use Rattle.std.proofs.Common.{◌≡◌, List, ◌∷◌, ◌++◌, refl, ap, ◌∙◌}
use Rattle.std.proofs.lemmas.List.{append-nil}
use Rattle.vd_forest.specs.Forest.{Forest, nothing, erased}
use Rattle.vd_first_trees.specs.declared.form.Form.{Form}
use Rattle.vd_first_trees.specs.declared.form.Form.TheVariants as form
use Rattle.vd_first_lex.specs.declared.tokens.Token.{Token}
use Rattle.vd_first_lex.specs.declared.tokens.TheConstants.{AND, NOT}
use Rattle.vd_first_grammar.specs.Derivations.{Expression, name, brackets, inverted, conjoined, primary, factor, whole, IsExpression, expression_tokens}
use Rattle.vd_first_grammar.specs.Conditions.{texts_of, expression_names}
use Rattle.vd_first_grammar.specs.Shapes.{expression_shape}
use Rattle.vd_first_print.specs.declared.writing.Position.{Position}
use Rattle.vd_first_print.specs.declared.writing.Position.TheVariants.{First, Second}
use Rattle.vd_first_print.specs.Writing.{fixed_tokens, between, next_position, has_brackets, in_brackets, between_if_more, parts_tokens}
use Rattle.vd_first_written.proofs.WrittenFile.{word_token, guarded, left_guarded, written_expression}
use Rattle.vd_first_written.proofs.Lists.{texts_append}
use Rattle.vd_first_written.proofs.PlacelessShapes.{bare_identifier, bare_node}

-- ---- the grammar

guarded_is : (e : Expression) → IsExpression whole e → IsExpression primary (guarded e)
guarded_is (name t) h = h
guarded_is (brackets o e c) h = (refl, h, refl)
guarded_is (inverted w e) h = (refl, h, refl)
guarded_is (conjoined e w f) h = (refl, h, refl)

primary_is_factor : (e : Expression) → IsExpression primary e → IsExpression factor e
primary_is_factor (name t) h = h
primary_is_factor (brackets o e c) h = h
primary_is_factor (inverted w e) h = absurd h
primary_is_factor (conjoined e w f) h = absurd h

left_guarded_is : (e : Expression) → IsExpression whole e → IsExpression whole (left_guarded e)
left_guarded_is (name t) h = h
left_guarded_is (brackets o e c) h = h
left_guarded_is (inverted w e) h = (refl, h, refl)
left_guarded_is (conjoined e w f) h = h

pub expression_is : (e : Expression) → IsExpression whole (written_expression e)
expression_is (name t) = refl
expression_is (brackets o e c) = expression_is e
expression_is (inverted w e) = (refl, guarded_is (written_expression e) (expression_is e))
expression_is (conjoined e w f) = (
  left_guarded_is (written_expression e) (expression_is e),
  refl,
  primary_is_factor (guarded (written_expression f)) (guarded_is (written_expression f) (expression_is f)),
)

-- ---- names

guarded_names : (e : Expression) → expression_names (guarded e) ≡ expression_names e
guarded_names (name t) = refl
guarded_names (brackets o e c) = refl
guarded_names (inverted w e) = refl
guarded_names (conjoined e w f) = refl

left_guarded_names : (e : Expression) → expression_names (left_guarded e) ≡ expression_names e
left_guarded_names (name t) = refl
left_guarded_names (brackets o e c) = refl
left_guarded_names (inverted w e) = refl
left_guarded_names (conjoined e w f) = refl

pub same_names : (e : Expression) → texts_of (expression_names (written_expression e)) ≡ texts_of (expression_names e)
same_names (name t) = refl
same_names (brackets o e c) = same_names e
same_names (inverted w e) = ap texts_of (guarded_names (written_expression e)) ∙ same_names e
same_names (conjoined e w f) =
    texts_append (expression_names (left_guarded (written_expression e))) (expression_names (guarded (written_expression f))) (expression_names e) (expression_names f)
    (ap texts_of (left_guarded_names (written_expression e)) ∙ same_names e) (ap texts_of (guarded_names (written_expression f)) ∙ same_names f)

-- ---- the tree

guarded_shape : (e : Expression) (next : Forest Form) → expression_shape (guarded e) next ≡ expression_shape e next
guarded_shape (name t) next = refl
guarded_shape (brackets o e c) next = refl
guarded_shape (inverted w e) next = refl
guarded_shape (conjoined e w f) next = refl

left_guarded_shape : (e : Expression) (next : Forest Form) → expression_shape (left_guarded e) next ≡ expression_shape e next
left_guarded_shape (name t) next = refl
left_guarded_shape (brackets o e c) next = refl
left_guarded_shape (inverted w e) next = refl
left_guarded_shape (conjoined e w f) next = refl

pub same_tree : (e : Expression) (a b : Forest Form) → erased a ≡ erased b → erased (expression_shape (written_expression e) a) ≡ erased (expression_shape e b)
same_tree (name t) a b h = ap (bare_node form.Name (bare_identifier t.text nothing)) h
same_tree (brackets o e c) a b h = same_tree e a b h
same_tree (inverted w e) a b h =
    let operand = ap erased (guarded_shape (written_expression e) nothing) ∙ same_tree e nothing nothing refl in
    λ i. bare_node form.Not (operand i) (h i)
same_tree (conjoined e w f) a b h =
    let right = ap erased (guarded_shape (written_expression f) nothing) ∙ same_tree f nothing nothing refl in
    let left =
    ap erased (left_guarded_shape (written_expression e) (expression_shape (guarded (written_expression f)) nothing))
    ∙ same_tree e (expression_shape (guarded (written_expression f)) nothing) (expression_shape f nothing) right in
    λ i. bare_node form.And (left i) (h i)

-- ---- the tokens

-- the form of an expression's tree
abbrev top : Expression → Form
top (name t) = form.Name
top (brackets o e c) = top e
top (inverted w e) = form.Not
top (conjoined e w f) = form.And

guarded_tokens : (e : Expression) → in_brackets (has_brackets form.Not First (top e)) (expression_tokens (written_expression e)) ≡ expression_tokens (guarded (written_expression e))
guarded_tokens (name t) = refl
guarded_tokens (brackets o e c) = guarded_tokens e
guarded_tokens (inverted w e) = refl
guarded_tokens (conjoined e w f) = refl

left_guarded_tokens : (e : Expression) → in_brackets (has_brackets form.And First (top e)) (expression_tokens (written_expression e)) ≡ expression_tokens (left_guarded (written_expression e))
left_guarded_tokens (name t) = refl
left_guarded_tokens (brackets o e c) = left_guarded_tokens e
left_guarded_tokens (inverted w e) = refl
left_guarded_tokens (conjoined e w f) = refl

pub between_expressions : (parent : Form) (i : Position) (e : Expression) (next : Forest Form) → between_if_more parent i (expression_shape e next) ≡ fixed_tokens (between parent i)
between_expressions parent i (name t) next = refl
between_expressions parent i (brackets o e c) next = between_expressions parent i e next
between_expressions parent i (inverted w e) next = refl
between_expressions parent i (conjoined e w f) next = refl

-- an expression's tokens in front of what follows it
abbrev behind_tokens : Form → Position → Forest Form → List Token
behind_tokens parent i next = between_if_more parent i next ++ parts_tokens parent (next_position i) next

pub printed : (e : Expression) (parent : Form) (i : Position) (next : Forest Form)
    → parts_tokens parent i (expression_shape (written_expression e) next) ≡ in_brackets (has_brackets parent i (top e)) (expression_tokens (written_expression e)) ++ behind_tokens parent i next
printed (name t) parent i next = refl
printed (brackets o e c) parent i next = printed e parent i next
printed (inverted w e) parent i next =
    let operand =
    ap (parts_tokens form.Not First) (guarded_shape (written_expression e) nothing) ∙ printed e form.Not First nothing
    ∙ append-nil (in_brackets (has_brackets form.Not First (top e)) (expression_tokens (written_expression e))) ∙ guarded_tokens e in
    let inner = append-nil (parts_tokens form.Not First (expression_shape (guarded (written_expression e)) nothing)) ∙ operand in
    ap (λ ts. in_brackets (has_brackets parent i form.Not) (word_token NOT ∷ ts) ++ behind_tokens parent i next) inner
printed (conjoined e w f) parent i next =
    let right_tree = expression_shape (guarded (written_expression f)) nothing in
    let right =
    ap (parts_tokens form.And Second) (guarded_shape (written_expression f) nothing) ∙ printed f form.And Second nothing
    ∙ append-nil (in_brackets (has_brackets form.And Second (top f)) (expression_tokens (written_expression f))) ∙ guarded_tokens f in
    let left = ap (parts_tokens form.And First) (left_guarded_shape (written_expression e) right_tree) ∙ printed e form.And First right_tree in
    let sign = between_expressions form.And First (guarded (written_expression f)) nothing in
    let operands : parts_tokens form.And First (expression_shape (left_guarded (written_expression e)) right_tree) ≡ expression_tokens (left_guarded (written_expression e)) ++ word_token AND ∷ expression_tokens (guarded (written_expression f)) =
    left ∙ (λ j. left_guarded_tokens e j ++ (sign j ++ right j)) in
    let inner = append-nil (parts_tokens form.And First (expression_shape (left_guarded (written_expression e)) right_tree)) ∙ operands in
    ap (λ ts. in_brackets (has_brackets parent i form.And) ts ++ behind_tokens parent i next) inner

-- an assigned value has no brackets around it
pub value_printed : (e : Expression) → parts_tokens form.SignalAssignment Second (expression_shape (written_expression e) nothing) ≡ expression_tokens (written_expression e)
value_printed e = printed e form.SignalAssignment Second nothing ∙ append-nil (expression_tokens (written_expression e))
