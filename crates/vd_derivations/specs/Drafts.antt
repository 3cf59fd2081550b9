-- Derivations whose leaves have their texts, and what they leave among the trees that stand side by side.
use Rattle.std.specs.Prelude.{ℕ, List, [], ◌∷◌, ◌++◌, Option, Some, None}
use Rattle.vd_tokens.specs.declared.kinds.Kind.{Kind}
use Rattle.vd_tokens.specs.Lexemes.{Lexeme}
use Rattle.vd_gram.specs.Derivations.{Trees, nothing as no_tree, leaf, node}
use Rattle.vd_forest.specs.Forest.{Forest, more, nothing, no_place}
use Rattle.vd_forms.specs.declared.form.Form.{Form}
use Rattle.vd_shapes.specs.declared.actions.Action.{Action}
use Rattle.vd_shapes.specs.Shapes.{leaf_form, action_of, acted}
use Rattle.vd_shapes.specs.Reading.{symbol_of}
use Rattle.vd_templates.specs.Templates.{lexeme}

-- no tree, or a first tree with the trees after it: a token, or a production with the trees of its right side
pub data Draft : Type 0 where
  none : Draft
  word : (kind : Kind) → (text : List ℕ) → (next : Draft) → Draft
  rule : (production : ℕ) → (parts : Draft) → (next : Draft) → Draft

-- without the texts
abbrev pub plain : Draft → Trees
plain none = no_tree
plain (word k text next) = leaf (symbol_of k) 0 (plain next)
plain (rule production parts next) = node production (plain parts) (plain next)

abbrev pub lexemes : Draft → List Lexeme
lexemes none = []
lexemes (word k text next) = lexeme k text ∷ lexemes next
lexemes (rule production parts next) = lexemes parts ++ lexemes next

abbrev pub followed : Draft → Draft → Draft
followed none d = d
followed (word k text next) d = word k text (followed next d)
followed (rule production parts next) d = rule production parts (followed next d)

-- a token whose text changes is a leaf, in front of the trees so far
abbrev pub with_text : Option Form → List ℕ → Forest Form → Forest Form
with_text None text so_far = so_far
with_text (Some f) text so_far = more f text no_place nothing so_far

-- the trees so far, the last one first, behind those of the derivation. No node has a place
abbrev pub grows : List Action → Draft → Forest Form → Forest Form
grows actions none so_far = so_far
grows actions (word k text next) so_far = grows actions next (with_text (leaf_form (symbol_of k)) text so_far)
grows actions (rule production parts next) so_far =
    grows actions next (acted actions [] (action_of actions [] production) 0 (grows actions parts) so_far)
