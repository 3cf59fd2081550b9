-- Designs that stand in a store, and shapes by tables of one grammar.
use Rattle.std.proofs.Common.{◌≡◌, ℕ, ◌≤◌, List, length, sym, subst, ◌∙◌}
use Rattle.std.specs.List.{AllByRecursion}
use Rattle.vd_trees.specs.declared.revision.Revision.{Revision}
use Rattle.vd_tokens.specs.Lexemes.{Lexeme}
use Rattle.vd_tokens.specs.Spellings.{IsPossible}
use Rattle.vd_gram.specs.declared.tables.Table.{Table}
use Rattle.vd_gram.specs.Same.{IsSameGrammar, SaysTheSame, SayTheSame}
use Rattle.vd_forest.specs.Forest.{Forest}
use Rattle.vd_forest.specs.Store.{at}
use Rattle.vd_forms.specs.declared.form.Form.{Form}
use Rattle.vd_forms.specs.Validity.{IsDesign}
use Rattle.vd_shapes.specs.declared.actions.Action.{Action}
use Rattle.vd_shapes.specs.declared.shaping.Shaped.{Shaped}
use Rattle.vd_shapes.specs.Answers.{IsShaped}
use Rattle.vd_shapes.specs.Reading.{symbols_in}
use Rattle.vd_valid_shapes.specs.Laws.{IsShapeOf, ShapesAreDesigns}

module _ (t : Table) (actions : List Action) (tokens : List Lexeme) (deep : ℕ) (s : Shaped) (h : IsShaped t actions tokens (symbols_in tokens) deep s) where
  pub shaped_within : s.number ≤ length s.store
  shaped_within = h.holds.within

  pub shaped_design : (r : Revision) → ShapesAreDesigns r t actions → AllByRecursion (IsPossible r) tokens → IsDesign r (at s.store s.number)
  shaped_design r designs possible =
      subst (IsDesign r) (sym h.holds.is) (designs tokens h.tree possible h.parse.derived h.parse.yields)

  pub shaped_shape : (f : Forest Form) → f ≡ at s.store s.number → IsShapeOf t actions tokens deep f
  shaped_shape f e = record { tree = h.tree; parse = h.parse; is = e ∙ h.holds.is }

pub ruleset designing = (shaped_within, shaped_design, shaped_shape)

-- what holds of a table's shapes holds of those of each table with its grammar
module _ (says : SayTheSame) (t u : Table) (same : IsSameGrammar t u) (actions : List Action) where
  one_way : (tokens : List Lexeme) (deep : ℕ) → SaysTheSame t u (symbols_in tokens) deep
  one_way tokens deep = (says t u same (symbols_in tokens) deep).0

  pub same_designs : (r : Revision) → ShapesAreDesigns r u actions → ShapesAreDesigns r t actions
  same_designs r designs = λ tokens tree possible derived yields.
      designs tokens tree possible ((one_way tokens 0).derivations tree derived) yields

  pub same_shape : (tokens : List Lexeme) (deep : ℕ) (f : Forest Form) → IsShapeOf t actions tokens deep f → IsShapeOf u actions tokens deep f
  same_shape tokens deep f h = record { tree = h.tree; parse = (one_way tokens deep).parses h.tree h.parse; is = h.is }
