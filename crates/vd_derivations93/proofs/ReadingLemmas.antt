-- Tokens of designs are read back.
use Rattle.std.proofs.Common.{◌≡◌, ◌<◌, ◌≤◌, true, List, sym, ap, ◌∙◌, subst}
use Rattle.vd_bytes.specs.declared.answers.Refused.{Refused}
use Rattle.vd_trees.specs.declared.revision.Revision.TheVariants.{V1993}
use Rattle.vd_tokens.specs.Lexemes.{Lexeme}
use Rattle.vd_gram.specs.declared.tables.Table.{Table}
use Rattle.vd_gram.specs.Claims.{is_checked}
use Rattle.vd_gram.specs.Derivations.{Trees, yield, unplaced, IsTooDeep, depth}
use Rattle.vd_gram.proofs.UniqueLemmas.{one_unplaced, shallow_depth}
use Rattle.vd_gram.proofs.FrontLemmas.{deep_there}
use Rattle.vd_forest.specs.Forest.{Forest, SameButPlaces}
use Rattle.vd_forms.specs.declared.form.Form.{Form}
use Rattle.vd_forms.specs.Validity.{IsDesign}
use Rattle.vd_shapes.specs.declared.actions.Action.{Action}
use Rattle.vd_shapes.specs.Reading.{symbols_in, IsRefusedAt}
use Rattle.vd_valid_shapes.specs.Laws.{IsShapeOf}
use Rattle.vd_templates.specs.Templates.{tokens_of}
use Rattle.vd_derivations.specs.Laws.{AreTokensOf, IsDerivationOf, HaveNoOtherShape}
use Rattle.vd_derivations.proofs.ShapeLemmas.{symbols_without_place}
use Rattle.vd_grammar93.specs.Grammar.{grammar, actions}
use Rattle.vd_grammar93.proofs.Checked.{grammar_is_checked}
use Rattle.vd_derivations93.specs.Laws.{DesignsAreReadBack}
use Rattle.vd_derivations93.proofs.Checked.{derived, no_other}
use Rattle.vd_derivations93.proofs.DepthLemmas.{depth_unplaced, not_refused}

module _ (t : Table) (acts : List Action) (checked : is_checked t ≡ true) (units : Forest Form) (tokens : List Lexeme) (are : AreTokensOf tokens units) where
  symbols_same : symbols_in (tokens_of units) ≡ symbols_in tokens
  symbols_same = ap symbols_in (sym are) ∙ symbols_without_place tokens

  yields_them : (tree : Trees) → IsDerivationOf t units tree → yield tree ≡ symbols_in tokens
  yields_them tree d = d.yields ∙ symbols_same

  never_refused : (tree : Trees) → IsDerivationOf t units tree → (refused : Refused) → IsRefusedAt t tokens 2000 refused → ⊥
  never_refused tree d refused h =
      not_refused t (symbols_in tokens) (record { tree = tree; derived = d.derived; yields = yields_them tree d }) 2000 h.number h.refused_there

  deeper : (tree : Trees) → IsDerivationOf t units tree → IsTooDeep t (symbols_in tokens) 2000 → 2000 < depth t tree
  deeper tree d deep = deep_there t checked tree 2000 d.derived (subst (λ ss. IsTooDeep t ss 2000) (sym (yields_them tree d)) deep)

  shallow : (tree : Trees) (f : Forest Form) → IsDerivationOf t units tree → IsShapeOf t acts tokens 2000 f → depth t tree ≤ 2000
  shallow tree f d h =
      let same : unplaced h.tree ≡ unplaced tree = one_unplaced t checked h.tree tree h.parse.derived d.derived (h.parse.yields ∙ sym (yields_them tree d)) in
      subst (λ n. n ≤ 2000) (sym (depth_unplaced t h.tree) ∙ ap (depth t) same ∙ depth_unplaced t tree) (shallow_depth t (symbols_in tokens) 2000 h.tree h.parse)

  pub read_shape : HaveNoOtherShape t acts → IsDesign V1993 units → (f : Forest Form) → IsShapeOf t acts tokens 2000 f → SameButPlaces f units
  read_shape alone d f h = subst (λ g. SameButPlaces g units) (sym h.is) (alone units tokens h.tree d are h.parse.derived h.parse.yields)

pub read_back : DesignsAreReadBack
read_back units tokens d are = record {
  read = read_shape grammar actions grammar_is_checked units tokens are no_other d;
  never_refused = never_refused grammar actions grammar_is_checked units tokens are (derived units d).tree (derived units d).derivation;
  read_where_shallow = shallow grammar actions grammar_is_checked units tokens are;
  deep_where_deeper = deeper grammar actions grammar_is_checked units tokens are;
}
