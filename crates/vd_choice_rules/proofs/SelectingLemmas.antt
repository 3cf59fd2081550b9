-- Statements by their parts.
use Rattle.std.proofs.Common.{◌≡◌, Bool, None, Option, Some, ap, ap₂, refl, subst, sym, zero, suc, ℕ, ◌∙◌}
use Rattle.vd_bytes.specs.declared.places.Place.{Place}
use Rattle.vd_choice_rules.specs.SelectingStatements.{IsSelecting, comparison_of, selecting_by_word, word_there}
use Rattle.vd_choice_rules.specs.declared.selecting_statements.Selecting.{Selecting}
use Rattle.vd_operations.proofs.PassingLemmas.{nth_skipped}
use Rattle.vd_forest.proofs.ForestLemmas.{skipped_nothing}
use Rattle.vd_forest.specs.Forest.{Forest, more, no_place, nothing, place_of, skipped}
use Rattle.vd_given_choices.specs.Choices.{AreChoices}
use Rattle.vd_meaning.specs.Facets.{nth}
use Rattle.vd_meaning.specs.Meanings.{meanings}
use Rattle.vd_meaning.specs.Statements.{comparison}
use Rattle.vd_resolved.specs.declared.node.Resolved.{Resolved}
use Rattle.vd_known_lengths.specs.Shapes.{IsShape}
use Rattle.vd_known_lengths.specs.declared.shapes.Shape.{Shape}
use Rattle.vd_value_rules.specs.Choices.{all_choices, has_others, is_selectable, place_at, place_or}
use Rattle.vd_value_rules.specs.Choices as rules
use Rattle.vd_value_rules.specs.Designs.{Design}
use Rattle.vd_value_rules.specs.Knowledge.{Known}
use Rattle.vd_value_rules.specs.Lengths.{nth_shaping, shape_at, shapings}
use Rattle.vd_value_rules.specs.Standings.{State}
use Rattle.vd_vectors.specs.declared.logics.LogicType.{LogicType}

pub word_skipped : (d : Design) (n : ℕ) (parts tree : Forest Resolved) (there : Bool) → tree ≡ skipped n parts → there ≡ (nth 0 (meanings d.table tree)).is_present
    → there ≡ word_there d (Some n) parts
word_skipped d n parts tree there skips is =
    is ∙ ap (λ f. (nth 0 (meanings d.table f)).is_present) skips ∙ ap (λ m. m.is_present) (sym (nth_skipped n d.table parts))

shaping_skipped_nothing : (d : Design) (k : Known) (n : ℕ) → nth_shaping n (shapings d k nothing) ≡ nth_shaping 0 (shapings d k (skipped n nothing))
shaping_skipped_nothing d k n = ap (λ f. nth_shaping 0 (shapings d k f)) (sym (skipped_nothing n))

shaping_skipped : (d : Design) (k : Known) (n : ℕ) (parts : Forest Resolved) → nth_shaping n (shapings d k parts) ≡ nth_shaping 0 (shapings d k (skipped n parts))
shaping_skipped d k zero parts = refl
shaping_skipped d k (suc n) nothing = shaping_skipped_nothing d k (suc n)
shaping_skipped d k (suc n) (more m text place parts next) = shaping_skipped d k n next

module _ (d : Design) (s : State) (own place : Place) (parts tree : Forest Resolved) (selector at : ℕ) (alternatives : Forest Resolved) (label : place ≡ place_or s.label own)
    (skips : tree ≡ skipped selector parts) where
  compared : (word : Option ℕ) (there : Bool) (of : Option LogicType) → there ≡ word_there d word parts
      → comparison d.table there (nth 0 (meanings d.table tree)) ≡ comparison_of of
      → (selecting_by_word d s own parts selector word at alternatives).comparison ≡ comparison_of of
  compared None there of is compares = ap (λ b. comparison d.table b (nth 0 (meanings d.table tree))) (sym is) ∙ compares
  compared (Some n) there of is compares =
      ap₂ (λ b m. comparison d.table b m) (sym is) (nth_skipped selector d.table parts ∙ ap (λ f. nth 0 (meanings d.table f)) (sym skips)) ∙ compares

  made : (x : Selecting) (y : rules.Selecting) (selectable others : Bool) (at_selector : Place) (shape : Shape)
      → at_selector ≡ place_or (place_of tree) no_place → IsShape shape (nth_shaping 0 (shapings d s.known tree)).shaped
      → selectable ≡ is_selectable d tree → others ≡ has_others at alternatives → x.place ≡ place → x.selector_place ≡ at_selector → x.shape ≡ shape
      → x.is_selectable ≡ selectable → x.has_others ≡ others → AreChoices x.choices.items (all_choices d s.known.env at alternatives)
      → y.comparison ≡ comparison_of x.matching
      → y.place ≡ place_or s.label own → y.selector_place ≡ place_at selector parts → y.selector ≡ shape_at d s.known selector parts
      → y.is_selectable ≡ is_selectable d (skipped selector parts) → y.has_others ≡ has_others at alternatives
      → y.choices ≡ all_choices d s.known.env at alternatives → IsSelecting x y
  made x y selectable others at_selector shape at_is shape_is selectable_is others_is p a sh se ot are compares yp ya ys ye yo yc = record {
    place = yp ∙ sym label ∙ sym p;
    selector_place = ya ∙ ap (λ f. place_or (place_of f) no_place) (sym skips) ∙ sym at_is ∙ sym a;
    shape = subst (λ z. IsShape x.shape z)
        (ap (λ f. (nth_shaping 0 (shapings d s.known f)).shaped) skips ∙ ap (λ z. z.shaped) (sym (shaping_skipped d s.known selector parts)) ∙ sym ys)
        (subst (λ z. IsShape z (nth_shaping 0 (shapings d s.known tree)).shaped) (sym sh) shape_is);
    selectable = ye ∙ ap (is_selectable d) (sym skips) ∙ sym selectable_is ∙ sym se;
    comparison = compares;
    others = yo ∙ sym others_is ∙ sym ot;
    choices = subst (AreChoices x.choices.items) (sym yc) are;
  }

  pub selecting_is : (word : Option ℕ) (there selectable others : Bool) (x : Selecting) (at_selector : Place) (shape : Shape)
      → there ≡ word_there d word parts → comparison d.table there (nth 0 (meanings d.table tree)) ≡ comparison_of x.matching
      → at_selector ≡ place_or (place_of tree) no_place → IsShape shape (nth_shaping 0 (shapings d s.known tree)).shaped
      → selectable ≡ is_selectable d tree → others ≡ has_others at alternatives → x.place ≡ place → x.selector_place ≡ at_selector → x.shape ≡ shape
      → x.is_selectable ≡ selectable → x.has_others ≡ others → AreChoices x.choices.items (all_choices d s.known.env at alternatives)
      → IsSelecting x (selecting_by_word d s own parts selector word at alternatives)
  selecting_is None there selectable others x at_selector shape there_is compares at_is shape_is selectable_is others_is p a sh se ot are =
      made x (selecting_by_word d s own parts selector None at alternatives) selectable others at_selector shape at_is shape_is selectable_is others_is p a sh se ot are
      (compared None there x.matching there_is compares) refl refl refl refl refl refl
  selecting_is (Some n) there selectable others x at_selector shape there_is compares at_is shape_is selectable_is others_is p a sh se ot are =
      made x (selecting_by_word d s own parts selector (Some n) at alternatives) selectable others at_selector shape at_is shape_is selectable_is others_is p a sh se ot are
      (compared (Some n) there x.matching there_is compares) refl refl refl refl refl refl
