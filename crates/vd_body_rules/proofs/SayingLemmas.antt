-- What trees are called by, from their nodes.
use Rattle.std.proofs.Common.{◌≡◌, List, [], ap, refl, sym, ℕ, ◌∙◌}
use Rattle.vd_body_rules.specs.Words.{said}
use Rattle.vd_body_rules.specs.declared.identified.Saying.{Saying}
use Rattle.vd_bytes.specs.declared.places.Place.{Place}
use Rattle.vd_forest.specs.Forest.{Forest, more}
use Rattle.vd_meaning.specs.Facets.{Meaning, nth}
use Rattle.vd_meaning.specs.Kinds
use Rattle.vd_meaning.specs.Meanings.{meaning_of, meanings}
use Rattle.vd_meaning.specs.Tables.{Table}
use Rattle.vd_resolved.specs.declared.node.Resolved.{Resolved}
use Rattle.vd_body_rules.specs.declared.identified.Saying.TheVariants as saying

module _ (t : Table) where
  abbrev pub text_by : Saying → List ℕ → List Meaning → List ℕ
  text_by saying.Itself text ms = text
  text_by saying.FirstPart text ms = (nth 0 ms).text
  text_by saying.SecondPart text ms = (nth 1 ms).text
  text_by saying.Nothing text ms = []

  text_of_kind : (k : Kinds.Kind) (n : Resolved) (text : List ℕ) (ms : List Meaning) → (meaning_of k t n text ms).text ≡ text_by (said k) text ms
  text_of_kind Kinds.Word n text ms = refl
  text_of_kind _ n text ms = refl

  pub text_step : (f : Forest Resolved) (n : Resolved) (text : List ℕ) (place : Place) (parts next : Forest Resolved) (s : Saying)
      → f ≡ more n text place parts next → s ≡ said (Kinds.kind n.form) → (nth 0 (meanings t f)).text ≡ text_by s text (meanings t parts)
  text_step f n text place parts next s is s_is =
      ap (λ g. (nth 0 (meanings t g)).text) is ∙ text_of_kind (Kinds.kind n.form) n text (meanings t parts)
      ∙ ap (λ r. text_by r text (meanings t parts)) (sym s_is)
