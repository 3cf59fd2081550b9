-- What units are called by, step by step.
use Rattle.std.proofs.Common.{◌≡◌, ◌≢◌, ℕ, List, [], ◌∷◌, refl, sym, ap, ◌∙◌}
use Rattle.vd_bytes.specs.declared.places.Place.{Place}
use Rattle.vd_meaning.specs.NodeFacets.{Part, last_of, nth}
use Rattle.vd_meaning.specs.Parts as elaborated
use Rattle.vd_meaning.specs.Parts.{part_of, parts}
use Rattle.vd_operations.specs.Passing.{last_tree}
use Rattle.vd_forest.specs.Forest.{Forest, more, nothing, skipped}
use Rattle.vd_forms.specs.declared.form.Form.{Form}
use Rattle.vd_meaning.specs.Facets.{Meaning}
use Rattle.vd_meaning.specs.Facets as facets
use Rattle.vd_meaning.specs.Kinds.{kind}
use Rattle.vd_meaning.specs.Meanings.{meaning_of, meanings}
use Rattle.vd_meaning.specs.Tables.{Table}
use Rattle.vd_port_facts.specs.Reading.{formal_first, name_first, part_first}
use Rattle.vd_port_lists.proofs.PartLemmas.{meant, nth_meant, part_skipped}
use Rattle.vd_resolved.specs.declared.node.Resolved.{Resolved}
use Rattle.vd_forms.specs.declared.form.Form.TheVariants as form

-- the last part is that of the last tree
pub last_part : (t : Table) (f : Forest Resolved) → last_of (parts t f) ≡ part_first t (last_tree f)
last_part t nothing = refl
last_part t (more n text place inside nothing) = refl
last_part t (more n text place inside (more n' text' place' inside' next)) = last_part t (more n' text' place' inside' next)

-- what a tree is called by, where its form tells which of its parts says it; else it hangs on no part
abbrev pub called_by : Form → Table → Forest Resolved → List ℕ → List ℕ
called_by form.SelectedName t inside text = name_first t (last_tree inside)
called_by form.Association t inside text = name_first t (skipped 1 inside)
called_by form.OthersAssociation t inside text = name_first t inside
called_by form.UnconstrainedIndex t inside text = name_first t inside
called_by _ t inside text = text

module _ (t : Table) where
  called : (f : Form) (n : Resolved) (text : List ℕ) (inside : Forest Resolved)
      → (part_of (elaborated.kind f) n (meaning_of (kind f) t n text (meant (parts t inside))) (parts t inside)).meaning.text
      ≡ called_by f t inside (meaning_of (kind f) t n text (meanings t inside)).text
  called form.SelectedName n text inside = ap (λ p. p.meaning.text) (last_part t inside)
  called form.Association n text inside =
      ap (λ m. m.text) (nth_meant 1 (parts t inside)) ∙ ap (λ p. p.meaning.text) (part_skipped t 1 inside)
  called form.OthersAssociation n text inside = ap (λ m. m.text) (nth_meant 0 (parts t inside))
  called form.UnconstrainedIndex n text inside = ap (λ m. m.text) (nth_meant 0 (parts t inside))
  called _ n text inside = refl

  pub called_first : (f : Forest Resolved) (n : Resolved) (text : List ℕ) (place : Place) (inside next : Forest Resolved) → f ≡ more n text place inside next
      → name_first t f ≡ called_by n.form t inside (facets.nth 0 (meanings t f)).text
  called_first f n text place inside next is =
      ap (name_first t) is ∙ called n.form n text inside
      ∙ ap (λ g. called_by n.form t inside (facets.nth 0 (meanings t g)).text) (sym is)

  -- one step of the way to the tree that says it
  pub called_at : (f : Forest Resolved) (n : Resolved) (text : List ℕ) (place : Place) (inside next : Forest Resolved) (k : Form) → f ≡ more n text place inside next
      → n.form ≡ k → called_by k t inside (facets.nth 0 (meanings t f)).text ≡ name_first t f
  called_at f n text place inside next k is is_form =
      ap (λ g. called_by g t inside (facets.nth 0 (meanings t f)).text) (sym is_form) ∙ sym (called_first f n text place inside next is)

  -- all other forms say it themselves
  called_else : (f : Form) (inside : Forest Resolved) (text : List ℕ) → f ≢ form.SelectedName → f ≢ form.Association → f ≢ form.OthersAssociation → f ≢ form.UnconstrainedIndex
      → called_by f t inside text ≡ text
  called_else form.SelectedName inside text last second others any = absurd (last refl)
  called_else form.Association inside text last second others any = absurd (second refl)
  called_else form.OthersAssociation inside text last second others any = absurd (others refl)
  called_else form.UnconstrainedIndex inside text last second others any = absurd (any refl)
  called_else _ inside text last second others any = refl

  pub called_itself : (f : Forest Resolved) (n : Resolved) (text : List ℕ) (place : Place) (inside next : Forest Resolved) → f ≡ more n text place inside next
      → n.form ≢ form.SelectedName → n.form ≢ form.Association → n.form ≢ form.OthersAssociation → n.form ≢ form.UnconstrainedIndex
      → (facets.nth 0 (meanings t f)).text ≡ name_first t f
  called_itself f n text place inside next is last second others any =
      sym (called_first f n text place inside next is ∙ called_else n.form inside (facets.nth 0 (meanings t f)).text last second others any)
