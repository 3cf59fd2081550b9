-- The actuals of a map, and what is named in front of `=>`, step by step.
use Rattle.std.proofs.Common.{◌≡◌, ◌≢◌, ℕ, Bool, true, false, List, [], ◌∷◌, Option, Some, None, is_some, map, refl, sym, ap, ap₂, ◌∙◌}
use Rattle.vd_bytes.specs.declared.places.Place.{Place}
use Rattle.vd_meaning.specs.NodeFacets.{Part, last_of, nth}
use Rattle.vd_meaning.specs.Parts as elaborated
use Rattle.vd_meaning.specs.Parts.{formal_in, part_of, parts}
use Rattle.vd_operations.specs.Passing.{last_tree}
use Rattle.vd_forest.specs.Forest.{Forest, more, nothing, skipped}
use Rattle.vd_forms.specs.declared.form.Form.{Form}
use Rattle.vd_meaning.specs.Brackets.{or_else}
use Rattle.vd_meaning.specs.Facets.{Association, ByChoices, ForOthers, Meaning, Positional}
use Rattle.vd_meaning.specs.Facets as facets
use Rattle.vd_meaning.specs.Kinds.{kind}
use Rattle.vd_meaning.specs.Meanings.{meaning_of, meanings}
use Rattle.vd_meaning.specs.Tables.{Table}
use Rattle.vd_operations.proofs.PassingLemmas.{open_at}
use Rattle.vd_port_facts.proofs.FacetLemmas.{part_open}
use Rattle.vd_port_facts.proofs.TextLemmas.{last_part}
use Rattle.vd_port_facts.specs.Reading.{actuals_by, formal_by, formal_first, part_first, read_actual, read_element}
use Rattle.vd_port_facts.specs.declared.actuals.ListedActual.{ListedActual}
use Rattle.vd_port_lists.proofs.PartLemmas.{meant, nth_meant, part_skipped}
use Rattle.vd_resolved.specs.declared.node.Resolved.{Resolved}
use Rattle.vd_forms.specs.declared.form.Form.TheVariants as form

-- what stands in front of `=>` names, by the form of the tree
abbrev pub named_in_front : Form → Table → Resolved → Forest Resolved → Option ℕ
named_in_front form.Identifier t n inside = n.declaration
named_in_front form.Name t n inside = or_else n.declaration (formal_first t (last_tree inside))
named_in_front form.Arguments t n inside = formal_first t inside
named_in_front form.AssociationChoices t n inside = formal_first t inside
named_in_front form.Association t n inside = formal_first t inside
named_in_front _ t n inside = None

or_none : (own other : Option ℕ) → is_some own ≡ false → or_else own other ≡ other
or_none None other none = refl
or_none (Some n) other none = let no : true ≡ false = none in cc

or_some : (own other : Option ℕ) → is_some own ≡ true → or_else own other ≡ own
or_some None other some = let no : false ≡ true = some in cc
or_some (Some n) other some = refl

module _ (t : Table) where
  in_front : (f : Form) (n : Resolved) (m : Meaning) (inside : Forest Resolved)
      → (part_of (elaborated.kind f) n m (parts t inside)).formal ≡ named_in_front f t n inside
  in_front form.Name n m inside = ap (λ p. or_else n.declaration p.formal) (last_part t inside)
  in_front _ n m inside = refl

  pub in_front_first : (f : Forest Resolved) (n : Resolved) (text : List ℕ) (place : Place) (inside next : Forest Resolved) → f ≡ more n text place inside next
      → formal_first t f ≡ named_in_front n.form t n inside
  in_front_first f n text place inside next is =
      ap (formal_first t) is ∙ in_front n.form n (meaning_of (kind n.form) t n text (meant (parts t inside))) inside

  -- one step of the way to what is named
  pub in_front_at : (f : Forest Resolved) (n : Resolved) (text : List ℕ) (place : Place) (inside next : Forest Resolved) (k : Form) → f ≡ more n text place inside next
      → n.form ≡ k → named_in_front k t n inside ≡ formal_first t f
  in_front_at f n text place inside next k is is_form =
      ap (λ g. named_in_front g t n inside) (sym is_form) ∙ sym (in_front_first f n text place inside next is)

  pub named_itself : (f : Forest Resolved) (n : Resolved) (text : List ℕ) (place : Place) (inside next : Forest Resolved) → f ≡ more n text place inside next
      → n.form ≡ form.Name → is_some n.declaration ≡ true → n.declaration ≡ formal_first t f
  named_itself f n text place inside next is is_form some =
      sym (or_some n.declaration (formal_first t (last_tree inside)) some) ∙ in_front_at f n text place inside next form.Name is is_form

  pub named_by_last : (f : Forest Resolved) (n : Resolved) (text : List ℕ) (place : Place) (inside next : Forest Resolved) → f ≡ more n text place inside next
      → n.form ≡ form.Name → is_some n.declaration ≡ false → formal_first t (last_tree inside) ≡ formal_first t f
  named_by_last f n text place inside next is is_form none =
      sym (or_none n.declaration (formal_first t (last_tree inside)) none) ∙ in_front_at f n text place inside next form.Name is is_form

  -- all other forms name nothing
  front_else : (f : Form) (n : Resolved) (inside : Forest Resolved) → f ≢ form.Identifier → f ≢ form.Name → f ≢ form.Arguments → f ≢ form.AssociationChoices → f ≢ form.Association
      → named_in_front f t n inside ≡ None
  front_else form.Identifier n inside itself name arguments choices association = absurd (itself refl)
  front_else form.Name n inside itself name arguments choices association = absurd (name refl)
  front_else form.Arguments n inside itself name arguments choices association = absurd (arguments refl)
  front_else form.AssociationChoices n inside itself name arguments choices association = absurd (choices refl)
  front_else form.Association n inside itself name arguments choices association = absurd (association refl)
  front_else _ n inside itself name arguments choices association = refl

  pub nothing_in_front : (f : Forest Resolved) (n : Resolved) (text : List ℕ) (place : Place) (inside next : Forest Resolved) → f ≡ more n text place inside next
      → n.form ≢ form.Identifier → n.form ≢ form.Name → n.form ≢ form.Arguments → n.form ≢ form.AssociationChoices → n.form ≢ form.Association
      → None ≡ formal_first t f
  nothing_in_front f n text place inside next is itself name arguments choices association =
      sym (in_front_first f n text place inside next is ∙ front_else n.form n inside itself name arguments choices association)

  -- ---- elements of a map

  no_formal : (a : Association) → formal_in a None ≡ None
  no_formal Positional = refl
  no_formal ByChoices = refl
  no_formal ForOthers = refl

  formal_here : (f : Form) (n : Resolved) (text : List ℕ) (inside : Forest Resolved)
      → formal_in (part_of (elaborated.kind f) n (meaning_of (kind f) t n text (meant (parts t inside))) (parts t inside)).meaning.association
      (part_of (elaborated.kind f) n (meaning_of (kind f) t n text (meant (parts t inside))) (parts t inside)).formal
      ≡ formal_by f t inside
  formal_here form.Association n text inside = refl
  formal_here form.UnconstrainedIndex n text inside = no_formal (facets.nth 0 (meant (parts t inside))).association
  formal_here _ n text inside = refl

  pub formal_in_map : (f : Forest Resolved) (n : Resolved) (text : List ℕ) (place : Place) (inside next : Forest Resolved) → f ≡ more n text place inside next
      → (read_element (part_first t f)).formal ≡ formal_by n.form t inside
  formal_in_map f n text place inside next is = ap (λ g. (read_element (part_first t g)).formal) is ∙ formal_here n.form n text inside

  pub element_is : (f : Forest Resolved) (formal : Option ℕ) (is_open : Bool) → formal ≡ (read_element (part_first t f)).formal → is_open ≡ open_at t f
      → record { formal = formal; is_open = is_open } ≡ read_element (part_first t f)
  element_is f formal is_open is_formal opens =
      let made : Option ℕ → Bool → ListedActual = λ d b. record { formal = d; is_open = b } in
      ap₂ made is_formal (opens ∙ sym (part_open t 0 f))

  -- ---- the map

  read_elements : (ps : List Part) → map read_element ps ≡ map read_actual (map (λ p. record { formal = formal_in p.meaning.association p.formal; meaning = p.meaning }) ps)
  read_elements [] = refl
  read_elements (p ∷ ps) = ap (λ as'. read_element p ∷ as') (read_elements ps)

  actuals_here : (f : Form) (n : Resolved) (m : Meaning) (inside : Forest Resolved)
      → actuals_by f t inside ≡ map read_actual (part_of (elaborated.kind f) n m (parts t inside)).actuals
  actuals_here form.GenericMap n m inside = read_elements (parts t inside)
  actuals_here form.PortMap n m inside = read_elements (parts t inside)
  actuals_here _ n m inside = refl

  pub actuals_first : (f : Forest Resolved) (n : Resolved) (text : List ℕ) (place : Place) (inside next : Forest Resolved) → f ≡ more n text place inside next
      → actuals_by n.form t inside ≡ map read_actual (part_first t f).actuals
  actuals_first f n text place inside next is =
      actuals_here n.form n (meaning_of (kind n.form) t n text (meant (parts t inside))) inside
      ∙ ap (λ g. map read_actual (part_first t g).actuals) (sym is)
