-- What is found as named is what trees name.
use Rattle.std.proofs.Common.{◌≡◌, ℕ, List, [], Option, Some, None, option_to_list, refl, ap, ◌∙◌}
use Rattle.vd_bytes.specs.declared.places.Place.{Place}
use Rattle.vd_meaning.specs.NodeFacets.{Part, nth}
use Rattle.vd_meaning.specs.Parts as elaborated
use Rattle.vd_meaning.specs.Parts.{node_part, part_of, parts}
use Rattle.vd_forest.specs.Forest.{Forest, skipped}
use Rattle.vd_forms.specs.declared.form.Form.{Form}
use Rattle.vd_walks.specs.Gathering.{all_found, with_answer}
use Rattle.vd_meaning.specs.Facets.{Meaning}
use Rattle.vd_meaning.specs.Meanings.{node_meaning}
use Rattle.vd_meaning.specs.Tables.{Table}
use Rattle.vd_port_facts.proofs.SeekLemmas.{found_seen, seen}
use Rattle.vd_port_facts.specs.Reading.{named_first}
use Rattle.vd_port_facts.specs.Seeking.{inside_names, name_seeker, named_by}
use Rattle.vd_port_lists.proofs.PartLemmas.{meant, part_skipped}
use Rattle.vd_resolved.specs.declared.node.Resolved.{Resolved}
use Rattle.vd_forms.specs.declared.form.Form.TheVariants as form
use Rattle.vd_function_names.specs.declared.counting.Counted.TheVariants as trees

abbrev pub value : Part → List ℕ
value p = p.named

module _ (t : Table) where
  own_number : (number : Option ℕ) → option_to_list number ≡ with_answer number []
  own_number None = refl
  own_number (Some n) = refl

  step_by : (f : Form) (n : Resolved) (m : Meaning) (inside : Forest Resolved)
      → (part_of (elaborated.kind f) n m (parts t inside)).named
      ≡ with_answer (named_by f n.declaration) (seen t (λ n parts. named_by n.form n.declaration) inside_names value (inside_names f) inside)
  step_by form.Identifier n m inside = own_number n.declaration
  step_by _ n m inside = refl

  pub names_found : (f : Forest Resolved) → all_found name_seeker trees.FirstAlone f ≡ named_first t f
  names_found =
      found_seen t (λ n parts. named_by n.form n.declaration) inside_names value refl
      (λ n text place inside. step_by n.form n (node_meaning t n text place (meant (parts t inside))) inside) trees.FirstAlone

pub part_named : (t : Table) (k : ℕ) (f : Forest Resolved) → (nth k (parts t f)).named ≡ named_first t (skipped k f)
part_named t k f = ap (λ p. p.named) (part_skipped t k f)
