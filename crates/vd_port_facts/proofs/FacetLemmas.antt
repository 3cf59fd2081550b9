-- Facets of the meanings of parts: the numbers of a list of identifiers, and whether an actual is `open`.
use Rattle.std.proofs.Common.{◌≡◌, ◌++◌, ℕ, Bool, true, false, List, [], ◌∷◌, map, option_to_list, refl, ap, ◌∙◌}
use Rattle.vd_meaning.specs.NodeFacets.{Part, nth}
use Rattle.vd_meaning.specs.Parts as elaborated
use Rattle.vd_meaning.specs.Parts.{part_of, parts}
use Rattle.vd_operations.proofs.PassingLemmas.{open_at}
use Rattle.vd_forest.specs.Forest.{Forest, skipped}
use Rattle.vd_meaning.specs.Facets.{Meaning, flattened}
use Rattle.vd_meaning.specs.Kinds as kinds
use Rattle.vd_meaning.specs.Kinds.{Kind}
use Rattle.vd_meaning.specs.Meanings.{meaning_of}
use Rattle.vd_meaning.specs.Tables.{Table}
use Rattle.vd_port_facts.specs.Reading.{numbers_first}
use Rattle.vd_port_lists.proofs.PartLemmas.{facet_of_part, nth_of_facets, nth_or}
use Rattle.vd_resolved.specs.declared.node.Resolved.{Resolved}

-- ---- numbers

all_of : List (List ℕ) → List ℕ
all_of [] = []
all_of (xs ∷ xss) = xs ++ all_of xss

all_of_facets : (ms : List Meaning) → flattened (λ m. m.numbers) ms ≡ all_of (map (λ m. m.numbers) ms)
unfolding all_of
all_of_facets [] = refl
all_of_facets (m ∷ ms) = ap (λ ns. m.numbers ++ ns) (all_of_facets ms)

numbers_by : Kind → Resolved → List (List ℕ) → List ℕ
numbers_by kinds.Word n xss = option_to_list n.declaration
numbers_by kinds.Identifiers n xss = all_of xss
numbers_by kinds.Associated n xss = nth_or [] 1 xss
numbers_by kinds.AssociatedOthers n xss = nth_or [] 0 xss
numbers_by kinds.OpenIndex n xss = nth_or [] 0 xss
numbers_by _ n xss = []

numbers_here : (k : Kind) (t : Table) (n : Resolved) (text : List ℕ) (ms : List Meaning)
    → (meaning_of k t n text ms).numbers ≡ numbers_by k n (map (λ m. m.numbers) ms)
unfolding numbers_by
numbers_here kinds.Identifiers t n text ms = all_of_facets ms
numbers_here kinds.Associated t n text ms = nth_of_facets (λ m. m.numbers) 1 ms
numbers_here kinds.AssociatedOthers t n text ms = nth_of_facets (λ m. m.numbers) 0 ms
numbers_here kinds.OpenIndex t n text ms = nth_of_facets (λ m. m.numbers) 0 ms
numbers_here _ t n text ms = refl

numbers_kept : (k : elaborated.Kind) (n : Resolved) (m : Meaning) (ps : List Part) → (part_of k n m ps).meaning.numbers ≡ m.numbers
numbers_kept elaborated.SelectedText n m ps = refl
numbers_kept elaborated.Alternative n m ps = refl
numbers_kept _ n m ps = refl

pub part_numbers : (t : Table) (k : ℕ) (f : Forest Resolved) → (nth k (parts t f)).meaning.numbers ≡ numbers_first t (skipped k f)
part_numbers = facet_of_part (λ m. m.numbers) numbers_by numbers_here numbers_kept

-- ---- `open`

open_by : Kind → Resolved → List Bool → Bool
open_by kinds.OpenActual n bs = true
open_by kinds.OpenIndex n bs = true
open_by kinds.Associated n bs = nth_or false 1 bs
open_by kinds.AssociatedOthers n bs = nth_or false 0 bs
open_by _ n bs = false

open_here : (k : Kind) (t : Table) (n : Resolved) (text : List ℕ) (ms : List Meaning)
    → (meaning_of k t n text ms).is_open ≡ open_by k n (map (λ m. m.is_open) ms)
unfolding open_by
open_here kinds.Associated t n text ms = nth_of_facets (λ m. m.is_open) 1 ms
open_here kinds.AssociatedOthers t n text ms = nth_of_facets (λ m. m.is_open) 0 ms
open_here _ t n text ms = refl

open_kept : (k : elaborated.Kind) (n : Resolved) (m : Meaning) (ps : List Part) → (part_of k n m ps).meaning.is_open ≡ m.is_open
open_kept elaborated.SelectedText n m ps = refl
open_kept elaborated.Alternative n m ps = refl
open_kept _ n m ps = refl

pub part_open : (t : Table) (k : ℕ) (f : Forest Resolved) → (nth k (parts t f)).meaning.is_open ≡ open_at t (skipped k f)
part_open = facet_of_part (λ m. m.is_open) open_by open_here open_kept
