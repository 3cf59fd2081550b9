-- What the parts of a node mean to elaboration, as far as the lists of interfaces ask.
use Rattle.std.proofs.Common.{◌≡◌, ℕ, zero, suc, Bool, true, false, List, [], ◌∷◌, Option, None, map, refl, sym, ap, ap₂, ◌∙◌}
use Rattle.vd_meaning.specs.NodeFacets.{ByView, Part, nth}
use Rattle.vd_meaning.specs.Parts as elaborated
use Rattle.vd_meaning.specs.Parts.{node_part, part_of, parts}
use Rattle.vd_operations.proofs.PassingLemmas.{declaration_by, declaration_passed, present_by, present_passed}
use Rattle.vd_operations.specs.Passing.{passing}
use Rattle.vd_operations.specs.declared.passing.Passing.{Passing}
use Rattle.vd_operations.specs.declared.passing.Passing.TheVariants.{First, Last, Nothing, OpenFirst, Second}
use Rattle.vd_forest.specs.Forest.{Forest, more, nothing, skipped}
use Rattle.vd_forms.specs.declared.form.Form.{Form}
use Rattle.vd_meaning.specs.Brackets.{or_else}
use Rattle.vd_meaning.specs.Facets.{Meaning, flattened, no_meaning}
use Rattle.vd_meaning.specs.Facets as facets
use Rattle.vd_meaning.specs.Kinds.{Kind, kind}
use Rattle.vd_meaning.specs.Meanings.{meaning_of, meanings}
use Rattle.vd_meaning.specs.Tables.{Table}
use Rattle.vd_port_lists.specs.FirstTrees.{declared_first, present_first}
use Rattle.vd_port_lists.specs.Modes.{read_mode}
use Rattle.vd_port_lists.specs.Seeking.{mode_at, mode_by}
use Rattle.vd_resolved.specs.declared.node.Resolved.{Resolved}
use Rattle.vd_forms.specs.declared.form.Form.TheVariants as form

-- what parts mean
abbrev pub meant : List Part → List Meaning
meant ps = map (λ p. p.meaning) ps

pub nth_meant : (k : ℕ) (ps : List Part) → facets.nth k (meant ps) ≡ (nth k ps).meaning
nth_meant zero [] = refl
nth_meant (suc k) [] = refl
nth_meant zero (p ∷ ps) = refl
nth_meant (suc k) (p ∷ ps) = nth_meant k ps

pub part_skipped : (t : Table) (k : ℕ) (f : Forest Resolved) → nth k (parts t f) ≡ nth 0 (parts t (skipped k f))
part_skipped t zero f = refl
part_skipped t (suc k) nothing = part_skipped t k nothing
part_skipped t (suc k) (more n text place inside next) = part_skipped t k next

-- ---- a facet of some meanings, as a list

abbrev pub nth_or : {X : Type 0} → X → ℕ → List X → X
nth_or x k [] = x
nth_or x zero (y ∷ ys) = y
nth_or x (suc k) (y ∷ ys) = nth_or x k ys

last_or : {X : Type 0} → X → List X → X
last_or x [] = x
last_or x (y ∷ ys) = last_or y ys

pub nth_of_facets : {X : Type 0} (g : Meaning → X) (k : ℕ) (ms : List Meaning) → g (facets.nth k ms) ≡ nth_or (g no_meaning) k (map g ms)
nth_of_facets g zero [] = refl
nth_of_facets g (suc k) [] = refl
nth_of_facets g zero (m ∷ ms) = refl
nth_of_facets g (suc k) (m ∷ ms) = nth_of_facets g k ms

last_of_facets : {X : Type 0} (g : Meaning → X) (m : Meaning) (ms : List Meaning) → g (facets.last_of (m ∷ ms)) ≡ last_or (g m) (map g ms)
unfolding last_or
last_of_facets g m [] = refl
last_of_facets g m (l ∷ ms) = last_of_facets g l ms

-- ---- one that hangs on the same facet of the parts alone is that of the meaning of the tree itself

module _ {X : Type 0} (g : Meaning → X) (by : Kind → Resolved → List X → X)
    (here : (k : Kind) (t : Table) (n : Resolved) (text : List ℕ) (ms : List Meaning) → g (meaning_of k t n text ms) ≡ by k n (map g ms))
    (kept : (k : elaborated.Kind) (n : Resolved) (m : Meaning) (ps : List Part) → g (part_of k n m ps).meaning ≡ g m) where
  facets_agree : (t : Table) (f : Forest Resolved) → map g (meant (parts t f)) ≡ map g (meanings t f)
  facets_agree t nothing = refl
  facets_agree t (more n text place inside next) =
      ap₂ (λ x xs. x ∷ xs)
      (kept (elaborated.kind n.form) n (meaning_of (kind n.form) t n text (meant (parts t inside))) (parts t inside)
      ∙ here (kind n.form) t n text (meant (parts t inside)) ∙ ap (by (kind n.form) n) (facets_agree t inside)
      ∙ sym (here (kind n.form) t n text (meanings t inside)))
      (facets_agree t next)

  pub facet_of_part : (t : Table) (k : ℕ) (f : Forest Resolved) → g (nth k (parts t f)).meaning ≡ g (facets.nth 0 (meanings t (skipped k f)))
  facet_of_part t k f =
      ap (λ p. g p.meaning) (part_skipped t k f)
      ∙ sym (ap g (nth_meant 0 (parts t (skipped k f))))
      ∙ nth_of_facets g 0 (meant (parts t (skipped k f)))
      ∙ ap (nth_or (g no_meaning) 0) (facets_agree t (skipped k f))
      ∙ sym (nth_of_facets g 0 (meanings t (skipped k f)))

-- ---- declarations

declared_among : Passing → Resolved → List (Option ℕ) → Option ℕ
declared_among Nothing n ds = None
declared_among First n ds = nth_or None 0 ds
declared_among OpenFirst n ds = nth_or None 0 ds
declared_among Second n ds = nth_or None 1 ds
declared_among Last n ds = or_else n.declaration (last_or None ds)
declared_among _ n ds = n.declaration

last_declared : (ms : List Meaning) → (facets.last_of ms).declaration ≡ last_or None (map (λ m. m.declaration) ms)
unfolding last_or
last_declared [] = refl
last_declared (m ∷ ms) = last_of_facets (λ m. m.declaration) m ms

declared_by_passing : (p : Passing) (n : Resolved) (ms : List Meaning) → declaration_by p n ms ≡ declared_among p n (map (λ m. m.declaration) ms)
unfolding declared_among
declared_by_passing First n ms = nth_of_facets (λ m. m.declaration) 0 ms
declared_by_passing OpenFirst n ms = nth_of_facets (λ m. m.declaration) 0 ms
declared_by_passing Second n ms = nth_of_facets (λ m. m.declaration) 1 ms
declared_by_passing Last n ms = ap (or_else n.declaration) (last_declared ms)
declared_by_passing _ n ms = refl

kept_declared : (k : elaborated.Kind) (n : Resolved) (m : Meaning) (ps : List Part) → (part_of k n m ps).meaning.declaration ≡ m.declaration
kept_declared elaborated.SelectedText n m ps = refl
kept_declared elaborated.Alternative n m ps = refl
kept_declared _ n m ps = refl

pub part_declared : (t : Table) (k : ℕ) (f : Forest Resolved) → (nth k (parts t f)).meaning.declaration ≡ declared_first t (skipped k f)
part_declared =
    facet_of_part (λ m. m.declaration) (λ k. declared_among (passing k))
    (λ k t n text ms. declaration_passed k t n text ms ∙ declared_by_passing (passing k) n ms)
    kept_declared

-- ---- whether it is there

present_among : Passing → Resolved → List Bool → Bool
present_among Nothing n bs = false
present_among First n bs = nth_or false 0 bs
present_among OpenFirst n bs = nth_or false 0 bs
present_among Second n bs = nth_or false 1 bs
present_among _ n bs = true

present_by_passing : (p : Passing) (n : Resolved) (ms : List Meaning) → present_by p ms ≡ present_among p n (map (λ m. m.is_present) ms)
unfolding present_among
present_by_passing First n ms = nth_of_facets (λ m. m.is_present) 0 ms
present_by_passing OpenFirst n ms = nth_of_facets (λ m. m.is_present) 0 ms
present_by_passing Second n ms = nth_of_facets (λ m. m.is_present) 1 ms
present_by_passing _ n ms = refl

kept_present : (k : elaborated.Kind) (n : Resolved) (m : Meaning) (ps : List Part) → (part_of k n m ps).meaning.is_present ≡ m.is_present
kept_present elaborated.SelectedText n m ps = refl
kept_present elaborated.Alternative n m ps = refl
kept_present _ n m ps = refl

pub part_present : (t : Table) (k : ℕ) (f : Forest Resolved) → (nth k (parts t f)).meaning.is_present ≡ present_first t (skipped k f)
part_present =
    facet_of_part (λ m. m.is_present) (λ k. present_among (passing k))
    (λ k t n text ms. present_passed k t n text ms ∙ present_by_passing (passing k) n ms)
    kept_present

-- ---- modes

mode_here : (f : Form) (t : Table) (n : Resolved) (m : Meaning) (inside : Forest Resolved) → (part_of (elaborated.kind f) n m (parts t inside)).mode ≡ read_mode (mode_by t f inside)
mode_here form.ViewMode t n m inside = ap₂ ByView (part_declared t 0 inside) (part_present t 1 inside)
mode_here _ t n m inside = refl

mode_first : (t : Table) (f : Forest Resolved) → (nth 0 (parts t f)).mode ≡ read_mode (mode_at t f)
mode_first t nothing = refl
mode_first t (more n text place inside next) = mode_here n.form t n (meaning_of (kind n.form) t n text (meant (parts t inside))) inside

pub part_mode : (t : Table) (k : ℕ) (f : Forest Resolved) → (nth k (parts t f)).mode ≡ read_mode (mode_at t (skipped k f))
part_mode t k f = ap (λ p. p.mode) (part_skipped t k f) ∙ mode_first t (skipped k f)
