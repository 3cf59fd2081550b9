-- What is gathered of a tree where a list is looked for in some of its trees.
use Rattle.std.proofs.Common.{◌≡◌, ◌++◌, ◌-◌, ◌==◌, ℕ, zero, suc, Bool, false, cond, List, [], ◌∷◌, Option, Some, None, map, refl, sym, ap, ap₂, ◌∙◌, arith}
use Rattle.std.proofs.lemmas.Bool.Decides.{nat_tests}
use Rattle.std.proofs.lemmas.List.{append-nil, append_assoc}
use Rattle.vd_bytes.specs.declared.places.Place.{Place}
use Rattle.vd_meaning.specs.NodeFacets.{Part, gathered, nth, of_meaning}
use Rattle.vd_meaning.specs.Parts.{node_part, parts}
use Rattle.vd_forest.specs.Forest.{Forest, more, nothing}
use Rattle.vd_forms.specs.declared.form.Form.{Form}
use Rattle.vd_walks.specs.Gathering.{all_found, with_answer}
use Rattle.vd_meaning.specs.Facets.{no_meaning}
use Rattle.vd_meaning.specs.Tables.{Table}
use Rattle.vd_port_lists.specs.Seeking.{nothing_sought, seeker}
use Rattle.vd_port_lists.specs.declared.seeking.Seeking.{Seeking}
use Rattle.vd_port_lists.specs.declared.seeking.Sought.{Sought}
use Rattle.vd_port_lists.specs.declared.seeking.Sought.TheVariants.{Units}
use Rattle.vd_port_lists.specs.declared.seeking.Trees.{Trees}
use Rattle.vd_port_lists.specs.declared.seeking.Trees.TheVariants.{AllTrees, NoTree, OneTree}
use Rattle.vd_resolved.specs.declared.node.Resolved.{Resolved}

-- ---- lists of lists

-- what keeps joined lists joined is gathered part by part
pub gathered_through : {X Y : Type 0} (h : List X → List Y) (g : Part → List X) → h [] ≡ [] → ((xs ys : List X) → h (xs ++ ys) ≡ h xs ++ h ys)
    → (ps : List Part) → h (gathered g ps) ≡ gathered (λ p. h (g p)) ps
gathered_through h g empty joins [] = empty
gathered_through h g empty joins (p ∷ ps) = joins (g p) (gathered g ps) ∙ ap (λ ys. h (g p) ++ ys) (gathered_through h g empty joins ps)

abbrev pub read_all : {A Y : Type 0} → (A → List Y) → List A → List Y
read_all read [] = []
read_all read (a ∷ as') = read a ++ read_all read as'

abbrev pub read_some : {A Y : Type 0} → (A → List Y) → Option A → List Y
read_some read None = []
read_some read (Some a) = read a

pub read_joined : {A Y : Type 0} (read : A → List Y) (as' bs : List A) → read_all read (as' ++ bs) ≡ read_all read as' ++ read_all read bs
read_joined read [] bs = refl
read_joined read (a ∷ as') bs = ap (λ ys. read a ++ ys) (read_joined read as' bs) ∙ sym (append_assoc (read a) (read_all read as') (read_all read bs))

read_answer : {A Y : Type 0} (read : A → List Y) (o : Option A) (as' : List A) → read_all read (with_answer o as') ≡ read_some read o ++ read_all read as'
read_answer read None as' = refl
read_answer read (Some a) as' = refl

pub read_single : {A Y : Type 0} (read : A → Y) (as' : List A) → read_all (λ a. read a ∷ []) as' ≡ map read as'
read_single read [] = refl
read_single read (a ∷ as') = ap (λ ys. read a ∷ ys) (read_single read as')

not_first : (k : ℕ) → (suc k == 0) ≡ false
not_first k = grind (arith, nat_tests)

one_less : (k : ℕ) → suc k - 1 ≡ k
one_less k = omega arith

module _ {A Y : Type 0} (t : Table) (read : A → List Y) (answer : Sought → Resolved → List ℕ → Forest Resolved → Option A)
    (inner : Sought → Form → Forest Resolved → Seeking) (value : Sought → Part → List Y) where
  -- of the trees that are looked at, what is looked for
  abbrev pub seen : Trees → Sought → Forest Resolved → List Y
  seen AllTrees x f = gathered (value x) (parts t f)
  seen (OneTree k) x f = value x (nth k (parts t f))
  seen NoTree x f = []

  abbrev pub seen_by : Seeking → Forest Resolved → List Y
  seen_by s f = seen s.trees s.sought f

  abbrev read_found : Seeking → Forest Resolved → List Y
  read_found s f = read_all read (all_found (seeker answer inner) s f)

  -- of a tree that may be looked at or not, and those behind it
  abbrev turn : Resolved → List ℕ → Forest Resolved → Forest Resolved → Sought → Bool → Trees → List Y
  turn n text inside next x b trees =
      read_all read
      (with_answer (cond b (answer x n text inside) None)
      (all_found (seeker answer inner) (cond b (inner x n.form inside) nothing_sought) inside
      ++ all_found (seeker answer inner) (record { trees = trees; sought = x }) next))

  split : (o : Option A) (s r : Seeking) (inside next : Forest Resolved)
      → read_all read (with_answer o (all_found (seeker answer inner) s inside ++ all_found (seeker answer inner) r next))
      ≡ read_some read o ++ (read_found s inside ++ read_found r next)
  split o s r inside next =
      read_answer read o (all_found (seeker answer inner) s inside ++ all_found (seeker answer inner) r next)
      ∙ ap (λ ys. read_some read o ++ ys) (read_joined read (all_found (seeker answer inner) s inside) (all_found (seeker answer inner) r next))

  module _ (empty : (x : Sought) → value x (of_meaning no_meaning) ≡ [])
      (step : (x : Sought) (n : Resolved) (text : List ℕ) (place : Place) (inside : Forest Resolved)
      → value x (node_part t n text place (parts t inside)) ≡ read_some read (answer x n text inside) ++ seen_by (inner x n.form inside) inside) where
    pub found_seen : (f : Forest Resolved) (trees : Trees) (x : Sought) → read_found (record { trees = trees; sought = x }) f ≡ seen trees x f
    found_seen nothing AllTrees x = refl
    found_seen nothing (OneTree zero) x = sym (empty x)
    found_seen nothing (OneTree (suc k)) x = sym (empty x)
    found_seen nothing NoTree x = refl
    found_seen (more n text place inside next) AllTrees x =
        let s = inner x n.form inside in
        split (answer x n text inside) s (record { trees = AllTrees; sought = x }) inside next
        ∙ ap₂ (λ ys zs. read_some read (answer x n text inside) ++ (ys ++ zs)) (found_seen inside s.trees s.sought) (found_seen next AllTrees x)
        ∙ sym (append_assoc (read_some read (answer x n text inside)) (seen_by s inside) (seen AllTrees x next))
        ∙ ap (λ ys. ys ++ seen AllTrees x next) (sym (step x n text place inside))
    found_seen (more n text place inside next) (OneTree zero) x =
        let s = inner x n.form inside in
        split (answer x n text inside) s (record { trees = NoTree; sought = x }) inside next
        ∙ ap₂ (λ ys zs. read_some read (answer x n text inside) ++ (ys ++ zs)) (found_seen inside s.trees s.sought) (found_seen next NoTree x)
        ∙ ap (λ ys. read_some read (answer x n text inside) ++ ys) (append-nil (seen_by s inside))
        ∙ sym (step x n text place inside)
    found_seen (more n text place inside next) (OneTree (suc k)) x =
        ap (λ b. turn n text inside next x b (cond b NoTree (OneTree (suc k - 1)))) (not_first k)
        ∙ ap (λ j. turn n text inside next x false (OneTree j)) (one_less k)
        ∙ split None nothing_sought (record { trees = OneTree k; sought = x }) inside next
        ∙ ap₂ ◌++◌ (found_seen inside NoTree Units) (found_seen next (OneTree k) x)
    found_seen (more n text place inside next) NoTree x =
        split None nothing_sought (record { trees = NoTree; sought = x }) inside next
        ∙ ap₂ ◌++◌ (found_seen inside NoTree Units) (found_seen next NoTree x)
