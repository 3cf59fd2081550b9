-- Instances of packages, by their parts.
use Rattle.std.proofs.Common.{◌≡◌, ◌∷◌, List, [], ap, false, map, refl, sym, true, ℕ, ◌∙◌}
use Rattle.std.specs.Prelude.{MatchOption, None, Option, Some}
use Rattle.vd_forest.specs.Forest.{Forest}
use Rattle.vd_known_designs.specs.Designs.{Knows}
use Rattle.vd_known_designs.specs.declared.design.KnownDesign.{KnownDesign}
use Rattle.vd_known_indications.specs.Places.{IsRemembering}
use Rattle.vd_known_designs.specs.Contents.{or_nothing}
use Rattle.vd_known_units.specs.Units.{is_instance}
use Rattle.vd_meaning.specs.Facets.{MapElement}
use Rattle.vd_meaning.specs.Meanings.{map_element, meanings}
use Rattle.vd_meaning.specs.Tables.{Table, copies_in}
use Rattle.vd_resolved.specs.declared.node.Resolved.{Resolved}
use Rattle.vd_value_rules.specs.Declaring.{Declaring, PackageInstance, actuals_known, declared, declared_by, generics_stand, instance_of_package, taken_known, unit_declared_by, with_parameters}
use Rattle.vd_value_rules.specs.Designs.{Design}
use Rattle.vd_value_rules.specs.Knowledge.{Known, parts_at}

-- the elements of a map, where there is one
pub elements_found : (t : Table) (of : Table → List MapElement) (found : Option (Forest Resolved))
    → MatchOption found ((s : Table) → of s ≡ []) (λ elements. (s : Table) → of s ≡ map map_element (meanings s elements))
    → map map_element (meanings t (or_nothing found)) ≡ of t
elements_found t of None is = sym (is t)
elements_found t of (Some elements) is = sym (is t)

-- ---- the text of a package

-- what it declares where its generics stand for the actuals
abbrev pub text_known : Design → (original instance : ℕ) → List MapElement → Forest Resolved → Known → Known
text_known d original instance xs text k =
    declared d (parts_at 2 text) (generics_stand d (parts_at 1 text) (actuals_known d original instance xs k) k)

-- and what the instance has of it
abbrev pub taken_of : Design → (original instance : ℕ) → List MapElement → Forest Resolved → Known → Known
taken_of d original instance xs text k =
    taken_known (with_parameters d (copies_in d.table original instance)) (text_known d original instance xs text k) k

pub taken_same : (d : Design) (o p i j : ℕ) (xs ys : List MapElement) (f g : Forest Resolved) (cs : List (ℕ × ℕ)) (k : Known) → o ≡ p → i ≡ j → xs ≡ ys → f ≡ g
    → cs ≡ with_parameters d (copies_in d.table o i)
    → taken_known cs (text_known d o i xs f k) k ≡ taken_of d p j ys g k
taken_same d o p i j xs ys f g cs k originals instances elements texts copies =
    ap (λ q. taken_known q (text_known d o i xs f k) k) copies ∙ ap (λ q. taken_of d q i xs f k) originals ∙ ap (λ q. taken_of d p q xs f k) instances
    ∙ ap (λ q. taken_of d p j q f k) elements ∙ ap (λ q. taken_of d p j ys q k) texts

-- ---- what is remembered

pub remembers : (d : Design) (x : KnownDesign) (k l : Known) (ks : List Known) → Knows d x (k ∷ l ∷ ks) → IsRemembering x
remembers d x k l ks knows = record { design = d; now = k; before = l; round = ks; knows = knows }

-- ---- units

pub instance_declares : (kind : Declaring) (d : Design) (n : Resolved) (parts : Forest Resolved) (inner k : Known) → is_instance kind ≡ true
    → instance_of_package d n parts k ≡ unit_declared_by kind d n parts inner k
instance_declares PackageInstance d n parts inner k is = refl
instance_declares _ d n parts inner k is = absurd cc

pub other_declares : (kind : Declaring) (d : Design) (n : Resolved) (parts : Forest Resolved) (inner k : Known) → is_instance kind ≡ false
    → declared_by kind d n parts inner k ≡ unit_declared_by kind d n parts inner k
other_declares PackageInstance d n parts inner k is = absurd cc
other_declares _ d n parts inner k is = refl
