-- What is read of parts of declarations, and what is found of the expression of a constant.
use Rattle.std.proofs.Common.{◌≡◌, ◌∷◌, List, ap, if◌then◌else◌, false, subst, sym, true, ℕ, ◌∙◌}
use Rattle.std.specs.Prelude.{Err, Ok, OnOk, Option, Result}
use Rattle.vd_composites.specs.Composites.{Value}
use Rattle.vd_composites.specs.Subtypes.{Subtype}
use Rattle.vd_environments.specs.Environments.{Argument, Env, Indicated, Static, never}
use Rattle.vd_environments.specs.Got.{Got}
use Rattle.vd_operations.proofs.PassingLemmas.{nth_skipped}
use Rattle.vd_bytes.specs.declared.places.Place.{Place}
use Rattle.vd_meaning.specs.NodeFacets.{View}
use Rattle.vd_meaning.specs.Instances.{view_in}
use Rattle.vd_forest.specs.Forest.{Forest, more, nothing, skipped}
use Rattle.vd_value_rules.specs.Indicated.{static_of}
use Rattle.vd_value_rules.specs.declared.forms.IndicatedForm.{IndicatedForm}
use Rattle.vd_static_names.specs.Jumps.{AreJumps}
use Rattle.vd_known_designs.specs.Designs.{IsReady, Knows}
use Rattle.vd_known_designs.specs.declared.design.KnownDesign.{KnownDesign}
use Rattle.vd_known_designs.specs.Known.{AreKnown}
use Rattle.vd_known_designs.specs.declared.table.KnownTable.{KnownTable}
use Rattle.vd_meaning.specs.Facets.{Meaning, nth}
use Rattle.vd_meaning.specs.Meanings.{made, meanings}
use Rattle.vd_meaning.specs.Names.{number_or}
use Rattle.vd_meaning.specs.Tables.{Table}
use Rattle.vd_port_modes.specs.Source.{Source, design_in}
use Rattle.vd_resolved.specs.declared.node.Resolved.{Resolved}
use Rattle.vd_static_values.specs.Entries.{IsFound}
use Rattle.vd_static_values.specs.Nodes.{IsNode}
use Rattle.vd_static_values.specs.declared.nodes.Node.{Node}
use Rattle.vd_value_rules.specs.Declaring.{parameters_known, with_package}
use Rattle.vd_value_rules.specs.Designs.{Design}
use Rattle.vd_value_rules.specs.Knowledge.{Known, TwoIndicated, at_mark, constants_of, early_value, indicated_twice, later_objects, mark_of_view, meaning_at, parts_at, view_indicated, view_port_indicated}
use Rattle.vd_values.specs.declared.scalar.Scalar.{Scalar}

-- what the part with a number means
pub at_part : {B : Type 0} (of : Meaning → B) (d : Design) (n : ℕ) (parts skips : Forest Resolved) → skips ≡ skipped n parts
    → of (nth 0 (meanings d.table skips)) ≡ of (meaning_at d n parts)
at_part of d n parts skips is = ap (λ f. of (nth 0 (meanings d.table f))) is ∙ ap of (sym (nth_skipped n d.table parts))

-- the value of the expression of a constant, as one of its subtype
pub early_found : (fs : List (Forest IndicatedForm)) (e : Env) (x : Node) (n m : Meaning) (j i : Indicated) (value : Option (Value Scalar))
    → IsNode fs e x n → n ≡ m → j ≡ i
    → ((argument : Argument) → (x.sense.known.is_local ≡ true → (given : Got Subtype) → IsFound x.sense.value (argument given))
    → IsFound value (early_value (static_of x.sense.known) argument j))
    → IsFound value (early_value (m.known e) (λ s. m.value s e) i)
early_found fs e x n m j i value is same own found =
    subst (λ q. IsFound value (early_value (q.known e) (λ s. q.value s e) i)) same
    (subst (λ q. IsFound value (early_value (n.known e) (λ s. n.value s e) q)) own
    (subst (λ q. IsFound value (early_value q (λ s. n.value s e) j)) is.sense.known
    (found (λ s. n.value s e) (λ local. is.sense.value (sym (ap (λ s. s.is_local) is.sense.known) ∙ local)))))

-- constants with these numbers, whose expression is so static
pub constants_same : {A E : Type 0} (d : Design) (y : KnownDesign) (k : Known) (ks : List Known) (r : Result A E) (ns ms : List ℕ) (i : TwoIndicated) (s t : Static)
    (g : Got (Value Scalar)) → ns ≡ ms → s ≡ t → OnOk r (Knows d y (constants_of ns i s g k ∷ ks)) → OnOk r (Knows d y (constants_of ms i t g k ∷ ks))
constants_same d y k ks r ns ms i s t g numbers known is =
    subst (λ q. OnOk r (Knows d y (constants_of ms i q g k ∷ ks))) known (subst (λ q. OnOk r (Knows d y (constants_of q i s g k ∷ ks))) numbers is)

pub ready_again : (d : Design) (x : KnownDesign) (k : Known) (ks : List Known) → Knows d x (k ∷ ks) → IsReady x
ready_again d x k ks knows = record { design = d; now = k; round = ks; knows = knows }

-- ---- ports with a view

-- What is known of a design hangs on its declarations alone. So where it is known of one, it is known of one with the views of any interfaces.
abbrev pub viewed : Source → Design → Design
viewed s d = record (design_in s) { table = d.table }

pub knows_viewed : (s : Source) (d : Design) (x : KnownDesign) (ks : List Known) → Knows d x ks → Knows (viewed s d) x ks
knows_viewed s d x ks knows = record { table = knows.table; known = knows.known; jumps = knows.jumps }

module _ (d : Design) (k : Known) (parts : Forest Resolved) where
  pub is_written : (meaning_at d 4 parts).is_present ≡ true → view_port_indicated d k parts ≡ indicated_twice d k (parts_at 4 parts)
  is_written is = ap (λ b. if b then indicated_twice d k (parts_at 4 parts) else view_indicated d (meaning_at d 2 parts).declaration k) is

  -- the views are those of the design
  pub is_of_view : (views : List View) (view mark : Option ℕ) → (meaning_at d 4 parts).is_present ≡ false → d.units.views ≡ views
      → view ≡ (meaning_at d 2 parts).declaration → mark ≡ mark_of_view (view_in views view)
      → let i : TwoIndicated = record { own = at_mark mark k.env; choosing = at_mark mark k.choosing } in i ≡ view_port_indicated d k parts
  is_of_view views view mark absent same named marked =
      ap (λ m. record { own = at_mark m k.env; choosing = at_mark m k.choosing })
      (marked ∙ ap (λ vs. mark_of_view (view_in vs view)) (sym same) ∙ ap (λ v. mark_of_view (view_in d.units.views v)) named)
      ∙ sym (ap (λ b. if b then indicated_twice d k (parts_at 4 parts) else view_indicated d (meaning_at d 2 parts).declaration k) absent)

-- ---- parameters, one after the other

pub record Left (d : Design) (x : KnownDesign) (rest : Forest Resolved) (whole : Known) (ks : List Known) : Type 0 where
  pub now : Known
  pub knows : Knows d x (now ∷ ks)
  pub all : parameters_known d rest now ≡ whole

pub one_parameter : (d : Design) (x y : KnownDesign) (rest : Forest Resolved) (n : Resolved) (text : List ℕ) (place : Place) (parts next : Forest Resolved)
    (whole : Known) (ks : List Known) (s : Static) → rest ≡ more n text place parts next → s ≡ never
    → ((k : Known) → Knows d x (k ∷ ks) → Knows d y (later_objects (meaning_at d 1 parts).numbers (indicated_twice d k (parts_at 3 parts)) s k ∷ ks))
    → Left d x rest whole ks → Left d y next whole ks
one_parameter d x y rest n text place parts next whole ks s is later declared left = record {
  now = later_objects (meaning_at d 1 parts).numbers (indicated_twice d left.now (parts_at 3 parts)) never left.now;
  knows =
      subst (λ q. Knows d y (later_objects (meaning_at d 1 parts).numbers (indicated_twice d left.now (parts_at 3 parts)) q left.now ∷ ks)) later
      (declared left.now left.knows);
  all = ap (λ f. parameters_known d f left.now) (sym is) ∙ left.all;
}

pub no_parameter_left : (d : Design) (x : KnownDesign) (rest : Forest Resolved) (whole : Known) (ks : List Known) → rest ≡ nothing → Left d x rest whole ks
    → Knows d x (whole ∷ ks)
no_parameter_left d x rest whole ks is left =
    subst (λ k. Knows d x (k ∷ ks)) (ap (λ f. parameters_known d f left.now) (sym is) ∙ left.all) left.knows

-- ---- packages

on_ok : {A E : Type 0} {P Q : Type 0} (r : Result A E) → (P → Q) → OnOk r P → OnOk r Q
on_ok (Ok x) f p = f p
on_ok (Err e) f p = tt

pub package_set : {A E : Type 0} (d : Design) (x : KnownDesign) (y : KnownTable) (n : Resolved) (parts text : Forest Resolved) (m g : ℕ) (k : Known) (ks : List Known)
    (r : Result A E) → (meaning_at d 1 parts).is_present ≡ true → m ≡ number_or (made n (meaning_at d 0 parts)) → g ≡ m → text ≡ parts → Knows d x (k ∷ ks)
    → y.subtypes ≡ x.table.subtypes
    → ((t : Table) (l : Known) (ls : List Known) → AreKnown t x.table (l ∷ ls) → OnOk r (AreKnown t y (with_package true g text l ∷ ls)))
    → OnOk r (Knows d (record x { table = y }) (with_package (meaning_at d 1 parts).is_present (number_or (made n (meaning_at d 0 parts))) parts k ∷ ks))
package_set d x y n parts text m g k ks r present made_is number same knows kept set =
    on_ok r (λ known. record {
      table = knows.table;
      known =
          subst (λ b. AreKnown d.table y (with_package b (number_or (made n (meaning_at d 0 parts))) parts k ∷ ks)) (sym present)
          (subst (λ h. AreKnown d.table y (with_package true h parts k ∷ ks)) (number ∙ made_is)
          (subst (λ q. AreKnown d.table y (with_package true g q k ∷ ks)) same known));
      jumps = subst (AreJumps x.fields.jumps.items) (sym kept) knows.jumps;
    })
    (set d.table k ks knows.known)
