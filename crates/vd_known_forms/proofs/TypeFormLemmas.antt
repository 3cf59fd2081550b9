-- Types in the table of what is known.
use Rattle.std.proofs.Common.{◌≡◌, ◌∷◌, List, subst, ℕ}
use Rattle.std.specs.Prelude.{Err, Ok, OnOk, Result}
use Rattle.vd_forest.specs.Store.{Extends}
use Rattle.vd_value_rules.specs.Made.{Indicates}
use Rattle.vd_known_designs.proofs.DesignLemmas.{knows_grown}
use Rattle.vd_known_designs.specs.Designs.{AreIndicated, Knows}
use Rattle.vd_known_designs.specs.declared.design.KnownDesign.{KnownDesign}
use Rattle.vd_known_designs.specs.declared.indications.TwoSubtypes.{TwoSubtypes}
use Rattle.vd_known_designs.specs.Known.{AreKnown}
use Rattle.vd_known_designs.specs.declared.table.KnownTable.{KnownTable}
use Rattle.vd_meaning.specs.Tables.{Table}
use Rattle.vd_value_rules.specs.Declaring.{type_known}
use Rattle.vd_value_rules.specs.Designs.{Design}
use Rattle.vd_value_rules.specs.Knowledge.{Known, TwoIndicated}

on_ok : {A E : Type 0} {P Q : Type 0} (r : Result A E) → (P → Q) → OnOk r P → OnOk r Q
on_ok (Ok x) f p = f p
on_ok (Err e) f p = tt

-- a type is set behind what was found of its definition
pub type_set : {A E : Type 0} (d : Design) (x : KnownDesign) (y : KnownTable) (n g : ℕ) (of : TwoSubtypes) (i : TwoIndicated) (k : Known) (ks : List Known) (r : Result A E)
    → g ≡ n → Knows d x (k ∷ ks) → AreIndicated x.table.subtypes of i → Extends x.table.subtypes y.subtypes
    → ((t : Table) (j : TwoIndicated) (l : Known) (ls : List Known) → AreKnown t x.table (l ∷ ls) → Indicates x.table.subtypes of.own j.own
    → Indicates x.table.subtypes of.choosing j.choosing → OnOk r (AreKnown t y (type_known g j.own j.choosing l ∷ ls)))
    → OnOk r (Knows d (record x { table = y }) (type_known n i.own i.choosing k ∷ ks))
type_set d x y n g of i k ks r number knows are grown set =
    on_ok r (λ known. record {
      table = knows.table;
      known = subst (λ m. AreKnown d.table y (type_known m i.own i.choosing k ∷ ks)) number known;
      jumps = (knows_grown d x y.subtypes (k ∷ ks) grown knows).jumps;
    })
    (set d.table i k ks knows.known are.own are.choosing)
