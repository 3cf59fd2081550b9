-- The table of a design is at another state, and nothing else changes.
use Rattle.std.proofs.Common.{◌≡◌, List, subst, sym}
use Rattle.std.specs.Prelude.{Err, Ok, OnOk, Result}
use Rattle.vd_forest.proofs.StoreLemmas.{extends_same}
use Rattle.vd_forest.specs.Store.{Extends}
use Rattle.vd_known_designs.specs.Designs.{Knows}
use Rattle.vd_known_designs.specs.declared.design.KnownDesign.{KnownDesign}
use Rattle.vd_known_forms.proofs.ObjectLemmas.{knows_changed}
use Rattle.vd_known_designs.specs.Known.{AreKnown}
use Rattle.vd_known_designs.specs.declared.table.KnownTable.{KnownTable}
use Rattle.vd_value_rules.specs.Designs.{Design}
use Rattle.vd_value_rules.specs.Knowledge.{Known}

pub state_changed : (d : Design) (x : KnownDesign) (y : KnownTable) (ks ls : List Known) → y.subtypes ≡ x.table.subtypes
    → (AreKnown d.table x.table ks → AreKnown d.table y ls) → Knows d x ks → Knows d (record x { table = y }) ls
state_changed d x y ks ls same changed knows =
    knows_changed d x y ks ls (subst (Extends x.table.subtypes) (sym same) (extends_same x.table.subtypes)) changed knows

pub state_changed_so : {A E : Type 0} (d : Design) (x : KnownDesign) (y : KnownTable) (ks ls : List Known) (r : Result A E) → y.subtypes ≡ x.table.subtypes
    → (AreKnown d.table x.table ks → OnOk r (AreKnown d.table y ls)) → Knows d x ks → OnOk r (Knows d (record x { table = y }) ls)
state_changed_so d x y ks ls (Ok a) same changed knows = state_changed d x y ks ls same changed knows
state_changed_so d x y ks ls (Err e) same changed knows = tt
