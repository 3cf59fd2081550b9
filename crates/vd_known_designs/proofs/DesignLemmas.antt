-- Designs of which something is known. No name has a dash, so that a caller can name each in `#[tactic(auto, using(..))]`.
use Rattle.std.proofs.Common.{◌≡◌, ◌∷◌, List, subst, sym, ℕ}
use Rattle.std.specs.Prelude.{Err, Ok, OnOk, Option, Result, Some}
use Rattle.vd_environments.specs.Environments.{Env}
use Rattle.vd_forest.specs.Forest.{Forest}
use Rattle.vd_forest.specs.Store.{Extends}
use Rattle.vd_value_rules.specs.declared.forms.IndicatedForm.{IndicatedForm}
use Rattle.vd_static_names.proofs.JumpLemmas.{jumps_kept}
use Rattle.vd_value_rules.specs.Made.{Indicates}
use Rattle.vd_known_designs.specs.Designs.{AreIndicated, IsReady, Knows}
use Rattle.vd_known_designs.specs.declared.design.KnownDesign.{KnownDesign}
use Rattle.vd_known_designs.specs.declared.indications.TwoSubtypes.{TwoSubtypes}
use Rattle.vd_known_designs.proofs.KnownLemmas.{indicates_grown, known_grown}
use Rattle.vd_value_rules.specs.Designs.{Design}
use Rattle.vd_value_rules.specs.Knowledge.{Known, TwoIndicated, at_mark, indicated_of}

-- behind a call that says what is known then, something is
pub ready_after : {A E : Type 0} (f : Design → Known → Known) (x y : KnownDesign) (r : Result A E) → IsReady x
    → ((d : Design) (k : Known) (ks : List Known) → Knows d x (k ∷ ks) → OnOk r (Knows d y (f d k ∷ ks))) → OnOk r (IsReady y)
ready_after f x y (Ok a) ready knows =
    record { design = ready.design; now = f ready.design ready.now; round = ready.round; knows = knows ready.design ready.now ready.round ready.knows }
ready_after f x y (Err e) ready knows = tt

-- the store of subtypes grows, and nothing else changes
pub knows_grown : (d : Design) (x : KnownDesign) (fs : List (Forest IndicatedForm)) (ks : List Known) → Extends x.table.subtypes fs → Knows d x ks
    → Knows d (record x { table = record x.table { subtypes = fs } }) ks
knows_grown d x fs ks grown knows = record {
  table = knows.table;
  known = known_grown d.table x.table fs ks grown knows.known;
  jumps = jumps_kept x.fields.jumps.items x.table.subtypes fs grown knows.jumps;
}

pub indicated_grown : (fs gs : List (Forest IndicatedForm)) (x : TwoSubtypes) (i : TwoIndicated) → Extends fs gs → AreIndicated fs x i → AreIndicated gs x i
indicated_grown fs gs x i grown are = record {
  own = indicates_grown fs gs x.own i.own grown are.own;
  choosing = indicates_grown fs gs x.choosing i.choosing grown are.choosing;
}

pub at_some_mark : (subtypes : List (Forest IndicatedForm)) (number n : ℕ) (mark : Option ℕ) (m : ℕ) (e : Env) → mark ≡ Some m → n ≡ m
    → Indicates subtypes number (indicated_of (e.denotes n)) → Indicates subtypes number (at_mark mark e)
at_some_mark subtypes number n mark m e is same indicates =
    subst (λ o. Indicates subtypes number (at_mark o e)) (sym is) (subst (λ k. Indicates subtypes number (indicated_of (e.denotes k))) same indicates)
