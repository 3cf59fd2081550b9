-- Objects that are declared one after the other. No name has a dash, so that a caller can name each in `#[tactic(auto, using(..))]`.
use Rattle.std.proofs.Common.{◌≡◌, ◌+◌, ◌++◌, ◌<◌, List, [], ◌∷◌, ap, arith, get_or, length, refl, suc, sym, take, ℕ, ◌∙◌}
use Rattle.std.proofs.Math.Seq.{take-suc}
use Rattle.vd_composites.specs.Subtypes.{default_of}
use Rattle.vd_environments.specs.Environments.{Static}
use Rattle.vd_forest.specs.Store.{Extends}
use Rattle.vd_known_designs.proofs.DesignLemmas.{knows_grown}
use Rattle.vd_known_designs.specs.Designs.{Knows}
use Rattle.vd_known_designs.specs.declared.design.KnownDesign.{KnownDesign}
use Rattle.vd_known_designs.specs.Known.{AreKnown}
use Rattle.vd_known_designs.specs.declared.table.KnownTable.{KnownTable}
use Rattle.vd_value_rules.specs.Designs.{Design}
use Rattle.vd_value_rules.specs.Knowledge.{Known, TwoIndicated, later_objects, object_known, signals_known}

-- ---- the table of a design changes, and nothing else

pub knows_changed : (d : Design) (x : KnownDesign) (y : KnownTable) (ks ls : List Known) → Extends x.table.subtypes y.subtypes
    → (AreKnown d.table x.table ks → AreKnown d.table y ls) → Knows d x ks → Knows d (record x { table = y }) ls
knows_changed d x y ks ls grown changed knows = record {
  table = knows.table;
  known = changed knows.known;
  jumps = (knows_grown d x y.subtypes ks grown knows).jumps;
}

-- ---- one more of the numbers

-- what a list declares with one number more behind the others
pub one_more : (f : List ℕ → Known) (g : ℕ → Known → Known) (ns : List ℕ) (j n : ℕ) (other : ℕ)
    → ((ms : List ℕ) (m : ℕ) → f (ms ++ m ∷ []) ≡ g m (f ms)) → j < length ns → n ≡ get_or ns j other → f (take (j + 1) ns) ≡ g n (f (take j ns))
one_more f g ns j n other step inside is =
    let next : j + 1 ≡ suc j = omega arith in
    ap (λ k. f (take k ns)) next ∙ ap f (take-suc ns j other inside) ∙ step (take j ns) (get_or ns j other) ∙ ap (λ m. g m (f (take j ns))) (sym is)

later_more : (ns : List ℕ) (n : ℕ) (i : TwoIndicated) (known : Static) (k : Known)
    → later_objects (ns ++ n ∷ []) i known k ≡ object_known n i (default_of i.own.subtype) known (later_objects ns i known k)
later_more [] n i known k = refl
later_more (m ∷ ns) n i known k = later_more ns n i known (object_known m i (default_of i.own.subtype) known k)

pub one_later : (ns : List ℕ) (j n other : ℕ) (i : TwoIndicated) (known : Static) (k : Known) → j < length ns → n ≡ get_or ns j other
    → object_known n i (default_of i.own.subtype) known (later_objects (take j ns) i known k) ≡ later_objects (take (j + 1) ns) i known k
one_later ns j n other i known k inside is =
    sym (one_more (λ ms. later_objects ms i known k) (λ m. object_known m i (default_of i.own.subtype) known) ns j n other (λ ms m. later_more ms m i known k)
    inside is)

signals_more : (ns : List ℕ) (n : ℕ) (i : TwoIndicated) (k : Known)
    → signals_known (ns ++ n ∷ []) i k ≡ signals_known (n ∷ []) i (signals_known ns i k)
signals_more [] n i k = refl
signals_more (m ∷ ns) n i k = signals_more ns n i (signals_known (m ∷ []) i k)

pub one_signal : (ns : List ℕ) (j n other : ℕ) (i : TwoIndicated) (k : Known) → j < length ns → n ≡ get_or ns j other
    → signals_known (n ∷ []) i (signals_known (take j ns) i k) ≡ signals_known (take (j + 1) ns) i k
one_signal ns j n other i k inside is =
    sym (one_more (λ ms. signals_known ms i k) (λ m. signals_known (m ∷ []) i) ns j n other (λ ms m. signals_more ms m i k) inside is)
