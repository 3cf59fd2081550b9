-- What stands on the channels after some calls of `write_all`.
use Rattle.std.proofs.Common.{◌≡◌, ◌⊎◌, inl, inr, ℕ, Bool, List, length, take, sym, ◌∙◌, subst, arith, Option, Result, Ok, Err, OnOk, OnErr, IsTrue}
use Rattle.std.proofs.Math.Seq.{take-length}
use Rattle.vd_bytes.specs.declared.channels.Channel.{Channel}
use Rattle.vd_bytes.specs.declared.channels.Channel.TheVariants.{Design, Map, Console}
use Rattle.vd_bytes.specs.Trays.{Appends, AppendsFront}
use Rattle.vd_bytes.proofs.TrayLemmas.{Appends-same}
use Rattle.vd_program.specs.Dues.{Due}
use Rattle.vd_program.specs.Endings.{GotAll, GotFronts, FilesUntouched, BeginsInOrder, due_with}

pub OnErr-always : {A B : Type 0} (r : Result A B) (P : Type 0) → P → OnErr r P
OnErr-always (Ok x) P p = tt
OnErr-always (Err e) P p = p

pub OnOk-weaker : {A B : Type 0} (r : Result A B) (P Q : Type 0) → (P → Q) → OnOk r P → OnOk r Q
OnOk-weaker (Ok x) P Q h p = h p
OnOk-weaker (Err e) P Q h p = tt

-- where each of the channels is begun, all are
pub all_begun : (is_begun : Channel → Bool) → IsTrue (is_begun Design) → IsTrue (is_begun Map) → IsTrue (is_begun Console) → (to : Channel) → IsTrue (is_begun to)
all_begun is_begun design map console Design = design
all_begun is_begun design map console Map = map
all_begun is_begun design map console Console = console

module _ {S : Type 0} (written : S → Channel → Option (List ℕ)) where
  -- the first channel got a front, and the others nothing
  pub fronts_first : (old new : S) (design map console : List ℕ) → AppendsFront (written old Design) (written new Design) design → written new Map ≡ written old Map → written new Console ≡ written old Console → GotFronts written old new (due_with 0 design map console)
  fronts_first old new design map console d m c = record {
    on_design = d.0;
    on_map = 0;
    on_console = 0;
    design = d.1;
    map = Appends-same (written old Map) (written new Map) m;
    console = Appends-same (written old Console) (written new Console) c;
    map_after = λ h. absurd (omega arith);
    console_after = λ h. absurd (omega arith);
  }

  -- the first channel got all, the second a front
  pub fronts_second : (old new : S) (design map console : List ℕ) → Appends (written old Design) (written new Design) design → AppendsFront (written old Map) (written new Map) map → written new Console ≡ written old Console → GotFronts written old new (due_with 0 design map console)
  fronts_second old new design map console d m c =
      let all = take-length design in
      record {
        on_design = length design;
        on_map = m.0;
        on_console = 0;
        design = subst (Appends (written old Design) (written new Design)) (sym all) d;
        map = m.1;
        console = Appends-same (written old Console) (written new Console) c;
        map_after = λ h. all;
        console_after = λ h. absurd (omega arith);
      }

  -- the first two channels got all, the third a front
  pub fronts_third : (old new : S) (design map console : List ℕ) → Appends (written old Design) (written new Design) design → Appends (written old Map) (written new Map) map → AppendsFront (written old Console) (written new Console) console → GotFronts written old new (due_with 0 design map console)
  fronts_third old new design map console d m c =
      let all = take-length design in
      let all_map = take-length map in
      record {
        on_design = length design;
        on_map = length map;
        on_console = c.0;
        design = subst (Appends (written old Design) (written new Design)) (sym all) d;
        map = subst (Appends (written old Map) (written new Map)) (sym all_map) m;
        console = c.1;
        map_after = λ h. all;
        console_after = λ h. (all, all_map);
      }

-- a channel stays as it was begun, or the ones before it got all
module _ {S : Type 0} (written : S → Channel → Option (List ℕ)) (is_begun : S → Channel → Bool) (old new : S) (due : Due) where
  pub order_first : is_begun new Map ≡ is_begun old Map → is_begun new Console ≡ is_begun old Console → BeginsInOrder written is_begun old new due
  order_first map console = record { map = inl map; console = inl console }

  pub order_second : Appends (written old Design) (written new Design) due.design → is_begun new Console ≡ is_begun old Console → BeginsInOrder written is_begun old new due
  order_second design console = record { map = inr design; console = inl console }

  pub order_third : Appends (written old Design) (written new Design) due.design → Appends (written old Map) (written new Map) due.map → BeginsInOrder written is_begun old new due
  order_third design map = record { map = inr design; console = inr (design, map) }

-- what is true of the channels after a call that left them is true of the ones before it
module _ {S : Type 0} (written : S → Channel → Option (List ℕ)) (old mid new : S) (same : (to : Channel) → written mid to ≡ written old to) (due : Due) where
  pub got_all_before : GotAll written mid new due → GotAll written old new due
  got_all_before g = record {
    design = subst (λ w. Appends w (written new Design) due.design) (same Design) g.design;
    map = subst (λ w. Appends w (written new Map) due.map) (same Map) g.map;
    console = subst (λ w. Appends w (written new Console) due.console) (same Console) g.console;
  }

  pub got_fronts_before : GotFronts written mid new due → GotFronts written old new due
  got_fronts_before g = record {
    on_design = g.on_design;
    on_map = g.on_map;
    on_console = g.on_console;
    design = subst (λ w. Appends w (written new Design) (take g.on_design due.design)) (same Design) g.design;
    map = subst (λ w. Appends w (written new Map) (take g.on_map due.map)) (same Map) g.map;
    console = subst (λ w. Appends w (written new Console) (take g.on_console due.console)) (same Console) g.console;
    map_after = g.map_after;
    console_after = g.console_after;
  }

-- so is what was begun
module _ {S : Type 0} (is_begun : S → Channel → Bool) (old mid new : S) (same_begun : (to : Channel) → is_begun mid to ≡ is_begun old to) where
  pub untouched_before : FilesUntouched is_begun mid new → FilesUntouched is_begun old new
  untouched_before u = record { design = u.design ∙ same_begun Design; map = u.map ∙ same_begun Map }

  module _ (written : S → Channel → Option (List ℕ)) (same : (to : Channel) → written mid to ≡ written old to) (due : Due) where
    got_before : (to : Channel) (bytes : List ℕ) → Appends (written mid to) (written new to) bytes → Appends (written old to) (written new to) bytes
    got_before to bytes got = subst (λ w. Appends w (written new to) bytes) (same to) got

    pub in_order_before : BeginsInOrder written is_begun mid new due → BeginsInOrder written is_begun old new due
    in_order_before o = record {
      map = map_before o.map;
      console = console_before o.console;
    }
      where
        map_before : (is_begun new Map ≡ is_begun mid Map) ⊎ Appends (written mid Design) (written new Design) due.design → (is_begun new Map ≡ is_begun old Map) ⊎ Appends (written old Design) (written new Design) due.design
        map_before (inl still) = inl (still ∙ same_begun Map)
        map_before (inr got) = inr (got_before Design due.design got)

        console_before : (is_begun new Console ≡ is_begun mid Console) ⊎ (Appends (written mid Design) (written new Design) due.design × Appends (written mid Map) (written new Map) due.map) → (is_begun new Console ≡ is_begun old Console) ⊎ (Appends (written old Design) (written new Design) due.design × Appends (written old Map) (written new Map) due.map)
        console_before (inl still) = inl (still ∙ same_begun Console)
        console_before (inr got) = inr (got_before Design due.design got.0, got_before Map due.map got.1)
