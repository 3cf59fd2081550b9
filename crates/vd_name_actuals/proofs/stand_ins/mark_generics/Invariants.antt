use Rattle.std.proofs.Common.{◌≡◌, ℕ, ◌||◌, false, None, drop}
use Rattle.std.specs.Option.{unwrap_or}
use Rattle.std.specs.Prelude.{nat_eq}
use Rattle.std.specs.HashMap.{get}
use Rattle.vd_naming.specs.Associations.{is_among_numbers}
use Rattle.vd_name_actuals.proofs.stand_ins.mark_generics.Given as goal

abbrev pub invariant-loop-generic : goal.invariant-loop-generic
invariant-loop-generic l = record {
  marked : (k : ℕ) → ((unwrap_or (get nat_eq l.table k) (record { is_generic = false; actual = None })).is_generic || is_among_numbers (drop l.generic-index l.generics) k)
      ≡ is_among_numbers l.generics k;
  unset : (k : ℕ) → (unwrap_or (get nat_eq l.table k) (record { is_generic = false; actual = None })).actual ≡ None;
}
