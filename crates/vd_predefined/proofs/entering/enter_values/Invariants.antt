use Rattle.std.proofs.Common.{◌≡◌, map, drop}
use Rattle.vd_predefined.specs.Entries.{with_values}
use Rattle.vd_predefined.specs.GivenClashes.{clash_of_values}
use Rattle.vd_predefined.proofs.entering.enter_values.Given as goal

abbrev pub invariant-loop-name : goal.invariant-loop-name
invariant-loop-name l = record {
  same : with_values l.regions l.region l.class l.own (map (λ n. n.now) (drop l.name-index l.names))
      ≡ with_values l.fn.regions l.region l.class l.own (map (λ n. n.now) l.names);
  same_clash : clash_of_values l.regions l.region l.class l.own (map (λ n. n.now) (drop l.name-index l.names))
      ≡ clash_of_values l.fn.regions l.region l.class l.own (map (λ n. n.now) l.names);
}
