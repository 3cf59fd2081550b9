use Rattle.std.proofs.Common.{◌≡◌, ◌+◌, length}
use Rattle.vd_forest.specs.Store.{Extends}
use Rattle.vd_rewriting.proofs.RewritingLemmas.{IsTable}
use Rattle.vd_rewriting.proofs.rewriting.rewrite.Given as goal

abbrev pub invariant-loop-older : goal.invariant-loop-older
invariant-loop-older g l = record {
  entries : length l.table.items ≡ l.older + 1;
  table : IsTable (g.P.Rewriting.pass l.by) l.store l.out l.table.items;
  extends : Extends l.fn.out l.out;
  same_pass : g.P.Rewriting.pass l.by ≡ g.P.Rewriting.pass l.fn.by;
}
