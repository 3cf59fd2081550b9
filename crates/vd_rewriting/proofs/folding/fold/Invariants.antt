use Rattle.std.proofs.Common.{◌≡◌, length}
use Rattle.vd_rewriting.specs.Folding.{AreMeanings}
use Rattle.vd_rewriting.proofs.folding.fold.Given as goal

abbrev pub invariant-loop-older : goal.invariant-loop-older
invariant-loop-older g l = record {
  entries : length l.table.items ≡ l.older;
  meanings : AreMeanings (g.T.Folding.meaning l.by) l.store l.table.items;
  same_meaning : g.T.Folding.meaning l.by ≡ g.T.Folding.meaning l.fn.by;
}
