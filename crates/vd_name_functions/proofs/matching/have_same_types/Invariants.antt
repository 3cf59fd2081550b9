use Rattle.std.proofs.Common.{◌≡◌, length, drop}
use Rattle.vd_name_functions.specs.Headers.{same_types_as}
use Rattle.vd_name_functions.proofs.matching.have_same_types.Given as goal

abbrev pub invariant-loop-index : goal.invariant-loop-index
invariant-loop-index l = record {
  lengths : length l.one ≡ length l.other;
  same : same_types_as l.header.first l.header.end l.header.other l.names.scopes (drop l.index l.one) (drop l.index l.other)
      ≡ same_types_as l.header.first l.header.end l.header.other l.names.scopes l.one l.other;
}
