use Rattle.std.proofs.Common.{ap, length, arith}
use Rattle.vd_regions.specs.Scopes.{Scopes}
use Rattle.vd_predefined.specs.Seen.{seen_line}
use Rattle.vd_predefined.proofs.GrowthLemmas.{line_grows}
use Rattle.vd_predefined.proofs.packages.enter_row.Goals as goal
use Rattle.vd_predefined.proofs.packages.enter_row.Goals.{then-holds_in+in_ok-enter_line, else-holds_in}

pub returns-clause-grows : goal.returns-clause-grows
returns-clause-grows c = elim c.if-holds_in.branch [
  | then-holds_in+in_ok-enter_line w ↦
      omega (
        arith,
        ap (λ (s : Scopes). length s.regions) w.regions-is,
        ap (λ (s : Scopes). length s.regions) w.in_ok-enter_line.ensures.entered,
        line_grows c.args.regions.now c.args.region (seen_line c.args.row.now.1),
      )
  | else-holds_in w ↦ omega (arith, ap (λ (s : Scopes). length s.regions) w.regions-is)
]
