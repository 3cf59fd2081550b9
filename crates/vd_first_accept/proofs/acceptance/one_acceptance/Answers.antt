use Rattle.vd_first_accept.proofs.OneAcceptance.{one_acceptance}
use Rattle.vd_first_accept.proofs.acceptance.one_acceptance.Goals as goal

pub returns : goal.returns
returns c = one_acceptance
