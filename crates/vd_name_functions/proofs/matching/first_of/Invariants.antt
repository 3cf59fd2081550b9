use Rattle.std.proofs.Common.{◌≡◌, drop}
use Rattle.vd_naming.specs.Functions.{first_that}
use Rattle.vd_name_functions.specs.Headers.{is_open_function}
use Rattle.vd_name_functions.proofs.matching.first_of.Given as goal

abbrev pub invariant-loop-id : goal.invariant-loop-id
invariant-loop-id l =
    first_that (is_open_function l.names l.first l.end l.body) (drop l.id-index l.ids) ≡ first_that (is_open_function l.names l.first l.end l.body) l.ids
