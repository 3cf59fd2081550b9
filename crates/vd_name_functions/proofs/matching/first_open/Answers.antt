use Rattle.std.proofs.Common.{ap, ◌∙◌}
use Rattle.std.specs.List.{filter}
use Rattle.vd_name_rows.specs.Members.{numbers_in}
use Rattle.vd_naming.specs.Functions.{first_that}
use Rattle.vd_naming.specs.Units.{is_named}
use Rattle.vd_name_functions.specs.Headers.{is_open_function}
use Rattle.vd_name_functions.proofs.ChoiceLemmas.{first_of_named}
use Rattle.vd_name_functions.proofs.matching.first_open.Goals as goal

pub returns : goal.returns
returns c =
    let d = c.args.names.now in
    c.first_of.ensures
    ∙ ap (first_that (is_open_function d c.args.first c.args.end c.args.body.now)) c.as_slice-2.ensures.value
    ∙ first_of_named d c.args.first c.args.end c.args.body.now c.args.region c.in_ok-named.named.items
    (c.in_ok-named.ensures ∙ ap (λ n. filter (is_named d n) (numbers_in c.args.region 0 d.scopes.entered)) c.as_slice.ensures)
