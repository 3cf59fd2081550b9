use Rattle.std.proofs.Common.{ap, sym, ◌∙◌}
use Rattle.vd_naming.specs.Units.{clauses_again}
use Rattle.vd_name_clauses.proofs.LibraryLemmas.{again_is}
use Rattle.vd_name_clauses.proofs.contexts.clauses_again.Goals as goal

pub returns : goal.returns
returns c =
    again_is c.args.region c.in-Some.context c.args.names.now c.enter_libraries.new.names c.repeat_uses.new.names
    c.in_ok-enter_libraries.ensures c.in_ok-repeat_uses.ensures
    ∙ ap (λ context. clauses_again c.args.region context c.args.names.now) (sym c.in-Some.is)
