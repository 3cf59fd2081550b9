use Rattle.std.proofs.Common.{◌≡◌, subst, sym}
use Rattle.std.specs.Prelude.{IfOk}
use Rattle.vd_meaning.specs.Meanings.{meanings}
use Rattle.vd_port_modes.specs.Source.{design_in}
use Rattle.vd_contexts.specs.Standing.{standing_of, standings_in}
use Rattle.vd_value_rules.specs.Standings.{is_bounded_object, parts_of_generic_map, passed}
use Rattle.vd_contexts.proofs.standings.in_generic_map.Goals as goal

pub returns-in-MappedTo : goal.returns-in-MappedTo
returns-in-MappedTo c = λ k ks knows.
    let d = design_in c.args.interfaces.now in
    subst (λ o. IfOk c.passed.result (λ xs. standings_in d xs.items ≡ parts_of_generic_map (standing_of d o) k.env (meanings d.table c.args.elements.now))) (sym c.in-MappedTo.is)
    (subst (λ ns. IfOk c.passed.result (λ xs. standings_in d xs.items ≡ passed (is_bounded_object k.env) ns (meanings d.table c.args.elements.now))) c.generics_of.ensures
    (c.passed.ensures d k ks knows))
