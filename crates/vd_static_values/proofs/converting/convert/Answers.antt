use Rattle.std.proofs.Common.{Ok, Some, ap, subst, sym, ◌∙◌}
use Rattle.vd_value_rules.specs.Indicated.{indicated_in}
use Rattle.vd_meaning.specs.Names.{whole_converted}
use Rattle.vd_static_values.specs.Entries.{IsFound}
use Rattle.vd_static_values.proofs.LevelLemmas.{converted_is}
use Rattle.vd_static_values.specs.Levels.{IsOpened, inside_converted}
use Rattle.vd_static_values.proofs.converting.convert.Goals as goal

pub returns-in-Some-pop : goal.returns-in-Some-pop
returns-in-Some-pop c =
    let s = (indicated_in c.args.subtype.now).subtype in
    let value = c.args.value.now in
    let whole = c.in-Some.whole in
    let fits : IsFound (Some whole) (whole_converted s value) = subst (λ x. IsFound x (whole_converted s value)) c.in-Some.is c.in_ok-whole.ensures in
    let opened : IsOpened (Some c.in-Some-2.levels) (inside_converted s whole) = subst (λ x. IsOpened x (inside_converted s whole)) c.in-Some-2.is c.in_ok-levels.ensures in
    converted_is s value whole c.in-Some-pop.value c.in_ok-values.values.items c.pop.new.self.items fits (opened ∙ ap Ok (sym c.in_ok-values.ensures)) c.in-Some-pop.ensures.items
