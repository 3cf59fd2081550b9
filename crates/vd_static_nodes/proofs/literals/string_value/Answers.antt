use Rattle.std.proofs.Common.{IfOk, ap, ◌∙◌}
use Rattle.vd_forest.specs.Store.{at}
use Rattle.vd_value_rules.specs.Indicated.{indicated_in}
use Rattle.vd_static_values.specs.Entries.{IsFound}
use Rattle.vd_static_nodes.proofs.StringLemmas.{no_string, string_by}
use Rattle.vd_value_rules.specs.Knowledge.{indicated_of}
use Rattle.vd_static_nodes.proofs.literals.string_value.Goals as goal

pub returns-in-Some : goal.returns-in-Some
returns-in-Some c = λ e ground.
    let same = ap indicated_in (c.cursor.ensures ∙ ap (at c.args.ground.now.subtypes.now) c.subtype_of.ensures) in
    string_by c.args.text.now e c.args.node.now.mark c.in-Some.mark (indicated_in c.cursor.result) (λ g. IfOk c.string.result (λ v. IsFound v g)) c.in-Some.is
    (same ∙ (ground c.number.result).subtype ∙ ap (λ n. indicated_of (e.denotes n)) c.number.ensures) c.string.ensures

pub returns-in-None : goal.returns-in-None
returns-in-None c = λ e ground. no_string c.args.text.now e c.args.node.now.mark c.in-None.is
