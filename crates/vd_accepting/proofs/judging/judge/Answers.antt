use Rattle.std.proofs.Common.{◌≡◌, ap, ap₂, ◌∙◌}
use Rattle.vd_accepting.specs.Accepting.{first_of_rules}
use Rattle.vd_walks.specs.Finding.{or_else}
use Rattle.vd_walks.specs.Least.{lesser}
use Rattle.vd_naming.specs.Naming.{names_of}
use Rattle.vd_naming.specs.Settled.{resolved_tree}
use Rattle.vd_value_rules.specs.Groups.{firsts_of}
use Rattle.vd_value_rules.specs.Rules.{broken_in}
use Rattle.vd_accepting.proofs.judging.judge.Goals as goal

pub returns-clause-first : goal.returns-clause-first
returns-clause-first c =
    let r = c.args.revision in
    let groups : c.in_ok-groups.groups ≡ firsts_of (broken_in r (resolved_tree (names_of r c.args.units.now))) =
    c.in_ok-groups.ensures ∙ ap (λ t. firsts_of (broken_in r t)) c.in_ok-design.ensures.tree in
    c.in_ok-first.ensures
    ∙ ap₂ or_else
    (c.lesser-of_names.ensures ∙ ap₂ lesser c.in_ok-of_text.ensures (c.lesser.ensures ∙ ap₂ lesser c.in_ok-design.ensures.first (ap (λ f. f.of_names) groups)))
    (ap₂ (first_of_rules r) c.in_ok-design.ensures.tree (ap (λ f. f.of_rules) groups))
