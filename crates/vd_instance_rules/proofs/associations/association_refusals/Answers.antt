use Rattle.std.proofs.Common.{◌++◌, ◌∙◌, [], ap, if◌then◌else◌, sym}
use Rattle.std.proofs.lemmas.List.{append-nil}
use Rattle.vd_instance_rules.proofs.FirstLemmas.{joined_with}
use Rattle.vd_instance_rules.specs.Instances.{actual_for_port, design_at, port_map_at, read_association}
use Rattle.vd_value_rules.specs.Groups.{firsts_of}
use Rattle.vd_value_rules.specs.Actuals.{formal_broken}
use Rattle.vd_instance_rules.proofs.associations.association_refusals.Goals as goal

pub returns-in_ok-actual-clause-refused : goal.returns-in_ok-actual-clause-refused
returns-in_ok-actual-clause-refused c = λ k ks knows.
    let d = design_at c.args.instance.now in
    let m = port_map_at c.args.instance.now in
    let a = read_association c.args.association.now in
    c.together.ensures
    ∙ joined_with c.formal_refusals-formal.result c.in_ok-actual.actual (formal_broken d a.formal a) (actual_for_port d k.env m a)
    c.formal_refusals-formal.ensures (c.in_ok-actual.ensures.refused k ks knows)
    ∙ ap (λ b. firsts_of (formal_broken d a.formal a ++ (if b then actual_for_port d k.env m a else []))) (sym c.if-is_read.true ∙ c.is_read.ensures)

pub returns-else-is_read-clause-refused : goal.returns-else-is_read-clause-refused
returns-else-is_read-clause-refused c = λ k ks knows.
    let d = design_at c.args.instance.now in
    let m = port_map_at c.args.instance.now in
    let a = read_association c.args.association.now in
    c.formal_refusals-formal.ensures ∙ ap firsts_of (sym (append-nil (formal_broken d a.formal a)))
    ∙ ap (λ b. firsts_of (formal_broken d a.formal a ++ (if b then actual_for_port d k.env m a else []))) (sym c.if-is_read.false ∙ c.is_read.ensures)
