use Rattle.std.proofs.Common.{◌∙◌, ap, sym}
use Rattle.vd_instance_rules.specs.Instances.{read_association}
use Rattle.vd_port_associations.specs.Associations.{read_formal}
use Rattle.vd_port_associations.specs.declared.formals.FormalSort.{FormalSort}
use Rattle.vd_port_modes.specs.Source.{design_in}
use Rattle.vd_value_rules.specs.Groups.{firsts_of}
use Rattle.vd_value_rules.specs.Actuals.{formal_broken}
use Rattle.vd_value_rules.specs.Judging.{refused_if}
use Rattle.vd_instance_rules.proofs.formals.formal_refusals.Goals as goal

pub returns-in-WholePort : goal.returns-in-WholePort
returns-in-WholePort c =
    let a = c.args.association.now in
    c.nothing_refused.ensures
    ∙ ap (λ (f : FormalSort). firsts_of (formal_broken (design_in c.args.interfaces.now) (read_formal f) (read_association a))) (sym c.in-WholePort.is)

pub returns-in-ConvertedPort : goal.returns-in-ConvertedPort
returns-in-ConvertedPort c =
    let a = c.args.association.now in
    c.firsts_if.ensures ∙ ap (λ b. firsts_of (refused_if b a.place 310)) c.is_wrongly_converted-is_wrong.ensures
    ∙ ap (λ (f : FormalSort). firsts_of (formal_broken (design_in c.args.interfaces.now) (read_formal f) (read_association a))) (sym c.in-ConvertedPort.is)

pub returns-in-NoFormal : goal.returns-in-NoFormal
returns-in-NoFormal c =
    let a = c.args.association.now in
    c.firsts_if-in-NoFormal.ensures
    ∙ ap (λ (f : FormalSort). firsts_of (formal_broken (design_in c.args.interfaces.now) (read_formal f) (read_association a))) (sym c.in-NoFormal.is)
