use Rattle.std.proofs.Common.{ap, false, true, ◌∙◌}
use Rattle.vd_forest.proofs.StoreLemmas.{at_more, within_more}
use Rattle.vd_value_rules.specs.Indicated.{fields_in}
use Rattle.vd_known_designs.proofs.DesignLemmas.{knows_grown}
use Rattle.vd_known_designs.specs.declared.design.KnownDesign.{KnownDesign}
use Rattle.vd_known_designs.proofs.KnownLemmas.{indicates_grown}
use Rattle.vd_meaning.specs.Declarations.{record_type}
use Rattle.vd_value_rules.specs.Knowledge.{fields_defined}
use Rattle.vd_known_forms.proofs.records.record_defined.Goals as goal

pub type_of_fields-requires : goal.type_of_fields-requires
type_of_fields-requires c = let r = c.requires.ready in (c.in_ok-fields.ensures.fields r.design r.now r.round r.knows).own_fields.within

pub type_of_fields-requires-2 : goal.type_of_fields-requires-2
type_of_fields-requires-2 c =
    let r = c.requires.ready in
    within_more c.all_fields.new.design.table.subtypes c.type_of_fields.new.subtypes c.in_ok-fields.fields.choosing c.in_ok-own.ensures.extends
    (c.in_ok-fields.ensures.fields r.design r.now r.round r.knows).choosing_fields.within

pub returns-clause-indicated : goal.returns-clause-indicated
returns-clause-indicated c = λ d k ks knows.
    let between = c.all_fields.new.design.table.subtypes in
    let with_own = c.type_of_fields.new.subtypes in
    let are = c.in_ok-fields.ensures.fields d k ks knows in
    let own = fields_defined d false k c.args.elements.now in
    let choosing = fields_defined d true k c.args.elements.now in
    record {
      own =
          indicates_grown with_own c.type_of_fields-2.new.subtypes c.in_ok-own.own (record_type own) c.in_ok-choosing.ensures.extends
          (c.in_ok-own.ensures.indicates own are.own_fields.are);
      choosing =
          c.in_ok-choosing.ensures.indicates choosing
          (ap fields_in (at_more between with_own c.in_ok-fields.fields.choosing c.in_ok-own.ensures.extends are.choosing_fields.within) ∙ are.choosing_fields.are);
    }

pub returns-clause-knows : goal.returns-clause-knows
returns-clause-knows c = λ d ks knows.
    let between = c.all_fields.new.design in
    let with_own : KnownDesign = record between { table = record between.table { subtypes = c.type_of_fields.new.subtypes } } in
    knows_grown d with_own c.type_of_fields-2.new.subtypes ks c.in_ok-choosing.ensures.extends
    (knows_grown d between c.type_of_fields.new.subtypes ks c.in_ok-own.ensures.extends (c.in_ok-fields.ensures.knows d ks knows))
