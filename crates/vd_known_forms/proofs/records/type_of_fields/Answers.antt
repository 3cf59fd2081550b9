use Rattle.std.proofs.Common.{IfOk, subst, ◌∙◌}
use Rattle.vd_forest.specs.Store.{at}
use Rattle.vd_value_rules.specs.Indicated.{fields_in}
use Rattle.vd_value_rules.specs.Made.{Indicates}
use Rattle.vd_known_forms.proofs.FieldLemmas.{turned_front}
use Rattle.vd_meaning.specs.Declarations.{record_type}
use Rattle.vd_known_forms.proofs.records.type_of_fields.Goals as goal

pub returns-clause-indicates : goal.returns-clause-indicates
returns-clause-indicates c = λ fs is.
    subst (λ gs. IfOk c.record_type.result (λ number. Indicates c.record_type.new.self number (record_type gs)))
    (c.in_ok-listed.ensures.fields ∙ turned_front fs (fields_in (at c.args.subtypes.now c.args.fields)) is) c.record_type.ensures.indicates
