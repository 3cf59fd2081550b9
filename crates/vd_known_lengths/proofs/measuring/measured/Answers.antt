use Rattle.std.proofs.Common.{if◌then◌else◌, subst, sym, ◌∙◌}
use Rattle.vd_meaning.specs.Meanings.{meanings}
use Rattle.vd_meaning.specs.Names.{number_or}
use Rattle.vd_meaning.specs.Tables.{followed}
use Rattle.vd_known_lengths.specs.Extents.{IsMeasured}
use Rattle.vd_value_rules.specs.Declaring.{result_in}
use Rattle.vd_value_rules.specs.Lengths.{length_kind, shaped_by, shaping_as, shaping_of}
use Rattle.vd_known_lengths.proofs.measuring.measured.Goals as goal

pub returns-then-calls_written-clause-is : goal.returns-then-calls_written-clause-is
returns-then-calls_written-clause-is c = λ d k ss sees are.
    let n = c.args.tree.now.form in
    let call = shaped_by (result_in d (followed d.table (number_or n.declaration)) k.choosing) in
    subst (λ b. IsMeasured c.args.over.now.ground.subtypes.now c.alone.result (if b then shaping_as call
    else shaping_of (length_kind n.form) d k n c.args.tree.now.text.now (meanings d.table c.args.tree.now.parts) ss))
    (sym c.if-calls_written.true ∙ c.calls_written.ensures d sees.table) (c.alone.ensures.is call (c.called.ensures.is d k sees))
