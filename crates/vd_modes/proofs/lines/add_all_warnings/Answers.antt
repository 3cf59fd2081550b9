use Rattle.std.proofs.Common.{◌++◌, ap, ◌∙◌}
use Rattle.vd_words.specs.Words.{texts_of}
use Rattle.vd_modes.specs.Checks.{file_named, warning_lines}
use Rattle.vd_modes.proofs.LineLemmas.{files_more}
use Rattle.vd_modes.proofs.lines.add_all_warnings.Goals as goal

pub loop-i-preserved : goal.loop-i-preserved
loop-i-preserved c =
    let names = texts_of c.args.names.now in
    let wss = c.args.warnings.now in
    let i = c.loop-i.i in
    let own = c.index-warnings-i.result in
    let so_far = c.loop-i.text.items in
    c.in_ok-add_warnings.ensures ∙ ap (λ file. so_far ++ warning_lines file c.as_slice.result.now) c.file_named.ensures
    ∙ ap (λ ws. so_far ++ warning_lines (file_named names i) ws) (c.as_slice.ensures ∙ c.index-warnings-i.is)
    ∙ files_more c.args.text.now.items names wss i own c.loop-i-test.true so_far c.loop-i.invariant
