use Rattle.std.proofs.Common.{◌≡◌, List, get_or, ap, ◌∙◌, subst}
use Rattle.vd_first_lex.specs.declared.selected.Selected.{Selected}
use Rattle.vd_first_lower.specs.declared.conversion.Converted.{Converted}
use Rattle.vd_first_accept.specs.Acceptance.{IsOnly}
use Rattle.vd_first_lower.specs.Conversions.{Converts}
use Rattle.vd_first_lower.specs.Headline.{IsIn93, IsLaidOut, HaveTops, HasWholeMap, KeepsInterface, KeepsRun, ShowsTheSame, IsFaithful}
use Rattle.vd_first_lower.proofs.Faithful.{if_ok_map, all_faithful}
use Rattle.vd_first_lower.proofs.conversion.convert.Goals as goal

-- the first file of a call is its only one
only_first : (files : List Selected) (file first : Selected) → first ≡ get_or files 0 first → IsOnly files file → first ≡ file
only_first files file first is only = is ∙ ap (λ fs. get_or fs 0 first) only

pub returns-clause-in_93 : goal.returns-clause-in_93
returns-clause-in_93 c =
    let s = c.index-files-0.result in
    if_ok_map (λ (x : Converted). IsFaithful s x.design x.map.rows) (λ x. IsIn93 x.design) (λ x f. f.in_93) c.convert_file.result (all_faithful s c.convert_file.result c.convert_file.ensures)

pub returns-clause-laid_out : goal.returns-clause-laid_out
returns-clause-laid_out c =
    let s = c.index-files-0.result in
    if_ok_map (λ (x : Converted). IsFaithful s x.design x.map.rows) (λ x. IsLaidOut x.design) (λ x f. f.laid_out) c.convert_file.result (all_faithful s c.convert_file.result c.convert_file.ensures)

pub returns-clause-tops : goal.returns-clause-tops
returns-clause-tops c = λ file only.
    let converts = subst (λ s. Converts s c.convert_file.result) (only_first c.args.files.now file c.index-files-0.result c.index-files-0.is only) c.convert_file.ensures in
    if_ok_map (λ (x : Converted). IsFaithful file x.design x.map.rows) (λ x. HaveTops file x.design) (λ x f. f.tops) c.convert_file.result (all_faithful file c.convert_file.result converts)

pub returns-clause-whole_map : goal.returns-clause-whole_map
returns-clause-whole_map c = λ file only.
    let converts = subst (λ s. Converts s c.convert_file.result) (only_first c.args.files.now file c.index-files-0.result c.index-files-0.is only) c.convert_file.ensures in
    if_ok_map (λ (x : Converted). IsFaithful file x.design x.map.rows) (λ x. HasWholeMap file x.design x.map.rows) (λ x f. f.whole_map) c.convert_file.result (all_faithful file c.convert_file.result converts)

pub returns-clause-interface : goal.returns-clause-interface
returns-clause-interface c = λ file only.
    let converts = subst (λ s. Converts s c.convert_file.result) (only_first c.args.files.now file c.index-files-0.result c.index-files-0.is only) c.convert_file.ensures in
    if_ok_map (λ (x : Converted). IsFaithful file x.design x.map.rows) (λ x. KeepsInterface file x.design) (λ x f. f.interface) c.convert_file.result (all_faithful file c.convert_file.result converts)

pub returns-clause-same_run : goal.returns-clause-same_run
returns-clause-same_run c = λ file only.
    let converts = subst (λ s. Converts s c.convert_file.result) (only_first c.args.files.now file c.index-files-0.result c.index-files-0.is only) c.convert_file.ensures in
    if_ok_map (λ (x : Converted). IsFaithful file x.design x.map.rows) (λ x. KeepsRun file x.design x.map.rows) (λ x f. f.same_run) c.convert_file.result (all_faithful file c.convert_file.result converts)

pub returns-clause-same_traces : goal.returns-clause-same_traces
returns-clause-same_traces c = λ file only.
    let converts = subst (λ s. Converts s c.convert_file.result) (only_first c.args.files.now file c.index-files-0.result c.index-files-0.is only) c.convert_file.ensures in
    if_ok_map (λ (x : Converted). IsFaithful file x.design x.map.rows) (λ x. ShowsTheSame file x.design) (λ x f. f.same_traces) c.convert_file.result (all_faithful file c.convert_file.result converts)
