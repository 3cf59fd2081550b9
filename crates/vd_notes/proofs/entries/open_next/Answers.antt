use Rattle.std.proofs.Common.{◌≡◌, ◌++◌, ap, ◌∙◌}
use Rattle.vd_notes.specs.Entries.{home_in, mark_in, named}
use Rattle.vd_notes.specs.Rows.{row_of}
use Rattle.vd_notes.specs.declared.declares.Row.{Row}
use Rattle.vd_notes.proofs.EntryLemmas.{opened_found, opened_fewer}
use Rattle.vd_notes.proofs.entries.open_next.Goals as goal

pub returns-clause-found : goal.returns-clause-found
returns-clause-found c =
    let n = c.in-Some.first.form in
    let parts = c.in-Some.first.parts in
    let home = c.args.next.now.home in
    let here = c.home_in-home.result in
    let mark = c.mark_in-mark.result in
    let found = c.args.found.now.items in
    opened_found c.args.next.now.trees parts c.in-Some.first.next n c.in-Some.first.text.now c.in-Some.first.place home here mark c.args.left.now.items c.push.new.self.items
    c.push-2.new.self.items found c.add_named.new.found.items c.in-Some.ensures
    (c.home_in-home.ensures ∙ ap (λ (r : Row). home_in r home n parts) c.row_of-row.ensures)
    (c.mark_in-mark.ensures ∙ ap (λ (r : Row). mark_in r.mark parts) c.row_of-row.ensures)
    (c.in_ok-add_named.ensures ∙ ap (λ (r : Row). found ++ named r.names here mark n parts) c.row_of-row.ensures)
    c.in_ok-push.ensures.items c.in_ok-push-2.ensures.items

pub returns-clause-fewer : goal.returns-clause-fewer
returns-clause-fewer c =
    opened_fewer c.args.next.now.trees c.in-Some.first.parts c.in-Some.first.next c.in-Some.first.form c.in-Some.first.text.now c.in-Some.first.place c.args.next.now.home
    c.home_in-home.result c.args.left.now.items c.push.new.self.items c.push-2.new.self.items c.in-Some.ensures c.in_ok-push.ensures.items c.in_ok-push-2.ensures.items
