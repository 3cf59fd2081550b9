use Rattle.std.proofs.Common.{◌+◌, ◌++◌, ◌<◌, ◌≤◌, min, length, map, drop, ap, sym, ◌∙◌, arith}
use Rattle.std.proofs.lemmas.List.{append-nil}
use Rattle.vd_weighing.specs.Copies.{copied}
use Rattle.vd_weighing.specs.Tables.{copies}
use Rattle.vd_weighing.proofs.TableLemmas.{copies_kept, copies_taken, copies_none}
use Rattle.vd_weighing.proofs.table.Table.copies.Goals.{in-Some+in_ok-push, in_default}
use Rattle.vd_weighing.proofs.table.Table.copies.Goals as goal

pub loop-at-preserved : goal.loop-at-preserved
loop-at-preserved c =
    let es = c.args.self.now in
    let olds = c.args.olds.now in
    let news = c.args.news.now in
    let k = c.loop-at.at in
    let old_in : k < length olds = omega arith in
    let new_in : k < length news = omega arith in
    elim c.match-get.branch [
      | in-Some+in_ok-push w ↦
          ap (λ cs. map copied cs.items ++ copies (drop (k + 1) olds) (drop (k + 1) news) es) w.made-is
          ∙ copies_taken es olds news k c.index-olds-at.result old_in new_in c.index-olds-at.is c.loop-at.made.items w.push.new.self.items
          (record { id = w.index-news-at.result; number = w.in-Some.number }) (sym c.get.ensures ∙ w.in-Some.is) w.index-news-at.is w.in_ok-push.ensures.items
          ∙ c.loop-at.invariant
      | in_default w ↦
          ap (λ cs. map copied cs.items ++ copies (drop (k + 1) olds) (drop (k + 1) news) es) w.made-is
          ∙ copies_kept es olds news k c.index-olds-at.result old_in new_in c.index-olds-at.is (map copied c.loop-at.made.items)
          (sym c.get.ensures ∙ w.in_default.is)
          ∙ c.loop-at.invariant
    ]

pub returns : goal.returns
returns c =
    let past : min (length c.args.olds.now) (length c.args.news.now) ≤ c.loop-at.at = omega arith in
    sym (ap (λ cs. map copied c.loop-at.made.items ++ cs) (copies_none c.args.self.now c.args.olds.now c.args.news.now c.loop-at.at past)
    ∙ append-nil (map copied c.loop-at.made.items))
    ∙ c.loop-at.invariant
