use Rattle.std.proofs.Common.{◌≡◌, sym, ap, ◌∙◌, subst}
use Rattle.vd_bytes.specs.declared.channels.Channel.{Channel}
use Rattle.vd_bytes.specs.declared.channels.Channel.TheVariants.{Design, Map, Console}
use Rattle.vd_bytes.specs.Trays.{Appends, AppendsFront}
use Rattle.vd_bytes.proofs.TrayLemmas.{Appends-same}
use Rattle.vd_program.specs.Endings.{GotFronts, BeginsInOrder, due_with}
use Rattle.vd_program.proofs.EndingLemmas.{OnErr-always, OnOk-weaker, all_begun, fronts_first, fronts_second, fronts_third, order_first, order_second, order_third}
use Rattle.vd_program.proofs.writing.write_channels.Goals as goal
use Rattle.vd_program.proofs.writing.write_channels.Goals.{then-files+in_ok-write_all+in_ok-write_all-2, else-files}

pub returns-in_err-write_all-clause-fronts : goal.returns-in_err-write_all-clause-fronts
returns-in_err-write_all-clause-fronts g c =
    let w = c.write_all.ensures.only_writes in
    OnErr-always c.from_residual.result _
    (fronts_first g.T.Tray.written c.args.tray.now c.write_all.new.tray c.args.design.now c.args.map.now c.args.console.now c.write_all.ensures.front (w.other_channels Map (λ e. cc)) (w.other_channels Console (λ e. cc)))

pub returns-in_err-write_all-2-clause-fronts : goal.returns-in_err-write_all-2-clause-fronts
returns-in_err-write_all-2-clause-fronts g c =
    let written = g.T.Tray.written in
    let old = c.args.tray.now in
    let mid = c.write_all.new.tray in
    let new = c.write_all-then-files.new.tray in
    let v = c.write_all.ensures.only_writes in
    let w = c.write_all-then-files.ensures.only_writes in
    OnErr-always c.from_residual-in_err-write_all-2.result _
    (fronts_second written old new c.args.design.now c.args.map.now c.args.console.now
    (subst (λ x. Appends (written old Design) x c.args.design.now) (sym (w.other_channels Design (λ e. cc))) c.in_ok-write_all.ensures.appended)
    (subst (λ x. AppendsFront x (written new Map) c.args.map.now) (v.other_channels Map (λ e. cc)) c.write_all-then-files.ensures.front)
    (w.other_channels Console (λ e. cc) ∙ v.other_channels Console (λ e. cc)))

pub returns-clause-fronts : goal.returns-clause-fronts
returns-clause-fronts g c =
    let written = g.T.Tray.written in
    let old = c.args.tray.now in
    let new = c.write_all-2.new.tray in
    let last = c.write_all-2.ensures.only_writes in
    OnErr-always c.write_all-2.result (GotFronts written old new (due_with 0 c.args.design.now c.args.map.now c.args.console.now))
    (elim c.if-files.branch [
      | then-files+in_ok-write_all+in_ok-write_all-2 w ↦
          let first = w.write_all.ensures.only_writes in
          let second = w.write_all-then-files.ensures.only_writes in
          let mid : c.if-files.tray ≡ w.write_all-then-files.new.tray = w.tray-is in
          fronts_third written old new c.args.design.now c.args.map.now c.args.console.now
          (subst (λ x. Appends (written old Design) x c.args.design.now) (sym (last.other_channels Design (λ e. cc) ∙ ap (λ t. written t Design) mid ∙ second.other_channels Design (λ e. cc))) w.in_ok-write_all.ensures.appended)
          (subst (λ x. Appends (written old Map) x c.args.map.now) (sym (last.other_channels Map (λ e. cc) ∙ ap (λ t. written t Map) mid))
          (subst (λ x. Appends x (written w.write_all-then-files.new.tray Map) c.args.map.now) (first.other_channels Map (λ e. cc)) w.in_ok-write_all-2.ensures.appended))
          (subst (λ x. AppendsFront x (written new Console) c.args.console.now) (ap (λ t. written t Console) mid ∙ second.other_channels Console (λ e. cc) ∙ first.other_channels Console (λ e. cc)) c.write_all-2.ensures.front)
      | else-files w ↦
          let quiet = c.requires.quiet w.if-files.false in
          let still : (to : Channel) → (to ≡ Console → ⊥) → written new to ≡ written old to = λ to ne. last.other_channels to ne ∙ ap (λ t. written t to) w.tray-is in
          fronts_third written old new c.args.design.now c.args.map.now c.args.console.now
          (subst (Appends (written old Design) (written new Design)) (sym quiet.0) (Appends-same (written old Design) (written new Design) (still Design (λ e. cc))))
          (subst (Appends (written old Map) (written new Map)) (sym quiet.1) (Appends-same (written old Map) (written new Map) (still Map (λ e. cc))))
          (subst (λ x. AppendsFront x (written new Console) c.args.console.now) (ap (λ t. written t Console) w.tray-is) c.write_all-2.ensures.front)
    ])

pub returns-in_err-write_all-clause-in_order : goal.returns-in_err-write_all-clause-in_order
returns-in_err-write_all-clause-in_order g c =
    let w = c.write_all.ensures.only_writes in
    OnErr-always c.from_residual.result _
    (order_first g.T.Tray.written g.T.Tray.is_begun c.args.tray.now c.write_all.new.tray (due_with 0 c.args.design.now c.args.map.now c.args.console.now) (w.others_begun Map (λ e. cc)) (w.others_begun Console (λ e. cc)))

pub returns-in_err-write_all-2-clause-in_order : goal.returns-in_err-write_all-2-clause-in_order
returns-in_err-write_all-2-clause-in_order g c =
    let written = g.T.Tray.written in
    let old = c.args.tray.now in
    let v = c.write_all.ensures.only_writes in
    let w = c.write_all-then-files.ensures.only_writes in
    OnErr-always c.from_residual-in_err-write_all-2.result _
    (order_second written g.T.Tray.is_begun old c.write_all-then-files.new.tray (due_with 0 c.args.design.now c.args.map.now c.args.console.now)
    (subst (λ x. Appends (written old Design) x c.args.design.now) (sym (w.other_channels Design (λ e. cc))) c.in_ok-write_all.ensures.appended)
    (w.others_begun Console (λ e. cc) ∙ v.others_begun Console (λ e. cc)))

pub returns-clause-in_order : goal.returns-clause-in_order
returns-clause-in_order g c =
    let written = g.T.Tray.written in
    let old = c.args.tray.now in
    let new = c.write_all-2.new.tray in
    let last = c.write_all-2.ensures.only_writes in
    let due = due_with 0 c.args.design.now c.args.map.now c.args.console.now in
    OnErr-always c.write_all-2.result (BeginsInOrder written g.T.Tray.is_begun old new due)
    (elim c.if-files.branch [
      | then-files+in_ok-write_all+in_ok-write_all-2 w ↦
          let first = w.write_all.ensures.only_writes in
          let second = w.write_all-then-files.ensures.only_writes in
          let mid : c.if-files.tray ≡ w.write_all-then-files.new.tray = w.tray-is in
          order_third written g.T.Tray.is_begun old new due
          (subst (λ x. Appends (written old Design) x c.args.design.now) (sym (last.other_channels Design (λ e. cc) ∙ ap (λ t. written t Design) mid ∙ second.other_channels Design (λ e. cc))) w.in_ok-write_all.ensures.appended)
          (subst (λ x. Appends (written old Map) x c.args.map.now) (sym (last.other_channels Map (λ e. cc) ∙ ap (λ t. written t Map) mid))
          (subst (λ x. Appends x (written w.write_all-then-files.new.tray Map) c.args.map.now) (first.other_channels Map (λ e. cc)) w.in_ok-write_all-2.ensures.appended))
      | else-files w ↦
          let quiet = c.requires.quiet w.if-files.false in
          let nothing : (to : Channel) → (to ≡ Console → ⊥) → written new to ≡ written old to = λ to ne. last.other_channels to ne ∙ ap (λ t. written t to) w.tray-is in
          order_third written g.T.Tray.is_begun old new due
          (subst (Appends (written old Design) (written new Design)) (sym quiet.0) (Appends-same (written old Design) (written new Design) (nothing Design (λ e. cc))))
          (subst (Appends (written old Map) (written new Map)) (sym quiet.1) (Appends-same (written old Map) (written new Map) (nothing Map (λ e. cc))))
    ])

pub returns-clause-begun : goal.returns-clause-begun
returns-clause-begun g c =
    let is_begun = g.T.Tray.is_begun in
    let new = c.write_all-2.new.tray in
    let last = c.write_all-2.ensures.only_writes in
    OnOk-weaker c.write_all-2.result _ _
    (λ console yes. elim c.if-files.branch [
      | then-files+in_ok-write_all+in_ok-write_all-2 w ↦
          let second = w.write_all-then-files.ensures.only_writes in
          let mid : c.if-files.tray ≡ w.write_all-then-files.new.tray = w.tray-is in
          all_begun (is_begun new)
          (last.others_begun Design (λ e. cc) ∙ ap (λ t. is_begun t Design) mid ∙ second.others_begun Design (λ e. cc) ∙ w.in_ok-write_all.ensures.begun)
          (last.others_begun Map (λ e. cc) ∙ ap (λ t. is_begun t Map) mid ∙ w.in_ok-write_all-2.ensures.begun)
          console
      | else-files w ↦ let no = w.if-files.false in absurd cc
    ])
    c.write_all-2.ensures.begun
