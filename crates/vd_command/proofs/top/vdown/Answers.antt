use Rattle.std.proofs.Common.{◌≡◌, sym, ap, ◌∙◌, subst, inl, inr}
use Rattle.vd_design_files.proofs.AnswerLaws.{one_answer}
use Rattle.vd_program.specs.Dues.{refused_words}
use Rattle.vd_program.specs.Endings.{GotAll}
use Rattle.vd_program.specs.Outcomes.{IsDueOrReadFault}
use Rattle.vd_command.specs.Words.{checking, converting, job_of, texts_of, IsActionFor}
use Rattle.vd_command.proofs.HeadlineLemmas.{completed_accepts, completed_checks, completed_converts, completed_legal, completed_refuses, completed_writes}
use Rattle.vd_command.proofs.JobLemmas.{as_complete, as_completed, below_seven, by_names, job_writes, not_four, refused_outcome, words_write, writes_nothing, Completes, Faults}
use Rattle.vd_command.proofs.top.vdown.Goals as goal

pub returns-in-Ok-Convert-clause-completed : goal.returns-in-Ok-Convert-clause-completed
returns-in-Ok-Convert-clause-completed g c =
    let words = texts_of c.args.words.now.items in
    let a = subst (λ x. IsActionFor x (job_of words)) c.in-Ok-Convert.field-0-is c.in-Ok-Convert.ensures in
    let job = converting c.of.result c.in-Ok-Convert.files in
    let asks : job_of words ≡ job = a ∙ ap (λ tool. converting tool c.in-Ok-Convert.files) (sym c.of.ensures) in
    let names = texts_of c.as_slice.result.now in
    let are = c.as_slice.ensures in
    let told = g.T.Tray.files c.args.tray.now in
    let old = c.args.tray.now in
    let new = c.perform-in-Ok-Convert.new.tray in
    let status = c.perform-in-Ok-Convert.result in
    let completes = by_names words job asks names are (Completes g.T.Tray.read_faults g.T.Tray.write_faults g.T.Tray.written old new told words status) c.perform-in-Ok-Convert.ensures.completed in
    let faults = by_names words job asks names are (Faults g.T.Tray.read_faults g.T.Tray.write_faults g.T.Tray.written old new told words status) c.perform-in-Ok-Convert.ensures.read_fault in
    as_completed g.T.Tray.read_faults g.T.Tray.write_faults g.T.Tray.written old new told words status completes faults c.perform-in-Ok-Convert.ensures.write_fault

pub returns-in-Ok-Convert-clause-headline : goal.returns-in-Ok-Convert-clause-headline
returns-in-Ok-Convert-clause-headline g c =
    let words = texts_of c.args.words.now.items in
    let a = subst (λ x. IsActionFor x (job_of words)) c.in-Ok-Convert.field-0-is c.in-Ok-Convert.ensures in
    let job = converting c.of.result c.in-Ok-Convert.files in
    let asks : job_of words ≡ job = a ∙ ap (λ tool. converting tool c.in-Ok-Convert.files) (sym c.of.ensures) in
    let names = texts_of c.as_slice.result.now in
    let are = c.as_slice.ensures in
    let told = g.T.Tray.files c.args.tray.now in
    let old = c.args.tray.now in
    let new = c.perform-in-Ok-Convert.new.tray in
    let status = c.perform-in-Ok-Convert.result in
    let completes = by_names words job asks names are (Completes g.T.Tray.read_faults g.T.Tray.write_faults g.T.Tray.written old new told words status) c.perform-in-Ok-Convert.ensures.completed in
    let faults = by_names words job asks names are (Faults g.T.Tray.read_faults g.T.Tray.write_faults g.T.Tray.written old new told words status) c.perform-in-Ok-Convert.ensures.read_fault in
    λ done. completed_converts g.T.Tray.written old new told words status (as_completed g.T.Tray.read_faults g.T.Tray.write_faults g.T.Tray.written old new told words status completes faults c.perform-in-Ok-Convert.ensures.write_fault (inl done)) done

pub returns-in-Ok-Convert-clause-converts : goal.returns-in-Ok-Convert-clause-converts
returns-in-Ok-Convert-clause-converts g c =
    let words = texts_of c.args.words.now.items in
    let a = subst (λ x. IsActionFor x (job_of words)) c.in-Ok-Convert.field-0-is c.in-Ok-Convert.ensures in
    let job = converting c.of.result c.in-Ok-Convert.files in
    let asks : job_of words ≡ job = a ∙ ap (λ tool. converting tool c.in-Ok-Convert.files) (sym c.of.ensures) in
    let names = texts_of c.as_slice.result.now in
    let are = c.as_slice.ensures in
    let told = g.T.Tray.files c.args.tray.now in
    let old = c.args.tray.now in
    let new = c.perform-in-Ok-Convert.new.tray in
    let status = c.perform-in-Ok-Convert.result in
    let completes = by_names words job asks names are (Completes g.T.Tray.read_faults g.T.Tray.write_faults g.T.Tray.written old new told words status) c.perform-in-Ok-Convert.ensures.completed in
    let faults = by_names words job asks names are (Faults g.T.Tray.read_faults g.T.Tray.write_faults g.T.Tray.written old new told words status) c.perform-in-Ok-Convert.ensures.read_fault in
    λ done. completed_writes g.T.Tray.written old new told words status (as_completed g.T.Tray.read_faults g.T.Tray.write_faults g.T.Tray.written old new told words status completes faults c.perform-in-Ok-Convert.ensures.write_fault (inl done)) done

pub returns-in-Ok-Convert-clause-refuses : goal.returns-in-Ok-Convert-clause-refuses
returns-in-Ok-Convert-clause-refuses g c =
    let words = texts_of c.args.words.now.items in
    let a = subst (λ x. IsActionFor x (job_of words)) c.in-Ok-Convert.field-0-is c.in-Ok-Convert.ensures in
    let job = converting c.of.result c.in-Ok-Convert.files in
    let asks : job_of words ≡ job = a ∙ ap (λ tool. converting tool c.in-Ok-Convert.files) (sym c.of.ensures) in
    let names = texts_of c.as_slice.result.now in
    let are = c.as_slice.ensures in
    let told = g.T.Tray.files c.args.tray.now in
    let old = c.args.tray.now in
    let new = c.perform-in-Ok-Convert.new.tray in
    let status = c.perform-in-Ok-Convert.result in
    let completes = by_names words job asks names are (Completes g.T.Tray.read_faults g.T.Tray.write_faults g.T.Tray.written old new told words status) c.perform-in-Ok-Convert.ensures.completed in
    let faults = by_names words job asks names are (Faults g.T.Tray.read_faults g.T.Tray.write_faults g.T.Tray.written old new told words status) c.perform-in-Ok-Convert.ensures.read_fault in
    λ done. completed_refuses g.T.Tray.written old new told words status (as_completed g.T.Tray.read_faults g.T.Tray.write_faults g.T.Tray.written old new told words status completes faults c.perform-in-Ok-Convert.ensures.write_fault (inr (inl done))) done

pub returns-in-Ok-Convert-clause-complete : goal.returns-in-Ok-Convert-clause-complete
returns-in-Ok-Convert-clause-complete g c =
    let words = texts_of c.args.words.now.items in
    let a = subst (λ x. IsActionFor x (job_of words)) c.in-Ok-Convert.field-0-is c.in-Ok-Convert.ensures in
    let job = converting c.of.result c.in-Ok-Convert.files in
    let asks : job_of words ≡ job = a ∙ ap (λ tool. converting tool c.in-Ok-Convert.files) (sym c.of.ensures) in
    let names = texts_of c.as_slice.result.now in
    let are = c.as_slice.ensures in
    let told = g.T.Tray.files c.args.tray.now in
    let old = c.args.tray.now in
    let new = c.perform-in-Ok-Convert.new.tray in
    let status = c.perform-in-Ok-Convert.result in
    let completes = by_names words job asks names are (Completes g.T.Tray.read_faults g.T.Tray.write_faults g.T.Tray.written old new told words status) c.perform-in-Ok-Convert.ensures.completed in
    let faults = by_names words job asks names are (Faults g.T.Tray.read_faults g.T.Tray.write_faults g.T.Tray.written old new told words status) c.perform-in-Ok-Convert.ensures.read_fault in
    as_complete g.T.Tray.read_faults g.T.Tray.write_faults g.T.Tray.written old new told words status completes faults c.perform-in-Ok-Convert.ensures.write_fault

pub returns-in-Ok-Convert-clause-accepts : goal.returns-in-Ok-Convert-clause-accepts
returns-in-Ok-Convert-clause-accepts g c =
    let words = texts_of c.args.words.now.items in
    let a = subst (λ x. IsActionFor x (job_of words)) c.in-Ok-Convert.field-0-is c.in-Ok-Convert.ensures in
    let job = converting c.of.result c.in-Ok-Convert.files in
    let asks : job_of words ≡ job = a ∙ ap (λ tool. converting tool c.in-Ok-Convert.files) (sym c.of.ensures) in
    let names = texts_of c.as_slice.result.now in
    let are = c.as_slice.ensures in
    let told = g.T.Tray.files c.args.tray.now in
    let old = c.args.tray.now in
    let new = c.perform-in-Ok-Convert.new.tray in
    let status = c.perform-in-Ok-Convert.result in
    let completes = by_names words job asks names are (Completes g.T.Tray.read_faults g.T.Tray.write_faults g.T.Tray.written old new told words status) c.perform-in-Ok-Convert.ensures.completed in
    let faults = by_names words job asks names are (Faults g.T.Tray.read_faults g.T.Tray.write_faults g.T.Tray.written old new told words status) c.perform-in-Ok-Convert.ensures.read_fault in
    λ none enough.
    completed_accepts told words status (GotAll g.T.Tray.written old new)
    (as_completed g.T.Tray.read_faults g.T.Tray.write_faults g.T.Tray.written old new told words status completes faults c.perform-in-Ok-Convert.ensures.write_fault (as_complete g.T.Tray.read_faults g.T.Tray.write_faults g.T.Tray.written old new told words status completes faults c.perform-in-Ok-Convert.ensures.write_fault none enough))

pub returns-in-Ok-Convert-clause-checks : goal.returns-in-Ok-Convert-clause-checks
returns-in-Ok-Convert-clause-checks g c =
    let words = texts_of c.args.words.now.items in
    let a = subst (λ x. IsActionFor x (job_of words)) c.in-Ok-Convert.field-0-is c.in-Ok-Convert.ensures in
    let job = converting c.of.result c.in-Ok-Convert.files in
    let asks : job_of words ≡ job = a ∙ ap (λ tool. converting tool c.in-Ok-Convert.files) (sym c.of.ensures) in
    let names = texts_of c.as_slice.result.now in
    let are = c.as_slice.ensures in
    let told = g.T.Tray.files c.args.tray.now in
    let old = c.args.tray.now in
    let new = c.perform-in-Ok-Convert.new.tray in
    let status = c.perform-in-Ok-Convert.result in
    let completes = by_names words job asks names are (Completes g.T.Tray.read_faults g.T.Tray.write_faults g.T.Tray.written old new told words status) c.perform-in-Ok-Convert.ensures.completed in
    let faults = by_names words job asks names are (Faults g.T.Tray.read_faults g.T.Tray.write_faults g.T.Tray.written old new told words status) c.perform-in-Ok-Convert.ensures.read_fault in
    λ none enough.
    completed_checks one_answer told words status (GotAll g.T.Tray.written old new)
    (as_completed g.T.Tray.read_faults g.T.Tray.write_faults g.T.Tray.written old new told words status completes faults c.perform-in-Ok-Convert.ensures.write_fault (as_complete g.T.Tray.read_faults g.T.Tray.write_faults g.T.Tray.written old new told words status completes faults c.perform-in-Ok-Convert.ensures.write_fault none enough))

pub returns-in-Ok-Convert-clause-legal : goal.returns-in-Ok-Convert-clause-legal
returns-in-Ok-Convert-clause-legal g c =
    let words = texts_of c.args.words.now.items in
    let a = subst (λ x. IsActionFor x (job_of words)) c.in-Ok-Convert.field-0-is c.in-Ok-Convert.ensures in
    let job = converting c.of.result c.in-Ok-Convert.files in
    let asks : job_of words ≡ job = a ∙ ap (λ tool. converting tool c.in-Ok-Convert.files) (sym c.of.ensures) in
    let names = texts_of c.as_slice.result.now in
    let are = c.as_slice.ensures in
    let told = g.T.Tray.files c.args.tray.now in
    let old = c.args.tray.now in
    let new = c.perform-in-Ok-Convert.new.tray in
    let status = c.perform-in-Ok-Convert.result in
    let completes = by_names words job asks names are (Completes g.T.Tray.read_faults g.T.Tray.write_faults g.T.Tray.written old new told words status) c.perform-in-Ok-Convert.ensures.completed in
    let faults = by_names words job asks names are (Faults g.T.Tray.read_faults g.T.Tray.write_faults g.T.Tray.written old new told words status) c.perform-in-Ok-Convert.ensures.read_fault in
    λ done. completed_legal told words status (GotAll g.T.Tray.written old new) (as_completed g.T.Tray.read_faults g.T.Tray.write_faults g.T.Tray.written old new told words status completes faults c.perform-in-Ok-Convert.ensures.write_fault (inl done)) done

pub returns-in-Ok-Convert-clause-words : goal.returns-in-Ok-Convert-clause-words
returns-in-Ok-Convert-clause-words g c =
    let words = texts_of c.args.words.now.items in
    let a = subst (λ x. IsActionFor x (job_of words)) c.in-Ok-Convert.field-0-is c.in-Ok-Convert.ensures in
    let job = converting c.of.result c.in-Ok-Convert.files in
    let asks : job_of words ≡ job = a ∙ ap (λ tool. converting tool c.in-Ok-Convert.files) (sym c.of.ensures) in
    let names = texts_of c.as_slice.result.now in
    let are = c.as_slice.ensures in
    let told = g.T.Tray.files c.args.tray.now in
    let old = c.args.tray.now in
    let new = c.perform-in-Ok-Convert.new.tray in
    let status = c.perform-in-Ok-Convert.result in
    λ two. absurd (c.perform-in-Ok-Convert.ensures.no_words two)

pub returns-in-Ok-Convert-clause-not_taken : goal.returns-in-Ok-Convert-clause-not_taken
returns-in-Ok-Convert-clause-not_taken g c =
    let words = texts_of c.args.words.now.items in
    let a = subst (λ x. IsActionFor x (job_of words)) c.in-Ok-Convert.field-0-is c.in-Ok-Convert.ensures in
    let job = converting c.of.result c.in-Ok-Convert.files in
    let asks : job_of words ≡ job = a ∙ ap (λ tool. converting tool c.in-Ok-Convert.files) (sym c.of.ensures) in
    let names = texts_of c.as_slice.result.now in
    let are = c.as_slice.ensures in
    let told = g.T.Tray.files c.args.tray.now in
    let old = c.args.tray.now in
    let new = c.perform-in-Ok-Convert.new.tray in
    let status = c.perform-in-Ok-Convert.result in
    λ none. absurd (let e = sym none ∙ asks in cc)

pub returns-in-Ok-Convert-clause-read_fault : goal.returns-in-Ok-Convert-clause-read_fault
returns-in-Ok-Convert-clause-read_fault g c =
    let words = texts_of c.args.words.now.items in
    let a = subst (λ x. IsActionFor x (job_of words)) c.in-Ok-Convert.field-0-is c.in-Ok-Convert.ensures in
    let job = converting c.of.result c.in-Ok-Convert.files in
    let asks : job_of words ≡ job = a ∙ ap (λ tool. converting tool c.in-Ok-Convert.files) (sym c.of.ensures) in
    let names = texts_of c.as_slice.result.now in
    let are = c.as_slice.ensures in
    let told = g.T.Tray.files c.args.tray.now in
    let old = c.args.tray.now in
    let new = c.perform-in-Ok-Convert.new.tray in
    let status = c.perform-in-Ok-Convert.result in
    by_names words job asks names are (Faults g.T.Tray.read_faults g.T.Tray.write_faults g.T.Tray.written old new told words status) c.perform-in-Ok-Convert.ensures.read_fault

pub returns-in-Ok-Convert-clause-fronts : goal.returns-in-Ok-Convert-clause-fronts
returns-in-Ok-Convert-clause-fronts g c =
    let words = texts_of c.args.words.now.items in
    let a = subst (λ x. IsActionFor x (job_of words)) c.in-Ok-Convert.field-0-is c.in-Ok-Convert.ensures in
    let job = converting c.of.result c.in-Ok-Convert.files in
    let asks : job_of words ≡ job = a ∙ ap (λ tool. converting tool c.in-Ok-Convert.files) (sym c.of.ensures) in
    let names = texts_of c.as_slice.result.now in
    let are = c.as_slice.ensures in
    let told = g.T.Tray.files c.args.tray.now in
    let old = c.args.tray.now in
    let new = c.perform-in-Ok-Convert.new.tray in
    let status = c.perform-in-Ok-Convert.result in
    λ four.
    let x = c.perform-in-Ok-Convert.ensures.fronts four in
    (x.0, by_names words job asks names are (λ says w ns. IsDueOrReadFault g.T.Tray.read_faults old new says told ns x.0) x.1, x.2, x.3, λ ne. x.4 (λ w. ne (job_writes words job asks x.0.status w)))

pub returns-in-Ok-Convert-clause-no_design : goal.returns-in-Ok-Convert-clause-no_design
returns-in-Ok-Convert-clause-no_design g c =
    let words = texts_of c.args.words.now.items in
    let a = subst (λ x. IsActionFor x (job_of words)) c.in-Ok-Convert.field-0-is c.in-Ok-Convert.ensures in
    let job = converting c.of.result c.in-Ok-Convert.files in
    let asks : job_of words ≡ job = a ∙ ap (λ tool. converting tool c.in-Ok-Convert.files) (sym c.of.ensures) in
    let names = texts_of c.as_slice.result.now in
    let are = c.as_slice.ensures in
    let told = g.T.Tray.files c.args.tray.now in
    let old = c.args.tray.now in
    let new = c.perform-in-Ok-Convert.new.tray in
    let status = c.perform-in-Ok-Convert.result in
    λ ne. c.perform-in-Ok-Convert.ensures.no_design (λ w. ne (job_writes words job asks status w))

pub returns-in-Ok-Convert-clause-no_map : goal.returns-in-Ok-Convert-clause-no_map
returns-in-Ok-Convert-clause-no_map g c =
    let words = texts_of c.args.words.now.items in
    let a = subst (λ x. IsActionFor x (job_of words)) c.in-Ok-Convert.field-0-is c.in-Ok-Convert.ensures in
    let job = converting c.of.result c.in-Ok-Convert.files in
    let asks : job_of words ≡ job = a ∙ ap (λ tool. converting tool c.in-Ok-Convert.files) (sym c.of.ensures) in
    let names = texts_of c.as_slice.result.now in
    let are = c.as_slice.ensures in
    let told = g.T.Tray.files c.args.tray.now in
    let old = c.args.tray.now in
    let new = c.perform-in-Ok-Convert.new.tray in
    let status = c.perform-in-Ok-Convert.result in
    λ ne. c.perform-in-Ok-Convert.ensures.no_map (λ w. ne (job_writes words job asks status w))

pub returns-in-Ok-Convert-clause-begun : goal.returns-in-Ok-Convert-clause-begun
returns-in-Ok-Convert-clause-begun g c =
    let words = texts_of c.args.words.now.items in
    let a = subst (λ x. IsActionFor x (job_of words)) c.in-Ok-Convert.field-0-is c.in-Ok-Convert.ensures in
    let job = converting c.of.result c.in-Ok-Convert.files in
    let asks : job_of words ≡ job = a ∙ ap (λ tool. converting tool c.in-Ok-Convert.files) (sym c.of.ensures) in
    let names = texts_of c.as_slice.result.now in
    let are = c.as_slice.ensures in
    let told = g.T.Tray.files c.args.tray.now in
    let old = c.args.tray.now in
    let new = c.perform-in-Ok-Convert.new.tray in
    let status = c.perform-in-Ok-Convert.result in
    λ w. c.perform-in-Ok-Convert.ensures.begun (words_write words job asks status w)

pub returns-in-Ok-Convert-clause-untouched : goal.returns-in-Ok-Convert-clause-untouched
returns-in-Ok-Convert-clause-untouched g c =
    let words = texts_of c.args.words.now.items in
    let a = subst (λ x. IsActionFor x (job_of words)) c.in-Ok-Convert.field-0-is c.in-Ok-Convert.ensures in
    let job = converting c.of.result c.in-Ok-Convert.files in
    let asks : job_of words ≡ job = a ∙ ap (λ tool. converting tool c.in-Ok-Convert.files) (sym c.of.ensures) in
    let names = texts_of c.as_slice.result.now in
    let are = c.as_slice.ensures in
    let told = g.T.Tray.files c.args.tray.now in
    let old = c.args.tray.now in
    let new = c.perform-in-Ok-Convert.new.tray in
    let status = c.perform-in-Ok-Convert.result in
    λ ne. c.perform-in-Ok-Convert.ensures.untouched (λ w. ne (job_writes words job asks status w))

pub returns-in-Ok-Convert-clause-statuses : goal.returns-in-Ok-Convert-clause-statuses
returns-in-Ok-Convert-clause-statuses g c =
    let words = texts_of c.args.words.now.items in
    let a = subst (λ x. IsActionFor x (job_of words)) c.in-Ok-Convert.field-0-is c.in-Ok-Convert.ensures in
    let job = converting c.of.result c.in-Ok-Convert.files in
    let asks : job_of words ≡ job = a ∙ ap (λ tool. converting tool c.in-Ok-Convert.files) (sym c.of.ensures) in
    let names = texts_of c.as_slice.result.now in
    let are = c.as_slice.ensures in
    let told = g.T.Tray.files c.args.tray.now in
    let old = c.args.tray.now in
    let new = c.perform-in-Ok-Convert.new.tray in
    let status = c.perform-in-Ok-Convert.result in
    let completes = by_names words job asks names are (Completes g.T.Tray.read_faults g.T.Tray.write_faults g.T.Tray.written old new told words status) c.perform-in-Ok-Convert.ensures.completed in
    let faults = by_names words job asks names are (Faults g.T.Tray.read_faults g.T.Tray.write_faults g.T.Tray.written old new told words status) c.perform-in-Ok-Convert.ensures.read_fault in
    below_seven g.T.Tray.read_faults g.T.Tray.write_faults g.T.Tray.written old new told words status completes faults c.perform-in-Ok-Convert.ensures.write_fault

pub returns-in-Ok-Check-clause-completed : goal.returns-in-Ok-Check-clause-completed
returns-in-Ok-Check-clause-completed g c =
    let words = texts_of c.args.words.now.items in
    let a = subst (λ x. IsActionFor x (job_of words)) c.in-Ok-Check.field-0-is c.in-Ok-Check.ensures in
    let job = checking c.of-in-Ok-Check.result c.in-Ok-Check.files in
    let asks : job_of words ≡ job = a ∙ ap (λ tool. checking tool c.in-Ok-Check.files) (sym c.of-in-Ok-Check.ensures) in
    let names = texts_of c.as_slice-in-Ok-Check.result.now in
    let are = c.as_slice-in-Ok-Check.ensures in
    let told = g.T.Tray.files c.args.tray.now in
    let old = c.args.tray.now in
    let new = c.perform-in-Ok-Check-2.new.tray in
    let status = c.perform-in-Ok-Check-2.result in
    let completes = by_names words job asks names are (Completes g.T.Tray.read_faults g.T.Tray.write_faults g.T.Tray.written old new told words status) c.perform-in-Ok-Check-2.ensures.completed in
    let faults = by_names words job asks names are (Faults g.T.Tray.read_faults g.T.Tray.write_faults g.T.Tray.written old new told words status) c.perform-in-Ok-Check-2.ensures.read_fault in
    as_completed g.T.Tray.read_faults g.T.Tray.write_faults g.T.Tray.written old new told words status completes faults c.perform-in-Ok-Check-2.ensures.write_fault

pub returns-in-Ok-Check-clause-headline : goal.returns-in-Ok-Check-clause-headline
returns-in-Ok-Check-clause-headline g c =
    let words = texts_of c.args.words.now.items in
    let a = subst (λ x. IsActionFor x (job_of words)) c.in-Ok-Check.field-0-is c.in-Ok-Check.ensures in
    let job = checking c.of-in-Ok-Check.result c.in-Ok-Check.files in
    let asks : job_of words ≡ job = a ∙ ap (λ tool. checking tool c.in-Ok-Check.files) (sym c.of-in-Ok-Check.ensures) in
    let names = texts_of c.as_slice-in-Ok-Check.result.now in
    let are = c.as_slice-in-Ok-Check.ensures in
    let told = g.T.Tray.files c.args.tray.now in
    let old = c.args.tray.now in
    let new = c.perform-in-Ok-Check-2.new.tray in
    let status = c.perform-in-Ok-Check-2.result in
    let completes = by_names words job asks names are (Completes g.T.Tray.read_faults g.T.Tray.write_faults g.T.Tray.written old new told words status) c.perform-in-Ok-Check-2.ensures.completed in
    let faults = by_names words job asks names are (Faults g.T.Tray.read_faults g.T.Tray.write_faults g.T.Tray.written old new told words status) c.perform-in-Ok-Check-2.ensures.read_fault in
    λ done. completed_converts g.T.Tray.written old new told words status (as_completed g.T.Tray.read_faults g.T.Tray.write_faults g.T.Tray.written old new told words status completes faults c.perform-in-Ok-Check-2.ensures.write_fault (inl done)) done

pub returns-in-Ok-Check-clause-converts : goal.returns-in-Ok-Check-clause-converts
returns-in-Ok-Check-clause-converts g c =
    let words = texts_of c.args.words.now.items in
    let a = subst (λ x. IsActionFor x (job_of words)) c.in-Ok-Check.field-0-is c.in-Ok-Check.ensures in
    let job = checking c.of-in-Ok-Check.result c.in-Ok-Check.files in
    let asks : job_of words ≡ job = a ∙ ap (λ tool. checking tool c.in-Ok-Check.files) (sym c.of-in-Ok-Check.ensures) in
    let names = texts_of c.as_slice-in-Ok-Check.result.now in
    let are = c.as_slice-in-Ok-Check.ensures in
    let told = g.T.Tray.files c.args.tray.now in
    let old = c.args.tray.now in
    let new = c.perform-in-Ok-Check-2.new.tray in
    let status = c.perform-in-Ok-Check-2.result in
    let completes = by_names words job asks names are (Completes g.T.Tray.read_faults g.T.Tray.write_faults g.T.Tray.written old new told words status) c.perform-in-Ok-Check-2.ensures.completed in
    let faults = by_names words job asks names are (Faults g.T.Tray.read_faults g.T.Tray.write_faults g.T.Tray.written old new told words status) c.perform-in-Ok-Check-2.ensures.read_fault in
    λ done. completed_writes g.T.Tray.written old new told words status (as_completed g.T.Tray.read_faults g.T.Tray.write_faults g.T.Tray.written old new told words status completes faults c.perform-in-Ok-Check-2.ensures.write_fault (inl done)) done

pub returns-in-Ok-Check-clause-refuses : goal.returns-in-Ok-Check-clause-refuses
returns-in-Ok-Check-clause-refuses g c =
    let words = texts_of c.args.words.now.items in
    let a = subst (λ x. IsActionFor x (job_of words)) c.in-Ok-Check.field-0-is c.in-Ok-Check.ensures in
    let job = checking c.of-in-Ok-Check.result c.in-Ok-Check.files in
    let asks : job_of words ≡ job = a ∙ ap (λ tool. checking tool c.in-Ok-Check.files) (sym c.of-in-Ok-Check.ensures) in
    let names = texts_of c.as_slice-in-Ok-Check.result.now in
    let are = c.as_slice-in-Ok-Check.ensures in
    let told = g.T.Tray.files c.args.tray.now in
    let old = c.args.tray.now in
    let new = c.perform-in-Ok-Check-2.new.tray in
    let status = c.perform-in-Ok-Check-2.result in
    let completes = by_names words job asks names are (Completes g.T.Tray.read_faults g.T.Tray.write_faults g.T.Tray.written old new told words status) c.perform-in-Ok-Check-2.ensures.completed in
    let faults = by_names words job asks names are (Faults g.T.Tray.read_faults g.T.Tray.write_faults g.T.Tray.written old new told words status) c.perform-in-Ok-Check-2.ensures.read_fault in
    λ done. completed_refuses g.T.Tray.written old new told words status (as_completed g.T.Tray.read_faults g.T.Tray.write_faults g.T.Tray.written old new told words status completes faults c.perform-in-Ok-Check-2.ensures.write_fault (inr (inl done))) done

pub returns-in-Ok-Check-clause-complete : goal.returns-in-Ok-Check-clause-complete
returns-in-Ok-Check-clause-complete g c =
    let words = texts_of c.args.words.now.items in
    let a = subst (λ x. IsActionFor x (job_of words)) c.in-Ok-Check.field-0-is c.in-Ok-Check.ensures in
    let job = checking c.of-in-Ok-Check.result c.in-Ok-Check.files in
    let asks : job_of words ≡ job = a ∙ ap (λ tool. checking tool c.in-Ok-Check.files) (sym c.of-in-Ok-Check.ensures) in
    let names = texts_of c.as_slice-in-Ok-Check.result.now in
    let are = c.as_slice-in-Ok-Check.ensures in
    let told = g.T.Tray.files c.args.tray.now in
    let old = c.args.tray.now in
    let new = c.perform-in-Ok-Check-2.new.tray in
    let status = c.perform-in-Ok-Check-2.result in
    let completes = by_names words job asks names are (Completes g.T.Tray.read_faults g.T.Tray.write_faults g.T.Tray.written old new told words status) c.perform-in-Ok-Check-2.ensures.completed in
    let faults = by_names words job asks names are (Faults g.T.Tray.read_faults g.T.Tray.write_faults g.T.Tray.written old new told words status) c.perform-in-Ok-Check-2.ensures.read_fault in
    as_complete g.T.Tray.read_faults g.T.Tray.write_faults g.T.Tray.written old new told words status completes faults c.perform-in-Ok-Check-2.ensures.write_fault

pub returns-in-Ok-Check-clause-accepts : goal.returns-in-Ok-Check-clause-accepts
returns-in-Ok-Check-clause-accepts g c =
    let words = texts_of c.args.words.now.items in
    let a = subst (λ x. IsActionFor x (job_of words)) c.in-Ok-Check.field-0-is c.in-Ok-Check.ensures in
    let job = checking c.of-in-Ok-Check.result c.in-Ok-Check.files in
    let asks : job_of words ≡ job = a ∙ ap (λ tool. checking tool c.in-Ok-Check.files) (sym c.of-in-Ok-Check.ensures) in
    let names = texts_of c.as_slice-in-Ok-Check.result.now in
    let are = c.as_slice-in-Ok-Check.ensures in
    let told = g.T.Tray.files c.args.tray.now in
    let old = c.args.tray.now in
    let new = c.perform-in-Ok-Check-2.new.tray in
    let status = c.perform-in-Ok-Check-2.result in
    let completes = by_names words job asks names are (Completes g.T.Tray.read_faults g.T.Tray.write_faults g.T.Tray.written old new told words status) c.perform-in-Ok-Check-2.ensures.completed in
    let faults = by_names words job asks names are (Faults g.T.Tray.read_faults g.T.Tray.write_faults g.T.Tray.written old new told words status) c.perform-in-Ok-Check-2.ensures.read_fault in
    λ none enough.
    completed_accepts told words status (GotAll g.T.Tray.written old new)
    (as_completed g.T.Tray.read_faults g.T.Tray.write_faults g.T.Tray.written old new told words status completes faults c.perform-in-Ok-Check-2.ensures.write_fault (as_complete g.T.Tray.read_faults g.T.Tray.write_faults g.T.Tray.written old new told words status completes faults c.perform-in-Ok-Check-2.ensures.write_fault none enough))

pub returns-in-Ok-Check-clause-checks : goal.returns-in-Ok-Check-clause-checks
returns-in-Ok-Check-clause-checks g c =
    let words = texts_of c.args.words.now.items in
    let a = subst (λ x. IsActionFor x (job_of words)) c.in-Ok-Check.field-0-is c.in-Ok-Check.ensures in
    let job = checking c.of-in-Ok-Check.result c.in-Ok-Check.files in
    let asks : job_of words ≡ job = a ∙ ap (λ tool. checking tool c.in-Ok-Check.files) (sym c.of-in-Ok-Check.ensures) in
    let names = texts_of c.as_slice-in-Ok-Check.result.now in
    let are = c.as_slice-in-Ok-Check.ensures in
    let told = g.T.Tray.files c.args.tray.now in
    let old = c.args.tray.now in
    let new = c.perform-in-Ok-Check-2.new.tray in
    let status = c.perform-in-Ok-Check-2.result in
    let completes = by_names words job asks names are (Completes g.T.Tray.read_faults g.T.Tray.write_faults g.T.Tray.written old new told words status) c.perform-in-Ok-Check-2.ensures.completed in
    let faults = by_names words job asks names are (Faults g.T.Tray.read_faults g.T.Tray.write_faults g.T.Tray.written old new told words status) c.perform-in-Ok-Check-2.ensures.read_fault in
    λ none enough.
    completed_checks one_answer told words status (GotAll g.T.Tray.written old new)
    (as_completed g.T.Tray.read_faults g.T.Tray.write_faults g.T.Tray.written old new told words status completes faults c.perform-in-Ok-Check-2.ensures.write_fault (as_complete g.T.Tray.read_faults g.T.Tray.write_faults g.T.Tray.written old new told words status completes faults c.perform-in-Ok-Check-2.ensures.write_fault none enough))

pub returns-in-Ok-Check-clause-legal : goal.returns-in-Ok-Check-clause-legal
returns-in-Ok-Check-clause-legal g c =
    let words = texts_of c.args.words.now.items in
    let a = subst (λ x. IsActionFor x (job_of words)) c.in-Ok-Check.field-0-is c.in-Ok-Check.ensures in
    let job = checking c.of-in-Ok-Check.result c.in-Ok-Check.files in
    let asks : job_of words ≡ job = a ∙ ap (λ tool. checking tool c.in-Ok-Check.files) (sym c.of-in-Ok-Check.ensures) in
    let names = texts_of c.as_slice-in-Ok-Check.result.now in
    let are = c.as_slice-in-Ok-Check.ensures in
    let told = g.T.Tray.files c.args.tray.now in
    let old = c.args.tray.now in
    let new = c.perform-in-Ok-Check-2.new.tray in
    let status = c.perform-in-Ok-Check-2.result in
    let completes = by_names words job asks names are (Completes g.T.Tray.read_faults g.T.Tray.write_faults g.T.Tray.written old new told words status) c.perform-in-Ok-Check-2.ensures.completed in
    let faults = by_names words job asks names are (Faults g.T.Tray.read_faults g.T.Tray.write_faults g.T.Tray.written old new told words status) c.perform-in-Ok-Check-2.ensures.read_fault in
    λ done. completed_legal told words status (GotAll g.T.Tray.written old new) (as_completed g.T.Tray.read_faults g.T.Tray.write_faults g.T.Tray.written old new told words status completes faults c.perform-in-Ok-Check-2.ensures.write_fault (inl done)) done

pub returns-in-Ok-Check-clause-words : goal.returns-in-Ok-Check-clause-words
returns-in-Ok-Check-clause-words g c =
    let words = texts_of c.args.words.now.items in
    let a = subst (λ x. IsActionFor x (job_of words)) c.in-Ok-Check.field-0-is c.in-Ok-Check.ensures in
    let job = checking c.of-in-Ok-Check.result c.in-Ok-Check.files in
    let asks : job_of words ≡ job = a ∙ ap (λ tool. checking tool c.in-Ok-Check.files) (sym c.of-in-Ok-Check.ensures) in
    let names = texts_of c.as_slice-in-Ok-Check.result.now in
    let are = c.as_slice-in-Ok-Check.ensures in
    let told = g.T.Tray.files c.args.tray.now in
    let old = c.args.tray.now in
    let new = c.perform-in-Ok-Check-2.new.tray in
    let status = c.perform-in-Ok-Check-2.result in
    λ two. absurd (c.perform-in-Ok-Check-2.ensures.no_words two)

pub returns-in-Ok-Check-clause-not_taken : goal.returns-in-Ok-Check-clause-not_taken
returns-in-Ok-Check-clause-not_taken g c =
    let words = texts_of c.args.words.now.items in
    let a = subst (λ x. IsActionFor x (job_of words)) c.in-Ok-Check.field-0-is c.in-Ok-Check.ensures in
    let job = checking c.of-in-Ok-Check.result c.in-Ok-Check.files in
    let asks : job_of words ≡ job = a ∙ ap (λ tool. checking tool c.in-Ok-Check.files) (sym c.of-in-Ok-Check.ensures) in
    let names = texts_of c.as_slice-in-Ok-Check.result.now in
    let are = c.as_slice-in-Ok-Check.ensures in
    let told = g.T.Tray.files c.args.tray.now in
    let old = c.args.tray.now in
    let new = c.perform-in-Ok-Check-2.new.tray in
    let status = c.perform-in-Ok-Check-2.result in
    λ none. absurd (let e = sym none ∙ asks in cc)

pub returns-in-Ok-Check-clause-read_fault : goal.returns-in-Ok-Check-clause-read_fault
returns-in-Ok-Check-clause-read_fault g c =
    let words = texts_of c.args.words.now.items in
    let a = subst (λ x. IsActionFor x (job_of words)) c.in-Ok-Check.field-0-is c.in-Ok-Check.ensures in
    let job = checking c.of-in-Ok-Check.result c.in-Ok-Check.files in
    let asks : job_of words ≡ job = a ∙ ap (λ tool. checking tool c.in-Ok-Check.files) (sym c.of-in-Ok-Check.ensures) in
    let names = texts_of c.as_slice-in-Ok-Check.result.now in
    let are = c.as_slice-in-Ok-Check.ensures in
    let told = g.T.Tray.files c.args.tray.now in
    let old = c.args.tray.now in
    let new = c.perform-in-Ok-Check-2.new.tray in
    let status = c.perform-in-Ok-Check-2.result in
    by_names words job asks names are (Faults g.T.Tray.read_faults g.T.Tray.write_faults g.T.Tray.written old new told words status) c.perform-in-Ok-Check-2.ensures.read_fault

pub returns-in-Ok-Check-clause-fronts : goal.returns-in-Ok-Check-clause-fronts
returns-in-Ok-Check-clause-fronts g c =
    let words = texts_of c.args.words.now.items in
    let a = subst (λ x. IsActionFor x (job_of words)) c.in-Ok-Check.field-0-is c.in-Ok-Check.ensures in
    let job = checking c.of-in-Ok-Check.result c.in-Ok-Check.files in
    let asks : job_of words ≡ job = a ∙ ap (λ tool. checking tool c.in-Ok-Check.files) (sym c.of-in-Ok-Check.ensures) in
    let names = texts_of c.as_slice-in-Ok-Check.result.now in
    let are = c.as_slice-in-Ok-Check.ensures in
    let told = g.T.Tray.files c.args.tray.now in
    let old = c.args.tray.now in
    let new = c.perform-in-Ok-Check-2.new.tray in
    let status = c.perform-in-Ok-Check-2.result in
    λ four.
    let x = c.perform-in-Ok-Check-2.ensures.fronts four in
    (x.0, by_names words job asks names are (λ says w ns. IsDueOrReadFault g.T.Tray.read_faults old new says told ns x.0) x.1, x.2, x.3, λ ne. x.4 (λ w. ne (job_writes words job asks x.0.status w)))

pub returns-in-Ok-Check-clause-no_design : goal.returns-in-Ok-Check-clause-no_design
returns-in-Ok-Check-clause-no_design g c =
    let words = texts_of c.args.words.now.items in
    let a = subst (λ x. IsActionFor x (job_of words)) c.in-Ok-Check.field-0-is c.in-Ok-Check.ensures in
    let job = checking c.of-in-Ok-Check.result c.in-Ok-Check.files in
    let asks : job_of words ≡ job = a ∙ ap (λ tool. checking tool c.in-Ok-Check.files) (sym c.of-in-Ok-Check.ensures) in
    let names = texts_of c.as_slice-in-Ok-Check.result.now in
    let are = c.as_slice-in-Ok-Check.ensures in
    let told = g.T.Tray.files c.args.tray.now in
    let old = c.args.tray.now in
    let new = c.perform-in-Ok-Check-2.new.tray in
    let status = c.perform-in-Ok-Check-2.result in
    λ ne. c.perform-in-Ok-Check-2.ensures.no_design (λ w. ne (job_writes words job asks status w))

pub returns-in-Ok-Check-clause-no_map : goal.returns-in-Ok-Check-clause-no_map
returns-in-Ok-Check-clause-no_map g c =
    let words = texts_of c.args.words.now.items in
    let a = subst (λ x. IsActionFor x (job_of words)) c.in-Ok-Check.field-0-is c.in-Ok-Check.ensures in
    let job = checking c.of-in-Ok-Check.result c.in-Ok-Check.files in
    let asks : job_of words ≡ job = a ∙ ap (λ tool. checking tool c.in-Ok-Check.files) (sym c.of-in-Ok-Check.ensures) in
    let names = texts_of c.as_slice-in-Ok-Check.result.now in
    let are = c.as_slice-in-Ok-Check.ensures in
    let told = g.T.Tray.files c.args.tray.now in
    let old = c.args.tray.now in
    let new = c.perform-in-Ok-Check-2.new.tray in
    let status = c.perform-in-Ok-Check-2.result in
    λ ne. c.perform-in-Ok-Check-2.ensures.no_map (λ w. ne (job_writes words job asks status w))

pub returns-in-Ok-Check-clause-begun : goal.returns-in-Ok-Check-clause-begun
returns-in-Ok-Check-clause-begun g c =
    let words = texts_of c.args.words.now.items in
    let a = subst (λ x. IsActionFor x (job_of words)) c.in-Ok-Check.field-0-is c.in-Ok-Check.ensures in
    let job = checking c.of-in-Ok-Check.result c.in-Ok-Check.files in
    let asks : job_of words ≡ job = a ∙ ap (λ tool. checking tool c.in-Ok-Check.files) (sym c.of-in-Ok-Check.ensures) in
    let names = texts_of c.as_slice-in-Ok-Check.result.now in
    let are = c.as_slice-in-Ok-Check.ensures in
    let told = g.T.Tray.files c.args.tray.now in
    let old = c.args.tray.now in
    let new = c.perform-in-Ok-Check-2.new.tray in
    let status = c.perform-in-Ok-Check-2.result in
    λ w. c.perform-in-Ok-Check-2.ensures.begun (words_write words job asks status w)

pub returns-in-Ok-Check-clause-untouched : goal.returns-in-Ok-Check-clause-untouched
returns-in-Ok-Check-clause-untouched g c =
    let words = texts_of c.args.words.now.items in
    let a = subst (λ x. IsActionFor x (job_of words)) c.in-Ok-Check.field-0-is c.in-Ok-Check.ensures in
    let job = checking c.of-in-Ok-Check.result c.in-Ok-Check.files in
    let asks : job_of words ≡ job = a ∙ ap (λ tool. checking tool c.in-Ok-Check.files) (sym c.of-in-Ok-Check.ensures) in
    let names = texts_of c.as_slice-in-Ok-Check.result.now in
    let are = c.as_slice-in-Ok-Check.ensures in
    let told = g.T.Tray.files c.args.tray.now in
    let old = c.args.tray.now in
    let new = c.perform-in-Ok-Check-2.new.tray in
    let status = c.perform-in-Ok-Check-2.result in
    λ ne. c.perform-in-Ok-Check-2.ensures.untouched (λ w. ne (job_writes words job asks status w))

pub returns-in-Ok-Check-clause-statuses : goal.returns-in-Ok-Check-clause-statuses
returns-in-Ok-Check-clause-statuses g c =
    let words = texts_of c.args.words.now.items in
    let a = subst (λ x. IsActionFor x (job_of words)) c.in-Ok-Check.field-0-is c.in-Ok-Check.ensures in
    let job = checking c.of-in-Ok-Check.result c.in-Ok-Check.files in
    let asks : job_of words ≡ job = a ∙ ap (λ tool. checking tool c.in-Ok-Check.files) (sym c.of-in-Ok-Check.ensures) in
    let names = texts_of c.as_slice-in-Ok-Check.result.now in
    let are = c.as_slice-in-Ok-Check.ensures in
    let told = g.T.Tray.files c.args.tray.now in
    let old = c.args.tray.now in
    let new = c.perform-in-Ok-Check-2.new.tray in
    let status = c.perform-in-Ok-Check-2.result in
    let completes = by_names words job asks names are (Completes g.T.Tray.read_faults g.T.Tray.write_faults g.T.Tray.written old new told words status) c.perform-in-Ok-Check-2.ensures.completed in
    let faults = by_names words job asks names are (Faults g.T.Tray.read_faults g.T.Tray.write_faults g.T.Tray.written old new told words status) c.perform-in-Ok-Check-2.ensures.read_fault in
    below_seven g.T.Tray.read_faults g.T.Tray.write_faults g.T.Tray.written old new told words status completes faults c.perform-in-Ok-Check-2.ensures.write_fault

pub returns-in-Ok-RefuseWords-clause-completed : goal.returns-in-Ok-RefuseWords-clause-completed
returns-in-Ok-RefuseWords-clause-completed g c = λ done.
    let words = texts_of c.args.words.now.items in
    let none = subst (λ a. IsActionFor a (job_of words)) c.in-Ok-RefuseWords.field-0-is c.in-Ok-RefuseWords.ensures in
    let all = c.refuse_words.ensures.all (not_four c.refuse_words.result done) in
    (refused_words, sym all.0, refused_outcome (g.T.Tray.files c.args.tray.now) words none, all.1)

pub returns-in-Ok-RefuseWords-clause-fronts : goal.returns-in-Ok-RefuseWords-clause-fronts
returns-in-Ok-RefuseWords-clause-fronts g c = λ four.
    let words = texts_of c.args.words.now.items in
    let none = subst (λ a. IsActionFor a (job_of words)) c.in-Ok-RefuseWords.field-0-is c.in-Ok-RefuseWords.ensures in
    let wrote = c.refuse_words.ensures in (
      refused_words,
      inl (wrote.read_counts, refused_outcome (g.T.Tray.files c.args.tray.now) words none),
      wrote.fronts four,
      wrote.in_order four,
      λ ne. wrote.untouched,
    )

pub returns-in-Ok-RefuseWords-clause-begun : goal.returns-in-Ok-RefuseWords-clause-begun
returns-in-Ok-RefuseWords-clause-begun g c =
    let words = texts_of c.args.words.now.items in
    let none = subst (λ a. IsActionFor a (job_of words)) c.in-Ok-RefuseWords.field-0-is c.in-Ok-RefuseWords.ensures in
    λ w. absurd (writes_nothing words c.refuse_words.result none w)
