-- What was ready, after the channels were written.
use Rattle.std.proofs.Common.{◌≡◌, ◌≢◌, ◌⊎◌, ℕ, Bool, IsTrue, List, [], get_or, sym, ap, ◌∙◌, subst, inl, inr, Option}
use Rattle.vd_bytes.specs.declared.channels.Channel.{Channel}
use Rattle.vd_bytes.specs.Trays.{Rose, SameCounts}
use Rattle.vd_bytes.proofs.TrayLemmas.{SameCounts-trans}
use Rattle.vd_bytes.specs.declared.answers.Limit.{Limit}
use Rattle.vd_program.specs.Dues.{Due, read_fault, limit_passed}
use Rattle.vd_program.specs.Outcomes.{IsOutcomeOfFiles, IsReadFault, IsDueOrReadFault, IsOwnStatus, WritesFiles, IsReady}
use Rattle.vd_program.specs.Endings.{GotAll, due_with}
use Rattle.vd_program.proofs.EndingLemmas.{got_all_before}

-- what values of the program come to is what they were read from
pub due_is : (due : Due) (status : ℕ) (design map console : List ℕ) → status ≡ due.status → design ≡ due.design → map ≡ due.map → console ≡ due.console → due_with status design map console ≡ due
due_is due status design map console s d m c =
    ap (λ x. due_with x design map console) s ∙ ap (λ x. due_with due.status x map console) d ∙ ap (λ x. due_with due.status due.design x console) m ∙ ap (due_with due.status due.design due.map) c

pub writes_same : (a b : Bool) (s t : ℕ) → a ≡ b → s ≡ t → WritesFiles a s → WritesFiles b t
writes_same a b s t is same w = (subst IsTrue is w.0, sym same ∙ w.1)

status_of : (a b : Due) → a ≡ b → a.status ≡ b.status
status_of a b e = ap (λ (d : Due). d.status) e

module _ {S : Type 0} (read_faults : S → List ℕ → ℕ) (says : List (List ℕ) → List (List ℕ) → Due → Type 0) (told : Option (List (List ℕ × List ℕ))) (names : List (List ℕ)) (old mid new : S) (due : Due) (ready : IsReady read_faults old mid says told names due) where
  -- what is ready isn't a fault in writing
  pub ready_status : due.status ≢ 4
  ready_status = by ready
    where
      by : IsReady read_faults old mid says told names due → due.status ≢ 4
      by (IsReady.faulted i f e) four = let three = status_of due (read_fault (get_or names i [])) e in cc
      by (IsReady.formed counts own o) four = own.no_write_fault four

  module _ (counts : SameCounts (read_faults mid) (read_faults new)) where
    fault_after : (i : ℕ) → IsReadFault read_faults old mid told names i → IsReadFault read_faults old new told names i
    fault_after i f = record { few = f.few; inside = f.inside; rose = subst (Rose (read_faults old (get_or names i []))) (sym (counts (get_or names i []))) f.rose; before = f.before }

    -- what was to be written where a write failed
    pub due_or_fault : IsDueOrReadFault read_faults old new says told names due
    due_or_fault = by ready
      where
        by : IsReady read_faults old mid says told names due → IsDueOrReadFault read_faults old new says told names due
        by (IsReady.faulted i f e) = inr (i, fault_after i f, e)
        by (IsReady.formed before own o) = inl (SameCounts-trans _ _ _ before counts, o)

    -- a status other than those of the two faults comes where no fault in reading came
    pub counts_kept : (status : ℕ) → (status ≡ due.status) ⊎ (status ≡ 4) → status ≢ 3 → status ≢ 4 → SameCounts (read_faults old) (read_faults new)
    counts_kept status is three four = by ready is
      where
        by : IsReady read_faults old mid says told names due → (status ≡ due.status) ⊎ (status ≡ 4) → SameCounts (read_faults old) (read_faults new)
        by r (inr e) = absurd (four e)
        by (IsReady.faulted i f e) (inl s) = absurd (three (s ∙ status_of due (read_fault (get_or names i [])) e))
        by (IsReady.formed before own o) (inl s) = SameCounts-trans _ _ _ before counts

    module _ (written : S → Channel → Option (List ℕ)) (same : (to : Channel) → written mid to ≡ written old to) (status : ℕ) (all : status ≢ 4 → (status ≡ due.status) × GotAll written mid new due) where
      pub completed_as : status ≢ 3 → status ≢ 4 → (d : Due) × (d.status ≡ status) × IsOwnStatus status × IsOutcomeOfFiles says told names d × GotAll written old new d
      completed_as three four = by ready (all four)
        where
          by : IsReady read_faults old mid says told names due → (status ≡ due.status) × GotAll written mid new due → (d : Due) × (d.status ≡ status) × IsOwnStatus status × IsOutcomeOfFiles says told names d × GotAll written old new d
          by (IsReady.faulted i f e) got = absurd (three (got.0 ∙ status_of due (read_fault (get_or names i [])) e))
          by (IsReady.formed before own o) got = (due, sym got.0, subst IsOwnStatus (sym got.0) own, o, got_all_before written old mid new same due got.1)

      pub faulted_as : status ≡ 3 → (i : ℕ) × IsReadFault read_faults old new told names i × GotAll written old new (read_fault (get_or names i []))
      faulted_as three = by ready (all (λ four. let e = sym three ∙ four in cc))
        where
          by : IsReady read_faults old mid says told names due → (status ≡ due.status) × GotAll written mid new due → (i : ℕ) × IsReadFault read_faults old new told names i × GotAll written old new (read_fault (get_or names i []))
          by (IsReady.faulted i f e) got = (i, fault_after i f, subst (GotAll written old new) e (got_all_before written old mid new same due got.1))
          by (IsReady.formed before own o) got = absurd (own.no_read_fault (sym got.0 ∙ three))

-- a limit has a status of a mode's own
pub own_six : (limit : Limit) (due : Due) → due ≡ limit_passed limit → IsOwnStatus due.status
own_six limit due e =
    let six : due.status ≡ 6 = status_of due (limit_passed limit) e in
    record {
      no_words = λ f. let g = sym six ∙ f in cc;
      no_read_fault = λ f. let g = sym six ∙ f in cc;
      no_write_fault = λ f. let g = sym six ∙ f in cc;
      no_memory = λ f. let g = sym six ∙ f in cc;
    }
