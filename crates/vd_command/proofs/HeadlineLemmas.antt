-- What the outcome with status 0 is, and when it is due.
use Rattle.std.proofs.Common.{◌≡◌, ℕ, List, [], ◌∷◌, Option, Some, None, IfSome, refl, sym, ap, ◌∙◌, subst, arith}
use Rattle.std.proofs.lemmas.Option.{IfSome_then}
use Rattle.vd_trees.specs.declared.rows.Row.{Row}
use Rattle.vd_bytes.specs.declared.channels.Channel.{Channel}
use Rattle.vd_bytes.specs.Trays.{content_of}
use Rattle.vd_first_lex.specs.Lexings.{plain_of}
use Rattle.vd_first_lower.specs.Conversions.{design_text, map_rows, IsConverted}
use Rattle.vd_first_lower.proofs.Faithful.{faithful}
use Rattle.vd_modes.proofs.CheckLemmas.{meets_zero, zero_meets}
use Rattle.vd_bytes.specs.declared.answers.Refused.{Refused}
use Rattle.vd_modes.specs.Checks.{refusal_in, SaysCheck}
use Rattle.vd_modes.proofs.ConversionLaws.{IsWritten, one_refused, zero_written}
use Rattle.vd_modes.specs.Conversions.{IsRefused}
use Rattle.vd_design_files.specs.Laws.{HasOneAnswer}
use Rattle.vd_program.specs.Dues.{Due}
use Rattle.vd_program.specs.Outcomes.{contents_of, IsFilesOutcome}
use Rattle.vd_command.specs.Words.{checking, files_of, job_of}
use Rattle.vd_program.specs.Endings.{GotAll}
use Rattle.vd_command.specs.Outcomes.{conversion, IsFirst, IsNotFirst, IsJobOutcome, IsOutcome, Says, SaysConversion}
use Rattle.vd_command.specs.Endings.{IsOutcomeOf}
use Rattle.vd_command.specs.Headline.{ChecksLegal, ConvertsFile, ConvertsFiles, GotConversion, GotRefusal, GotText93, IsAcceptable, IsWithinRules, NamesAcceptable, RefusesFiles}

-- the outcome of files that are told
told_outcome : (told : Option (List (List ℕ × List ℕ))) (words : List (List ℕ)) (due : Due) → IsOutcomeOf told words due → IfSome told (λ files. IsOutcome words files due)
told_outcome None words due o = tt
told_outcome (Some files) words due o = subst (λ cs. IsFilesOutcome (Says (job_of words)) (files_of (job_of words)) cs due) o.are_told o.outcome

-- ---- acceptable files are converted

conversion_of : (content : List ℕ) (a : IsAcceptable content) → IsConverted (plain_of 0 content) (design_text a.file) (map_rows a.file) 2
conversion_of content a =
    record {
      tokens = a.is_text.tokens;
      has_tokens = record { tokens = a.is_text.is_list; few = a.few_tokens };
      file = a.file;
      read = record { is_file = a.is_text.is_file; tokens = a.is_text.tokens_are; conditions = a.is_text.conditions; shallow = a.shallow };
      known = a.is_text.known;
      design_is = refl;
      rows_are = refl;
      units_are = refl;
    }

first_of : (content : List ℕ) (a : IsAcceptable content) → IsFirst (content ∷ []) (conversion (design_text a.file) (map_rows a.file) 2)
first_of content a =
    record {
      content = content;
      alone = refl;
      design = design_text a.file;
      rows = map_rows a.file;
      units = 2;
      is = conversion_of content a;
      due_is = refl;
    }

-- ---- status 0 is a conversion

module _ {S : Type 0} (written : S → Channel → Option (List ℕ)) (old new : S) where
  -- what is due for a conversion is what a conversion leaves
  got_conversion : (content design : List ℕ) (rows : List Row) (units : ℕ) → IsConverted (plain_of 0 content) design rows units → GotAll written old new (conversion design rows units) → GotConversion written old new content
  got_conversion content design rows units c got =
      let same = subst (λ n. GotAll written old new (conversion design rows n)) c.units_are got in
      record {
        design = design;
        rows = rows;
        on_design = same.design;
        on_map = same.map;
        on_console = same.console;
        faithful = faithful (plain_of 0 content) design rows units c;
      }

  first_converts : (content : List ℕ) (due : Due) → IsFirst (content ∷ []) due → GotAll written old new due → GotConversion written old new content
  first_converts content due x got =
      let same : x.content ≡ content = let e = x.alone in cc in
      got_conversion content x.design x.rows x.units (subst (λ c. IsConverted (plain_of 0 c) x.design x.rows x.units) same x.is) (subst (GotAll written old new) x.due_is got)

  file_converts : (tool : List ℕ) (names : List (List ℕ)) (content : List ℕ) (due : Due) → IsFilesOutcome (SaysConversion tool) names (content ∷ []) due → due.status ≡ 0 → GotAll written old new due
      → IsAcceptable content → GotConversion written old new content
  file_converts tool names content due (IsFilesOutcome.many_files many e) zero_status got a = let f = ap (λ (d : Due). d.status) e in cc
  file_converts tool names content due (IsFilesOutcome.long_input few long e) zero_status got a = let f = ap (λ (d : Due). d.status) e in cc
  file_converts tool names content due (IsFilesOutcome.said few within (SaysConversion.first x)) zero_status got a = first_converts content due x got
  file_converts tool names content due (IsFilesOutcome.said few within (SaysConversion.other none x)) zero_status got a =
      absurd (none (conversion (design_text a.file) (map_rows a.file) 2) (first_of content a))

  -- the outcome with status 0
  outcome_converts : (words : List (List ℕ)) (files : List (List ℕ × List ℕ)) (due : Due) → IsOutcome words files due → due.status ≡ 0 → GotAll written old new due → ConvertsFile written old new words files
  outcome_converts words files due o zero_status got tool file asks a =
      file_converts tool (file ∷ []) (content_of files file) due (subst (λ j. IsJobOutcome j files due) asks o) zero_status got a

  -- what completed says of status 0
  pub completed_converts : (told : Option (List (List ℕ × List ℕ))) (words : List (List ℕ)) (status : ℕ)
      → (due : Due) × (due.status ≡ status) × IsOutcomeOf told words due × GotAll written old new due
      → status ≡ 0 → IfSome told (λ files. ConvertsFile written old new words files)
  completed_converts told words status x zero_status =
      IfSome_then told (told_outcome told words x.0 x.2) (λ files o. outcome_converts words files x.0 o (x.1 ∙ zero_status) x.3)

  -- ---- files of the whole profile

  got_text : (tool : List ℕ) (names contents : List (List ℕ)) (due : Due) → IsWritten tool names contents due → GotAll written old new due → GotText93 written old new tool names contents
  got_text tool names contents due x got =
      let same = subst (GotAll written old new) x.due_is got in
      record {
        design = x.design;
        rows = x.rows;
        units = x.units;
        warnings = x.warnings;
        legal = x.legal;
        in_93 = x.in_93;
        on_design = same.design;
        on_map = same.map;
        on_console = same.console;
      }

  files_convert : (tool : List ℕ) (names contents : List (List ℕ)) (due : Due) → IsFilesOutcome (SaysConversion tool) names contents due → due.status ≡ 0 → GotAll written old new due
      → IsNotFirst contents → GotText93 written old new tool names contents
  files_convert tool names contents due (IsFilesOutcome.many_files many e) zero_status got none = let f = ap (λ (d : Due). d.status) e in cc
  files_convert tool names contents due (IsFilesOutcome.long_input few long e) zero_status got none = let f = ap (λ (d : Due). d.status) e in cc
  files_convert tool names contents due (IsFilesOutcome.said few within (SaysConversion.first x)) zero_status got none = absurd (none due x)
  files_convert tool names contents due (IsFilesOutcome.said few within (SaysConversion.other none' x)) zero_status got none =
      got_text tool names contents due (zero_written tool names contents due x zero_status) got

  pub completed_writes : (told : Option (List (List ℕ × List ℕ))) (words : List (List ℕ)) (status : ℕ)
      → (due : Due) × (due.status ≡ status) × IsOutcomeOf told words due × GotAll written old new due
      → status ≡ 0 → IfSome told (λ files. ConvertsFiles written old new words files)
  completed_writes told words status x zero_status =
      IfSome_then told (told_outcome told words x.0 x.2)
      (λ files o tool names asks none. files_convert tool names (contents_of files names) x.0 (subst (λ j. IsJobOutcome j files x.0) asks o) (x.1 ∙ zero_status) x.3 none)

  -- ---- status 1 is a refusal

  got_refusal : (tool : List ℕ) (names contents : List (List ℕ)) (due : Due) → (x : Refused) × IsRefused tool contents x × (due ≡ refusal_in names x) → GotAll written old new due → GotRefusal written old new tool names contents
  got_refusal tool names contents due x got = record { rule = x.0; is_refused = x.1; on_console = (subst (GotAll written old new) x.2 got).console }

  files_refuse : (tool : List ℕ) (names contents : List (List ℕ)) (due : Due) → IsFilesOutcome (SaysConversion tool) names contents due → due.status ≡ 1 → GotAll written old new due
      → GotRefusal written old new tool names contents
  files_refuse tool names contents due (IsFilesOutcome.many_files many e) one_status got = let f = ap (λ (d : Due). d.status) e in cc
  files_refuse tool names contents due (IsFilesOutcome.long_input few long e) one_status got = let f = ap (λ (d : Due). d.status) e in cc
  files_refuse tool names contents due (IsFilesOutcome.said few within (SaysConversion.first x)) one_status got = let f = ap (λ (d : Due). d.status) x.due_is in cc
  files_refuse tool names contents due (IsFilesOutcome.said few within (SaysConversion.other none x)) one_status got =
      got_refusal tool names contents due (one_refused tool names contents due x one_status) got

  pub completed_refuses : (told : Option (List (List ℕ × List ℕ))) (words : List (List ℕ)) (status : ℕ)
      → (due : Due) × (due.status ≡ status) × IsOutcomeOf told words due × GotAll written old new due
      → status ≡ 1 → IfSome told (λ files. RefusesFiles written old new words files)
  completed_refuses told words status x one_status =
      IfSome_then told (told_outcome told words x.0 x.2)
      (λ files o tool names asks. files_refuse tool names (contents_of files names) x.0 (subst (λ j. IsJobOutcome j files x.0) asks o) (x.1 ∙ one_status) x.3)

-- ---- files that are accepted

acceptable_by : (tool file content : List ℕ) → IsAcceptable content → (due : Due) → IsFilesOutcome (SaysConversion tool) (file ∷ []) (content ∷ []) due → due.status ≡ 0
acceptable_by tool file content a due (IsFilesOutcome.many_files many e) = absurd (omega (arith, many))
acceptable_by tool file content a due (IsFilesOutcome.long_input few long e) = let within = a.few_bytes in absurd (omega (arith, long, within))
acceptable_by tool file content a due (IsFilesOutcome.said few within (SaysConversion.first x)) = ap (λ (d : Due). d.status) x.due_is
acceptable_by tool file content a due (IsFilesOutcome.said few within (SaysConversion.other none x)) =
    absurd (none (conversion (design_text a.file) (map_rows a.file) 2) (first_of content a))

-- the outcome of an acceptable file has status 0
acceptable_status : (words : List (List ℕ)) (files : List (List ℕ × List ℕ)) → NamesAcceptable words files → (due : Due) → IsOutcome words files due → due.status ≡ 0
acceptable_status words files n due o =
    acceptable_by n.tool n.file (content_of files n.file) n.acceptable due (subst (λ j. IsJobOutcome j files due) n.names o)

pub completed_accepts : (told : Option (List (List ℕ × List ℕ))) (words : List (List ℕ)) (status : ℕ) (Got : Due → Type 0)
    → (due : Due) × (due.status ≡ status) × IsOutcomeOf told words due × Got due
    → IfSome told (λ files. NamesAcceptable words files → status ≡ 0)
completed_accepts told words status Got x =
    IfSome_then told (told_outcome told words x.0 x.2) (λ files o n. sym x.1 ∙ acceptable_status words files n x.0 o)

-- ---- files that break no rule

module _ (one_answer : HasOneAnswer) where
  legal_status : (tool : List ℕ) (names contents : List (List ℕ)) → IsWithinRules tool names contents → (due : Due) → IsFilesOutcome (SaysCheck tool) names contents due → due.status ≡ 0
  legal_status tool names contents legal due (IsFilesOutcome.many_files many e) = let few = legal.few_files in absurd (omega (arith, many, few))
  legal_status tool names contents legal due (IsFilesOutcome.long_input few long e) = let within = legal.few_bytes in absurd (omega (arith, long, within))
  legal_status tool names contents legal due (IsFilesOutcome.said few within x) = meets_zero tool names contents one_answer legal.meets due x

  pub completed_checks : (told : Option (List (List ℕ × List ℕ))) (words : List (List ℕ)) (status : ℕ) (Got : Due → Type 0)
      → (due : Due) × (due.status ≡ status) × IsOutcomeOf told words due × Got due
      → IfSome told (λ files. ChecksLegal words files → status ≡ 0)
  completed_checks told words status Got x =
      IfSome_then told (told_outcome told words x.0 x.2)
      (λ files o n. sym x.1 ∙ legal_status n.tool n.names (contents_of files n.names) n.legal x.0 (subst (λ j. IsJobOutcome j files x.0) n.asks o))

zero_legal : (tool : List ℕ) (names contents : List (List ℕ)) (due : Due) → IsFilesOutcome (SaysCheck tool) names contents due → due.status ≡ 0 → IsWithinRules tool names contents
zero_legal tool names contents due (IsFilesOutcome.many_files many e) zero_status = let f = ap (λ (d : Due). d.status) e in cc
zero_legal tool names contents due (IsFilesOutcome.long_input few long e) zero_status = let f = ap (λ (d : Due). d.status) e in cc
zero_legal tool names contents due (IsFilesOutcome.said few within x) zero_status = record { few_files = few; few_bytes = within; meets = zero_meets tool names contents due x zero_status }

-- what completed says of status 0 of a check
pub completed_legal : (told : Option (List (List ℕ × List ℕ))) (words : List (List ℕ)) (status : ℕ) (Got : Due → Type 0)
    → (due : Due) × (due.status ≡ status) × IsOutcomeOf told words due × Got due
    → status ≡ 0 → IfSome told (λ files. (tool : List ℕ) (names : List (List ℕ)) → job_of words ≡ checking tool names → IsWithinRules tool names (contents_of files names))
completed_legal told words status Got x zero_status =
    IfSome_then told (told_outcome told words x.0 x.2)
    (λ files o tool names asks. zero_legal tool names (contents_of files names) x.0 (subst (λ j. IsJobOutcome j files x.0) asks o) (x.1 ∙ zero_status))
