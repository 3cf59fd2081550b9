-- Words and files have an outcome.
use Rattle.std.proofs.Common.{◌≡◌, ◌⊎◌, ◌<◌, ◌≤◌, ◌+◌, ℕ, true, List, [], ◌∷◌, length, refl, inl, inr, Option, Some, None}
use Rattle.std.proofs.lemmas.Bool.{cases_lt}
use Rattle.vd_bytes.specs.declared.places.Place.{Place}
use Rattle.vd_bytes.specs.declared.answers.Limit.TheVariants as limits
use Rattle.vd_forest.specs.Forest.{Forest}
use Rattle.vd_first_trees.specs.declared.form.Form.{Form}
use Rattle.vd_trees.specs.declared.revision.Revision.TheVariants.{V2019}
use Rattle.vd_first_lex.specs.declared.selected.Selected.{Selected}
use Rattle.vd_first_lex.specs.declared.tokens.Token.{Token}
use Rattle.vd_first_lex.specs.declared.tokens.TheConstants.{TOKENS_LIMIT}
use Rattle.vd_first_lex.specs.Lexings.{Lexing, lexed, broken, IsLexing, plain_of}
use Rattle.vd_first_lex.proofs.KindLemmas.{ends_once}
use Rattle.vd_first_lex.proofs.LexingExists.{some_lexing}
use Rattle.vd_first_grammar.specs.Derivations.{File}
use Rattle.vd_first_grammar.specs.Reader.{Outcome, got, stuck, deep, file_at, expressions_limit}
use Rattle.vd_first_grammar.specs.Refusals.{IsRead, place_of_token}
use Rattle.vd_first_grammar.specs.Shapes.{file_shape}
use Rattle.vd_first_grammar.proofs.Answers.{Answer as Reads, answered}
use Rattle.vd_first_accept.specs.Acceptance.{HasTokens}
use Rattle.vd_first_accept.specs.Unknown.{first_unknown}
use Rattle.vd_first_accept.proofs.UnknownFound.{names_known, names_unknown}
use Rattle.vd_first_lower.specs.Conversions.{Answer, refused, beyond, converted, design_text, map_rows, IsConversion}
use Rattle.vd_first_lower.specs.Steps.{HasOneConversion}
use Rattle.vd_modes.proofs.CheckLemmas.{check_some}
use Rattle.vd_modes.proofs.ConversionLaws.{conversion_some}
use Rattle.vd_design_files.specs.Laws.{HasSomeAnswer}
use Rattle.vd_program.specs.Dues.{Due, refused_words, limit_number, limit_passed}
use Rattle.vd_program.specs.Outcomes.{contents_of, total_length, IsFilesOutcome}
use Rattle.vd_command.proofs.FirstLemmas.{refused_is_not_first, beyond_is_not_first, several_are_not_first, none_is_not_first}
use Rattle.vd_command.specs.Words.{Job, refusing, converting, checking, files_of, job_of}
use Rattle.vd_command.specs.Outcomes.{conversion, IsNotFirst, Says, SaysConversion, IsJobOutcome, HasSomeOutcome}

abbrev Conversion : Selected → Type 0
Conversion s = (a : Answer) × IsConversion s a

module _ (s : Selected) (ts : List Token) (h : HasTokens V2019 s ts) where
  by_names : (f : File) → IsRead V2019 ts f → (o : Option Place) → first_unknown (file_shape f) ≡ o → Conversion s
  by_names f read None e =
      (converted (design_text f) (map_rows f) 2, record { tokens = ts; has_tokens = h; file = f; read = read; known = names_known f e; design_is = refl; rows_are = refl; units_are = refl })
  by_names f read (Some p) e =
      let u = names_unknown f p e in
      (refused (record { place = p; rule = 303 }), inr (inr (record { rule = refl; tokens = ts; has_tokens = h; file = f; read = read; name = u.name; unknown = u.first; place = u.place })))

  by_reading : (o : Outcome (Forest Form)) → Reads V2019 ts o → Conversion s
  by_reading (got x) is = by_names is.0 is.1 (first_unknown (file_shape is.0)) refl
  by_reading (stuck rest) is =
      (refused (record { place = place_of_token rest 0; rule = 201 }), inr (inl (record { rule = refl; tokens = ts; has_tokens = h; index = is.0; refused = is.1; place = is.2 })))
  by_reading (deep rest) is = (beyond limits.Nesting, record { tokens = ts; has_tokens = h; index = is.0; deep = is.1 })

by_count : (s : Selected) (ts : List Token) → IsLexing V2019 s (lexed ts) → (TOKENS_LIMIT + 1 < length ts) ⊎ (length ts ≤ TOKENS_LIMIT + 1) → Conversion s
by_count s ts is (inl many) = (beyond limits.Tokens, record { tokens = ts; is_list = is; many = many })
by_count s ts is (inr few) =
    by_reading s ts (record { tokens = is; few = few }) (file_at V2019 true (expressions_limit V2019) ts) (answered V2019 ts (ends_once V2019 s ts is))

by_lexing : (s : Selected) (l : Lexing) → IsLexing V2019 s l → Conversion s
by_lexing s (broken p) is = (refused (record { place = p; rule = 101 }), inl (record { rule = refl; breaks = is }))
by_lexing s (lexed ts) is = by_count s ts is (cases_lt (TOKENS_LIMIT + 1) (length ts))

some_conversion : (s : Selected) → Conversion s
some_conversion s = let l = some_lexing V2019 s in by_lexing s l.0 l.1

-- ---- of files: what is said of the first language where that is converted, and else of the whole profile

module _ (one_conversion : HasOneConversion) (some_answer : HasSomeAnswer) (tool : List ℕ) (names : List (List ℕ)) where
  whole : (contents : List (List ℕ)) → IsNotFirst contents → (due : Due) × SaysConversion tool names contents due
  whole contents none = let x = conversion_some tool names contents some_answer in (x.0, SaysConversion.other none x.1)

  of_content : (content : List ℕ) (a : Answer) → IsConversion (plain_of 0 content) a → (due : Due) × SaysConversion tool names (content ∷ []) due
  of_content content (refused x) is = whole (content ∷ []) (refused_is_not_first one_conversion content x is)
  of_content content (beyond limit) is = whole (content ∷ []) (beyond_is_not_first one_conversion content limit is)
  of_content content (converted design rows units) is = (
    conversion design rows units,
    SaysConversion.first (record { content = content; alone = refl; design = design; rows = rows; units = units; is = is; due_is = refl }),
  )

  some_said_of : (contents : List (List ℕ)) → (due : Due) × SaysConversion tool names contents due
  some_said_of [] = whole [] none_is_not_first
  some_said_of (content ∷ second ∷ contents) = whole (content ∷ second ∷ contents) (several_are_not_first content second contents)
  some_said_of (content ∷ []) = let c = some_conversion (plain_of 0 content) in of_content content c.0 c.1

module _ (one_conversion : HasOneConversion) (some_answer : HasSomeAnswer) where
  some_said : (job : Job) (files : List (List ℕ × List ℕ)) → (due : Due) × Says job (files_of job) (contents_of files (files_of job)) due
  some_said refusing files = (refused_words, refl)
  some_said (converting tool names) files = some_said_of one_conversion some_answer tool names (contents_of files names)
  some_said (checking tool names) files = check_some some_answer tool names (contents_of files names)

  some_of_job : (job : Job) (files : List (List ℕ × List ℕ)) → (due : Due) × IsJobOutcome job files due
  some_of_job job files = by (cases_lt (limit_number limits.Files) (length (files_of job))) (cases_lt (limit_number limits.Input) (total_length (contents_of files (files_of job))))
    where
      by : (limit_number limits.Files < length (files_of job)) ⊎ (length (files_of job) ≤ limit_number limits.Files)
          → (limit_number limits.Input < total_length (contents_of files (files_of job))) ⊎ (total_length (contents_of files (files_of job)) ≤ limit_number limits.Input)
          → (due : Due) × IsJobOutcome job files due
      by (inl many) x = (limit_passed limits.Files, IsFilesOutcome.many_files many refl)
      by (inr few) (inl long) = (limit_passed limits.Input, IsFilesOutcome.long_input few long refl)
      by (inr few) (inr within) = let x = some_said job files in (x.0, IsFilesOutcome.said few within x.1)

  pub some_outcome : HasSomeOutcome
  some_outcome words files = some_of_job (job_of words) files
