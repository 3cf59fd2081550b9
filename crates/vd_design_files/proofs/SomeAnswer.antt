-- Files have an answer.
use Rattle.std.proofs.Common.{◌≡◌, ◌<◌, ◌≤◌, ◌⊎◌, ℕ, suc, zero, List, [], ◌∷◌, ◌++◌, length, Some, Ok, Err, refl, sym, subst, arith, inl, inr}
use Rattle.std.proofs.lemmas.Bool.{cases_lt}
use Rattle.std.specs.List.{AllByRecursion}
use Rattle.std.specs.Prelude.{Result, slice_get}
use Rattle.vd_bytes.specs.declared.answers.Limit.TheVariants as limits
use Rattle.vd_bytes.specs.declared.answers.Refused.{Refused}
use Rattle.vd_directives.specs.Selection.{selection}
use Rattle.vd_directives.specs.declared.selected.Line.{Line}
use Rattle.vd_directives.specs.declared.selected.Selected.{Selected}
use Rattle.vd_forest.specs.Forest.{Forest, tree_count}
use Rattle.vd_forms.specs.Validity.{all_joined}
use Rattle.vd_forms.specs.declared.form.Form.{Form}
use Rattle.vd_gram.specs.Derivations.{IsRefused}
use Rattle.vd_gram.specs.Laws.{HasSomeAnswer as HasSomeParse}
use Rattle.vd_grammar19.specs.Grammar.{grammar, actions}
use Rattle.vd_lex.specs.Lexis as lexis
use Rattle.vd_lex.specs.Lexis.{Lexing, HasSomeLexing, IsLexing, IsTokenList, end_token}
use Rattle.vd_shapes.specs.Reading.{IsRefusedAt, symbols_in, rule_at}
use Rattle.vd_shapes.specs.Shapes.{shape}
use Rattle.vd_tokens.specs.Lexemes.{Lexeme}
use Rattle.vd_trees.specs.declared.revision.Revision.TheVariants.{V2019}
use Rattle.vd_design_files.specs.Files.{Answer, refused, beyond, holds, numbered, IsSelected, IsUnselected, IsLexed, IsUnlexed, IsRead, IsUnread, token_count, warnings_of, IsAnswerOfTokens, IsAnswerOfTexts, IsAnswer}
use Rattle.vd_design_files.specs.InOrder.{HaveEach, IsFirstEnd}
use Rattle.vd_design_files.specs.Laws.{HasSomeAnswer}
use Rattle.vd_design_files.proofs.OrderLemmas.{all_any, all_had, all_or_first}

-- ---- a file

module _ (tool : List ℕ) (file : ℕ × List ℕ) where
  selected_by : (r : Result Selected Refused) → selection tool file.0 file.1 ≡ r → ((s : Selected) × IsSelected tool file s) ⊎ ((a : Answer) × IsUnselected tool file a)
  selected_by (Ok s) is = inl (s, is)
  selected_by (Err x) is = inr (refused x, is)

  selected_or_not : ((s : Selected) × IsSelected tool file s) ⊎ ((a : Answer) × IsUnselected tool file a)
  selected_or_not = selected_by (selection tool file.0 file.1) refl

module _ (some : HasSomeLexing) (text : Selected) where
  lexed_by : (l : Lexing) → IsLexing V2019 text l → ((ts : List Lexeme) × IsLexed text ts) ⊎ ((a : Answer) × IsUnlexed text a)
  lexed_by (lexis.lexed ts) is = inl (ts, is)
  lexed_by (lexis.refused rule place) is = inr (refused (record { place = place; rule = rule }), is)

  lexed_or_not : ((ts : List Lexeme) × IsLexed text ts) ⊎ ((a : Answer) × IsUnlexed text a)
  lexed_or_not = lexed_by (some V2019 text).0 (some V2019 text).1

-- a token list has an end behind its other tokens
pub data HasEnd (ts : List Lexeme) : Type 0 where
  ended : (before : List Lexeme) → (end : Lexeme) → ts ≡ before ++ end ∷ [] → HasEnd ts

pub has_end : (text : Selected) (ts : List Lexeme) → IsLexed text ts → HasEnd ts
has_end text ts is = HasEnd.ended is.before (end_token text) is.tokens

-- there is a token at each place of the symbols, and at their end
token_at : (before : List Lexeme) (end : Lexeme) (n : ℕ) → n ≤ length (symbols_in (before ++ end ∷ [])) → (t : Lexeme) × (slice_get (before ++ end ∷ []) n ≡ Some t)
token_at [] end zero within = (end, refl)
token_at [] end (suc n) within = absurd (omega (arith, within))
token_at (t ∷ before) end zero within = (t, refl)
token_at (t ∷ []) end (suc n) within = token_at [] end n (omega (arith, within))
token_at (t ∷ u ∷ before) end (suc n) within = token_at (u ∷ before) end n (omega (arith, within))

module _ (tokens : List Lexeme) (ends : HasEnd tokens) (some : HasSomeParse grammar (symbols_in tokens) 200) where
  refused_here : HasEnd tokens → (n : ℕ) → IsRefused grammar (symbols_in tokens) 200 n → (x : Refused) × IsRefusedAt grammar tokens 200 x
  refused_here (HasEnd.ended before end is) n e =
      let within : n ≤ length (symbols_in (before ++ end ∷ [])) = subst (λ ts. n ≤ length (symbols_in ts)) is e.hopeless.within in
      let t = token_at before end n within in (
        record { place = t.0.place; rule = rule_at grammar t.0.kind },
        record { number = n; token = t.0; at = subst (λ ts. slice_get ts n ≡ Some t.0) (sym is) t.1; refused_there = e; place = refl; rule = refl },
      )

  read_by : HasSomeParse grammar (symbols_in tokens) 200 → ((f : Forest Form) × IsRead tokens f) ⊎ ((a : Answer) × IsUnread tokens a)
  read_by (HasSomeParse.some_parse tree parse) = inl (shape actions tokens tree, record { tree = tree; parse = parse; is = refl })
  read_by (HasSomeParse.some_place n e) = let x = refused_here ends n e in inr (refused x.0, inl (x.0, x.1, refl))
  read_by (HasSomeParse.too_deep deep) = inr (beyond limits.Nesting, inr (deep, refl))

  read_or_not : ((f : Forest Form) × IsRead tokens f) ⊎ ((a : Answer) × IsUnread tokens a)
  read_or_not = read_by some

-- ---- all files

module _ (some_parse : (tokens : List Lexeme) → HasSomeParse grammar (symbols_in tokens) 200) where
  answer_of_tokens : (warnings : List (List Line)) (lists : List (List Lexeme)) → AllByRecursion HasEnd lists → (a : Answer) × IsAnswerOfTokens warnings lists a
  answer_of_tokens warnings lists ends = by (cases_lt 2000000 (token_count lists))
    where
      units : (fs : List (Forest Form)) → HaveEach IsRead lists fs → token_count lists ≤ 2000000 → (4096 < tree_count (all_joined fs)) ⊎ (tree_count (all_joined fs) ≤ 4096) → (a : Answer) × IsAnswerOfTokens warnings lists a
      units fs have few (inl more) = (beyond limits.Units, IsAnswerOfTokens.many_units few fs have more refl)
      units fs have few (inr within) = (holds (all_joined fs) warnings, IsAnswerOfTokens.read few fs have within refl)

      reading : token_count lists ≤ 2000000 → ((fs : List (Forest Form)) × HaveEach IsRead lists fs) ⊎ ((a : Answer) × IsFirstEnd IsRead IsUnread lists a) → (a : Answer) × IsAnswerOfTokens warnings lists a
      reading few (inl h) = units h.0 h.1 few (cases_lt 4096 (tree_count (all_joined h.0)))
      reading few (inr e) = (e.0, IsAnswerOfTokens.unread few e.1)

      by : (2000000 < token_count lists) ⊎ (token_count lists ≤ 2000000) → (a : Answer) × IsAnswerOfTokens warnings lists a
      by (inl more) = (beyond limits.Tokens, IsAnswerOfTokens.many_tokens more refl)
      by (inr few) = reading few (all_or_first IsRead IsUnread HasEnd (λ ts ended. read_or_not ts ended (some_parse ts)) lists ends)

  module _ (some_lexing : HasSomeLexing) where
    answer_of_texts : (texts : List Selected) → (a : Answer) × IsAnswerOfTexts texts a
    answer_of_texts texts = by (all_or_first IsLexed IsUnlexed Anything (λ text _. lexed_or_not some_lexing text) texts (all_any Anything (λ _. tt) texts))
      where
        Anything : Selected → Type 0
        Anything text = Unit {0}

        by : ((lists : List (List Lexeme)) × HaveEach IsLexed texts lists) ⊎ ((a : Answer) × IsFirstEnd IsLexed IsUnlexed texts a) → (a : Answer) × IsAnswerOfTexts texts a
        by (inl h) = let x = answer_of_tokens (warnings_of texts) h.0 (all_had IsLexed HasEnd has_end texts h.0 h.1) in (x.0, IsAnswerOfTexts.lexed h.0 h.1 x.1)
        by (inr e) = (e.0, IsAnswerOfTexts.unlexed e.1)

    pub answer_some : HasSomeAnswer
    answer_some tool contents = by (all_or_first (IsSelected tool) (IsUnselected tool) Anything (λ file _. selected_or_not tool file) (numbered 0 contents) (all_any Anything (λ _. tt) (numbered 0 contents)))
      where
        Anything : ℕ × List ℕ → Type 0
        Anything file = Unit {0}

        by : ((texts : List Selected) × HaveEach (IsSelected tool) (numbered 0 contents) texts) ⊎ ((a : Answer) × IsFirstEnd (IsSelected tool) (IsUnselected tool) (numbered 0 contents) a) → (a : Answer) × IsAnswer tool contents a
        by (inl h) = let x = answer_of_texts h.0 in (x.0, IsAnswer.selected h.0 h.1 x.1)
        by (inr e) = (e.0, IsAnswer.unselected e.1)
