-- Files have no two answers.
use Rattle.std.proofs.Common.{◌≡◌, ℕ, List, [], Option, Some, None, Ok, Err, sym, ap, ◌∙◌, subst, arith, inl, inr}
use Rattle.std.specs.Prelude.{Result, slice_get}
use Rattle.vd_bytes.specs.declared.answers.Refused.{Refused}
use Rattle.vd_directives.specs.Selection.{selection}
use Rattle.vd_directives.specs.declared.selected.Line.{Line}
use Rattle.vd_directives.specs.declared.selected.Selected.{Selected}
use Rattle.vd_forest.specs.Forest.{Forest, tree_count}
use Rattle.vd_forms.specs.Validity.{all_joined}
use Rattle.vd_forms.specs.declared.form.Form.{Form}
use Rattle.vd_gram.specs.Laws.{HasOneAnswer as HasOneParse}
use Rattle.vd_grammar19.specs.Grammar.{grammar, actions}
use Rattle.vd_lex.specs.Lexis as lexis
use Rattle.vd_lex.specs.Lexis.{Lexing, HasOneLexing, IsTokenList, BreaksAt}
use Rattle.vd_shapes.specs.Reading.{IsRefusedAt, symbols_in, rule_at}
use Rattle.vd_shapes.specs.Shapes.{shape}
use Rattle.vd_tokens.specs.Lexemes.{Lexeme}
use Rattle.vd_trees.specs.declared.revision.Revision.TheVariants.{V2019}
use Rattle.vd_design_files.specs.Files.{Answer, refused, beyond, holds, numbered, IsSelected, IsUnselected, IsLexed, IsUnlexed, IsRead, IsUnread, warnings_of, IsAnswerOfTokens, IsAnswerOfTexts, IsAnswer}
use Rattle.vd_design_files.specs.InOrder.{HaveEach, IsFirstEnd}
use Rattle.vd_design_files.specs.Laws.{HasOneAnswer}
use Rattle.vd_design_files.proofs.OrderLemmas.{have_one, all_or_end, end_one}

-- ---- directives

result_one : (r : Result Selected Refused) (s t : Selected) → r ≡ Ok s → r ≡ Ok t → s ≡ t
result_one (Ok u) s t e f = cc
result_one (Err u) s t e f = cc

refused_one : (r : Result Selected Refused) (x y : Refused) → r ≡ Err x → r ≡ Err y → x ≡ y
refused_one (Ok u) x y e f = cc
refused_one (Err u) x y e f = cc

result_apart : (r : Result Selected Refused) (s : Selected) (x : Refused) → r ≡ Ok s → r ≡ Err x → ⊥
result_apart (Ok u) s x e f = cc
result_apart (Err u) s x e f = cc

module _ (tool : List ℕ) where
  selected_one : (file : ℕ × List ℕ) (s t : Selected) → IsSelected tool file s → IsSelected tool file t → s ≡ t
  selected_one file = result_one (selection tool file.0 file.1)

  unselected_one : (file : ℕ × List ℕ) (a b : Answer) → IsUnselected tool file a → IsUnselected tool file b → a ≡ b
  unselected_one file (refused x) (refused y) e f = ap refused (refused_one (selection tool file.0 file.1) x y e f)
  unselected_one file (refused x) (beyond l) e f = absurd f
  unselected_one file (refused x) (holds u w) e f = absurd f
  unselected_one file (beyond l) b e f = absurd e
  unselected_one file (holds u w) b e f = absurd e

  selecting_apart : (file : ℕ × List ℕ) (s : Selected) (a : Answer) → IsSelected tool file s → IsUnselected tool file a → ⊥
  selecting_apart file s (refused x) e f = result_apart (selection tool file.0 file.1) s x e f
  selecting_apart file s (beyond l) e f = f
  selecting_apart file s (holds u w) e f = f

-- ---- tokens

module _ (one : HasOneLexing) where
  tokens_of : Lexing → List Lexeme
  tokens_of (lexis.lexed ts) = ts
  tokens_of (lexis.refused rule place) = []

  lexed_one : (text : Selected) (ts us : List Lexeme) → IsLexed text ts → IsLexed text us → ts ≡ us
  unfolding tokens_of
  lexed_one text ts us e f = ap tokens_of (one V2019 text (lexis.lexed ts) (lexis.lexed us) e f)

  refusal_of : Refused → Lexing → Refused
  refusal_of x (lexis.lexed ts) = x
  refusal_of x (lexis.refused rule place) = record { place = place; rule = rule }

  unlexed_one : (text : Selected) (a b : Answer) → IsUnlexed text a → IsUnlexed text b → a ≡ b
  unfolding refusal_of
  unlexed_one text (refused x) (refused y) e f = ap (λ l. refused (refusal_of x l)) (one V2019 text (lexis.refused x.rule x.place) (lexis.refused y.rule y.place) e f)
  unlexed_one text (refused x) (beyond l) e f = absurd f
  unlexed_one text (refused x) (holds u w) e f = absurd f
  unlexed_one text (beyond l) b e f = absurd e
  unlexed_one text (holds u w) b e f = absurd e

  is_lexed : Lexing → Type 0
  is_lexed (lexis.lexed ts) = Unit {0}
  is_lexed (lexis.refused rule place) = ⊥

  lexing_apart : (text : Selected) (ts : List Lexeme) (a : Answer) → IsLexed text ts → IsUnlexed text a → ⊥
  unfolding is_lexed
  lexing_apart text ts (refused x) e f = subst is_lexed (one V2019 text (lexis.lexed ts) (lexis.refused x.rule x.place) e f) tt
  lexing_apart text ts (beyond l) e f = f
  lexing_apart text ts (holds u w) e f = f

-- ---- grammar

some_one : (o : Option Lexeme) (t u : Lexeme) → o ≡ Some t → o ≡ Some u → t ≡ u
some_one None t u e f = cc
some_one (Some v) t u e f = cc

module _ (one : (tokens : List Lexeme) → HasOneParse grammar (symbols_in tokens) 200) where
  read_one : (tokens : List Lexeme) (f g : Forest Form) → IsRead tokens f → IsRead tokens g → f ≡ g
  read_one tokens f g x y = x.is ∙ ap (shape actions tokens) ((one tokens).one_parse x.tree y.tree x.parse y.parse) ∙ sym y.is

  refused_alike : (tokens : List Lexeme) (x y : Refused) → IsRefusedAt grammar tokens 200 x → IsRefusedAt grammar tokens 200 y → x ≡ y
  refused_alike tokens x y e f =
      let number = (one tokens).one_place e.number f.number e.refused_there f.refused_there in
      let token : e.token ≡ f.token = some_one (slice_get tokens f.number) e.token f.token (subst (λ n. slice_get tokens n ≡ Some e.token) number e.at) f.at in
      let place : x.place ≡ y.place = e.place ∙ ap (λ (t : Lexeme). t.place) token ∙ sym f.place in
      let rule : x.rule ≡ y.rule = e.rule ∙ ap (λ (t : Lexeme). rule_at grammar t.kind) token ∙ sym f.rule in
      λ i. record { place = place i; rule = rule i }

  unread_one : (tokens : List Lexeme) (a b : Answer) → IsUnread tokens a → IsUnread tokens b → a ≡ b
  unread_one tokens a b (inl e) (inl f) = e.2 ∙ ap refused (refused_alike tokens e.0 f.0 e.1 f.1) ∙ sym f.2
  unread_one tokens a b (inl e) (inr f) = absurd ((one tokens).refused_or_deep e.1.number e.1.refused_there f.0)
  unread_one tokens a b (inr e) (inl f) = absurd ((one tokens).refused_or_deep f.1.number f.1.refused_there e.0)
  unread_one tokens a b (inr e) (inr f) = e.1 ∙ sym f.1

  reading_apart : (tokens : List Lexeme) (f : Forest Form) (a : Answer) → IsRead tokens f → IsUnread tokens a → ⊥
  reading_apart tokens f a e (inl g) = (one tokens).parsed_or_refused e.tree g.1.number e.parse g.1.refused_there
  reading_apart tokens f a e (inr g) = (one tokens).parsed_or_deep e.tree e.parse g.0

  -- ---- all files

  module _ (warnings : List (List Line)) (lists : List (List Lexeme)) where
    same_designs : (fs gs : List (Forest Form)) → HaveEach IsRead lists fs → HaveEach IsRead lists gs → fs ≡ gs
    same_designs = have_one IsRead read_one lists

    no_end : (fs : List (Forest Form)) (a : Answer) → HaveEach IsRead lists fs → IsFirstEnd IsRead IsUnread lists a → ⊥
    no_end = all_or_end IsRead IsUnread reading_apart lists

    tokens_one : (a b : Answer) → IsAnswerOfTokens warnings lists a → IsAnswerOfTokens warnings lists b → a ≡ b
    tokens_one a b (IsAnswerOfTokens.many_tokens more is) (IsAnswerOfTokens.many_tokens more' is') = is ∙ sym is'
    tokens_one a b (IsAnswerOfTokens.many_tokens more is) (IsAnswerOfTokens.unread few e) = absurd (omega (arith, more, few))
    tokens_one a b (IsAnswerOfTokens.many_tokens more is) (IsAnswerOfTokens.many_units few fs h m is') = absurd (omega (arith, more, few))
    tokens_one a b (IsAnswerOfTokens.many_tokens more is) (IsAnswerOfTokens.read few fs h m is') = absurd (omega (arith, more, few))
    tokens_one a b (IsAnswerOfTokens.unread few e) (IsAnswerOfTokens.many_tokens more is) = absurd (omega (arith, more, few))
    tokens_one a b (IsAnswerOfTokens.unread few e) (IsAnswerOfTokens.unread few' f) = end_one IsRead IsUnread reading_apart unread_one lists a b e f
    tokens_one a b (IsAnswerOfTokens.unread few e) (IsAnswerOfTokens.many_units few' fs h m is) = absurd (no_end fs a h e)
    tokens_one a b (IsAnswerOfTokens.unread few e) (IsAnswerOfTokens.read few' fs h m is) = absurd (no_end fs a h e)
    tokens_one a b (IsAnswerOfTokens.many_units few fs h m is) (IsAnswerOfTokens.many_tokens more is') = absurd (omega (arith, more, few))
    tokens_one a b (IsAnswerOfTokens.many_units few fs h m is) (IsAnswerOfTokens.unread few' e) = absurd (no_end fs b h e)
    tokens_one a b (IsAnswerOfTokens.many_units few fs h m is) (IsAnswerOfTokens.many_units few' gs k n is') = is ∙ sym is'
    tokens_one a b (IsAnswerOfTokens.many_units few fs h m is) (IsAnswerOfTokens.read few' gs k n is') =
        let same = ap (λ ds. tree_count (all_joined ds)) (same_designs fs gs h k) in absurd (omega (arith, same, m, n))
    tokens_one a b (IsAnswerOfTokens.read few fs h m is) (IsAnswerOfTokens.many_tokens more is') = absurd (omega (arith, more, few))
    tokens_one a b (IsAnswerOfTokens.read few fs h m is) (IsAnswerOfTokens.unread few' e) = absurd (no_end fs b h e)
    tokens_one a b (IsAnswerOfTokens.read few fs h m is) (IsAnswerOfTokens.many_units few' gs k n is') =
        let same = ap (λ ds. tree_count (all_joined ds)) (same_designs fs gs h k) in absurd (omega (arith, same, m, n))
    tokens_one a b (IsAnswerOfTokens.read few fs h m is) (IsAnswerOfTokens.read few' gs k n is') =
        is ∙ ap (λ ds. holds (all_joined ds) warnings) (same_designs fs gs h k) ∙ sym is'

module _ (one_lexing : HasOneLexing) (one_parse : (tokens : List Lexeme) → HasOneParse grammar (symbols_in tokens) 200) where
  texts_one : (texts : List Selected) (a b : Answer) → IsAnswerOfTexts texts a → IsAnswerOfTexts texts b → a ≡ b
  texts_one texts a b (IsAnswerOfTexts.unlexed e) (IsAnswerOfTexts.unlexed f) = end_one IsLexed IsUnlexed (lexing_apart one_lexing) (unlexed_one one_lexing) texts a b e f
  texts_one texts a b (IsAnswerOfTexts.unlexed e) (IsAnswerOfTexts.lexed lists h x) = absurd (all_or_end IsLexed IsUnlexed (lexing_apart one_lexing) texts lists a h e)
  texts_one texts a b (IsAnswerOfTexts.lexed lists h x) (IsAnswerOfTexts.unlexed e) = absurd (all_or_end IsLexed IsUnlexed (lexing_apart one_lexing) texts lists b h e)
  texts_one texts a b (IsAnswerOfTexts.lexed lists h x) (IsAnswerOfTexts.lexed others k y) =
      tokens_one one_parse (warnings_of texts) lists a b x
      (subst (λ ls. IsAnswerOfTokens (warnings_of texts) ls b) (have_one IsLexed (lexed_one one_lexing) texts others lists k h) y)

  pub answer_one : HasOneAnswer
  answer_one tool contents a b (IsAnswer.unselected e) (IsAnswer.unselected f) =
      end_one (IsSelected tool) (IsUnselected tool) (selecting_apart tool) (unselected_one tool) (numbered 0 contents) a b e f
  answer_one tool contents a b (IsAnswer.unselected e) (IsAnswer.selected texts h x) = absurd (all_or_end (IsSelected tool) (IsUnselected tool) (selecting_apart tool) (numbered 0 contents) texts a h e)
  answer_one tool contents a b (IsAnswer.selected texts h x) (IsAnswer.unselected e) = absurd (all_or_end (IsSelected tool) (IsUnselected tool) (selecting_apart tool) (numbered 0 contents) texts b h e)
  answer_one tool contents a b (IsAnswer.selected texts h x) (IsAnswer.selected others k y) =
      texts_one texts a b x (subst (λ ts. IsAnswerOfTexts ts b) (have_one (IsSelected tool) (selected_one tool) (numbered 0 contents) others texts k h) y)
