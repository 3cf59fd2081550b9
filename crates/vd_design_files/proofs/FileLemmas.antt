-- Files with their numbers, and what ends a step.
use Rattle.std.proofs.Common.{◌≡◌, ◌<◌, ◌+◌, ℕ, suc, zero, List, [], ◌∷◌, ◌++◌, length, take, get_or, Ok, Err, refl, sym, ap, ◌∙◌, subst, arith, inl, inr}
use Rattle.std.proofs.lemmas.Bool.{cases_lt}
use Rattle.std.specs.Prelude.{◌≤◌, ◌⊎◌, ◌↔◌, Bool, true, false, IsTrue, MatchResult, Result}
use Rattle.vd_bytes.specs.declared.answers.Limit.TheVariants as limits
use Rattle.vd_bytes.specs.declared.answers.Refusal.{Refusal}
use Rattle.vd_bytes.specs.declared.answers.Refusal.TheVariants.{Refused, Memory}
use Rattle.vd_directives.specs.Selection.{selection, IsAnswer as IsFileAnswer}
use Rattle.vd_directives.specs.declared.selected.Selected.{Selected}
use Rattle.vd_forest.specs.Forest.{Forest}
use Rattle.vd_forest.proofs.ForestLemmas.{joined_nothing}
use Rattle.vd_forms.specs.Validity.{all_joined}
use Rattle.vd_forms.specs.declared.form.Form.{Form}
use Rattle.vd_grammar19.specs.Grammar.{grammar}
use Rattle.vd_lex.specs.Lexis.{IsBreakOf}
use Rattle.vd_shapes.specs.Reading.{IsReadEnd}
use Rattle.vd_shapes.specs.declared.reading.GrammarEnd.{GrammarEnd}
use Rattle.vd_shapes.specs.declared.reading.GrammarEnd.TheVariants as grammars
use Rattle.vd_tokens.specs.Lexemes.{Lexeme}
use Rattle.vd_trees.specs.declared.revision.Revision.TheVariants.{V2019}
use Rattle.vd_design_files.specs.declared.answers.DesignEnd.{DesignEnd}
use Rattle.vd_design_files.specs.declared.answers.DesignEnd.TheVariants as ends
use Rattle.vd_design_files.specs.declared.answers.DesignFiles.{DesignFiles}
use Rattle.vd_design_files.specs.Ends.{end_of_refusal, end_of_grammar}
use Rattle.vd_design_files.specs.Files.{numbered, Answer, refused, beyond, holds, IsSelected, IsUnselected, IsLexed, IsUnlexed, IsRead, IsUnread}
use Rattle.vd_design_files.specs.InOrder.{HaveEach, IsFirstEnd}
use Rattle.vd_design_files.specs.Laws.{IsEnd}
use Rattle.vd_design_files.proofs.OrderLemmas.{have_more, first_at}

pub numbered_long : (n : ℕ) (files : List (List ℕ)) → length (numbered n files) ≡ length files
numbered_long n [] = refl
numbered_long n (bytes ∷ files) = ap suc (numbered_long (suc n) files)

pub numbered_at : (n : ℕ) (files : List (List ℕ)) (i : ℕ) (d : ℕ × List ℕ) (e : List ℕ) → i < length files → get_or (numbered n files) i d ≡ (n + i, get_or files i e)
numbered_at n [] i d e inside = absurd (omega (arith, inside))
numbered_at n (bytes ∷ files) zero d e inside = let same : n ≡ n + 0 = omega arith in ap (λ k. (k, bytes)) same
numbered_at n (bytes ∷ files) (suc i) d e inside =
    let same : suc n + i ≡ n + suc i = omega arith in
    numbered_at (suc n) files i d e (omega (arith, inside)) ∙ ap (λ k. (k, get_or files i e)) same

-- ---- the directives of a file

module _ (tool : List ℕ) (contents : List (List ℕ)) (i : ℕ) (inside : i < length contents) (texts : List Selected) (so_far : HaveEach (IsSelected tool) (take i (numbered 0 contents)) texts) where
  in_range : i < length (numbered 0 contents)
  in_range = let long = numbered_long 0 contents in omega (arith, long, inside)

  here : get_or (numbered 0 contents) i (0, []) ≡ (i, get_or contents i [])
  here = let same : 0 + i ≡ i = omega arith in numbered_at 0 contents i (0, []) [] inside ∙ ap (λ k. (k, get_or contents i [])) same

  pub selecting_more : (text : Selected) → selection tool i (get_or contents i []) ≡ Ok text → HaveEach (IsSelected tool) (take (i + 1) (numbered 0 contents)) (texts ++ text ∷ [])
  selecting_more text is =
      have_more (IsSelected tool) (numbered 0 contents) i (0, []) texts text in_range so_far (subst (λ (f : ℕ × List ℕ). IsSelected tool f text) (sym here) is)

  pub selecting_ends : (refusal : Refusal) → IsFileAnswer (selection tool i (get_or contents i [])) (Err refusal)
      → IsEnd (IsFirstEnd (IsSelected tool) (IsUnselected tool) (numbered 0 contents)) (end_of_refusal refusal)
  selecting_ends (Refused x) is =
      first_at (IsSelected tool) (IsUnselected tool) (numbered 0 contents) i (0, []) texts (refused x) in_range so_far (subst (λ (f : ℕ × List ℕ). IsUnselected tool f (refused x)) (sym here) is)
  selecting_ends Memory is = tt

-- ---- the tokens of a text

module _ (texts : List Selected) (i : ℕ) (d : Selected) (inside : i < length texts) (lists : List (List Lexeme)) (so_far : HaveEach IsLexed (take i texts) lists) where
  pub lexing_ends : (refusal : Refusal) → IsBreakOf V2019 (get_or texts i d) refusal → IsEnd (IsFirstEnd IsLexed IsUnlexed texts) (end_of_refusal refusal)
  lexing_ends (Refused x) broken = first_at IsLexed IsUnlexed texts i d lists (refused x) inside so_far broken
  lexing_ends Memory broken = tt

-- ---- the design of a token list

module _ (lists : List (List Lexeme)) (i : ℕ) (d : List Lexeme) (inside : i < length lists) (designs : List (Forest Form)) (so_far : HaveEach IsRead (take i lists) designs) where
  pub reading_ends : (end : GrammarEnd) → IsReadEnd grammar (get_or lists i d) 200 end → IsEnd (IsFirstEnd IsRead IsUnread lists) (end_of_grammar end)
  reading_ends (grammars.Refused x) is = first_at IsRead IsUnread lists i d designs (refused x) inside so_far (inl (x, is, refl))
  reading_ends grammars.Nesting is = first_at IsRead IsUnread lists i d designs (beyond limits.Nesting) inside so_far (inr (is, refl))
  reading_ends grammars.Memory is = tt

-- a single design stays as it is
pub only_joined : (designs rest : List (Forest Form)) (only : Forest Form) → designs ≡ rest ++ only ∷ [] → length designs ≡ 1 → only ≡ all_joined designs
only_joined [] rest only is long = absurd (omega (arith, long))
only_joined (d ∷ e ∷ ds) rest only is long = absurd (omega (arith, long))
only_joined (d ∷ []) [] only is long = sym (ap (λ (l : List (Forest Form)). get_or l 0 d) is) ∙ sym (joined_nothing d)
only_joined (d ∷ []) (e ∷ []) only is long = let same : 1 ≡ 2 = ap length is in absurd (omega (arith, same))
only_joined (d ∷ []) (e ∷ f ∷ rest) only is long = let same = ap length is in absurd (omega (arith, same))

-- ---- answers of answers

module _ (P Q : Answer → Type 0) (lifts : (a : Answer) → P a → Q a) where
  end_lifted : (end : DesignEnd) → IsEnd P end → IsEnd Q end
  end_lifted (ends.Refused x) is = lifts (refused x) is
  end_lifted (ends.Limit limit) is = lifts (beyond limit) is
  end_lifted ends.Memory is = tt

  -- what is answered of a part is answered of the whole
  pub answer_lifted : (result : Result DesignFiles DesignEnd) → MatchResult result (λ files. P (holds files.design files.warnings)) (IsEnd P) → MatchResult result (λ files. Q (holds files.design files.warnings)) (IsEnd Q)
  answer_lifted (Ok files) is = lifts (holds files.design files.warnings) is
  answer_lifted (Err end) is = end_lifted end is

true_false : (b : Bool) → b ≡ true → b ≡ false → ⊥
true_false true t f = cc
true_false false t f = cc

-- what isn't more is no more
pub no_more : (b : Bool) (n m : ℕ) → (IsTrue b ↔ (n < m)) → b ≡ false → m ≤ n
no_more b n m is isnt = by (cases_lt n m)
  where
    by : (n < m) ⊎ (m ≤ n) → m ≤ n
    by (inl more) = absurd (true_false b (is.1 more) isnt)
    by (inr few) = few
