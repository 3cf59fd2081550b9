-- What files of revision 2019 hold. The lines of each are selected, cut into tokens and read by itself, and the design units of all stand one behind
-- the other. Each step is made for all files before the next one is made for any, and the first file whose step ends is what is answered.
use Rattle.std.specs.Prelude.{◌≡◌, ◌<◌, ◌≤◌, ◌⊎◌, ◌-◌, ℕ, suc, List, [], ◌∷◌, length, map, sum_by, Ok, Err}
use Rattle.vd_bytes.specs.declared.answers.Limit.{Limit}
use Rattle.vd_bytes.specs.declared.answers.Limit.TheVariants as limits
use Rattle.vd_bytes.specs.declared.answers.Refused.{Refused}
use Rattle.vd_directives.specs.Selection.{selection}
use Rattle.vd_directives.specs.declared.selected.Line.{Line}
use Rattle.vd_directives.specs.declared.selected.Selected.{Selected}
use Rattle.vd_forest.specs.Forest.{Forest, tree_count}
use Rattle.vd_forms.specs.Validity.{all_joined}
use Rattle.vd_forms.specs.declared.form.Form.{Form}
use Rattle.vd_gram.specs.Derivations.{IsTooDeep}
use Rattle.vd_grammar19.specs.Grammar.{grammar, actions}
use Rattle.vd_lex.specs.Lexis.{IsTokenList, BreaksAt}
use Rattle.vd_shapes.specs.Reading.{IsRefusedAt, symbols_in}
use Rattle.vd_tokens.specs.Lexemes.{Lexeme}
use Rattle.vd_trees.specs.declared.revision.Revision.TheVariants.{V2019}
use Rattle.vd_valid_shapes.specs.Laws.{IsShapeOf}
use Rattle.vd_design_files.specs.InOrder.{HaveEach, IsFirstEnd}

-- a rule that is broken, or a limit that is passed; or the units of all files, and the warnings of each
pub data Answer : Type 0 where
  refused : Refused → Answer
  beyond : Limit → Answer
  holds : (units : Forest Form) → (warnings : List (List Line)) → Answer

-- ---- a file

-- files with their numbers, from this one on
abbrev pub numbered : ℕ → List (List ℕ) → List (ℕ × List ℕ)
numbered n [] = []
numbered n (bytes ∷ files) = (n, bytes) ∷ numbered (suc n) files

-- the lines that the directives of a file select, or its first directive that breaks a rule. The first argument is the tool type
abbrev pub IsSelected : List ℕ → ℕ × List ℕ → Selected → Type 0
IsSelected tool file text = selection tool file.0 file.1 ≡ Ok text

abbrev pub IsUnselected : List ℕ → ℕ × List ℕ → Answer → Type 0
IsUnselected tool file (refused x) = selection tool file.0 file.1 ≡ Err x
IsUnselected tool file _ = ⊥

-- the tokens of a text, with its end behind them, or its first break
abbrev pub IsLexed : Selected → List Lexeme → Type 0
IsLexed = IsTokenList V2019

abbrev pub IsUnlexed : Selected → Answer → Type 0
IsUnlexed text (refused x) = BreaksAt V2019 text x.rule x.place
IsUnlexed text _ = ⊥

-- the units of a token list, or the first token with which no text of the grammar goes on; or in front of such a one more than 200 expressions
-- and statements stand in one another
abbrev pub IsRead : List Lexeme → Forest Form → Type 0
IsRead tokens units = IsShapeOf grammar actions tokens 200 units

abbrev pub IsUnread : List Lexeme → Answer → Type 0
IsUnread tokens answer =
    ((x : Refused) × IsRefusedAt grammar tokens 200 x × (answer ≡ refused x))
    ⊎ (IsTooDeep grammar (symbols_in tokens) 200 × (answer ≡ beyond limits.Nesting))

-- ---- all files

-- how many tokens there are, without the ends of the files
abbrev pub token_count : List (List Lexeme) → ℕ
token_count = sum_by (λ tokens. length tokens - 1)

abbrev pub warnings_of : List Selected → List (List Line)
warnings_of = map (λ text. text.warnings)

-- what is answered where these are the tokens
pub data IsAnswerOfTokens (warnings : List (List Line)) (lists : List (List Lexeme)) (answer : Answer) : Type 0 where
  many_tokens : 2000000 < token_count lists → answer ≡ beyond limits.Tokens → IsAnswerOfTokens warnings lists answer
  unread : token_count lists ≤ 2000000 → IsFirstEnd IsRead IsUnread lists answer → IsAnswerOfTokens warnings lists answer
  many_units : token_count lists ≤ 2000000 → (designs : List (Forest Form)) → HaveEach IsRead lists designs → 4096 < tree_count (all_joined designs)
      → answer ≡ beyond limits.Units → IsAnswerOfTokens warnings lists answer
  read : token_count lists ≤ 2000000 → (designs : List (Forest Form)) → HaveEach IsRead lists designs → tree_count (all_joined designs) ≤ 4096
      → answer ≡ holds (all_joined designs) warnings → IsAnswerOfTokens warnings lists answer

-- what is answered where these lines are selected
pub data IsAnswerOfTexts (texts : List Selected) (answer : Answer) : Type 0 where
  unlexed : IsFirstEnd IsLexed IsUnlexed texts answer → IsAnswerOfTexts texts answer
  lexed : (lists : List (List Lexeme)) → HaveEach IsLexed texts lists → IsAnswerOfTokens (warnings_of texts) lists answer → IsAnswerOfTexts texts answer

-- what is answered of files with these contents
pub data IsAnswer (tool : List ℕ) (contents : List (List ℕ)) (answer : Answer) : Type 0 where
  unselected : IsFirstEnd (IsSelected tool) (IsUnselected tool) (numbered 0 contents) answer → IsAnswer tool contents answer
  selected : (texts : List Selected) → HaveEach (IsSelected tool) (numbered 0 contents) texts → IsAnswerOfTexts texts answer → IsAnswer tool contents answer
