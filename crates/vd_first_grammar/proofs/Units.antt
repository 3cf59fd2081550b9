-- What a file's reading gives is what the definitions say.
use Rattle.std.proofs.Common.{◌≡◌, ℕ, true, List, Err, refl, sym, subst}
use Rattle.vd_forest.specs.Forest.{Forest}
use Rattle.vd_first_trees.specs.declared.form.Form.{Form}
use Rattle.vd_trees.specs.declared.revision.Revision.{Revision}
use Rattle.vd_first_lex.specs.declared.tokens.Token.{Token}
use Rattle.vd_first_grammar.specs.declared.reader_steps.Stop.{Stop}
use Rattle.vd_first_grammar.specs.declared.reader_steps.Stop.TheVariants.{Hopeless, Nesting, Memory}
use Rattle.vd_first_lex.specs.Lexings.{EndsOnce}
use Rattle.vd_first_grammar.specs.Readings.{tree, IsReading}
use Rattle.vd_first_grammar.specs.Given.{Fails}
use Rattle.vd_first_grammar.specs.Answers.{AnswersReading, end_of}
use Rattle.vd_first_grammar.specs.Reader.{got, expressions_limit, file_at}
use Rattle.vd_first_grammar.proofs.Answers.{Answer, answered}

module _ (r : Revision) (n : ℕ) (ts : List Token) (limit : n ≡ expressions_limit r) (ends : EndsOnce ts) where
  answer_is : Answer r ts (file_at r true n ts)
  answer_is = subst (λ (k : ℕ). Answer r ts (file_at r true k ts)) (sym limit) (answered r ts ends)

  pub units_read : (rest : List Token) (t : Forest Form) → file_at r true n ts ≡ got (t, rest) → IsReading r ts (tree t)
  units_read rest t read = subst (Answer r ts) read answer_is

  pub units_fail : {X : Type 0} (view : X → Forest Form) (e : Stop) → Fails e (file_at r true n ts) → AnswersReading r view ts (Err (end_of e))
  units_fail view (Hopeless rest) read = (refl, subst (Answer r ts) read answer_is)
  units_fail view (Nesting rest) read = subst (Answer r ts) read answer_is
  units_fail view Memory read = tt
