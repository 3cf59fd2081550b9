use Rattle.std.proofs.Common.{sym, subst, arith}
use Rattle.std.proofs.lemmas.Result.{IfOk-weaker}
use Rattle.vd_first_lex.specs.Lexings.{ColumnsFit}
use Rattle.vd_first_lex.proofs.LineLemmas.{columns_fit}
use Rattle.vd_call_tests.proofs.runs.file_of.Goals as goal

pub returns : goal.returns
returns c = IfOk-weaker c.plain.result _ _ (λ s is. subst ColumnsFit (sym is) (columns_fit 0 c.args.text.now (omega (arith, c.requires.few)))) c.plain.ensures
