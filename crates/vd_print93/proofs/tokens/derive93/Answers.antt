use Rattle.std.specs.List.{AllByRecursion}
use Rattle.vd_trees.specs.declared.revision.Revision.TheVariants.{V1993}
use Rattle.vd_tokens.specs.Spellings.{IsPossible, EndsOnce}
use Rattle.vd_templates.specs.Templates.{tokens_of}
use Rattle.vd_templates.proofs.TokenLemmas.{are_possible, end_once}
use Rattle.vd_derivations93.specs.Laws.{IsReadBack}
use Rattle.vd_print93.proofs.DeriveLemmas.{of_value, derived_back}
use Rattle.vd_print93.proofs.tokens.derive93.Goals as goal

pub returns-clause-possible : goal.returns-clause-possible
returns-clause-possible c =
    of_value (λ ts. AllByRecursion (IsPossible V1993) ts) (tokens_of c.args.design.now) c.derive93.result (are_possible c.args.design.now c.is_valid.ensures) c.derive93.ensures

pub returns-clause-ends : goal.returns-clause-ends
returns-clause-ends c = of_value EndsOnce (tokens_of c.args.design.now) c.derive93.result (end_once c.args.design.now c.is_valid.ensures) c.derive93.ensures

pub returns-clause-read_back : goal.returns-clause-read_back
returns-clause-read_back c =
    of_value (λ ts. IsReadBack c.args.design.now ts) (tokens_of c.args.design.now) c.derive93.result (derived_back c.args.design.now c.is_valid.ensures) c.derive93.ensures
