use Rattle.std.proofs.Common.{◌≡◌, ap, sym, ◌∙◌, arith}
use Rattle.std.proofs.lemmas.Grind.{common_steps}
use Rattle.vd_meaning.specs.Tables.{table}
use Rattle.vd_name_rules.proofs.OperatorLemmas.{none_refused_past, told_all, told_more}
use Rattle.vd_trees.specs.declared.revision.Revision.TheVariants.{V2019}
use Rattle.vd_value_rules.specs.Operators.{is_refused_operator}
use Rattle.vd_name_rules.proofs.operators.refused_operators.Goals as goal

pub loop-number-preserved : goal.loop-number-preserved
loop-number-preserved c =
    let f = is_refused_operator (table V2019 c.args.declarations.now) in
    let known = c.loop-number.invariant in
    record {
      as_many = grind (arith, common_steps, c.in_ok-push.ensures.items);
      told = λ n lt.
          ap (λ l. Rattle.std.proofs.Common.slice_index_or l n Rattle.std.proofs.Common.false) c.in_ok-push.ensures.items
          ∙ told_more c.loop-number.refused.items f c.is_refused_operator-is_refused.result (c.is_refused_operator-is_refused.ensures ∙ ap f (sym known.as_many))
          (λ k within. known.told k (omega arith)) n (omega arith);
    }

pub returns : goal.returns
returns c =
    let known = c.loop-number.invariant in
    told_all c.loop-number.refused.items (is_refused_operator (table V2019 c.args.declarations.now)) (λ k within. known.told k (omega arith))
    (λ k past. none_refused_past c.args.declarations.now k (omega (arith, c.in-Ok.ensures)))
