use Rattle.std.proofs.Common.{◌≡◌, ◌+◌, ◌&&◌, ◌||◌, drop, false, not, Some, ap, sym, ◌∙◌, arith}
use Rattle.vd_meaning.specs.Tables.{table}
use Rattle.vd_name_rules.proofs.OperatorLemmas.{next_found, none_found}
use Rattle.vd_trees.specs.declared.revision.Revision.TheVariants.{V2019}
use Rattle.vd_value_rules.specs.Operators.{any_found, is_found, names_refused}
use Rattle.vd_name_rules.proofs.instances.any_found.Goals as goal

pub loop-at-preserved : goal.loop-at-preserved
loop-at-preserved c = λ xs told.
    let t = table V2019 c.args.operators.now.declarations.now in
    let i = c.loop-at.at in
    let gs = c.args.generics.now in
    let cs = c.args.copies.now in
    let g = c.index-generics-at.result in
    let k = c.index-copies-at.result in
    let not_found : is_found t i g k xs ≡ false =
    ap (λ b. not b && names_refused t (Some k)) (sym (told i g)) ∙ sym c.is_found.ensures ∙ c.if-is_found.false in
    sym (next_found t i gs cs xs g k (omega (arith, c.loop-at-test.true, c.min-at-end.ensures)) (omega (arith, c.loop-at-test.true, c.min-at-end.ensures))
    c.index-generics-at.is c.index-copies-at.is
    ∙ ap (λ b. b || any_found t (i + 1) (drop (i + 1) gs) (drop (i + 1) cs) xs) not_found)
    ∙ c.loop-at.invariant xs told

pub returns : goal.returns
returns c = λ xs told.
    let t = table V2019 c.args.operators.now.declarations.now in
    sym (none_found t c.loop-at.at c.args.generics.now c.args.copies.now xs (omega (arith, c.loop-at-test.false, c.min-at-end.ensures)))
    ∙ c.loop-at.invariant xs told
