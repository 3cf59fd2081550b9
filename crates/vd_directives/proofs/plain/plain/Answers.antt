use Rattle.std.proofs.Common.{◌≡◌, ◌++◌, ◌+◌, [], length, sym, subst, ap, ◌∙◌}
use Rattle.std.proofs.lemmas.Bool.Decides.{Decides-eqb}
use Rattle.std.proofs.lemmas.List.{append-nil, nil_from_length}
use Rattle.std.specs.List.{AllByRecursion}
use Rattle.vd_directives.specs.Lines.{lines_of, numbered, FitsColumns}
use Rattle.vd_directives.proofs.LineLemmas.{columns_fit}
use Rattle.vd_directives.proofs.plain.plain.Goals as goal

pub returns-clause-fits : goal.returns-clause-fits
returns-clause-fits c =
    let ls = c.loop-rest.lines.items in
    let none : c.loop-rest.rest.now ≡ [] = nil_from_length c.loop-rest.rest.now ((Decides-eqb (length c.loop-rest.rest.now) 0).0 (sym c.loop-rest-test.ensures)) in
    let all = c.loop-rest.invariant.lines ∙ (ap (λ bs. ls ++ numbered (c.loop-rest.number + 1) (lines_of bs)) none ∙ append-nil ls) in
    λ short. subst (AllByRecursion FitsColumns) (all ∙ sym c.of.ensures) (columns_fit c.args.file c.args.bytes.now short)
