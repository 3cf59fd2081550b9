use Rattle.std.proofs.Common.{◌≡◌, map, sym, ap, ◌∙◌, subst}
use Rattle.std.specs.Prelude.{Ok}
use Rattle.vd_vectors.specs.Logics.{logic_in, logics_in, result_array}
use Rattle.vd_vectors.specs.Logical.{logical_of}
use Rattle.vd_composites.specs.Answers.{Answers}
use Rattle.vd_vectors.proofs.logical.of_scalar_and_array.Goals as goal

pub returns : goal.returns
returns c =
    let one : logic_in c.args.of c.args.left.now ≡ Ok c.in-Ok.l = sym c.as_logic.ensures ∙ c.in-Ok.is in
    let two : logics_in c.args.of c.args.right.now ≡ Ok c.in_ok-r.r.items = c.in_ok-r.ensures in
    let made : c.deref-in-Ok-of_one_and_each.result.now ≡ map (λ y. logical_of c.args.operator c.in-Ok.l y) c.in_ok-r.r.items =
    c.deref-in-Ok-of_one_and_each.ensures.value ∙ c.in-Ok-of_one_and_each.ensures ∙ ap (map (λ y. logical_of c.args.operator c.in-Ok.l y)) c.deref.ensures.value
    in
    rw (one, two) (subst (λ xs. Answers c.result_of.result (result_array c.args.of c.args.bounds xs)) made c.result_of.ensures)
