use Rattle.std.proofs.Common.{◌≡◌, map, sym, ap, ◌∙◌, subst}
use Rattle.std.specs.Prelude.{Ok}
use Rattle.vd_vectors.specs.Logics.{logic_in, logics_in, result_array}
use Rattle.vd_vectors.specs.Logical.{logical_of}
use Rattle.vd_composites.specs.Answers.{Answers}
use Rattle.vd_vectors.proofs.logical.of_array_and_scalar.Goals as goal

pub returns : goal.returns
returns c =
    let one : logics_in c.args.of c.args.left.now ≡ Ok c.in_ok-l.l.items = c.in_ok-l.ensures in
    let two : logic_in c.args.of c.args.right.now ≡ Ok c.in-Ok.r = sym c.as_logic.ensures ∙ c.in-Ok.is in
    let made : c.deref-in-Ok-of_each_and.result.now ≡ map (λ x. logical_of c.args.operator x c.in-Ok.r) c.in_ok-l.l.items =
    c.deref-in-Ok-of_each_and.ensures.value ∙ c.in-Ok-of_each_and.ensures ∙ ap (map (λ x. logical_of c.args.operator x c.in-Ok.r)) c.deref.ensures.value
    in
    rw (one, two) (subst (λ xs. Answers c.result_of.result (result_array c.args.of c.args.bounds xs)) made c.result_of.ensures)
