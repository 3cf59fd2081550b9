use Rattle.std.proofs.lemmas.List.{append-nil}
use Rattle.std.proofs.Common.{ap, arith, sym, ◌++◌, ◌∙◌, ◌≡◌}
use Rattle.vd_composites.specs.Ranges.{length_of}
use Rattle.vd_static_values.proofs.ElementLemmas.{none_is, single_is}
use Rattle.vd_static_values.proofs.elements.add_single.Goals as goal

pub returns-in_ok-push : goal.returns-in_ok-push
returns-in_ok-push c =
    let array = c.args.array.now in
    c.in_ok-push.ensures.items
    ∙ ap (λ vs. c.args.made.now.items ++ vs)
    (sym (single_is array c.in_ok-element.element c.in-Some.bounds c.requires (sym c.bounds.ensures ∙ c.in-Some.is) (sym c.length-length.ensures ∙ c.if-length-eq1.true) c.in_ok-element.ensures))

pub returns-else-length-eq1 : goal.returns-else-length-eq1
returns-else-length-eq1 c =
    let empty : length_of c.in-Some.bounds ≡ 0 = sym c.length-length.ensures ∙ omega arith in
    sym (append-nil c.args.made.now.items)
    ∙ ap (λ vs. c.args.made.now.items ++ vs) (sym (none_is c.args.array.now c.in-Some.bounds c.requires (sym c.bounds.ensures ∙ c.in-Some.is) empty))
