use Rattle.std.proofs.Common.{Some, [], ap, subst, ◌++◌, ◌∙◌, ◌∷◌}
use Rattle.vd_static_values.proofs.ElementLemmas.{halves_added, whole_added}
use Rattle.vd_static_values.specs.Levels.{AreHalves}
use Rattle.vd_static_values.proofs.elements.add_halves.Goals as goal

pub returns-in_ok-push-in-Some-2 : goal.returns-in_ok-push-in-Some-2
returns-in_ok-push-in-Some-2 c =
    let array = c.args.array.now in
    let halves = c.in-Some.halves in
    let are : AreHalves (Some halves) array = subst (λ h. AreHalves h array) c.in-Some.is c.in_ok-halves.ensures in
    halves_added c.args.made.now.items c.push-in-Some.new.self.items array halves.first halves.second are.0 are.1 are.2
    (c.in_ok-push-in-Some-2.ensures.items ∙ ap (λ vs. vs ++ halves.second ∷ []) c.in_ok-push-in-Some.ensures.items)

pub returns-in_ok-push-in-None : goal.returns-in_ok-push-in-None
returns-in_ok-push-in-None c =
    whole_added c.args.made.now.items c.push-in-None.new.self.items c.args.array.now c.requires
    (c.in_ok-push-in-None.ensures.items ∙ ap (λ v. c.args.made.now.items ++ v ∷ []) c.in_ok-copy-in-None.ensures)
