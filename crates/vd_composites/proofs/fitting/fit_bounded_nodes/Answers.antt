use Rattle.std.proofs.Common.{arith, rules, ◌≡◌, ◌≤◌, ◌+◌, length, sym, ap, ◌∙◌, to_z, of_z, w64, SFits, ◌∷◌, drop}
use Rattle.std.proofs.lemmas.Int.{to_z-of_z}
use Rattle.vd_composites.specs.declared.nodes.Node.TheVariants.{Array as ArrayNode, Right}
use Rattle.vd_composites.specs.Ranges.{length_of}
use Rattle.vd_composites.specs.Nodes.{bounds_in}
use Rattle.vd_composites.proofs.ValueLemmas.{is_array, under_fits, under_fails, two_set}
use Rattle.vd_composites.proofs.fitting.fit_bounded_nodes.Goals as goal

pub returns-then-length : goal.returns-then-length
returns-then-length c index of =
    let a = is_array c.args.nodes.items c.in-Some.own c.requires (ap bounds_in (sym c.deref.ensures.value) ∙ sym c.bounds_at.ensures ∙ c.in-Some.is) in
    under_fails c.args.nodes.items c.in-Some.own c.args.bounds index of a (λ (e : length_of c.in-Some.own ≡ length_of c.args.bounds).
    let f : c.length.result ≡ c.length-2.result = c.length.ensures ∙ e ∙ sym c.length-2.ensures in absurd (omega arith))

pub returns : goal.returns
returns c index of =
    let a = is_array c.args.nodes.items c.in-Some.own c.requires (ap bounds_in (sym c.deref.ensures.value) ∙ sym c.bounds_at.ensures ∙ c.in-Some.is) in
    let one : c.length.result ≡ length_of c.in-Some.own = c.length.ensures in
    let two : c.length-2.result ≡ length_of c.args.bounds = c.length-2.ensures in
    let same : length_of c.in-Some.own ≡ length_of c.args.bounds = omega arith in
    let left_fits : SFits w64 c.args.bounds.left = search rules in
    let right_fits : SFits w64 c.args.bounds.right = search rules in
    let long : length_of c.in-Some.own + 2 ≤ length c.args.nodes.items = a.long in
    under_fits c.args.nodes.items c.in-Some.own c.args.bounds index of _ a same
    (two_set c.args.nodes.items (ArrayNode (to_z w64 (of_z w64 c.args.bounds.left)) c.args.bounds.down) (Right (to_z w64 (of_z w64 c.args.bounds.right))) (omega arith)
    ∙ ap (λ l. ArrayNode l c.args.bounds.down ∷ Right (to_z w64 (of_z w64 c.args.bounds.right)) ∷ drop 2 c.args.nodes.items) (to_z-of_z w64 c.args.bounds.left left_fits)
    ∙ ap (λ r. ArrayNode c.args.bounds.left c.args.bounds.down ∷ Right r ∷ drop 2 c.args.nodes.items) (to_z-of_z w64 c.args.bounds.right right_fits))
