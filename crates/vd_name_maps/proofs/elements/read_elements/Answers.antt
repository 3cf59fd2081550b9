use Rattle.std.proofs.Common.{◌≡◌, [], ◌∷◌, ◌++◌, drop, map, refl, sym, ap, ◌∙◌}
use Rattle.vd_naming.specs.Paths.{is_some}
use Rattle.vd_naming.specs.Associations.{elements, generic_for, generic_at, once, with_given}
use Rattle.vd_name_maps.specs.Seen.{seen_element}
use Rattle.vd_name_maps.proofs.ElementLemmas.{seen_here, element_step}
use Rattle.vd_name_maps.proofs.elements.read_elements.Goals as goal

pub loop-node-preserved : goal.loop-node-preserved
loop-node-preserved c =
    let d = c.args.names.now in
    let n = c.args.owner in
    let node = c.in-Some.node in
    let left = drop c.loop-node.next c.args.generics.now in
    let given = c.loop-node.given in
    let known : c.in_ok-known.known ≡ generic_for d n left node.form node.parts = c.in_ok-known.ensures left c.first_left.ensures in
    let generic : c.once-generic.result ≡ generic_at d n left given node.form node.parts = c.once-generic.ensures ∙ ap (once given) known in
    let seen =
    seen_here d n left given node.form node.text.now node.place node.parts node.next
    (record { place = node.place; generic = c.once-generic.result; is_known = c.is_some.result; actual = c.actual_in.result })
    refl generic (c.is_some.ensures ∙ ap is_some known) (c.actual_in.ensures node.form node.text.now node.place node.parts node.next c.in-Some.ensures) in
    record {
      within = c.left_behind-next.ensures.within;
      so_far =
          ap (λ es. map seen_element es ++ elements d n (drop c.left_behind-next.result c.args.generics.now) c.in_ok-given.given node.next) c.in_ok-push.ensures.items
          ∙ element_step d n left given node.form node.text.now node.place node.parts node.next c.loop-node.made.items _
          (drop c.left_behind-next.result c.args.generics.now) c.in_ok-given.given seen c.left_behind-next.ensures.left
          (c.in_ok-given.ensures ∙ ap (λ g. with_given g given) generic)
          ∙ ap (λ f. map seen_element c.loop-node.made.items ++ elements d n left given f) (sym c.in-Some.ensures)
          ∙ c.loop-node.invariant.so_far;
    }
