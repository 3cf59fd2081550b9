use Rattle.std.proofs.Common.{Some, refl}
use Rattle.vd_environments.specs.Got.{is_got, senseless}
use Rattle.vd_meaning.specs.Names.{unless_stopped}
use Rattle.vd_static_values.specs.declared.names.Ranging.TheVariants.{Range}
use Rattle.vd_static_names.proofs.StopLemmas.{left_true}
use Rattle.vd_static_parts.proofs.StaticLemmas.{unless_found}
use Rattle.vd_static_nodes.proofs.RangeLemmas.{with_range}
use Rattle.vd_static_nodes.proofs.ranges.ranging.Goals as goal

pub returns-clause-node : goal.returns-clause-node
returns-clause-node c = λ subtypes e ms r kn same found.
    let known =
    unless_found c.args.range (r e) c.is_some.result c.args.known c.unless_stopped-known.result (kn e) found c.is_some.ensures same c.unless_stopped-known.ensures in
    let node = c.expression-sense.ensures.node subtypes e ms (λ _ _. senseless) (λ f. unless_stopped (r f) (kn f)) known (λ local given. refl) in
    record {
      sense =
          with_range subtypes e c.expression-sense.result.sense c.args.node c.args.text.now ms (Range c.args.range) (Some r) (λ f. unless_stopped (r f) (kn f)) node.sense
          (λ local. found (left_true (kn e).is_local (is_got (r e)) local));
      piece = node.piece;
    }
