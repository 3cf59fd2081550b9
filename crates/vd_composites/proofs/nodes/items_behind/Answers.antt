use Rattle.std.proofs.Common.{arith, ◌≡◌, ◌+◌, ◌-◌, ◌++◌, length, take, drop, ap, ◌∙◌}
use Rattle.vd_composites.proofs.NodeSteps.{rest_wanted, rest_all, same_wanted, front_items}
use Rattle.vd_composites.proofs.nodes.items_behind.Goals as goal

pub front-end-requires-clause-there : goal.front-end-requires-clause-there
front-end-requires-clause-there c = rest_wanted c.args.place c.args.items c.requires.there.0 c.front-start.result c.args.nodes.now c.front-start.ensures.front c.requires.there.1

pub front-end-requires-clause-all : goal.front-end-requires-clause-all
front-end-requires-clause-all c = rest_all c.args.place c.args.items c.requires.there.0 c.args.total c.front-start.result c.args.nodes.now c.front-start.ensures.front c.requires.there.1 c.requires.all

pub returns : goal.returns
returns c =
    let rest = take (length c.args.nodes.now - c.front-start.result) (drop c.front-start.result c.args.nodes.now) in
    record {
      body = take c.front-end.result rest;
      behind = c.in_ok-extend_from_slice.ensures.items ∙ ap (λ xs. xs ++ take c.front-end.result rest) c.in_ok-made.ensures.items;
      whole = c.front-end.ensures.front;
      are = front_items c.args.place c.args.items c.requires.there.0 c.front-start.result c.front-end.result c.args.nodes.now c.front-start.ensures.front c.requires.there.1 c.front-end.ensures.front;
    }

pub overflow_sub-total : goal.overflow_sub-total
overflow_sub-total c =
    let same : c.args.total ≡ c.args.place + (c.args.items + c.requires.there.0) = same_wanted c.args.total (c.args.place + (c.args.items + c.requires.there.0)) c.args.nodes.now c.requires.all c.requires.there.1 in
    omega arith
