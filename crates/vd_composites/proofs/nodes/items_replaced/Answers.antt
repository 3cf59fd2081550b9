use Rattle.std.proofs.Common.{arith, ◌≡◌, ◌+◌, ◌-◌, ◌++◌, Some, List, length, take, drop, append_assoc, sym, ap, ◌∙◌}
use Rattle.vd_composites.specs.declared.nodes.Node.{Node}
use Rattle.vd_composites.specs.Nodes.{after}
use Rattle.vd_composites.proofs.NodeSteps.{tail_of, rest_wanted, rest_all, same_wanted, replaced_read, replaced_whole}
use Rattle.vd_composites.proofs.nodes.items_replaced.Goals as goal

pub front-end-requires-clause-there : goal.front-end-requires-clause-there
front-end-requires-clause-there c = rest_wanted c.args.place c.args.items c.requires.there.0 c.front-start.result c.args.nodes.now c.front-start.ensures.front c.requires.there.1

pub front-end-requires-clause-all : goal.front-end-requires-clause-all
front-end-requires-clause-all c = rest_all c.args.place c.args.items c.requires.there.0 c.args.total c.front-start.result c.args.nodes.now c.front-start.ensures.front c.requires.there.1 c.requires.all

pub returns : goal.returns
returns c =
    let ns : List Node = c.args.nodes.now in
    let start = c.front-start.result in
    let end = c.front-end.result in
    let rest = take (length ns - start) (drop start ns) in
    let last = take (length rest - end) (drop end rest) in
    let same : last ≡ drop end (drop start ns) = tail_of end rest ∙ ap (drop end) (tail_of start ns) in
    let inside : after c.args.items (take end (drop start ns)) ≡ Some 0 = ap (λ xs. after c.args.items (take end xs)) (sym (tail_of start ns)) ∙ c.front-end.ensures.front in
    record {
      body = take start ns ++ (c.args.new.now ++ drop end (drop start ns));
      behind =
          c.in_ok-extend_from_slice-3.ensures.items
          ∙ ap (λ xs. xs ++ last) (c.in_ok-extend_from_slice-2.ensures.items ∙ ap (λ xs. xs ++ c.args.new.now) (c.in_ok-extend_from_slice.ensures.items ∙ ap (λ xs. xs ++ take start ns) c.in_ok-made.ensures.items))
          ∙ ap (λ xs. ((c.args.head.now ++ take start ns) ++ c.args.new.now) ++ xs) same
          ∙ append_assoc (c.args.head.now ++ take start ns) c.args.new.now (drop end (drop start ns))
          ∙ append_assoc c.args.head.now (take start ns) (c.args.new.now ++ drop end (drop start ns));
      whole = λ k h. replaced_whole c.args.place c.args.items k start end ns c.args.new.now c.front-start.ensures.front inside c.requires.as_many h;
      are = replaced_read c.args.place c.args.items start end ns c.args.new.now c.front-start.ensures.front inside c.requires.as_many;
    }

pub overflow_sub-total : goal.overflow_sub-total
overflow_sub-total c =
    let same : c.args.total ≡ c.args.place + (c.args.items + c.requires.there.0) = same_wanted c.args.total (c.args.place + (c.args.items + c.requires.there.0)) c.args.nodes.now c.requires.all c.requires.there.1 in
    omega arith
