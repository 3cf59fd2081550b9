use Rattle.std.proofs.Common.{◌≡◌, ◌+◌, ◌-◌, ◌∙◌, ap, arith, drop}
use Rattle.vd_port_lists.specs.Named.{first_named}
use Rattle.vd_port_lists.proofs.ElementLemmas.{name_put}
use Rattle.vd_port_lists.proofs.elements.modes_by_name.Goals as goal

pub loop-left-preserved : goal.loop-left-preserved
loop-left-preserved c =
    let left = c.loop-left.left - 1 in
    let behind : c.loop-left.left ≡ left + 1 = omega arith in
    record {
      within = omega arith;
      put = λ name. name_put (λ key. key.items) c.in_ok-name.name c.index-listed-left.result c.args.listed.now left c.loop-left.modes.entries c.insert.new.self.entries name
          (omega arith) c.index-listed-left.is (c.in_ok-name.ensures.items ∙ c.as_slice.ensures) c.in_ok-insert.ensures.entries
          (c.loop-left.invariant.put name ∙ ap (λ k. first_named (drop k c.args.listed.now) name) behind);
    }
