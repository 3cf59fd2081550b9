use Rattle.std.proofs.Common.{refl, sym}
use Rattle.vd_static_parts.proofs.nodes.absent.Goals as goal

pub returns-clause-node : goal.returns-clause-node
returns-clause-node c = λ subtypes e. record {
  sense = record {
    text = refl;
    declaration = refl;
    mark = refl;
    position = refl;
    is_present = refl;
    known = c.never.ensures;
    value = λ local given. refl;
    range = tt;
    name = c.no_name.ensures.named subtypes e;
    association = refl;
    choices = sym c.new.ensures.items;
    is_open = refl;
  };
  piece = λ p. refl;
}
