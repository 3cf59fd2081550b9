use Rattle.std.proofs.Common.{None, ap, arith, sym, ◌∙◌}
use Rattle.vd_port_facts.specs.Tables.{last_place}
use Rattle.vd_port_facts.proofs.LoopLemmas.{entity_put}
use Rattle.vd_port_facts.proofs.entities.entities_by_name.Goals as goal

pub loop-place-preserved : goal.loop-place-preserved
loop-place-preserved c = λ name.
    entity_put (λ key. key.items) c.in_ok-name.name c.index-entities-place.result c.args.entities.now c.loop-place.place c.loop-place.places.entries c.insert.new.self.entries name
    (last_place None 0 c.args.entities.now name)
    (omega arith) c.index-entities-place.is (c.in_ok-name.ensures.items ∙ c.as_slice.ensures ∙ ap (λ x. x.name) (sym c.index-entities-place.is)) c.in_ok-insert.ensures.entries (c.loop-place.invariant name)
