use Rattle.std.proofs.Common.{◌∷◌, ap, subst, sym, ◌∙◌}
use Rattle.vd_forest.proofs.StoreLemmas.{extends_same, extends_trans, within_more}
use Rattle.vd_forest.specs.Forest.{parts_of}
use Rattle.vd_known_designs.proofs.DesignLemmas.{indicated_grown, knows_grown}
use Rattle.vd_known_designs.specs.Designs.{AreIndicated}
use Rattle.vd_known_designs.specs.declared.design.KnownDesign.{KnownDesign}
use Rattle.vd_known_forms.proofs.IndexLemmas.{array_made}
use Rattle.vd_known_forms.specs.Arrays.{IsIndex}
use Rattle.vd_meaning.specs.Meanings.{meanings}
use Rattle.vd_static_values.specs.Nodes.{AreNodes}
use Rattle.vd_value_rules.specs.Knowledge.{indicated_twice, meaning_at, parts_at}
use Rattle.vd_known_forms.proofs.arrays.array_defined.Goals as goal

pub index_of-index-requires-clause-ready : goal.index_of-index-requires-clause-ready
index_of-index-requires-clause-ready c =
    let r = c.requires.ready in record { design = r.design; now = r.now; round = r.round; knows = c.in_ok-nodes.ensures.knows r.design (r.now ∷ r.round) r.knows }

pub indicated_twice-requires : goal.indicated_twice-requires
indicated_twice-requires c =
    let r = c.requires.ready in
    record { ready = record { design = r.design; now = r.now; round = r.round; knows = c.in_ok-nodes.ensures.knows r.design (r.now ∷ r.round) r.knows } }

pub array-requires-clause-element_in : goal.array-requires-clause-element_in
array-requires-clause-element_in c =
    let r = c.requires.ready in
    (c.in_ok-element.ensures.indicated r.design r.now r.round (c.in_ok-nodes.ensures.knows r.design (r.now ∷ r.round) r.knows)).own.within

pub array-requires-2-clause-element_in : goal.array-requires-2-clause-element_in
array-requires-2-clause-element_in c =
    let r = c.requires.ready in
    within_more c.indicated_twice.new.design.table.subtypes c.array.new.subtypes c.in_ok-element.element.choosing c.in_ok-own.ensures.extends
    (c.in_ok-element.ensures.indicated r.design r.now r.round (c.in_ok-nodes.ensures.knows r.design (r.now ∷ r.round) r.knows)).choosing.within

pub returns-clause-knows : goal.returns-clause-knows
returns-clause-knows c = λ d ks knows.
    let between = c.indicated_twice.new.design in
    let with_own : KnownDesign = record between { table = record between.table { subtypes = c.array.new.subtypes } } in
    knows_grown d with_own c.array-2.new.subtypes ks c.in_ok-choosing.ensures.extends
    (knows_grown d between c.array.new.subtypes ks c.in_ok-own.ensures.extends
    (c.in_ok-element.ensures.knows d ks (c.in_ok-nodes.ensures.knows d ks knows)))

pub returns-clause-indicated : goal.returns-clause-indicated
returns-clause-indicated c = λ d k ks knows.
    let first = c.nodes.new.design.table.subtypes in
    let between = c.indicated_twice.new.design.table.subtypes in
    let with_own = c.array.new.subtypes in
    let now = c.array-2.new.subtypes in
    let m = meaning_at d 0 c.args.parts.now in
    let i = indicated_twice d k (parts_at 1 c.args.parts.now) in
    let x = c.index_of-index.result in
    let here = c.in_ok-nodes.ensures.knows d (k ∷ ks) knows in
    let nodes : AreNodes first k.env c.deref.result.now (meanings d.table c.args.parts.now) =
    subst (λ xs. AreNodes first k.env xs (meanings d.table c.args.parts.now)) (sym c.deref.ensures.value)
    (subst (λ fs. AreNodes fs k.env c.in_ok-nodes.nodes.items (meanings d.table c.args.parts.now)) (sym c.in_ok-nodes.ensures.subtypes)
    (c.in_ok-nodes.ensures.nodes d k ks knows)) in
    let index : IsIndex first x m k.env = c.index_of-index.ensures.is d k ks (meanings d.table c.args.parts.now) here nodes in
    let are : AreIndicated between c.in_ok-element.element i =
    subst (λ f. AreIndicated between c.in_ok-element.element (indicated_twice d k f)) (c.parts.ensures ∙ ap parts_of c.skip.ensures)
    (c.in_ok-element.ensures.indicated d k ks here) in
    let still : AreIndicated with_own c.in_ok-element.element i = indicated_grown between with_own c.in_ok-element.element i c.in_ok-own.ensures.extends are in
    record {
      own =
          array_made first between with_own now x m k.env c.in_ok-element.element.own c.in_ok-own.own i.own c.in_ok-element.ensures.extends
          c.in_ok-choosing.ensures.extends c.index_of-index.ensures.within index are.own c.in_ok-own.ensures.indicates;
      choosing =
          array_made first with_own now now x m k.env c.in_ok-element.element.choosing c.in_ok-choosing.choosing i.choosing
          (extends_trans first between with_own c.in_ok-element.ensures.extends c.in_ok-own.ensures.extends) (extends_same now)
          c.index_of-index.ensures.within index still.choosing c.in_ok-choosing.ensures.indicates;
    }
