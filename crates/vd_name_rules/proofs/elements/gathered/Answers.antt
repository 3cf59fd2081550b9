use Rattle.std.proofs.Common.{◌≡◌, ◌∷◌, ◌++◌, map, nat_eq, ap, ap₂, sym, ◌∙◌}
use Rattle.indexmap.specs.IndexMap.{get}
use Rattle.vd_meaning.specs.Facets.{nth}
use Rattle.vd_meaning.specs.Meanings.{map_element, meanings}
use Rattle.vd_meaning.specs.Tables.{Table}
use Rattle.vd_name_rules.proofs.ElementLemmas.{all_gathered, first_and_rest, is_placed, named_flag, named_more, or_flag, placed_more}
use Rattle.vd_name_rules.proofs.elements.gathered.Goals as goal

pub loop-first-init : goal.loop-first-init
loop-first-init c = record {
  placed = λ t. ap₂ (λ p f. p ++ map is_placed (map map_element (meanings t f))) c.new-found.ensures.placed c.fork-rest.ensures;
  named = λ t g. ap₂ (λ p f. or_flag p (named_flag g (map map_element (meanings t f)))) (c.new-found.ensures.named g) c.fork-rest.ensures;
}

pub loop-first-preserved : goal.loop-first-preserved
loop-first-preserved c =
    let n = c.in-Some.first in
    let f = c.loop-first.rest in
    let split : (t : Table) → meanings t f ≡ nth 0 (meanings t f) ∷ meanings t n.next = λ t. first_and_rest t f n.form n.text.now n.place n.parts n.next c.in-Some.ensures in
    record {
      placed = λ t. placed_more c.loop-first.found.placed.items c.add.new.self.placed.items _ c.formal_of-formal.result c.is_open-open.result
          (map_element (nth 0 (meanings t f))) (map map_element (meanings t n.next)) c.in_ok-add.ensures.placed (c.formal_of-formal.ensures t) (c.is_open-open.ensures t)
          (ap (λ ms. c.loop-first.found.placed.items ++ map is_placed (map map_element ms)) (sym (split t)) ∙ c.loop-first.invariant.placed t);
      named = λ t g. named_more (get nat_eq c.loop-first.found.named g) (get nat_eq c.add.new.self.named g) _ c.formal_of-formal.result c.is_open-open.result
          (map_element (nth 0 (meanings t f))) (map map_element (meanings t n.next)) g (c.in_ok-add.ensures.named g) (c.formal_of-formal.ensures t) (c.is_open-open.ensures t)
          (ap (λ ms. or_flag (get nat_eq c.loop-first.found.named g) (named_flag g (map map_element ms))) (sym (split t)) ∙ c.loop-first.invariant.named t g);
    }

pub returns : goal.returns
returns c = λ t k g.
    let xs = map map_element (meanings t c.args.elements.now) in
    let found = c.loop-first.found in
    all_gathered (λ n. get nat_eq found.named n) found.placed.items xs k g
    (ap (λ f. found.placed.items ++ map is_placed (map map_element (meanings t f))) (sym c.in_default.ensures) ∙ c.loop-first.invariant.placed t)
    (ap (λ f. or_flag (get nat_eq found.named g) (named_flag g (map map_element (meanings t f)))) (sym c.in_default.ensures) ∙ c.loop-first.invariant.named t g)
