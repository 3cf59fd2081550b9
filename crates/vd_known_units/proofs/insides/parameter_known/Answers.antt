use Rattle.std.proofs.Common.{◌∙◌, ◌≡◌, ◌∷◌, [], ap, subst, sym}
use Rattle.std.specs.Prelude.{OnOk}
use Rattle.vd_operations.proofs.PassingLemmas.{nth_skipped}
use Rattle.vd_value_rules.specs.Indicated.{static_of}
use Rattle.vd_known_designs.specs.Designs.{Knows}
use Rattle.vd_meaning.specs.Facets.{nth}
use Rattle.vd_meaning.specs.Meanings.{meanings}
use Rattle.vd_value_rules.specs.Knowledge.{at_mark, later_objects, meaning_at}
use Rattle.vd_known_units.proofs.insides.parameter_known.Goals as goal

pub later_objects-requires-clause-own_in : goal.later_objects-requires-clause-own_in
later_objects-requires-clause-own_in c =
    let r = c.requires.ready in
    (c.marked-of.ensures r.design r.now r.round (c.in_ok-mark.ensures.knows r.design (r.now ∷ r.round) r.knows)).own.within

pub later_objects-requires-clause-choosing_in : goal.later_objects-requires-clause-choosing_in
later_objects-requires-clause-choosing_in c =
    let r = c.requires.ready in
    (c.marked-of.ensures r.design r.now r.round (c.in_ok-mark.ensures.knows r.design (r.now ∷ r.round) r.knows)).choosing.within

pub returns : goal.returns
returns c = record {
  knows = λ d k ks knows.
      let after = c.in_ok-mark.ensures.knows d (k ∷ ks) knows in
      let parts = c.args.parts.now in
      let same : c.in_ok-mark.mark ≡ (meaning_at d 1 parts).mark =
      c.in_ok-mark.ensures.mark d k ks knows ∙ ap (λ f. (nth 0 (meanings d.table f)).mark) c.skip.ensures ∙ ap (λ m. m.mark) (sym (nth_skipped 1 d.table parts)) in
      subst (λ n. OnOk c.later_objects.result (Knows d c.later_objects.new.design (later_objects (n ∷ [])
      (record { own = at_mark (meaning_at d 1 parts).mark k.env; choosing = at_mark (meaning_at d 1 parts).mark k.choosing }) (static_of c.args.known) k ∷ ks)))
      (c.number_made-number.ensures d.table)
      (subst (λ m. OnOk c.later_objects.result (Knows d c.later_objects.new.design (later_objects (c.number_made-number.result ∷ [])
      (record { own = at_mark m k.env; choosing = at_mark m k.choosing }) (static_of c.args.known) k ∷ ks))) same
      (c.later_objects.ensures.knows d (record { own = at_mark c.in_ok-mark.mark k.env; choosing = at_mark c.in_ok-mark.mark k.choosing }) k ks after
      (c.marked-of.ensures d k ks after)));
}
