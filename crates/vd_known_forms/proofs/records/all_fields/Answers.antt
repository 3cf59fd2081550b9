use Rattle.std.proofs.Common.{◌∷◌, ap, false, sym, true, ◌∙◌}
use Rattle.vd_forest.proofs.StoreLemmas.{extends_trans}
use Rattle.vd_forest.specs.Store.{at}
use Rattle.vd_value_rules.specs.Indicated.{fields_in}
use Rattle.vd_known_forms.proofs.FieldLemmas.{element_in_front}
use Rattle.vd_known_forms.specs.Fields.{in_front}
use Rattle.vd_value_rules.specs.Knowledge.{fields_defined}
use Rattle.vd_known_forms.proofs.records.all_fields.Goals as goal

pub loop-first-preserved : goal.loop-first-preserved
loop-first-preserved c =
    let before = c.loop-first.design.table.subtypes in
    let inv = c.loop-first.invariant in
    let n = c.in-Some.first in
    let r = inv.ready in
    let here = c.in_ok-fields.ensures.fields r.design r.now r.round r.knows in
    record {
      ready = record { design = r.design; now = r.now; round = r.round; knows = c.in_ok-fields.ensures.knows r.design (r.now ∷ r.round) r.knows };
      own_in = here.own_fields.within;
      choosing_in = here.choosing_fields.within;
      own = λ d k ks knows.
          ap (in_front (fields_defined d false k n.next)) (c.in_ok-fields.ensures.fields d k ks (inv.knows d (k ∷ ks) knows)).own_fields.are
          ∙ element_in_front d false k c.loop-first.rest n.form n.text.now n.place n.parts n.next (fields_in (at before c.loop-first.fields.own)) c.in-Some.ensures
          ∙ inv.own d k ks knows;
      choosing = λ d k ks knows.
          ap (in_front (fields_defined d true k n.next)) (c.in_ok-fields.ensures.fields d k ks (inv.knows d (k ∷ ks) knows)).choosing_fields.are
          ∙ element_in_front d true k c.loop-first.rest n.form n.text.now n.place n.parts n.next (fields_in (at before c.loop-first.fields.choosing)) c.in-Some.ensures
          ∙ inv.choosing d k ks knows;
      knows = λ d ks knows. c.in_ok-fields.ensures.knows d ks (inv.knows d ks knows);
      extends = extends_trans c.args.design.now.table.subtypes before c.add_element.new.design.table.subtypes inv.extends c.in_ok-fields.ensures.extends;
    }

pub returns-clause-fields : goal.returns-clause-fields
returns-clause-fields c = λ d k ks knows.
    let subtypes = c.loop-first.design.table.subtypes in
    let inv = c.loop-first.invariant in
    record {
      own_fields = record {
        within = inv.own_in;
        are = ap (λ f. in_front (fields_defined d false k f) (fields_in (at subtypes c.loop-first.fields.own))) (sym c.in_default.ensures) ∙ inv.own d k ks knows;
      };
      choosing_fields = record {
        within = inv.choosing_in;
        are = ap (λ f. in_front (fields_defined d true k f) (fields_in (at subtypes c.loop-first.fields.choosing))) (sym c.in_default.ensures) ∙ inv.choosing d k ks knows;
      };
    }
