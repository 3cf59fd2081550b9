use Rattle.std.proofs.Common.{List, ap, sym, ◌∙◌}
use Rattle.vd_walks.specs.Least.{lesser}
use Rattle.vd_name_rows.specs.Entering.{Word, words_of, entering_words}
use Rattle.vd_name_entering.proofs.EnteringLemmas.{then_design, then_first}
use Rattle.vd_name_entering.proofs.words.enter_words.Goals as goal

pub loop-node-preserved : goal.loop-node-preserved
loop-node-preserved c =
    let others = λ (ws : List Word). entering_words c.args.region c.args.class.now c.args.mark.now ws in
    let left_is = c.in-Some.ensures in
    let here = c.in_ok-refused.ensures in
    let now = c.enter_word.new.names in
    record {
      design =
          then_design now c.in_ok-refused.refused _ (others (words_of c.in-Some.node.next)) here
          ∙ sym (ap (λ f. (others (words_of f) c.loop-node.names).design) left_is) ∙ c.loop-node.invariant.design;
      first =
          ap (λ r. lesser r (others (words_of c.in-Some.node.next) now).first) c.lesser-first.ensures
          ∙ then_first now c.in_ok-refused.refused _ (others (words_of c.in-Some.node.next)) here c.loop-node.first
          ∙ sym (ap (λ f. lesser c.loop-node.first (others (words_of f) c.loop-node.names).first) left_is) ∙ c.loop-node.invariant.first;
    }
