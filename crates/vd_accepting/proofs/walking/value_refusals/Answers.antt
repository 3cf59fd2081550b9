use Rattle.std.proofs.Common.{◌∙◌, [], ap, drop, refl, reverse, subst, sym}
use Rattle.vd_walks.proofs.PositionLemmas.{judged_is_broken}
use Rattle.vd_walks.specs.Least.{all_broken}
use Rattle.vd_meaning.specs.Tables.{table}
use Rattle.vd_port_modes.specs.Source.{design_in}
use Rattle.vd_value_rules.specs.Groups.{firsts_of, judge_by}
use Rattle.vd_contexts.specs.Standing.{standings_in}
use Rattle.vd_value_rules.specs.Standings.{beginning}
use Rattle.vd_accepting.specs.Levels.{AreLevels}
use Rattle.vd_accepting.specs.Walking.{asked}
use Rattle.vd_accepting.proofs.walking.value_refusals.Goals as goal

pub follow-requires : goal.follow-requires
follow-requires c = λ k.
    let i = c.in_ok-interfaces.interfaces in
    let d = design_in i in
    let same = ap (λ z. table z.revision z.tree.declarations) c.in_ok-interfaces.ensures ∙ ap (λ ds. table c.args.revision ds) (sym c.declarations.ensures) in (
      (refl, tt),
      record {
        found = [];
        here = [];
        round = [];
        knows = record {
          same = c.in_ok-facts.ensures ∙ sym c.in_ok-interfaces.ensures;
          found = c.nothing_refused.ensures;
          knows = c.in_ok-design.ensures d same;
          levels = (
            record {
              coming = ap (λ xs. standings_in d (drop 0 xs)) c.new-2.ensures.items;
              label = refl;
              copied = refl;
            },
            subst (λ ls. AreLevels d (reverse ls) []) (sym c.new-3.ensures.items) tt,
          );
        };
      },
    )

pub returns : goal.returns
returns c =
    let i = c.in_ok-interfaces.interfaces in
    let d = design_in i in
    let same = ap (λ z. table z.revision z.tree.declarations) c.in_ok-interfaces.ensures ∙ ap (λ ds. table c.args.revision ds) (sym c.declarations.ensures) in
    let ended = c.in_ok-follow.ensures.follows [] [] [] (record {
      same = c.in_ok-facts.ensures ∙ sym c.in_ok-interfaces.ensures;
      found = c.nothing_refused.ensures;
      knows = c.in_ok-design.ensures d same;
      levels = (
        record {
          coming = ap (λ xs. standings_in d (drop 0 xs)) c.new-2.ensures.items;
          label = refl;
          copied = refl;
        },
        subst (λ ls. AreLevels d (reverse ls) []) (sym c.new-3.ensures.items) tt,
      );
    }) in
    ended.found
    ∙ ap firsts_of (judged_is_broken (judge_by asked d) beginning [] c.cursor.result
    ∙ ap (λ f. all_broken (judge_by asked d) beginning f) c.cursor.ensures
    ∙ ap (λ z. all_broken (judge_by asked (design_in z)) beginning c.args.tree.now.units) c.in_ok-interfaces.ensures)
