use Rattle.std.proofs.Common.{◌∙◌, ap, drop, sym}
use Rattle.vd_contexts.specs.Standing.{standings_in}
use Rattle.vd_value_rules.specs.Standings.{further_standings}
use Rattle.vd_accepting.proofs.levels.go_on.Goals as goal

pub returns : goal.returns
returns c = λ d s level.
    record {
      coming = ap (λ xs. standings_in d (drop c.next_tree-level.result xs)) (sym c.deref.ensures.value) ∙ c.next_tree-level.ensures d
          ∙ ap (λ xs. further_standings (standings_in d (drop c.args.level.now.at xs))) c.deref.ensures.value ∙ ap further_standings level.coming;
      label = level.label;
      copied = level.copied;
    }
