use Rattle.std.proofs.Common.{[], arith, nat_eq, ◌++◌, ◌≡◌, ◌∷◌}
use Rattle.std.proofs.lemmas.Grind.{common_steps}
use Rattle.std.specs.HashMap.{get}
use Rattle.vd_body_rules.proofs.TextLemmas.{table_popped}
use Rattle.vd_body_rules.proofs.texts.Texts.without_last.Goals as goal

pub invariant_of-result : goal.invariant_of-result
invariant_of-result c =
    let popped : c.self.inside.entries.items ≡ c.pop.new.self.items ++ c.in-Some.last ∷ [] = grind (arith, common_steps) in
    table_popped c.self.inside.entries.items c.pop.new.self.items c.in-Some.last (get nat_eq c.self.inside.latest) (get nat_eq c.in_ok-table.table)
    c.self.invariant popped (λ k. c.in_ok-table.ensures k)
