use Rattle.std.proofs.Common.{Some, [], ap, cond, nat_eq, subst, sym, ◌++◌, ◌∙◌, ◌≡◌, ◌∷◌}
use Rattle.std.proofs.Common.{arith}
use Rattle.std.proofs.lemmas.Grind.{common_steps}
use Rattle.std.specs.HashMap.{get}
use Rattle.vd_body_rules.proofs.TextLemmas.{table_pushed}
use Rattle.vd_body_rules.proofs.texts.Texts.add.Goals as goal
use Rattle.vd_body_rules.specs.Texts.{IsTable}
use Rattle.vd_body_rules.specs.declared.texts.Entry.{Entry}

pub invariant_of-result : goal.invariant_of-result
invariant_of-result c =
    let e : Entry = record { number = c.args.number; text = c.args.text; before = c.in_ok-before.before } in
    let pushed : c.push.new.self.items ≡ c.self.inside.entries.items ++ e ∷ [] = grind (arith, common_steps) in
    subst (λ es. IsTable es (get nat_eq c.insert.new.self)) (sym pushed)
    (table_pushed c.self.inside.entries.items e (get nat_eq c.self.inside.latest) (get nat_eq c.insert.new.self) c.self.invariant c.in_ok-before.ensures.old
    (λ k. c.in_ok-before.ensures.updates.0 k
    ∙ ap (λ t. cond (nat_eq c.args.number k) (Some t) (get nat_eq c.self.inside.latest k)) c.fork.ensures))
