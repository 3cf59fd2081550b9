use Rattle.std.proofs.Common.{ap, subst, sym, ◌∙◌}
use Rattle.std.specs.Prelude.{IfOk}
use Rattle.vd_known_generics.proofs.InstanceLemmas.{at_part, same_extends}
use Rattle.vd_known_generics.proofs.StandingLemmas.{functions_stand, other_stands}
use Rattle.vd_known_generics.specs.Standing.{Stands}
use Rattle.vd_meaning.specs.Meanings.{made}
use Rattle.vd_meaning.specs.Names.{number_or}
use Rattle.vd_value_rules.specs.Declaring.{function_stands, generic_stands, next_stands, type_stands}
use Rattle.vd_known_generics.proofs.generics.generic_stands.Goals as goal

pub returns-in-GenericConstant-clause-stands : goal.returns-in-GenericConstant-clause-stands
returns-in-GenericConstant-clause-stands c = λ d s ks stands.
    let n = c.args.node.now in
    subst (λ f. IfOk c.declared_constants_stand.result (λ left. Stands d c.declared_constants_stand.new.design left.now (generic_stands f d n.form n.parts s.left s.known) ks))
    (sym c.in-GenericConstant.is) (c.declared_constants_stand.ensures.stands d s ks stands)

pub returns-in-GenericType-clause-stands : goal.returns-in-GenericType-clause-stands
returns-in-GenericType-clause-stands c = λ d s ks stands.
    let n = c.args.node.now in
    subst (λ f. IfOk c.type_stands.result (λ left. Stands d c.type_stands.new.design left.now (generic_stands f d n.form n.parts s.left s.known) ks)) (sym c.in-GenericType.is)
    (subst (λ g. IfOk c.type_stands.result (λ left. Stands d c.type_stands.new.design left.now (next_stands type_stands g s.left s.known) ks)) (c.number_made-number.ensures d.table)
    (c.type_stands.ensures.stands d s ks stands))

pub returns-in_default : goal.returns-in_default
returns-in_default c =
    let n = c.args.node.now in
    record {
      stands = λ d s ks stands.
          subst (λ l. IfOk c.function_stands.result (λ left. Stands d c.function_stands.new.design left.now l ks))
          (sym (other_stands n.form.form d n.form n.parts s.left s.known c.in_default.not-GenericConstant c.in_default.not-GenericType))
          (subst (λ g. IfOk c.function_stands.result (λ left. Stands d c.function_stands.new.design left.now (next_stands (function_stands d) g s.left s.known) ks))
          (c.number_made-number-in_default.ensures d.table ∙ at_part d 1 n.parts c.skip.result (λ m. number_or (made n.form m)) c.skip.ensures)
          (subst (λ l. IfOk c.function_stands.result (λ left. Stands d c.function_stands.new.design left.now l ks))
          (functions_stand d c.number_made-number-in_default.result s.left s.known) (c.function_stands.ensures.stands d s ks stands)));
      extends = same_extends c.function_stands.result c.args.design.now.table.subtypes c.function_stands.new.design.table.subtypes c.function_stands.ensures.same;
    }
