use Rattle.std.proofs.Common.{◌≡◌, None, ap, false, subst, sym, true, ◌∙◌}
use Rattle.vd_known_generics.proofs.ActualFunctionLemmas.{predefined_function, written_function}
use Rattle.vd_meaning.specs.Names.{calls_known}
use Rattle.vd_meaning.specs.Tables.{is_predefined}
use Rattle.vd_known_generics.proofs.functions.operator_of.Goals as goal

pub returns-then-is_predefined : goal.returns-then-is_predefined
returns-then-is_predefined c = λ d k ks knows local.
    predefined_function d c.args.number k.env (calls_known d.table c.args.number k.env)
    (ap (λ t. is_predefined t c.args.number) knows.table ∙ sym c.is_predefined.ensures ∙ c.if-is_predefined.true)

pub returns-in-Some : goal.returns-in-Some
returns-in-Some c = λ d k ks knows local.
    written_function d c.args.number k.env c.in-Some.entry.now.operator
    (ap (λ t. is_predefined t c.args.number) knows.table ∙ sym c.is_predefined.ensures ∙ c.if-is_predefined.false) local
    (c.in-Some.ensures d.table k ks knows.known).function

pub returns-in-None : goal.returns-in-None
returns-in-None c = λ d k ks knows local.
    written_function d c.args.number k.env None
    (ap (λ t. is_predefined t c.args.number) knows.table ∙ sym c.is_predefined.ensures ∙ c.if-is_predefined.false) local
    (c.in-None.ensures d.table k ks knows.known).function
