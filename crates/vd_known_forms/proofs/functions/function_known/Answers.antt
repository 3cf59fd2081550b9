use Rattle.vd_known_forms.proofs.FunctionLemmas.{at_part, function_set}
use Rattle.std.proofs.Common.{◌∙◌}
use Rattle.vd_meaning.specs.Meanings.{made}
use Rattle.vd_meaning.specs.Names.{number_or}
use Rattle.vd_known_forms.proofs.functions.function_known.Goals as goal

pub returns-clause-knows : goal.returns-clause-knows
returns-clause-knows c = λ d k ks knows.
    function_set d c.result_known.new.design k ks c.set_function_text.new.self c.args.node.now c.args.parts.now c.fork.result c.number_made-number.result c.number.result c.declaration_of.result c.set_function_text.result
    (c.number_made-number.ensures d.table ∙ at_part d 1 c.args.parts.now c.skip.result (λ m. number_or (made c.args.node.now m)) c.skip.ensures)
    (c.declaration_of.ensures d.table ∙ at_part d 5 c.args.parts.now c.skip-2.result (λ m. m.declaration) c.skip-2.ensures)
    c.number.ensures c.fork.ensures (c.in_ok-result_known.ensures.knows d k ks knows) c.set_function_text.ensures.same c.set_function_text.ensures.known
