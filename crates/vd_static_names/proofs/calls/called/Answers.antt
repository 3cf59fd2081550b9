use Rattle.std.proofs.Common.{◌∙◌}
use Rattle.vd_environments.specs.Environments.{both}
use Rattle.vd_meaning.specs.Names.{call_known}
use Rattle.vd_meaning.specs.Operators.{function_of}
use Rattle.vd_static_names.proofs.calls.called.Goals as goal

pub returns-clause-named : goal.returns-clause-named
returns-clause-named c = λ subtypes e t n arguments m kn inner known calls found.
    c.fresh.ensures.named subtypes e (λ f. function_of t n f (arguments f)) m (λ f. call_known t n (kn f) f) inner
    (c.both.ensures ∙ (λ i. both (calls i) (known i))) found
