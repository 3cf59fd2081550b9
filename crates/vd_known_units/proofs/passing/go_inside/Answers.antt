use Rattle.std.proofs.Common.{◌∷◌}
use Rattle.vd_known_units.proofs.passing.go_inside.Goals as goal

pub known_in_parts-requires : goal.known_in_parts-requires
known_in_parts-requires c =
    let r = c.requires.ready in
    record { ready = record { design = r.design; now = r.now; round = r.now ∷ r.round; knows = c.in_ok-remember.ensures.knows r.design r.now r.round r.knows } }

pub returns : goal.returns
returns c = record { knows = λ d k ks knows. c.known_in_parts.ensures.knows d k (k ∷ ks) (c.in_ok-remember.ensures.knows d k ks knows) }
