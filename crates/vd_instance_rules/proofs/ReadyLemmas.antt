-- Something is known behind calls that keep what is known.
use Rattle.std.proofs.Common.{◌∷◌, List}
use Rattle.vd_known_designs.specs.Designs.{IsReady, Knows}
use Rattle.vd_known_designs.specs.declared.design.KnownDesign.{KnownDesign}
use Rattle.vd_value_rules.specs.Designs.{Design}
use Rattle.vd_value_rules.specs.Knowledge.{Known}

pub still_ready : (x y : KnownDesign) → IsReady x → ((d : Design) (ks : List Known) → Knows d x ks → Knows d y ks) → IsReady y
still_ready x y ready knows =
    record { design = ready.design; now = ready.now; round = ready.round; knows = knows ready.design (ready.now ∷ ready.round) ready.knows }
