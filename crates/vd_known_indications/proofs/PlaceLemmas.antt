-- What is evaluated over where something is known.
use Rattle.std.proofs.Common.{◌≡◌, ◌∷◌, List, subst}
use Rattle.vd_known_designs.specs.Designs.{IsReady}
use Rattle.vd_known_designs.specs.declared.design.KnownDesign.{KnownDesign}
use Rattle.vd_known_designs.specs.Known.{AreKnown}
use Rattle.vd_meaning.specs.Tables.{table}
use Rattle.vd_static_values.specs.Entries.{IsGround}
use Rattle.vd_static_values.specs.declared.entries.Ground.{Ground}
use Rattle.vd_static_names.specs.Known.{HasSubtypes}
use Rattle.vd_value_rules.specs.Knowledge.{Known}

-- the subtypes of all declarations are in the store
pub has_subtypes : (x : KnownDesign) (g : Ground) → IsReady x
    → ((k : Known) (ks : List Known) → AreKnown (table x.revision x.declarations.now) x.table (k ∷ ks) → IsGround g k.env)
    → g.subtypes.now ≡ x.table.subtypes → HasSubtypes g
has_subtypes x g ready ground same =
    λ n. (ground ready.now ready.round (subst (λ t. AreKnown t x.table (ready.now ∷ ready.round)) ready.knows.table ready.knows.known) n).within
