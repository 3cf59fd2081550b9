-- What is seen where a design is known.
use Rattle.std.proofs.Common.{ap, subst, sym, ◌≡◌, ◌∙◌, ◌∷◌, List}
use Rattle.vd_known_designs.specs.Designs.{Knows}
use Rattle.vd_known_designs.specs.declared.design.KnownDesign.{KnownDesign}
use Rattle.vd_known_designs.specs.Known.{AreKnown}
use Rattle.vd_meaning.specs.Tables.{table}
use Rattle.vd_known_lengths.specs.Extents.{Sees}
use Rattle.vd_known_lengths.specs.declared.over.Over.{Over}
use Rattle.vd_static_values.specs.Entries.{IsGround}
use Rattle.vd_value_rules.specs.Designs.{Design}
use Rattle.vd_value_rules.specs.Knowledge.{Known}

pub sees_design : (x : KnownDesign) (o : Over) (d : Design) (k : Known) (ks : List Known) → Knows d x (k ∷ ks) → o.table.now ≡ x.table
    → o.ground.revision ≡ x.revision → o.ground.declarations.now ≡ x.declarations.now → o.ground.subtypes.now ≡ x.table.subtypes
    → ((k : Known) (ks : List Known) → AreKnown (table x.revision x.declarations.now) x.table (k ∷ ks) → IsGround o.ground k.env)
    → Sees o d k
sees_design x o d k ks knows same revision declarations subtypes ground = record {
  round = ks;
  table = knows.table ∙ ap (λ r. table r x.declarations.now) (sym revision) ∙ ap (λ ds. table o.ground.revision ds) (sym declarations);
  known = subst (λ t. AreKnown d.table t (k ∷ ks)) (sym same) knows.known;
  ground = ground k ks (subst (λ t. AreKnown t x.table (k ∷ ks)) knows.table knows.known);
  subtypes = ap (λ t. t.subtypes) same ∙ sym subtypes;
}
