use Rattle.std.proofs.Common.{List, ◌∷◌, take}
use Rattle.vd_known_designs.specs.Designs.{Knows}
use Rattle.vd_known_generics.specs.Copied.{AreCopied}
use Rattle.vd_value_rules.specs.Designs.{Design}
use Rattle.vd_value_rules.specs.Knowledge.{Known}
use Rattle.vd_known_generics.proofs.copies.all_copied.Given as goal

abbrev pub invariant-loop-copy : goal.invariant-loop-copy
invariant-loop-copy l =
    (d : Design) (k : Known) (ks : List Known) → Knows d l.design (k ∷ ks) → AreCopied l.design.table.subtypes d.table k l.found.items (take l.copy-index l.copies)
