use Rattle.std.proofs.Common.{◌≡◌, ◌∷◌, List, ℕ}
use Rattle.vd_known_designs.specs.Designs.{Knows}
use Rattle.vd_known_generics.proofs.CopyLemmas.{CopiedSoFar}
use Rattle.vd_known_generics.specs.Copied.{AreCopied}
use Rattle.vd_value_rules.specs.Declaring.{taken_known}
use Rattle.vd_value_rules.specs.Designs.{Design}
use Rattle.vd_value_rules.specs.Knowledge.{Known}
use Rattle.vd_known_generics.proofs.copies.set_copies.Given as goal

abbrev pub invariant-loop-copy : goal.invariant-loop-copy
invariant-loop-copy l = record {
  knows : (d : Design) (from k : Known) (ks : List Known) (cs : List (ℕ × ℕ)) → AreCopied l.fn.design.table.subtypes d.table from l.fn.copies.items cs
      → Knows d l.fn.design (k ∷ ks) → CopiedSoFar d l.design from l.copy-iterator.rest.items ks (taken_known cs from k);
  same : l.design.table.subtypes ≡ l.fn.design.table.subtypes;
}
