-- What is known and asked at a place of a design.
use Rattle.std.specs.Prelude.{◌≡◌, ◌∷◌, IfOk, List, Result}
use Rattle.vd_forest.specs.declared.cursor.Opened.{Opened}
use Rattle.vd_known_designs.specs.Designs.{Knows}
use Rattle.vd_known_designs.specs.declared.design.KnownDesign.{KnownDesign}
use Rattle.vd_known_indications.specs.declared.surroundings.Surroundings.{Surroundings}
use Rattle.vd_resolved.specs.declared.node.Resolved.{Resolved}
use Rattle.vd_value_rules.specs.Groups.{Breaking, firsts_of}
use Rattle.vd_value_rules.specs.declared.firsts.Firsts.{Firsts}
use Rattle.vd_value_rules.specs.Designs.{Design}
use Rattle.vd_value_rules.specs.Knowledge.{Known}
use Rattle.vd_value_rules.specs.Standings.{State, is_bounded, is_copied_here, standing}

-- what surrounds a node in a state
pub record IsAround (x : Surroundings) (s : State) : Type 0 where
  pub bounded : is_bounded (standing s) ≡ x.is_bounded
  pub copied : is_copied_here s ≡ x.is_copied
  pub label : s.label ≡ x.label

-- In whatever state a design is known to be, these are the first refusals of what a node breaks of a group there.
abbrev pub Finds : {E : Type 0} → Breaking → Design → KnownDesign → Surroundings → Opened Resolved → Result Firsts E → Type 0
Finds broken d x around node result =
    (s : State) (ks : List Known) → Knows d x (s.known ∷ ks) → IsAround around s
    → IfOk result (λ firsts. firsts ≡ firsts_of (broken d s node.form node.text.now node.place node.parts))

-- what is known is known in front of something else that is remembered
pub record IsRemembering (x : KnownDesign) : Type 0 where
  pub design : Design
  pub now : Known
  pub before : Known
  pub round : List Known
  pub knows : Knows design x (now ∷ before ∷ round)
