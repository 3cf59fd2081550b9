-- Operands, one after the other, by what each of them is refused for.
use Rattle.std.proofs.Common.{◌≡◌, ◌++◌, Bool, List, [], refl, suc, ℕ}
use Rattle.vd_bytes.specs.declared.answers.Refused.{Refused}
use Rattle.vd_bytes.specs.declared.places.Place.{Place}
use Rattle.vd_forest.specs.Forest.{Forest, more, nothing}
use Rattle.vd_resolved.specs.declared.node.Resolved.{Resolved}
use Rattle.vd_value_rules.specs.Bounds.{indefinite, is_indefinite}
use Rattle.vd_value_rules.specs.Designs.{Design}
use Rattle.vd_value_rules.specs.Judging.{refused_if}
use Rattle.vd_value_rules.specs.Lengths.{shapings}
use Rattle.vd_value_rules.specs.Standings.{State}

-- the definitions once more, where no proof looks into them
pub first_differs : Design → State → Resolved → Forest Resolved → Forest Resolved → Bool
first_differs d s n f parts = is_indefinite d s n (shapings d s.known f) parts

pub differing : ℕ → Design → State → Forest Resolved → List Refused
differing count d s f = indefinite count d s f

module _ (d : Design) (s : State) where
  pub differing_is : (count : ℕ) (f : Forest Resolved) → differing count d s f ≡ indefinite count d s f
  unfolding differing
  differing_is count f = refl

  pub first_is : (n : Resolved) (f parts : Forest Resolved) → is_indefinite d s n (shapings d s.known f) parts ≡ first_differs d s n f parts
  unfolding first_differs
  first_is n f parts = refl

  pub none_differing : (count : ℕ) → differing count d s nothing ≡ []
  unfolding differing
  none_differing count = refl

  pub no_more : (f : Forest Resolved) → differing 0 d s f ≡ []
  unfolding differing
  no_more nothing = refl
  no_more (more n text place parts next) = refl

  pub one_more : (count : ℕ) (n : Resolved) (text : List ℕ) (place : Place) (parts next : Forest Resolved)
      → differing (suc count) d s (more n text place parts next)
      ≡ refused_if (first_differs d s n (more n text place parts nothing) parts) place 410 ++ differing count d s next
  unfolding differing first_differs
  one_more count n text place parts next = refl

  pub first_alone : (n : Resolved) (text : List ℕ) (place : Place) (parts next : Forest Resolved)
      → first_differs d s n (more n text place parts next) parts ≡ first_differs d s n (more n text place parts nothing) parts
  unfolding first_differs
  first_alone n text place parts next = refl
