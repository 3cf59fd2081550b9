-- Elements of port maps, of which none without `=>` stands behind one with it.
use Rattle.std.proofs.Common.{◌&&◌, ◌≡◌, ◌∙◌, Bool, List, ap, false, if◌then◌else◌, not, refl, sym, true, ℕ}
use Rattle.std.proofs.lemmas.Bool.{false≢true}
use Rattle.vd_bytes.specs.declared.places.Place.{Place}
use Rattle.vd_forest.specs.Forest.{Forest, more, nothing}
use Rattle.vd_resolved.specs.declared.node.Resolved.{Resolved}
use Rattle.vd_value_rules.specs.Actuals.{are_in_order, is_association_form}

-- those that are left behind an element, by whether a name stands in front of it and whether it has one itself
abbrev order_behind : Bool → Bool → Forest Resolved → Bool
order_behind named here next = if here then are_in_order true next else not named && are_in_order false next

order_kept : (named here : Bool) (next : Forest Resolved) → (named && not here) ≡ false → are_in_order here next ≡ order_behind named here next
order_kept true true next fails = refl
order_kept false true next fails = refl
order_kept false false next fails = refl
order_kept true false next fails = absurd (false≢true (sym fails))

order_lost : (named here : Bool) (next : Forest Resolved) → (named && not here) ≡ true → false ≡ order_behind named here next
order_lost true false next holds = refl
order_lost true true next holds = absurd (false≢true holds)
order_lost false true next holds = absurd (false≢true holds)
order_lost false false next holds = absurd (false≢true holds)

module _ (f : Forest Resolved) (named : Bool) (n : Resolved) (text : List ℕ) (place : Place) (parts next : Forest Resolved) (all here late : Bool)
    (is : f ≡ more n text place parts next) (here_is : here ≡ is_association_form n.form) (late_is : late ≡ (named && not here))
    (before : are_in_order named f ≡ all) where
  order_there : order_behind named here next ≡ all
  order_there = ap (λ b. order_behind named b next) here_is ∙ sym (ap (are_in_order named) is) ∙ before

  pub order_more : late ≡ false → are_in_order here next ≡ all
  order_more fails = order_kept named here next (sym late_is ∙ fails) ∙ order_there

  pub order_broken : late ≡ true → false ≡ all
  order_broken holds = order_lost named here next (sym late_is ∙ holds) ∙ order_there

pub order_end : (f : Forest Resolved) (named all : Bool) → f ≡ nothing → are_in_order named f ≡ all → true ≡ all
order_end f named all is before = sym (ap (are_in_order named) is) ∙ before
