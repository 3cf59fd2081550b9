-- Associations one after the other.
use Rattle.std.proofs.Common.{◌++◌, ◌+◌, ◌<◌, ◌≡◌, ◌≤◌, ◌∙◌, ◌∷◌, ◌&&◌, ◌||◌, Bool, List, [], ap, drop, false, get_or, length, refl, subst, sym, take, true, ℕ}
use Rattle.std.proofs.lemmas.List.{drop_all, drop_more, take_all, take_more}
use Rattle.std.specs.List.{list_all, list_any}
use Rattle.std.specs.Prelude.{is_some}
use Rattle.vd_environments.specs.Environments.{Env}
use Rattle.vd_instance_rules.proofs.FirstLemmas.{joined_more, joined_none, joined_with}
use Rattle.vd_instance_rules.specs.Instances.{ports_for, read_association, read_associations}
use Rattle.vd_port_associations.specs.Associations.{read_formal}
use Rattle.vd_port_associations.specs.Numbers.{Holds}
use Rattle.vd_port_associations.specs.declared.associations.PortAssociation.{PortAssociation as WrittenAssociation}
use Rattle.vd_port_associations.specs.declared.numbers.NumberSet.{NumberSet}
use Rattle.vd_value_rules.specs.Groups.{firsts_of, joined_firsts}
use Rattle.vd_value_rules.specs.declared.firsts.Firsts.{Firsts}
use Rattle.vd_value_rules.specs.Actuals.{PortAssociation, PortMap, all_associations_broken, association_broken, is_associated, port_of_formal}
use Rattle.vd_value_rules.specs.Designs.{Design}
use Rattle.vd_value_rules.specs.Judging.{refused_if}

read_behind : (xs ys : List WrittenAssociation) → read_associations (xs ++ ys) ≡ read_associations xs ++ read_associations ys
read_behind [] ys = refl
read_behind (x ∷ xs) ys = ap (λ l. read_association x ∷ l) (read_behind xs ys)

module _ (xs : List WrittenAssociation) (j : ℕ) (x : WrittenAssociation) (within : j < length xs) (is : get_or xs j x ≡ x) where
  pub front : read_associations (drop j xs) ≡ read_association x ∷ read_associations (drop (j + 1) xs)
  front = ap read_associations (drop_more xs j x within ∙ ap (λ y. y ∷ drop (j + 1) xs) is)

  pub behind : read_associations (take (j + 1) xs) ≡ read_associations (take j xs) ++ read_association x ∷ []
  behind = ap read_associations (take_more xs j x within ∙ ap (λ y. take j xs ++ y ∷ []) is) ∙ read_behind (take j xs) (x ∷ [])

  pub seen_more : (set : NumberSet) → Holds set (ports_for (read_associations (take j xs) ++ read_association x ∷ []))
      → Holds set (ports_for (read_associations (take (j + 1) xs)))
  seen_more set holds = subst (λ l. Holds set (ports_for l)) (sym behind) holds

  -- what was found so far, what one more association breaks, and what those that are left break
  pub refusals_more : (d : Design) (e : Env) (m : PortMap) (found again own here now all : Firsts)
      → again ≡ firsts_of (refused_if (is_associated (read_associations (take j xs)) (port_of_formal (read_formal x.formal))) x.place 310)
      → own ≡ firsts_of (association_broken d e m (read_association x)) → here ≡ joined_firsts again own → now ≡ joined_firsts found here
      → joined_firsts found (firsts_of (all_associations_broken d e m (read_associations (take j xs)) (read_associations (drop j xs)))) ≡ all
      → joined_firsts now (firsts_of (all_associations_broken d e m (read_associations (take (j + 1) xs)) (read_associations (drop (j + 1) xs)))) ≡ all
  refusals_more d e m found again own here now all again_is own_is here_is now_is before =
      let bs = read_associations (take j xs) in
      let rest = read_associations (drop (j + 1) xs) in
      let one = refused_if (is_associated bs (port_of_formal (read_formal x.formal))) x.place 310 in
      let two = association_broken d e m (read_association x) in
      let left = all_associations_broken d e m (bs ++ read_association x ∷ []) rest in
      ap (λ l. joined_firsts now (firsts_of (all_associations_broken d e m l rest))) behind
      ∙ joined_more found here now (one ++ two) left (here_is ∙ joined_with again own one two again_is own_is) now_is
      ∙ ap (λ l. joined_firsts found (firsts_of (all_associations_broken d e m bs l))) (sym front) ∙ before

pub seen_all : (xs : List WrittenAssociation) (j : ℕ) (set : NumberSet) → length xs ≤ j → Holds set (ports_for (read_associations (take j xs)))
    → Holds set (ports_for (read_associations xs))
seen_all xs j set past holds = subst (λ l. Holds set (ports_for (read_associations l))) (take_all j xs past) holds

pub refusals_all : (xs : List WrittenAssociation) (j : ℕ) (d : Design) (e : Env) (m : PortMap) (found all : Firsts) → length xs ≤ j
    → joined_firsts found (firsts_of (all_associations_broken d e m (read_associations (take j xs)) (read_associations (drop j xs)))) ≡ all → found ≡ all
refusals_all xs j d e m found all past before =
    sym (joined_none found)
    ∙ sym (ap (λ l. joined_firsts found (firsts_of (all_associations_broken d e m (read_associations (take j xs)) (read_associations l)))) (drop_all j xs past)) ∙ before

-- ---- one of several, and all

module _ {A : Type 0} (f : A → Bool) (xs : List A) (j : ℕ) (x : A) (within : j < length xs) (is : get_or xs j x ≡ x) (all : Bool) where
  any_front : list_any f (drop j xs) ≡ (f x || list_any f (drop (j + 1) xs))
  any_front = ap (list_any f) (drop_more xs j x within ∙ ap (λ y. y ∷ drop (j + 1) xs) is)

  pub any_more : f x ≡ false → list_any f (drop j xs) ≡ all → list_any f (drop (j + 1) xs) ≡ all
  any_more fails before = sym (any_front ∙ ap (λ b. b || list_any f (drop (j + 1) xs)) fails) ∙ before

  pub any_here : f x ≡ true → list_any f (drop j xs) ≡ all → true ≡ all
  any_here holds before = sym (any_front ∙ ap (λ b. b || list_any f (drop (j + 1) xs)) holds) ∙ before

pub any_none : {A : Type 0} (f : A → Bool) (xs : List A) (j : ℕ) (all : Bool) → length xs ≤ j → list_any f (drop j xs) ≡ all → false ≡ all
any_none f xs j all past before = sym (ap (list_any f) (drop_all j xs past)) ∙ before

module _ (xs : List WrittenAssociation) (j : ℕ) (x : WrittenAssociation) (within : j < length xs) (is : get_or xs j x ≡ x) (all : Bool) where
  abbrev for_ports : List PortAssociation → Bool
  for_ports as' = list_all (λ a. is_some (port_of_formal a.formal)) as'

  pub all_more : is_some (port_of_formal (read_formal x.formal)) ≡ true → for_ports (read_associations (drop j xs)) ≡ all
      → for_ports (read_associations (drop (j + 1) xs)) ≡ all
  all_more holds before =
      sym (ap for_ports (front xs j x within is) ∙ ap (λ b. b && for_ports (read_associations (drop (j + 1) xs))) holds) ∙ before

  pub all_but : is_some (port_of_formal (read_formal x.formal)) ≡ false → for_ports (read_associations (drop j xs)) ≡ all → false ≡ all
  all_but fails before =
      sym (ap for_ports (front xs j x within is) ∙ ap (λ b. b && for_ports (read_associations (drop (j + 1) xs))) fails) ∙ before

pub all_none : (xs : List WrittenAssociation) (j : ℕ) (all : Bool) → length xs ≤ j
    → list_all (λ a. is_some (port_of_formal a.formal)) (read_associations (drop j xs)) ≡ all → true ≡ all
all_none xs j all past before = sym (ap (λ l. list_all (λ a. is_some (port_of_formal a.formal)) (read_associations l)) (drop_all j xs past)) ∙ before
