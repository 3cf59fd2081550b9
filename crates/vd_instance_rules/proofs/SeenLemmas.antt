-- Ports that are associated.
use Rattle.std.proofs.Common.{◌++◌, ◌≡◌, ◌∙◌, ◌∷◌, ◌||◌, Bool, List, [], ap, ap₂, false, refl, sym, true, ℕ}
use Rattle.std.specs.Prelude.{None, Option, Some}
use Rattle.vd_instance_rules.specs.Instances.{ports_for, with_port}
use Rattle.vd_meaning.specs.Tables.{same_type}
use Rattle.vd_port_associations.specs.Associations.{read_formal}
use Rattle.vd_port_associations.specs.Numbers.{Holds}
use Rattle.vd_port_associations.specs.declared.formals.FormalSort.{FormalSort}
use Rattle.vd_port_associations.specs.declared.numbers.NumberSet.{NumberSet}
use Rattle.vd_value_rules.specs.Actuals.{PortAssociation, is_associated, port_of_formal}
use Rattle.vd_value_rules.specs.Designs.{is_listed}

or_none : (a : Bool) → (a || false) ≡ a
or_none true = refl
or_none false = refl

front_or : (a b c : Bool) → (a || (b || c)) ≡ ((a || b) || c)
front_or true b c = refl
front_or false b c = refl

other_way : (a b : Bool) → (a || b) ≡ (b || a)
other_way true true = refl
other_way true false = refl
other_way false true = refl
other_way false false = refl

-- ---- one more

pub associated_behind : (bs : List PortAssociation) (a : PortAssociation) (p : Option ℕ)
    → is_associated (bs ++ a ∷ []) p ≡ (is_associated bs p || same_type (port_of_formal a.formal) p)
associated_behind [] a p = or_none (same_type (port_of_formal a.formal) p)
associated_behind (b ∷ bs) a p =
    ap (λ c. same_type (port_of_formal b.formal) p || c) (associated_behind bs a p)
    ∙ front_or (same_type (port_of_formal b.formal) p) (is_associated bs p) (same_type (port_of_formal a.formal) p)

-- ---- in the list of the ports

with_listed : (o : Option ℕ) (ns : List ℕ) (n : ℕ) → is_listed n (with_port o ns) ≡ (same_type o (Some n) || is_listed n ns)
with_listed None ns n = refl
with_listed (Some m) ns n = refl

pub ports_listed : (bs : List PortAssociation) (n : ℕ) → is_listed n (ports_for bs) ≡ is_associated bs (Some n)
ports_listed [] n = refl
ports_listed (b ∷ bs) n =
    with_listed (port_of_formal b.formal) (ports_for bs) n ∙ ap (λ c. same_type (port_of_formal b.formal) (Some n) || c) (ports_listed bs n)

none_same : (o : Option ℕ) → same_type o None ≡ false
none_same None = refl
none_same (Some n) = refl

pub none_associated : (bs : List PortAssociation) → is_associated bs None ≡ false
none_associated [] = refl
none_associated (b ∷ bs) = ap₂ (λ x y. x || y) (none_same (port_of_formal b.formal)) (none_associated bs)

-- ---- in a set

pub some_seen : (bs : List PortAssociation) (p : Option ℕ) (n : ℕ) (b : Bool) → p ≡ Some n → b ≡ is_listed n (ports_for bs) → b ≡ is_associated bs p
some_seen bs p n b is has = has ∙ ports_listed bs n ∙ ap (is_associated bs) (sym is)

pub none_seen : (bs : List PortAssociation) (p : Option ℕ) → p ≡ None → false ≡ is_associated bs p
none_seen bs p is = sym (ap (is_associated bs) is ∙ none_associated bs)

listed_behind : (bs : List PortAssociation) (a : PortAssociation) (k : ℕ)
    → is_listed k (ports_for (bs ++ a ∷ [])) ≡ (same_type (port_of_formal a.formal) (Some k) || is_listed k (ports_for bs))
listed_behind bs a k =
    ports_listed (bs ++ a ∷ []) k ∙ associated_behind bs a (Some k)
    ∙ other_way (is_associated bs (Some k)) (same_type (port_of_formal a.formal) (Some k))
    ∙ ap (λ c. same_type (port_of_formal a.formal) (Some k) || c) (sym (ports_listed bs k))

pub holds_port : (set : NumberSet) (bs : List PortAssociation) (a : PortAssociation) (f : FormalSort) (n : ℕ) (p : Option ℕ) → a.formal ≡ read_formal f
    → p ≡ port_of_formal (read_formal f) → p ≡ Some n → Holds set (n ∷ ports_for bs) → Holds set (ports_for (bs ++ a ∷ []))
holds_port set bs a f n p formal port is holds = λ k.
    holds k ∙ ap (λ o. same_type o (Some k) || is_listed k (ports_for bs)) (sym is ∙ port ∙ ap port_of_formal (sym formal)) ∙ sym (listed_behind bs a k)

pub holds_no_port : (set : NumberSet) (bs : List PortAssociation) (a : PortAssociation) (f : FormalSort) (p : Option ℕ) → a.formal ≡ read_formal f
    → p ≡ port_of_formal (read_formal f) → p ≡ None → Holds set (ports_for bs) → Holds set (ports_for (bs ++ a ∷ []))
holds_no_port set bs a f p formal port is holds = λ k.
    holds k ∙ ap (λ o. same_type o (Some k) || is_listed k (ports_for bs)) (sym is ∙ port ∙ ap port_of_formal (sym formal)) ∙ sym (listed_behind bs a k)
