-- The interface of a design is kept by itself.
use Rattle.std.proofs.Common.{◌≡◌, ℕ, Bool, true, List, [], ◌∷◌, refl}
use Rattle.std.proofs.lemmas.Bool.{or_left, and_from}
use Rattle.std.proofs.lemmas.Slice.Eq.{bytes_eq-Decides}
use Rattle.std.specs.Prelude.{bytes_eq, ◌&&◌}
use Rattle.std.specs.List.{AllByRecursion, list_any}
use Rattle.vd_trees.specs.declared.rows.Row.{Row}
use Rattle.vd_maps.specs.WholeMaps.{gives_type, keeps_mark}
use Rattle.vd_maps.specs.Interfaces.{Interface, Kind, Type', Subtype', Constant', Function', Item, UnitInterface, OfEntity, OfArchitecture, OfPackage, stand_in, stand_for, same_kind, keeps_interface, keeps_item, keeps_unit, interface_of}
use Rattle.vd_maps.specs.Laws.{HasOwnName, HaveOwnNames, OwnInterfaceIsKept}

own_text : (x : List ℕ) → bytes_eq x x ≡ true
own_text x = (bytes_eq-Decides x x).1 refl

module _ {A : Type 0} (kept : A → A → Bool) where
  in_itself : (xs : List A) → AllByRecursion (λ x. kept x x ≡ true) xs → stand_in kept xs xs ≡ true
  in_itself [] h = refl
  in_itself (x ∷ xs) h = or_left (kept x x && stand_in kept xs xs) (stand_in kept (x ∷ xs) xs) (and_from _ _ h.0 (in_itself xs h.1))

  for_itself : (xs : List A) → AllByRecursion (λ x. kept x x ≡ true) xs → stand_for kept xs xs ≡ true
  for_itself [] h = refl
  for_itself (x ∷ xs) h = and_from _ _ h.0 (for_itself xs h.1)

  all_kept : ((x : A) → kept x x ≡ true) → (xs : List A) → AllByRecursion (λ x. kept x x ≡ true) xs
  all_kept h [] = tt
  all_kept h (x ∷ xs) = (h x, all_kept h xs)

module _ (names : ℕ → List ℕ) (rs : List Row) where
  own_mark : (mark : List ℕ) → keeps_mark rs mark mark ≡ true
  own_mark mark = or_left (bytes_eq mark mark) (list_any (gives_type mark mark) rs) (own_text mark)

  own_interface : (a : Interface) → keeps_interface rs a a ≡ true
  own_interface a = and_from _ _ (own_text a.name) (and_from _ _ (own_text a.mode) (own_mark a.mark))

  own_kind : (k : Kind) → same_kind k k ≡ true
  own_kind Type' = refl
  own_kind Subtype' = refl
  own_kind Constant' = refl
  own_kind Function' = refl

  own_item : (a : Item) → HasOwnName names a → keeps_item names rs a a ≡ true
  own_item a h =
      and_from _ _ (own_kind a.kind)
      (and_from _ _ ((bytes_eq-Decides _ _).1 h) (for_itself (keeps_mark rs) a.marks (all_kept (keeps_mark rs) own_mark a.marks)))

  own_items : (is : List Item) → AllByRecursion (HasOwnName names) is → AllByRecursion (λ i. keeps_item names rs i i ≡ true) is
  own_items [] h = tt
  own_items (i ∷ is) h = (own_item i h.0, own_items is h.1)

  own_unit : (u : UnitInterface) → HaveOwnNames names u → keeps_unit names rs u u ≡ true
  own_unit (OfEntity name generics ports) h =
      and_from _ _ (own_text name)
      (and_from _ _ (for_itself (keeps_interface rs) generics (all_kept (keeps_interface rs) own_interface generics))
      (in_itself (keeps_interface rs) ports (all_kept (keeps_interface rs) own_interface ports)))
  own_unit (OfArchitecture name entity) h = and_from _ _ (own_text name) (own_text entity)
  own_unit (OfPackage name items) h = and_from _ _ (own_text name) (in_itself (keeps_item names rs) items (own_items items h))

  own_units : (us : List UnitInterface) → AllByRecursion (HaveOwnNames names) us → AllByRecursion (λ u. keeps_unit names rs u u ≡ true) us
  own_units [] h = tt
  own_units (u ∷ us) h = (own_unit u h.0, own_units us h.1)

pub own_interfaces : OwnInterfaceIsKept
own_interfaces names rs tree h = record { kept = in_itself (keeps_unit names rs) (interface_of tree) (own_units names rs (interface_of tree) h) }
