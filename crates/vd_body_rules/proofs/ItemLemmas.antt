-- Ends of lists that are gone through side by side. No name has a dash, so that a caller can name each in `#[tactic(auto, using(..))]`.
use Rattle.std.proofs.Common.{◌≡◌, ◌≤◌, List, [], ap, drop, length, refl, sym, ℕ, ◌++◌, ◌∙◌, ◌∷◌}
use Rattle.std.proofs.lemmas.List.{append-nil, drop_all}
use Rattle.vd_body_rules.specs.Items.{items_of}
use Rattle.vd_body_rules.specs.declared.items.Item.{Item}
use Rattle.vd_forest.specs.Forest.{Forest}
use Rattle.vd_forms.specs.declared.form.Form.{Form}
use Rattle.vd_resolved.specs.declared.node.Resolved.{Resolved}
use Rattle.vd_value_rules.specs.Bodies.{InterfaceItem, each_declared, numbers_paired}

none_numbered : (f : Form) (names : List (List ℕ)) (numbers : List ℕ) (k : ℕ) (trees : List (Forest Resolved)) → length numbers ≤ k
    → each_declared f names (drop k numbers) trees ≡ []
none_numbered f names numbers k trees past = ap (λ ns. each_declared f names ns trees) (drop_all k numbers past) ∙ none names
  where
    none : (ns : List (List ℕ)) → each_declared f ns [] trees ≡ []
    none [] = refl
    none (n ∷ ns) = refl

no_pairs : (xs : List InterfaceItem) (ys : List Item) (k : ℕ) → length ys ≤ k → numbers_paired xs (items_of (drop k ys)) ≡ []
no_pairs xs ys k past = ap (λ zs. numbers_paired xs (items_of zs)) (drop_all k ys past) ∙ none xs
  where
    none : (zs : List InterfaceItem) → numbers_paired zs [] ≡ []
    none [] = refl
    none (z ∷ zs) = refl

nothing_more : {A : Type 0} (found rest want : List A) → rest ≡ [] → found ++ rest ≡ want → found ≡ want
nothing_more found rest want none is = sym (append-nil found) ∙ ap (λ xs. found ++ xs) (sym none) ∙ is

pub each_ended : (f : Form) (names : List (List ℕ)) (numbers : List ℕ) (k : ℕ) (trees : List (Forest Resolved)) (found want : List InterfaceItem)
    → found ++ each_declared f (drop k names) (drop k numbers) trees ≡ want → length numbers ≤ k → found ≡ want
each_ended f names numbers k trees found want is past =
    nothing_more found (each_declared f (drop k names) (drop k numbers) trees) want (none_numbered f (drop k names) numbers k trees past) is

pub pairs_ended : (xs ys : List Item) (k : ℕ) (found want : List (ℕ × ℕ))
    → found ++ numbers_paired (items_of (drop k xs)) (items_of (drop k ys)) ≡ want → length ys ≤ k → found ≡ want
pairs_ended xs ys k found want is past =
    nothing_more found (numbers_paired (items_of (drop k xs)) (items_of (drop k ys))) want (no_pairs (items_of (drop k xs)) ys k past) is

pub first_ended : (xs ys : List Item) (k : ℕ) (found want : List (ℕ × ℕ))
    → found ++ numbers_paired (items_of (drop k xs)) (items_of (drop k ys)) ≡ want → length xs ≤ k → found ≡ want
first_ended xs ys k found want is past =
    nothing_more found (numbers_paired (items_of (drop k xs)) (items_of (drop k ys))) want
    (ap (λ zs. numbers_paired (items_of zs) (items_of (drop k ys))) (drop_all k xs past)) is
