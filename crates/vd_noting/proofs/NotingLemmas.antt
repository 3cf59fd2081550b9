-- What a walk made that leaves each node as it is. No name has a dash, so that a caller can name it in `#[tactic(auto, using(..))]`.
use Rattle.std.proofs.Common.{◌≡◌, ℕ, List, [], ◌∷◌, ap, ◌∙◌}
use Rattle.vd_bytes.specs.declared.places.Place.{Place}
use Rattle.vd_forest.specs.Forest.{Forest, nothing, more, joined}
use Rattle.vd_forest.proofs.StoreLemmas.{extends_same}
use Rattle.vd_notes.specs.declared.noted.Noted.{Noted}
use Rattle.vd_noting.specs.Notes.{is_noted, without_notes}
use Rattle.vd_resolved.specs.declared.node.Resolved.{Resolved}
use Rattle.vd_rewriting.proofs.FormLaws.{joined_forms}
use Rattle.vd_tours.specs.Tours.{AreMade, IsAtPlace, IsMade, Rebuilt, Replaced}
use Rattle.vd_walks.specs.Positions.{Along, Down, Position, tree_with}

pub at_start : (store : List (Forest Noted)) → IsAtPlace {F = Resolved} (λ before ps. Unit {0}) store
at_start store = record { before = store; grown = extends_same store; here = []; round = []; known = tt }

-- one tree, whose parts became those that were walked
one_noted : (p : Position Resolved) (form : Resolved) (text : List ℕ) (place : Place) (parts : Forest Resolved) (made_of_parts : Forest Noted → Type 0) (g : Forest Noted)
    → ((inner : Forest Noted) → made_of_parts inner → without_notes inner ≡ parts)
    → IsMade {F = Resolved} (λ _ _ _. ⊥) (λ _ x inner made. is_noted x inner made) p (tree_with form text place parts) made_of_parts g
    → without_notes g ≡ more form text place parts nothing
one_noted p form text place parts made_of_parts g inside (Replaced is) = absurd is
one_noted p form text place parts made_of_parts g inside (Rebuilt inner made is) = is ∙ ap (λ h. more form text place h nothing) (inside inner made)

-- the trees without their notes are those that were walked
pub all_noted : (p : Position Resolved) (f : Forest Resolved) (g : Forest Noted) → AreMade {F = Resolved} (λ _ _ _. ⊥) (λ _ x inner made. is_noted x inner made) p f g → without_notes g ≡ f
all_noted p nothing g are = ap without_notes are
all_noted p (more form text place parts next) g are =
    let x = tree_with form text place parts in
    ap without_notes are.is ∙ joined_forms (λ n. n.node) are.first are.rest
    ∙ ap (λ h. joined h (without_notes are.rest))
    (one_noted p form text place parts (AreMade {F = Resolved} (λ _ _ _. ⊥) (λ _ y inner made. is_noted y inner made) (Down x ∷ p) parts) are.first (λ inner made. all_noted (Down x ∷ p) parts inner made) are.made)
    ∙ ap (more form text place parts) (all_noted (Along x ∷ p) next are.rest are.behind)

pub ruleset noting = (at_start, all_noted)
