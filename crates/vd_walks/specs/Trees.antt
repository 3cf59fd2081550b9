-- What trees come to, one after the other.
use Rattle.std.specs.Prelude.{◌≡◌, List, [], ◌∷◌, Vec, reverse}
use Rattle.std.specs.Global.{Global}
use Rattle.std.specs.List.{All}
use Rattle.vd_forest.specs.Forest.{Forest, more, nothing}

-- each is what a tree comes to, which is the first one of a forest
abbrev pub AreTrees : {F S : Type 0} → (Forest F → S → Type 0) → Forest F → List S → Type 0
AreTrees comes_to nothing [] = Unit {0}
AreTrees comes_to (more form text place parts next) (s ∷ ss) = comes_to (more form text place parts next) s × AreTrees comes_to next ss
AreTrees comes_to _ _ = ⊥

-- several forests, each with what its last tree comes to first
abbrev pub AreForests : {F S : Type 0} → (Forest F → S → Type 0) → List (Forest F) → List (Vec S Global) → Type 0
AreForests comes_to [] [] = Unit {0}
AreForests comes_to (f ∷ fs) (v ∷ vs) = AreTrees comes_to f (reverse v.items) × AreForests comes_to fs vs
AreForests comes_to _ _ = ⊥

-- all that stands for some forests fits
abbrev pub AreSound : {S : Type 0} → (S → Type 0) → List (Vec S Global) → Type 0
AreSound is_sound vs = All (λ v. All is_sound v.items) vs

-- a forest takes what stands for its parts and the trees behind its first one
abbrev pub Takes : {F : Type 0} → Forest F → List (Forest F) → List (Forest F) → Type 0
Takes nothing fs rest = fs ≡ rest
Takes (more form text place parts next) fs rest = fs ≡ parts ∷ next ∷ rest
