-- The syntax of trees that are put together.
use Rattle.std.proofs.Common.{◌≡◌, ℕ, List, refl, ap}
use Rattle.vd_bytes.specs.declared.places.Place.{Place}
use Rattle.vd_forest.specs.Forest.{Forest, nothing, more, joined}
use Rattle.vd_forms.specs.declared.form.Form.{Form}
use Rattle.vd_resolved.specs.Trees.{syntax_of}
use Rattle.vd_resolved.specs.declared.node.Resolved.{Resolved}
use Rattle.vd_rewriting.specs.Forms.{with_forms}

-- the same node over parts that are the same, and before trees that are
pub more_same : {F : Type 0} (f : F) (text : List ℕ) (place : Place) {parts parts' next next' : Forest F} → parts ≡ parts' → next ≡ next'
    → more f text place parts next ≡ more f text place parts' next'
more_same f text place p n = λ i. more f text place (p i) (n i)

pub syntax_joined : (a b : Forest Resolved) → syntax_of (joined a b) ≡ joined (syntax_of a) (syntax_of b)
syntax_joined nothing b = refl
syntax_joined (more node text place parts next) b = ap (more node.form text place (syntax_of parts)) (syntax_joined next b)

-- what changes no form
pub syntax_changed : (change : Resolved → Resolved) → ((n : Resolved) → (change n).form ≡ n.form) → (t : Forest Resolved)
    → syntax_of (with_forms change t) ≡ syntax_of t
syntax_changed change same nothing = refl
syntax_changed change same (more node text place parts next) =
    λ i. more (same node i) text place (syntax_changed change same parts i) (syntax_changed change same next i)

-- nodes of the forms alone
pub syntax_given : (node : Form → Resolved) → ((f : Form) → (node f).form ≡ f) → (t : Forest Form) → syntax_of (with_forms node t) ≡ t
syntax_given node same nothing = refl
syntax_given node same (more f text place parts next) = λ i. more (same f i) text place (syntax_given node same parts i) (syntax_given node same next i)

pub joined_nothing : {F : Type 0} (t : Forest F) → joined t nothing ≡ t
joined_nothing nothing = refl
joined_nothing (more f text place parts next) = ap (more f text place parts) (joined_nothing next)

pub joined_joined : {F : Type 0} (a b c : Forest F) → joined (joined a b) c ≡ joined a (joined b c)
joined_joined nothing b c = refl
joined_joined (more f text place parts next) b c = ap (more f text place parts) (joined_joined next b c)
