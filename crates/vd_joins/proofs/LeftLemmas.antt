-- What a name leaves of the steps of a path. No name has a dash, so that a caller can name each in `#[tactic(auto, using(..))]`.
use Rattle.std.proofs.Common.{◌≡◌, ℕ, List, [], ◌∷◌, ◌++◌, Option, Some, None, Bool, true, false, length, refl, sym, ap, ◌∙◌, append_assoc, arith}
use Rattle.std.specs.Prelude.{bytes_eq, option_and_then, if◌then◌else◌}
use Rattle.std.proofs.lemmas.List.{append-nil}
use Rattle.vd_trees.specs.declared.paths.Label.{Label}
use Rattle.vd_trees.specs.declared.paths.Path.{Path}
use Rattle.vd_trees.specs.declared.paths.PathIndex.{PathIndex}
use Rattle.vd_trees.specs.declared.paths.PathStep.{PathStep}
use Rattle.vd_trees.specs.declared.paths.PathStep.TheVariants.{Field, Index}
use Rattle.vd_trees.specs.Paths.{dotted}
use Rattle.vd_first_names.specs.Joins.{label_names}
use Rattle.vd_joins.specs.Behind.{behind, behind_labels, left_behind}
use Rattle.vd_joins.specs.Joins.{left_by, object_names}
use Rattle.vd_joins.proofs.BehindLemmas.{behind_append, behind_trailing, dotted_object, ends, eq_behind, trailing}

-- a name behind others
dotted_snoc : (x : List ℕ) (xs : List (List ℕ)) (f : List ℕ) → dotted (x ∷ (xs ++ f ∷ [])) ≡ dotted (x ∷ xs) ++ 46 ∷ f
dotted_snoc x [] f = refl
dotted_snoc x (y ∷ ys) f = ap (λ t. x ++ 46 ∷ t) (dotted_snoc y ys f) ∙ sym (append_assoc x (46 ∷ dotted (y ∷ ys)) (46 ∷ f))

is_whole : (name front : List ℕ) → bytes_eq name front ≡ ends (behind front name) []
is_whole name front = ap (bytes_eq name) (sym (append-nil front)) ∙ eq_behind name front []

-- where nothing more is taken
none_taken : (o : Option (List ℕ)) (b : Bool) → b ≡ ends o [] → (if b then Some [] else None) ≡ left_behind o []
none_taken None b is = ap (λ v. if v then Some [] else None) is
none_taken (Some []) b is = ap (λ v. if v then Some [] else None) is
none_taken (Some (c ∷ cs)) b is = ap (λ v. if v then Some [] else None) is

at_index : (o : Option (List ℕ)) (b : Bool) (i : PathIndex) (steps : List PathStep) → b ≡ ends o []
    → (if b then Some (Index i ∷ steps) else None) ≡ left_behind o (Index i ∷ steps)
at_index None b i steps is = ap (λ v. if v then Some (Index i ∷ steps) else None) is
at_index (Some []) b i steps is = ap (λ v. if v then Some (Index i ∷ steps) else None) is
at_index (Some (c ∷ cs)) b i steps is = ap (λ v. if v then Some (Index i ∷ steps) else None) is

at_field : (o : Option (List ℕ)) (b : Bool) (f : List ℕ) (steps : List PathStep) (more : Option (List PathStep)) → b ≡ ends o []
    → more ≡ left_behind (option_and_then (behind (46 ∷ f)) o) steps
    → (if b then Some (Field f ∷ steps) else more) ≡ left_behind o (Field f ∷ steps)
at_field None b f steps more is other = ap (λ v. if v then Some (Field f ∷ steps) else more) is ∙ other
at_field (Some []) b f steps more is other = ap (λ v. if v then Some (Field f ∷ steps) else more) is
at_field (Some (c ∷ cs)) b f steps more is other = ap (λ v. if v then Some (Field f ∷ steps) else more) is ∙ other

left_from : (name x : List ℕ) (xs : List (List ℕ)) (steps : List PathStep) → left_by name (x ∷ xs) steps ≡ left_behind (behind (dotted (x ∷ xs)) name) steps
left_from name x xs [] = none_taken (behind (dotted (x ∷ xs)) name) (bytes_eq name (dotted (x ∷ xs))) (is_whole name (dotted (x ∷ xs)))
left_from name x xs (Index i ∷ steps) = at_index (behind (dotted (x ∷ xs)) name) (bytes_eq name (dotted (x ∷ xs))) i steps (is_whole name (dotted (x ∷ xs)))
left_from name x xs (Field f ∷ steps) =
    at_field (behind (dotted (x ∷ xs)) name) (bytes_eq name (dotted (x ∷ xs))) f steps (left_by name (x ∷ (xs ++ f ∷ [])) steps) (is_whole name (dotted (x ∷ xs)))
    (left_from name x (xs ++ f ∷ []) steps
    ∙ ap (λ d. left_behind (behind d name) steps) (dotted_snoc x xs f)
    ∙ ap (λ o. left_behind o steps) (behind_append (dotted (x ∷ xs)) (46 ∷ f) name))

-- the labels round an object, and the object
left_of : (name : List ℕ) (ls : List Label) (o : List ℕ) (steps : List PathStep) → left_by name (label_names ls ++ o ∷ []) steps ≡ left_behind (behind (dotted (label_names ls ++ o ∷ [])) name) steps
left_of name [] o steps = left_from name o [] steps
left_of name (l ∷ ls) o steps = left_from name l.name (label_names ls ++ o ∷ []) steps

behind_object : (name : List ℕ) (ls : List Label) (o : List ℕ) → behind (dotted (label_names ls ++ o ∷ [])) name ≡ option_and_then (behind o) (behind_labels ls name)
behind_object name ls o =
    ap (λ d. behind d name) (dotted_object ls o) ∙ behind_append (trailing ls) o name ∙ ap (option_and_then (behind o)) (sym (behind_trailing ls name))

whole : (name : List ℕ) (p : Path) → left_by name (object_names p) p.rest ≡ left_behind (option_and_then (behind p.object) (behind_labels p.generates name)) p.rest
whole name p = left_of name p.generates p.object p.rest ∙ ap (λ o. left_behind o p.rest) (behind_object name p.generates p.object)

pub object_missing : (name : List ℕ) (p : Path) → None ≡ behind_labels p.generates name → None ≡ left_by name (object_names p) p.rest
object_missing name p e = ap (λ o. left_behind (option_and_then (behind p.object) o) p.rest) e ∙ sym (whole name p)

pub object_other : (name rest : List ℕ) (p : Path) → Some rest ≡ behind_labels p.generates name → None ≡ behind p.object rest → None ≡ left_by name (object_names p) p.rest
object_other name rest p e f =
    ap (λ o. left_behind o p.rest) f ∙ ap (λ o. left_behind (option_and_then (behind p.object) o) p.rest) e ∙ sym (whole name p)

pub object_there : (name rest left : List ℕ) (p : Path) (r : Option (List PathStep)) → Some rest ≡ behind_labels p.generates name → Some left ≡ behind p.object rest
    → r ≡ left_behind (Some left) p.rest → r ≡ left_by name (object_names p) p.rest
object_there name rest left p r e f is =
    is ∙ ap (λ o. left_behind o p.rest) f ∙ ap (λ o. left_behind (option_and_then (behind p.object) o) p.rest) e ∙ sym (whole name p)

-- ---- the loop over steps

pub text_ends : (rest : List ℕ) (left : List PathStep) (want : Option (List PathStep)) → length rest ≡ 0 → left_behind (Some rest) left ≡ want → Some left ≡ want
text_ends [] left want none before = before
text_ends (c ∷ cs) left want none before = absurd (omega (arith, none))

pub steps_end : (rest cs : List ℕ) (c : ℕ) (left : List PathStep) (want : Option (List PathStep)) → rest ≡ c ∷ cs → length left ≡ 0 → left_behind (Some rest) left ≡ want → None ≡ want
steps_end rest cs c [] want is none before = ap (λ r. left_behind (Some r) []) (sym is) ∙ before
steps_end rest cs c (x ∷ xs) want is none before = absurd (omega (arith, none))

pub field_passed : (rest cs next : List ℕ) (c : ℕ) (left others : List PathStep) (x : PathStep) (f : List ℕ) (want : Option (List PathStep)) → rest ≡ c ∷ cs → left ≡ x ∷ others → x ≡ Field f
    → Some next ≡ behind (46 ∷ f) rest → left_behind (Some rest) left ≡ want → left_behind (Some next) others ≡ want
field_passed rest cs next c left others x f want is first field passed before =
    ap (λ o. left_behind o others) (passed ∙ ap (behind (46 ∷ f)) is)
    ∙ (λ i. left_behind (Some (sym is i)) (sym field i ∷ others)) ∙ ap (left_behind (Some rest)) (sym first) ∙ before

pub field_missing : (rest cs : List ℕ) (c : ℕ) (left others : List PathStep) (x : PathStep) (f : List ℕ) (want : Option (List PathStep)) → rest ≡ c ∷ cs → left ≡ x ∷ others → x ≡ Field f
    → None ≡ behind (46 ∷ f) rest → left_behind (Some rest) left ≡ want → None ≡ want
field_missing rest cs c left others x f want is first field missing before =
    ap (λ o. left_behind o others) (missing ∙ ap (behind (46 ∷ f)) is)
    ∙ (λ i. left_behind (Some (sym is i)) (sym field i ∷ others)) ∙ ap (left_behind (Some rest)) (sym first) ∙ before

pub index_there : (rest cs : List ℕ) (c : ℕ) (left others : List PathStep) (x : PathStep) (k : PathIndex) (want : Option (List PathStep)) → rest ≡ c ∷ cs → left ≡ x ∷ others → x ≡ Index k
    → left_behind (Some rest) left ≡ want → None ≡ want
index_there rest cs c left others x k want is first index before =
    (λ i. left_behind (Some (sym is i)) (sym index i ∷ others)) ∙ ap (left_behind (Some rest)) (sym first) ∙ before

pub ruleset left_steps = (text_ends, steps_end, field_passed, field_missing, index_there)

pub ruleset left_by_labels = (object_missing, object_other, object_there)
