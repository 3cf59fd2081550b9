-- What a row's name takes of a path: names with dots between them tell how many fields stand in them.
use Rattle.std.proofs.Common.{◌≡◌, ◌<◌, ℕ, suc, ◌+◌, Bool, true, false, List, [], ◌∷◌, ◌++◌, length, map, Option, Some, None, refl, sym, ap, ◌∙◌, subst, arith, append_assoc, length-append}
use Rattle.std.proofs.lemmas.Bool.{cond-true, cond-false, false_from_ne_true}
use Rattle.std.proofs.lemmas.Slice.Eq.{bytes_eq-Decides}
use Rattle.std.specs.Prelude.{bytes_eq, if◌then◌else◌}
use Rattle.vd_trees.specs.declared.paths.PathStep.{PathStep}
use Rattle.vd_trees.specs.declared.paths.PathStep.TheVariants.{Field, Index}
use Rattle.vd_trees.specs.Paths.{dotted}
use Rattle.vd_first_names.specs.Joins.{field_steps}
use Rattle.vd_joins.specs.Joins.{left_by}

-- ---- more names make a longer text

longer : (x : List ℕ) (front : List (List ℕ)) (f : List ℕ) (fs : List (List ℕ)) → length (dotted (x ∷ front)) < length (dotted ((x ∷ front) ++ f ∷ fs))
longer x [] f fs = let e = length-append x (46 ∷ dotted (f ∷ fs)) in omega arith
longer x (y ∷ ys) f fs =
    let h = longer y ys f fs in
    let e = length-append x (46 ∷ dotted (y ∷ ys)) in
    let g = length-append x (46 ∷ dotted ((y ∷ ys) ++ f ∷ fs)) in
    omega arith

differ : (x : List ℕ) (front : List (List ℕ)) (f : List ℕ) (fs : List (List ℕ)) → bytes_eq (dotted ((x ∷ front) ++ f ∷ fs)) (dotted (x ∷ front)) ≡ false
differ x front f fs =
    false_from_ne_true _ (λ e.
    let same : length (dotted ((x ∷ front) ++ f ∷ fs)) ≡ length (dotted (x ∷ front)) = ap length ((bytes_eq-Decides _ _).0 e) in
    let h = longer x front f fs in omega arith)

-- ---- a name of these takes no field

all_left : (name : List ℕ) (front : List (List ℕ)) (steps : List PathStep) → name ≡ dotted front → left_by name front steps ≡ Some steps
all_left name front [] e = cond-true (bytes_eq name (dotted front)) _ _ ((bytes_eq-Decides _ _).1 e)
all_left name front (Index i ∷ steps) e = cond-true (bytes_eq name (dotted front)) _ _ ((bytes_eq-Decides _ _).1 e)
all_left name front (Field f ∷ steps) e = cond-true (bytes_eq name (dotted front)) _ _ ((bytes_eq-Decides _ _).1 e)

-- ---- a name of these and some fields leaves what stands behind them

left_behind : (fields : List (List ℕ)) (x : List ℕ) (front : List (List ℕ)) (behind : List PathStep) (name : List ℕ) → name ≡ dotted ((x ∷ front) ++ fields)
    → left_by name (x ∷ front) (field_steps fields ++ behind) ≡ Some behind
left_behind [] x front behind name e = all_left name (x ∷ front) behind (e ∙ ap dotted (Rattle.std.proofs.Common.append-nil (x ∷ front)))
left_behind (f ∷ fs) x front behind name e =
    cond-false (bytes_eq name (dotted (x ∷ front))) _ _ (ap (λ n. bytes_eq n (dotted (x ∷ front))) e ∙ differ x front f fs)
    ∙ left_behind fs x (front ++ f ∷ []) behind name (e ∙ ap (λ ns. dotted (x ∷ ns)) (sym (append_assoc front (f ∷ []) fs)))

pub left_by_name : (labels : List (List ℕ)) (object : List ℕ) (fields : List (List ℕ)) (behind : List PathStep) (name : List ℕ) → name ≡ dotted (labels ++ object ∷ fields)
    → left_by name (labels ++ object ∷ []) (field_steps fields ++ behind) ≡ Some behind
left_by_name [] object fields behind name e = left_behind fields object [] behind name e
left_by_name (l ∷ ls) object fields behind name e =
    left_behind fields l (ls ++ object ∷ []) behind name (e ∙ ap (λ ns. dotted (l ∷ ns)) (sym (append_assoc ls (object ∷ []) fields)))

-- ---- and what a name leaves stands behind the fields that it takes

pub record Takes (name : List ℕ) (front : List (List ℕ)) (steps behind : List PathStep) : Type 0 where
  pub fields : List (List ℕ)
  pub steps_are : steps ≡ field_steps fields ++ behind
  pub name_is : name ≡ dotted (front ++ fields)

takes_none : (name : List ℕ) (front : List (List ℕ)) (steps behind : List PathStep) → bytes_eq name (dotted front) ≡ true → steps ≡ behind → Takes name front steps behind
takes_none name front steps behind t e =
    record { fields = []; steps_are = e; name_is = (bytes_eq-Decides _ _).0 t ∙ ap dotted (sym (Rattle.std.proofs.Common.append-nil front)) }

same_some : (x y : List PathStep) → Some x ≡ Some y → x ≡ y
same_some x y e = cc

-- the last test: nothing further is taken
takes_end : (b : Bool) (name : List ℕ) (front : List (List ℕ)) (steps behind : List PathStep) → bytes_eq name (dotted front) ≡ b
    → (if b then Some steps else None) ≡ Some behind → Takes name front steps behind
takes_end true name front steps behind t e = takes_none name front steps behind t (same_some steps behind e)
takes_end false name front steps behind t e = cc

takes_field : (name : List ℕ) (front : List (List ℕ)) (f : List ℕ) (steps behind : List PathStep) → Takes name (front ++ f ∷ []) steps behind → Takes name front (Field f ∷ steps) behind
takes_field name front f steps behind t =
    record { fields = f ∷ t.fields; steps_are = ap (λ s. Field f ∷ s) t.steps_are; name_is = t.name_is ∙ ap dotted (append_assoc front (f ∷ []) t.fields) }

takes_or : (b : Bool) (name : List ℕ) (front : List (List ℕ)) (f : List ℕ) (steps behind : List PathStep) → bytes_eq name (dotted front) ≡ b
    → (left_by name (front ++ f ∷ []) steps ≡ Some behind → Takes name (front ++ f ∷ []) steps behind)
    → (if b then Some (Field f ∷ steps) else left_by name (front ++ f ∷ []) steps) ≡ Some behind → Takes name front (Field f ∷ steps) behind
takes_or true name front f steps behind t go e = takes_none name front (Field f ∷ steps) behind t (same_some (Field f ∷ steps) behind e)
takes_or false name front f steps behind t go e = takes_field name front f steps behind (go e)

pub takes : (steps : List PathStep) (name : List ℕ) (front : List (List ℕ)) (behind : List PathStep) → left_by name front steps ≡ Some behind → Takes name front steps behind
takes [] name front behind e = takes_end (bytes_eq name (dotted front)) name front [] behind refl e
takes (Index i ∷ steps) name front behind e = takes_end (bytes_eq name (dotted front)) name front (Index i ∷ steps) behind refl e
takes (Field f ∷ steps) name front behind e =
    takes_or (bytes_eq name (dotted front)) name front f steps behind refl (takes steps name (front ++ f ∷ []) behind) e
