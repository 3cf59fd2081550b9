-- Where the names that a process reads are known, what it does depends on the values of ports alone.
use Rattle.std.proofs.Common.{◌≡◌, ◌<◌, ℕ, zero, suc, Bool, true, false, List, [], ◌∷◌, ◌++◌, length, refl, sym, ap, ◌∙◌, subst, arith, append-nil}
use Rattle.std.proofs.lemmas.List.{map-append}
use Rattle.std.specs.Prelude.{if◌then◌else◌, slice_index_or, bytes_eq, Contains}
use Rattle.std.specs.List.{AllByRecursion, list_any}
use Rattle.vd_forest.specs.Forest.{Forest, nothing, erased}
use Rattle.vd_forest.specs.Texts.{with_text}
use Rattle.vd_first_trees.specs.declared.form.Form.{Form}
use Rattle.vd_values.specs.declared.logic.Logic.{Logic}
use Rattle.vd_values.specs.declared.logic.Logic.TheVariants.{X}
use Rattle.vd_values.specs.LogicTables.{and_of, not_of}
use Rattle.vd_first_lex.specs.declared.tokens.Token.{Token}
use Rattle.vd_first_grammar.specs.Derivations.{Expression, name, brackets, inverted, conjoined}
use Rattle.vd_first_grammar.specs.Conditions.{texts_of, expression_names}
use Rattle.vd_first_grammar.specs.Shapes.{expression_shape}
use Rattle.vd_first_grammar.proofs.RunExpressions.{bytes_eq_same}
use Rattle.vd_first_elaboration.specs.Expressions.{values, names_read, each_once}
use Rattle.vd_first_elaboration.specs.Processes.{number_of}

-- ---- the number of a known name

number_if : (b : Bool) (n k : ℕ) → k < n → (if b then 0 else suc k) < suc n
number_if true n k l = omega arith
number_if false n k l = omega arith

first_number : (b : Bool) (n k : ℕ) → b ≡ true → (if b then 0 else suc k) < suc n
first_number true n k e = omega arith
first_number false n k e = cc

known_at : (names : List (List ℕ)) (x : List ℕ) (k : ℕ) → k < length names → slice_index_or names k x ≡ x → number_of names x < length names
known_at [] x k l e = absurd (omega arith)
known_at (n ∷ names) x zero l e =
    first_number (bytes_eq n x) (length names) (number_of names x) (subst (λ y. bytes_eq n y ≡ true) e (bytes_eq_same n))
known_at (n ∷ names) x (suc k) l e = number_if (bytes_eq n x) (length names) (number_of names x) (known_at names x k (omega arith) e)

pub number_known : (names : List (List ℕ)) (x : List ℕ) → Contains names x → number_of names x < length names
number_known names x c = known_at names x c.0 c.1 c.2

-- ---- values

-- the values of the names are the same
abbrev pub AgreeOn : (List ℕ → Logic) → (List ℕ → Logic) → List (List ℕ) → Type 0
AgreeOn f g names = AllByRecursion (λ x. f x ≡ g x) names

agree_front : (f g : List ℕ → Logic) (xs ys : List (List ℕ)) → AgreeOn f g (xs ++ ys) → AgreeOn f g xs
agree_front f g [] ys a = tt
agree_front f g (x ∷ xs) ys a = (a.0, agree_front f g xs ys a.1)

agree_behind : (f g : List ℕ → Logic) (xs ys : List (List ℕ)) → AgreeOn f g (xs ++ ys) → AgreeOn f g ys
agree_behind f g [] ys a = a
agree_behind f g (x ∷ xs) ys a = agree_behind f g xs ys a.1

module _ (f g : List ℕ → Logic) where
  -- the values of an expression before others
  pub values_agree : (e : Expression) (next : Forest Form) → AgreeOn f g (texts_of (expression_names e)) → values f (erased next) ≡ values g (erased next) → values f (erased (expression_shape e next)) ≡ values g (erased (expression_shape e next))
  values_agree (name t) next a rest = let x : f t.text ≡ g t.text = a.0 in cc
  values_agree (brackets o e c) next a rest = values_agree e next a rest
  values_agree (inverted w e) next a rest =
      let x = values_agree e nothing a refl in
      ap (λ vs. not_of (slice_index_or vs 0 X) ∷ values f (erased next)) x ∙ ap (λ vs. not_of (slice_index_or (values g (erased (expression_shape e nothing))) 0 X) ∷ vs) rest
  values_agree (conjoined e w h) next a rest =
      let both = subst (AgreeOn f g) (map-append (λ (t : Token). t.text) (expression_names e) (expression_names h)) a in
      let left = agree_front f g (texts_of (expression_names e)) (texts_of (expression_names h)) both in
      let right = agree_behind f g (texts_of (expression_names e)) (texts_of (expression_names h)) both in
      let x = values_agree e (expression_shape h nothing) left (values_agree h nothing right refl) in
      ap (λ vs. and_of (slice_index_or vs 0 X) (slice_index_or vs 1 X) ∷ values f (erased next)) x
      ∙ ap (λ vs. and_of (slice_index_or (values g (erased (expression_shape e (expression_shape h nothing)))) 0 X) (slice_index_or (values g (erased (expression_shape e (expression_shape h nothing)))) 1 X) ∷ vs) rest

-- ---- the names of an expression

pub names_of_shape : (e : Expression) (next : Forest Form) → names_read (erased (expression_shape e next)) ≡ texts_of (expression_names e) ++ names_read (erased next)
names_of_shape (name t) next = refl
names_of_shape (brackets o e c) next = names_of_shape e next
names_of_shape (inverted w e) next = ap (λ ns. ns ++ names_read (erased next)) (names_of_shape e nothing ∙ append-nil (texts_of (expression_names e)))
names_of_shape (conjoined e w h) next =
    let inner = names_of_shape e (expression_shape h nothing) ∙ ap (λ ns. texts_of (expression_names e) ++ ns) (names_of_shape h nothing ∙ append-nil (texts_of (expression_names h))) in
    ap (λ ns. ns ++ names_read (erased next)) (inner ∙ sym (map-append (λ (t : Token). t.text) (expression_names e) (expression_names h)))

-- ---- names, each once

keep_one : (P : List ℕ → Type 0) (x : List ℕ) → P x → (before : List (List ℕ)) → AllByRecursion P before → AllByRecursion P (before ++ x ∷ [])
keep_one P x p [] a = (p, tt)
keep_one P x p (y ∷ ys) a = (a.0, keep_one P x p ys a.1)

keep_all : (P : List ℕ → Type 0) (b : Bool) (before : List (List ℕ)) (x : List ℕ) → AllByRecursion P before → P x → AllByRecursion P (if b then before else before ++ x ∷ [])
keep_all P true before x a p = a
keep_all P false before x a p = keep_one P x p before a

pub once_keeps : (P : List ℕ → Type 0) (before xs : List (List ℕ)) → AllByRecursion P before → AllByRecursion P xs → AllByRecursion P (each_once before xs)
once_keeps P before [] b a = b
once_keeps P before (x ∷ xs) b a =
    once_keeps P (with_text before x) xs (keep_all P (list_any (bytes_eq x) before) before x b a.0) a.1
