-- The postfix form of expressions gives their values.
use Rattle.std.proofs.Common.{◌≡◌, ℕ, ◌-◌, List, [], ◌∷◌, ◌++◌, length, take, drop, refl, sym, ap, ap₂, ◌∙◌, arith, append-nil, append_assoc, length-append}
use Rattle.std.specs.Prelude.{slice_index_or}
use Rattle.vd_forest.specs.Forest.{Forest, nothing, more, tree_count, erased}
use Rattle.vd_forest.proofs.ForestLemmas.{tree_count_erased}
use Rattle.vd_first_trees.specs.declared.form.Form.{Form}
use Rattle.vd_values.specs.declared.logic.Logic.{Logic}
use Rattle.vd_values.specs.declared.logic.Logic.TheVariants.{X}
use Rattle.vd_first_elaboration.specs.Expressions.{node_value, values, value}
use Rattle.vd_first_processes.specs.declared.expressions.Operation.{Operation}
use Rattle.vd_first_processes.specs.Operations.{operation_of, operations, after_operation, after_operations, value_of}

-- places play no role
pub operations_erased : (numbers : List ℕ → ℕ) (f : Forest Form) → operations numbers (erased f) ≡ operations numbers f
operations_erased numbers nothing = refl
operations_erased numbers (more f t p parts next) =
    let a = operations_erased numbers parts in
    let b = operations_erased numbers next in
    let c : operation_of numbers f t (erased parts) ≡ operation_of numbers f t parts =
    ap (λ n. record { form = f; object = numbers t; parts = n }) (tree_count_erased parts) in
    cc

-- the front and the back of two lists
front : {A : Type 0} (xs ys : List A) → take (length xs) (xs ++ ys) ≡ xs
front [] ys = refl
front (x ∷ xs) ys = ap (λ zs. x ∷ zs) (front xs ys)

back : {A : Type 0} (xs ys : List A) → drop (length xs) (xs ++ ys) ≡ ys
back [] ys = refl
back (x ∷ xs) ys = back xs ys

module _ (objects : ℕ → Logic) where
  after_append : (stack : List Logic) (xs ys : List Operation) → after_operations objects stack (xs ++ ys) ≡ after_operations objects (after_operations objects stack xs) ys
  after_append stack [] ys = refl
  after_append stack (x ∷ xs) ys = after_append (after_operation objects stack x) xs ys

  module _ (numbers : List ℕ → ℕ) where
    abbrev own_values : Forest Form → List Logic
    own_values f = values (λ t. objects (numbers t)) f

    values_long : (f : Forest Form) → length (own_values f) ≡ tree_count f
    values_long nothing = refl
    values_long (more f t p parts next) = omega (arith, values_long next)

    node_taken : (stack : List Logic) (f : Form) (t : List ℕ) (parts : Forest Form) → after_operation objects (stack ++ own_values parts) (operation_of numbers f t parts) ≡ stack ++ node_value f (objects (numbers t)) (own_values parts) ∷ []
    node_taken stack f t parts =
        let below : length (stack ++ own_values parts) - tree_count parts ≡ length stack =
        omega (arith, length-append stack (own_values parts), values_long parts) in
        ap (λ n. take n (stack ++ own_values parts) ++ node_value f (objects (numbers t)) (drop n (stack ++ own_values parts)) ∷ []) below
        ∙ ap₂ (λ xs ys. xs ++ node_value f (objects (numbers t)) ys ∷ []) (front stack (own_values parts)) (back stack (own_values parts))

    pub values_on_stack : (f : Forest Form) (stack : List Logic) → after_operations objects stack (operations numbers f) ≡ stack ++ own_values f
    values_on_stack nothing stack = sym (append-nil stack)
    values_on_stack (more f t p parts next) stack =
        let v = node_value f (objects (numbers t)) (own_values parts) in
        after_append stack (operations numbers parts) (operation_of numbers f t parts ∷ operations numbers next)
        ∙ ap (λ s. after_operations objects (after_operation objects s (operation_of numbers f t parts)) (operations numbers next)) (values_on_stack parts stack)
        ∙ ap (λ s. after_operations objects s (operations numbers next)) (node_taken stack f t parts)
        ∙ values_on_stack next (stack ++ v ∷ [])
        ∙ append_assoc stack (v ∷ []) (own_values next)

    pub same_value : (f : Forest Form) → value_of objects (operations numbers f) ≡ value (λ t. objects (numbers t)) f
    same_value f = ap (λ vs. slice_index_or vs 0 X) (values_on_stack f [])
