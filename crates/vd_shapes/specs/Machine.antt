-- Shapes made step by step, while a derivation is told. These words serve the code that makes trees.
use Rattle.std.specs.Prelude.{ℕ, ◌+◌, ◌-◌, Bool, true, false, nat_le, nat_eq, List, [], ◌∷◌}
use Rattle.vd_tokens.specs.Lexemes.{Lexeme}
use Rattle.vd_gram.specs.declared.steps.Step.{Step}
use Rattle.vd_gram.specs.declared.steps.Step.TheVariants.{Leaf, Node}
use Rattle.vd_forest.specs.Forest.{Forest, nothing, joined}
use Rattle.vd_forms.specs.declared.form.Form.{Form}
use Rattle.vd_shapes.specs.declared.actions.Action.{Action}
use Rattle.vd_shapes.specs.declared.actions.Action.TheVariants.{Splice, Make, Wrap, Group}
use Rattle.vd_shapes.specs.Shapes.{action_of, with_leaf, with_node, start_of, leaf_form}

-- a production that isn't complete: so many parts are still to come. `outer` are the trees that a make or a group set aside
pub record Open : Type 0 where
  pub action : Action
  pub left : ℕ
  pub start : ℕ
  pub outer : Forest Form

-- the open productions, the innermost first; the trees so far, the last one first; and how many tokens were told
pub record Machine : Type 0 where
  pub open_ones : List Open
  pub so_far : Forest Form
  pub taken : ℕ

-- where the innermost make or group began
abbrev pub inner_start : List Open → ℕ
inner_start [] = 0
inner_start (o ∷ os) = o.start

-- a make and a group set aside the trees so far, and begin with none
abbrev pub set_aside : Action → Forest Form → Forest Form
set_aside Splice so_far = nothing
set_aside (Make f) so_far = so_far
set_aside (Wrap f) so_far = nothing
set_aside Group so_far = so_far

abbrev pub begun_with : Action → Forest Form → Forest Form
begun_with Splice so_far = so_far
begun_with (Make f) so_far = nothing
begun_with (Wrap f) so_far = so_far
begun_with Group so_far = nothing

abbrev pub opened : Action → ℕ → Machine → Open
opened action parts m = record {
  action = action;
  left = parts;
  start = start_of [] [] action (inner_start m.open_ones) m.taken;
  outer = set_aside action m.so_far;
}

module _ (actions : List Action) (tokens : List Lexeme) where
  -- the trees so far, once all parts of a production stand there
  abbrev pub closed : Action → ℕ → Forest Form → Forest Form → Forest Form
  closed Splice start outer inner = inner
  closed (Make f) start outer inner = with_node actions tokens f start inner outer
  closed (Wrap f) start outer inner = with_node actions tokens f start inner nothing
  closed Group start outer inner = joined inner outer

  -- one part more stands there
  abbrev pub counted : List Open → Forest Form → ℕ → Machine
  counted [] so_far taken = record { open_ones = []; so_far = so_far; taken = taken }
  counted (o ∷ os) so_far taken =
      elim (nat_le o.left 1) [
        | true ↦ counted os (closed o.action o.start o.outer so_far) taken
        | false ↦ record { open_ones = record o { left = o.left - 1 } ∷ os; so_far = so_far; taken = taken }
      ]

  abbrev pub with_opened : Bool → Open → Machine → Machine
  with_opened true o m = counted m.open_ones (closed o.action o.start o.outer (begun_with o.action m.so_far)) m.taken
  with_opened false o m = record { open_ones = o ∷ m.open_ones; so_far = begun_with o.action m.so_far; taken = m.taken }

  abbrev pub stepped : Machine → Step → Machine
  stepped m (Leaf symbol place) = counted m.open_ones (with_leaf actions tokens (leaf_form symbol) m.taken m.so_far) (m.taken + 1)
  stepped m (Node production parts) = with_opened (nat_eq parts 0) (opened (action_of actions tokens production) parts m) m

  abbrev pub run : Machine → List Step → Machine
  run m [] = m
  run m (s ∷ ss) = run (stepped m s) ss

-- before the first step: a derivation is still to come
abbrev pub begun : Machine
begun = record {
  open_ones = record { action = Splice; left = 1; start = 0; outer = nothing } ∷ [];
  so_far = nothing;
  taken = 0;
}
