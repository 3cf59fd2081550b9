-- When the productions of a grammar make valid trees alone. Of each nonterminal is claimed which trees stand there once it has been
-- told, and it is decided over the whole table whether each production does what is claimed of its left. So nobody has to
-- trust these claims. They stand beside the rows to be read.
use Rattle.std.specs.Prelude.{ℕ, Bool, true, false, ◌&&◌, ◌||◌, not, nat_eq, List, [], ◌∷◌, ◌++◌, Option, Some, None, is_none}
use Rattle.std.specs.List.{list_all}
use Rattle.vd_trees.specs.declared.revision.Revision.{Revision}
use Rattle.vd_gram.specs.declared.tables.Production.{Production}
use Rattle.vd_gram.specs.declared.tables.Table.{Table}
use Rattle.vd_gram.specs.Claims.{is_terminal}
use Rattle.vd_forms.specs.declared.form.Form.{Form}
use Rattle.vd_forms.specs.declared.form.Form.TheVariants as form
use Rattle.vd_forms.specs.Forms.{is_among, expressions}
use Rattle.vd_forms.specs.Slots.{Slot, One, Many, slots_of, file_slots}
use Rattle.vd_forms.specs.Validity.{all_many, is_form_of, leaf_kind}
use Rattle.vd_shapes.specs.declared.actions.Action.{Action}
use Rattle.vd_shapes.specs.declared.actions.Action.TheVariants.{Splice, Make, Wrap, Group}
use Rattle.vd_shapes.specs.Shapes.{leaf_form}

-- ---- slots

-- each of these forms is one of those
abbrev pub are_among : List Form → List Form → Bool
are_among gs fs = list_all (is_among gs) fs

-- each slot is for one tree
abbrev pub all_one : List Slot → Bool
all_one [] = true
all_one (One fs ∷ ss) = all_one ss
all_one (Many fs ∷ ss) = false

-- trees that fit the first slots fit the second
abbrev pub are_covered : List Slot → List Slot → Bool
are_covered [] ss = all_many ss
are_covered (One fs ∷ rs) [] = false
are_covered (One fs ∷ rs) (One gs ∷ ss) = are_among gs fs && are_covered rs ss
are_covered (One fs ∷ rs) (Many gs ∷ ss) = are_among gs fs && are_covered rs (Many gs ∷ ss)
are_covered (Many fs ∷ rs) [] = false
are_covered (Many fs ∷ rs) (One gs ∷ ss) = false
are_covered (Many fs ∷ rs) (Many gs ∷ ss) = are_among gs fs && all_many ss

-- where brackets may stand, every expression may, so that brackets round an expression can go
abbrev pub brackets_can_go : List Slot → Bool
brackets_can_go [] = true
brackets_can_go (One fs ∷ ss) = (not (is_among fs form.Aggregate) || are_among fs expressions) && brackets_can_go ss
brackets_can_go (Many fs ∷ ss) = (not (is_among fs form.Aggregate) || are_among fs expressions) && brackets_can_go ss

abbrev pub one_of : Form → List Slot
one_of f = One (f ∷ []) ∷ []

-- what is said of the slots of some trees and of more trees behind them. Behind any number of trees no more stand
abbrev pub with_behind : List Slot → List Slot → (List Slot → Bool) → Bool
with_behind ss [] said = said ss
with_behind ss (x ∷ xs) said = all_one ss && said (ss ++ x ∷ xs)

-- ---- effects

-- What a symbol does to the trees that stand side by side. It adds trees behind whatever stands there. Or, where these trees alone
-- stand there since the innermost make or group began, it puts others in their place
pub data Effect : Type 0 where
  Push : (added : List Slot) → Effect
  Turn : (before : List Slot) → (after : List Slot) → Effect

-- the effect that is claimed of a nonterminal. Without a claim it adds none
abbrev pub claimed_effect : List (ℕ × Effect) → ℕ → Effect
claimed_effect [] s = Push []
claimed_effect (e ∷ es) s = elim (nat_eq e.0 s) [ true ↦ e.1 | false ↦ claimed_effect es s ]

-- a terminal is a leaf where its text changes
abbrev pub leaf_slots : Option Form → List Slot
leaf_slots None = []
leaf_slots (Some f) = one_of f

module _ (t : Table) (effects : List (ℕ × Effect)) where
  abbrev pub effect_of : ℕ → Effect
  effect_of s = elim (is_terminal t s) [ true ↦ Push (leaf_slots (leaf_form s)) | false ↦ claimed_effect effects s ]

  -- An effect can happen behind trees of these slots, and it is said of what then stands there. `alone` where no other trees
  -- stand in front of them
  abbrev pub can_happen : Bool → Effect → List Slot → (List Slot → Bool) → Bool
  can_happen alone (Push added) ss said = with_behind ss added said
  can_happen alone (Turn before after) ss said = alone && (are_covered ss before && said after)

  -- the same of some symbols one after the other
  abbrev pub can_follow : Bool → List ℕ → List Slot → (List Slot → Bool) → Bool
  can_follow alone [] ss said = said ss
  can_follow alone (x ∷ xs) ss said = can_happen alone (effect_of x) ss (λ rs. can_follow alone xs rs said)

  module _ (r : Revision) where
    -- a node of this form is valid, whatever trees of these slots are its parts. It has no text
    abbrev pub makes_valid : Form → List Slot → Bool
    makes_valid f ss = is_form_of r f && (is_none (leaf_kind f) && (brackets_can_go (slots_of r f) && are_covered ss (slots_of r f)))

    -- a production with this action and this right side does what is claimed, and each node that it makes is valid
    abbrev pub does_as_claimed : Effect → Action → List ℕ → Bool
    does_as_claimed (Push added) Splice right = can_follow false right [] (λ ss. are_covered ss added)
    does_as_claimed (Push added) (Make f) right = can_follow true right [] (λ ss. makes_valid f ss && are_covered (one_of f) added)
    does_as_claimed (Push added) (Wrap f) right = false
    does_as_claimed (Push added) Group right = can_follow true right [] (λ ss. are_covered ss added)
    does_as_claimed (Turn before after) Splice right = can_follow true right before (λ ss. are_covered ss after)
    does_as_claimed (Turn before after) (Make f) right =
        can_follow true right [] (λ ss. makes_valid f ss && with_behind before (one_of f) (λ rs. are_covered rs after))
    does_as_claimed (Turn before after) (Wrap f) right = can_follow true right before (λ ss. makes_valid f ss && are_covered (one_of f) after)
    does_as_claimed (Turn before after) Group right =
        can_follow true right [] (λ ss. with_behind before ss (λ rs. are_covered rs after))

    -- each production does, with its own action
    abbrev pub all_do_as_claimed : List Action → List Production → Bool
    all_do_as_claimed actions [] = true
    all_do_as_claimed [] (p ∷ ps) = does_as_claimed (effect_of p.left) Splice p.right.now && all_do_as_claimed [] ps
    all_do_as_claimed (a ∷ actions) (p ∷ ps) = does_as_claimed (effect_of p.left) a p.right.now && all_do_as_claimed actions ps

  -- the start gives the units of a file
  abbrev pub starts_with_units : Bool
  starts_with_units = can_follow true (t.start ∷ []) [] (λ ss. are_covered ss file_slots)

-- all productions make valid trees of the revision alone, and what is claimed of the nonterminals shows it
unfoldable pub makes_valid_trees : Revision → Table → List Action → List (ℕ × Effect) → Bool
makes_valid_trees r t actions effects = starts_with_units t effects && all_do_as_claimed t effects r actions t.productions.now
