-- How a tree is derived: pieces of derivations with holes for the tree's parts, for each form and each place where it may stand.
use Rattle.std.specs.Prelude.{ℕ, Bool, true, false, ◌&&◌, not, nat_eq, nat_le, List, [], ◌∷◌, Option, Some, None, is_some, slice_index_or}
use Rattle.vd_tokens.specs.declared.kinds.Kind.{Kind}
use Rattle.vd_forest.specs.Forest.{Forest, nothing, more, with_next, joined, no_place}
use Rattle.vd_forms.specs.declared.form.Form.{Form}
use Rattle.vd_forms.specs.declared.form.Form.TheVariants as form
use Rattle.vd_forms.specs.Forms.{is_among, expressions}
use Rattle.vd_shapes.specs.declared.actions.Action.{Action}
use Rattle.vd_templates.specs.declared.states.TheConstants.{OPERAND, LEFT_OF_AND, LEFT_OF_OR, LEFT_OF_XOR, LEFT_OF_XNOR, LEFT_OF_SUM, LEFT_OF_PRODUCT}
use Rattle.vd_derivations.specs.Drafts.{Draft, grows}

-- A piece of a derivation, and then what stands behind it. `hole` 0 is for the tree itself, at another place, and the others are
-- for its parts, each with what follows it in a chain. `each` is for all parts from one on. `rest` is what follows in the
-- tree's own chain
pub data Template : Type 0 where
  done : Template
  rest : Template
  step : (production : ℕ) → (parts : Template) → (next : Template) → Template
  token : (symbol : ℕ) → (next : Template) → Template
  own : (kind : Kind) → (next : Template) → Template
  hole : (number : ℕ) → (place : ℕ) → (tail : Template) → (next : Template) → Template
  each : (from : ℕ) → (place : ℕ) → (more : ℕ) → (separators : List ℕ) → (end : ℕ) → (next : Template) → Template

-- A row is for trees of these forms. `up`: they stand as trees at another place do. Else the row makes the tree of its parts.
-- `places` are those of the holes, in order, that of the tree itself first. `round`: the row puts brackets round the tree
pub record Row : Type 0 where
  pub forms : List Form
  pub up : Bool
  pub round : Bool
  pub places : List ℕ
  pub many : Bool
  pub template : Template

-- A place where trees may stand: the symbol that they are derived from, the symbol of what follows in a chain, and the state in which
-- they are written. A tree stands as it does at another place only where that has a lower level
pub record Standpoint : Type 0 where
  pub level : ℕ
  pub head : ℕ
  pub tail : Option ℕ
  pub state : ℕ
  pub rows : List Row

abbrev pub nowhere : Standpoint
nowhere = record { level = 0; head = 0; tail = None; state = 0; rows = [] }

-- the operands that need no brackets
abbrev pub primaries : List Form
primaries = form.Name ∷ form.Number ∷ form.Letter ∷ form.Quoted ∷ form.Bits ∷ form.Aggregate ∷ form.PhysicalLiteral ∷ form.OperatorName ∷ []

abbrev pub found : List Row → Form → Option Row
found [] f = None
found (r ∷ rs) f = elim (is_among r.forms f) [ true ↦ Some r | false ↦ found rs f ]

module _ (standpoints : List Standpoint) where
  abbrev pub point : ℕ → Standpoint
  point s = slice_index_or standpoints s nowhere

  -- a tree of the form may stand there
  abbrev pub stands : ℕ → Form → Bool
  stands s f = is_some (found (point s).rows f)

  abbrev pub stands_as : ℕ → Option Form → Bool
  stands_as s None = false
  stands_as s (Some f) = stands s f

-- ---- brackets that are written

-- what stands without brackets in the states of operands: primaries, and left operands of the same operators
abbrev pub bare_forms : ℕ → List Form
bare_forms state =
    elim (nat_eq state LEFT_OF_AND) [
      | true ↦ form.And ∷ primaries
      | false ↦
          elim (nat_eq state LEFT_OF_OR) [
            | true ↦ form.Or ∷ primaries
            | false ↦
                elim (nat_eq state LEFT_OF_XOR) [
                  | true ↦ form.Xor ∷ primaries
                  | false ↦
                      elim (nat_eq state LEFT_OF_XNOR) [
                        | true ↦ form.Xnor ∷ primaries
                        | false ↦
                            elim (nat_eq state LEFT_OF_SUM) [
                              | true ↦ form.Add ∷ form.Subtract ∷ form.Concatenate ∷ primaries
                              | false ↦
                                  elim (nat_eq state LEFT_OF_PRODUCT) [ true ↦ form.Multiply ∷ form.Divide ∷ form.Modulo ∷ form.Remainder ∷ primaries | false ↦ primaries ]
                            ]
                      ]
                ]
          ]
    ]

abbrev pub is_operand : ℕ → Bool
is_operand state = nat_le OPERAND state && nat_le state LEFT_OF_PRODUCT

-- in the state a tree of the form is written in brackets, and is an expression
abbrev pub is_laid : ℕ → Form → Bool
is_laid state f = elim (is_operand state) [ true ↦ is_among expressions f && not (is_among (bare_forms state) f) | false ↦ false ]

abbrev pub laid : Bool → Forest Form → Forest Form
laid true x = more form.Aggregate [] no_place x nothing
laid false x = x

-- the tree as it then is read
abbrev pub put : ℕ → Forest Form → Forest Form
put state nothing = nothing
put state (more f t p a b) = laid (is_laid state f) (more f t p a b)

-- ---- what a template leaves among the trees so far

-- behind a tree stands what follows in its chain
abbrev pub finished : List Action → Option ℕ → Draft → Forest Form → Forest Form → Forest Form
finished actions None k x so_far = with_next x so_far
finished actions (Some c) k x so_far = joined (grows actions k (with_next x nothing)) so_far
