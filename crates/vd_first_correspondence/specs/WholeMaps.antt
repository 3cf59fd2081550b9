-- A whole map: each scalar signal of the one elaborated design joins exactly one of the other, and back; and the rows have the
-- marks and modes that the designs have.
use Rattle.std.specs.Prelude.{◌≡◌, ◌<◌, ◌⊎◌, ℕ, List, length, slice_get, Option, Some, None, IsSome, Contains}
use Rattle.vd_forest.specs.Forest.{Forest}
use Rattle.vd_first_trees.specs.declared.form.Form.{Form}
use Rattle.vd_trees.specs.declared.rows.Row.{Row}
use Rattle.vd_trees.specs.declared.rows.RowKind.{RowKind}
use Rattle.vd_trees.specs.declared.rows.RowKind.TheVariants.{Port, TypeName}
use Rattle.vd_first_names.specs.Joins.{JoinsBy}
use Rattle.vd_first_elaboration.specs.Tops.{Top}
use Rattle.vd_first_elaboration.specs.Ports.{Mode}
use Rattle.vd_first_elaboration.specs.Signals.{ScalarSignal, mode_text}
use Rattle.vd_first_elaboration.specs.Elaboration.{Elaborated, elaboration}

-- signal i of these 2019 signals and signal j of these 1993 ones, and the row that joins them
pub record Joined (rows : List Row) (ms ns : List ScalarSignal) (i j : ℕ) : Type 0 where
  pub left : ScalarSignal
  pub right : ScalarSignal
  pub row : Row
  pub left_is : slice_get ms i ≡ Some left
  pub right_is : slice_get ns j ≡ Some right
  pub joins : JoinsBy rows row left.path right.path

-- one number is related to it, and no other one
pub record HasOne (related : ℕ → Type 0) : Type 0 where
  pub number : ℕ
  pub is_related : related number
  pub only : (k : ℕ) → related k → k ≡ number

-- the 1993 mark is that of 2019, or the one that a row for types gives for it
abbrev pub KeepsMark : List Row → List ℕ → List ℕ → Type 0
KeepsMark rows mark19 mark93 =
    (mark19 ≡ mark93) ⊎ ((row : Row) × Contains rows row × (row.kind ≡ TypeName) × (row.name19 ≡ mark19) × (row.name93 ≡ mark93))

-- a row for ports joins ports, and no other row does
abbrev pub IsOfKind : RowKind → Option Mode → Type 0
IsOfKind Port None = ⊥
IsOfKind Port (Some mode) = Unit {0}
IsOfKind _ None = Unit {0}
IsOfKind _ (Some mode) = ⊥

-- the kind, marks and modes of two joined signals and of the row that joins them
pub record IsTrueRow (rows : List Row) (row : Row) (m n : ScalarSignal) : Type 0 where
  pub kind : IsOfKind row.kind m.mode
  pub kind93 : IsOfKind row.kind n.mode
  pub mark : row.mark ≡ m.mark
  pub mark93 : KeepsMark rows m.mark n.mark
  pub mode : row.mode ≡ mode_text m.mode
  pub mode93 : row.mode ≡ mode_text n.mode

pub record IsWhole (rows : List Row) (ms ns : List ScalarSignal) : Type 0 where
  pub each19 : (i : ℕ) → i < length ms → HasOne (λ j. Joined rows ms ns i j)
  pub each93 : (j : ℕ) → j < length ns → HasOne (λ i. Joined rows ms ns i j)
  pub rows_are_true : (i j : ℕ) → (x : Joined rows ms ns i j) → IsTrueRow rows x.row x.left x.right

-- the map is whole for a top: both designs have it, and the map is whole for what they are elaborated to, or neither has it
abbrev pub IsWholeFor : List Row → Option Elaborated → Option Elaborated → Type 0
IsWholeFor rows None None = Unit {0}
IsWholeFor rows None (Some n) = ⊥
IsWholeFor rows (Some m) None = ⊥
IsWholeFor rows (Some m) (Some n) = IsWhole rows m.signals n.signals

-- the map is whole for every top of two trees
pub record IsWholeMap (rows : List Row) (units19 units93 : Forest Form) : Type 0 where
  pub for_each : (top : Top) → IsWholeFor rows (elaboration units19 top) (elaboration units93 top)

-- ---- tops

-- a file has two tops, its entity with and without the name of its architecture, and both are elaborated
pub record HasTops (units : Forest Form) (entity architecture : List ℕ) : Type 0 where
  pub last : IsSome (elaboration units (record { entity = entity; architecture = None }))
  pub named : IsSome (elaboration units (record { entity = entity; architecture = Some architecture }))
