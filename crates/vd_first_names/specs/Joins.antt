-- Which signal of the 2019 text and which of the 1993 text a map joins: level by level the units and all indexes are equal, and
-- rows give the labels and the object.
use Rattle.std.specs.Prelude.{◌≡◌, ◌⊎◌, ℕ, List, [], ◌∷◌, ◌++◌, map, codes, Contains}
use Rattle.std.specs.List.{AllZip}
use Rattle.vd_trees.specs.declared.paths.Label.{Label}
use Rattle.vd_trees.specs.declared.paths.Level.{Level}
use Rattle.vd_trees.specs.declared.paths.Path.{Path}
use Rattle.vd_trees.specs.declared.paths.PathStep.{PathStep}
use Rattle.vd_trees.specs.declared.paths.PathStep.TheVariants as steps
use Rattle.vd_trees.specs.declared.paths.Scope.{Scope}
use Rattle.vd_trees.specs.declared.rows.Row.{Row}
use Rattle.vd_trees.specs.declared.rows.RowKind.{RowKind}
use Rattle.vd_trees.specs.Paths.{dotted}
use Rattle.vd_trees.specs.declared.rows.RowKind.TheVariants.{Port, Signal, Implicit, Label as LabelRow, TypeName}

-- ---- names as rows have them, with dots between them

-- labels without their indexes
abbrev pub label_names : List Label → List (List ℕ)
label_names labels = map (λ l. l.name) labels

-- an object inside generates, and these fields of it
abbrev pub object_name : List Label → List ℕ → List (List ℕ) → List ℕ
object_name generates object fields = dotted (label_names generates ++ object ∷ fields)

-- the unit of an architecture: entity(architecture)
abbrev pub architecture_unit : Level → List ℕ
architecture_unit level = level.entity ++ (codes "(" ++ (level.architecture ++ codes ")"))

-- the unit in whose rows an object of this kind stands: a port in those of its entity, a signal in those of its architecture
abbrev pub object_unit : RowKind → Level → List ℕ
object_unit Port level = level.entity
object_unit _ level = architecture_unit level

-- ---- labels

-- the indexes are equal, one by one
abbrev pub SameIndexes : List Label → List Label → Type 0
SameIndexes ls ms = AllZip (λ (l m : Label). l.index ≡ m.index) ls ms

-- a row of this kind in this unit gives both names
pub record HasRow (rows : List Row) (kind : RowKind) (unit name19 name93 : List ℕ) : Type 0 where
  pub row : Row
  pub stands : Contains rows row
  pub kind_is : row.kind ≡ kind
  pub unit_is : row.unit ≡ unit
  pub name19_is : row.name19 ≡ name19
  pub name93_is : row.name93 ≡ name93

-- there is no label on either side, or a row for the labels
abbrev pub LabelsJoin : List Row → List ℕ → List Label → List Label → Type 0
LabelsJoin rows unit ls ms =
    SameIndexes ls ms × (((ls ≡ []) × (ms ≡ [])) ⊎ HasRow rows LabelRow unit (dotted (label_names ls)) (dotted (label_names ms)))

-- ---- levels

-- the same entity and architecture is reached by labels that join in the unit above
pub record LevelJoins (rows : List Row) (above : List ℕ) (l m : Level) : Type 0 where
  pub entity : l.entity ≡ m.entity
  pub architecture : l.architecture ≡ m.architecture
  pub labels : LabelsJoin rows above l.labels m.labels

abbrev pub LevelsJoin : List Row → List ℕ → List Level → List Level → Type 0
LevelsJoin rows above [] [] = Unit {0}
LevelsJoin rows above [] (m ∷ ms) = ⊥
LevelsJoin rows above (l ∷ ls) [] = ⊥
LevelsJoin rows above (l ∷ ls) (m ∷ ms) = LevelJoins rows above l m × LevelsJoin rows (architecture_unit l) ls ms

-- ---- paths

-- the level at which the object is declared
abbrev pub IsLast : Level → List Level → Type 0
IsLast level [] = ⊥
IsLast level (l ∷ []) = level ≡ l
IsLast level (l ∷ m ∷ ms) = IsLast level (m ∷ ms)

abbrev pub IsObject : RowKind → Type 0
IsObject Port = Unit {0}
IsObject Signal = Unit {0}
IsObject Implicit = Unit {0}
IsObject LabelRow = ⊥
IsObject TypeName = ⊥

abbrev pub field_steps : List (List ℕ) → List PathStep
field_steps fields = map steps.Field fields

-- the row joins the paths: it gives the object of each, with its first fields where it names them, and the steps behind are the same
pub record JoinsBy (rows : List Row) (row : Row) (p q : Path) : Type 0 where
  pub stands : Contains rows row
  pub object : IsObject row.kind
  pub levels : LevelsJoin rows [] p.levels q.levels
  pub level : Level
  pub last : IsLast level p.levels
  pub unit : row.unit ≡ object_unit row.kind level
  pub indexes : SameIndexes p.generates q.generates
  pub fields19 : List (List ℕ)
  pub fields93 : List (List ℕ)
  pub behind : List PathStep
  pub rest19 : p.rest ≡ field_steps fields19 ++ behind
  pub rest93 : q.rest ≡ field_steps fields93 ++ behind
  pub name19 : row.name19 ≡ object_name p.generates p.object fields19
  pub name93 : row.name93 ≡ object_name q.generates q.object fields93

-- a map joins two paths
abbrev pub Joins : List Row → Path → Path → Type 0
Joins rows p q = (row : Row) × JoinsBy rows row p q

-- ---- scopes

-- a map joins the places of two processes or declarations: level by level as paths, and by a row for the generates round them; packages
-- join by their names
pub record ScopesJoin (rows : List Row) (s t : Scope) : Type 0 where
  pub levels : LevelsJoin rows [] s.levels t.levels
  pub generates : (level : Level) → IsLast level s.levels → LabelsJoin rows (architecture_unit level) s.generates t.generates
  pub indexes : SameIndexes s.generates t.generates
  pub unit : s.unit ≡ t.unit
