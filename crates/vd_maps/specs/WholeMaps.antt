-- A whole map: each scalar signal of the 2019 design joins exactly one of the 1993 design, and each of that exactly one of the other; and rows have the marks and modes that
-- the designs have. (The format of the map.)
use Rattle.std.specs.Prelude.{◌≡◌, ◌<◌, ℕ, Bool, true, false, ◌==◌, ◌&&◌, ◌||◌, List, [], ◌∷◌, ◌++◌, length, Option, Some, None, is_some, IsTrue, Contains, bytes_eq, codes, if◌then◌else◌}
use Rattle.std.specs.List.{list_any}
use Rattle.vd_trees.specs.declared.revision.Revision.{Revision}
use Rattle.vd_trees.specs.declared.revision.Revision.TheVariants.{V2019, V1993}
use Rattle.vd_trees.specs.declared.rows.Row.{Row}
use Rattle.vd_trees.specs.declared.rows.RowKind.{RowKind}
use Rattle.vd_trees.specs.declared.rows.RowKind.TheVariants.{Port, Signal, Implicit, TypeName}
use Rattle.vd_resolved.specs.Trees.{ResolvedTree}
use Rattle.vd_meaning.specs.Building.{Mode, Input, Output, BothWays, ScalarObject, Made}
use Rattle.vd_meaning.specs.Elaborations.{Elaboration, Elaborates, Fails, NoTop, elaboration}
use Rattle.vd_joins.specs.Joins.{Joining, map_of, object_names, gives_objects}
use Rattle.vd_maps.specs.Units.{Mark}
use Rattle.vd_maps.specs.Marks.{marks_of, taken_by}
use Rattle.vd_maps.specs.Tops.{NamedTop, top_in, HasTop, HasTypedGenerics}
use Rattle.vd_maps.specs.SameRuns.{Joins, EndAlike}

-- ---- kinds and modes

abbrev pub mode_text : Option Mode → List ℕ
mode_text None = []
mode_text (Some Input) = codes "in"
mode_text (Some Output) = codes "out"
mode_text (Some BothWays) = codes "inout"

-- only an implicit signal has an apostrophe (39) in its name
abbrev pub is_implicit_name : List ℕ → Bool
is_implicit_name name = list_any (λ b. b == 39) name

-- a port has a `port` row, an implicit signal an `implicit` row, and any other signal a `signal` row
abbrev pub is_kind_of : RowKind → Option Mode → List ℕ → Bool
is_kind_of Port mode name = is_some mode
is_kind_of Signal None name = Rattle.std.specs.Prelude.not (is_implicit_name name)
is_kind_of Implicit None name = is_implicit_name name
is_kind_of _ mode name = false

-- ---- marks

abbrev pub is_type_name : RowKind → Bool
is_type_name TypeName = true
is_type_name _ = false

-- the identifier in a name that generate labels lead: what stands behind its last dot (46)
abbrev pub behind_dots : List ℕ → List ℕ → List ℕ
behind_dots found [] = found
behind_dots found (c ∷ cs) = if c == 46 then behind_dots [] cs else behind_dots (found ++ c ∷ []) cs

abbrev pub identifier_in : List ℕ → List ℕ
identifier_in name = behind_dots [] name

abbrev pub gives_type : List ℕ → List ℕ → Row → Bool
gives_type mark19 mark93 row = is_type_name row.kind && (bytes_eq (identifier_in row.name19) mark19 && bytes_eq (identifier_in row.name93) mark93)

-- the 1993 mark is that of 2019, or the one that a `type` row gives for it
abbrev pub keeps_mark : List Row → List ℕ → List ℕ → Bool
keeps_mark rows mark19 mark93 = bytes_eq mark19 mark93 || list_any (gives_type mark19 mark93) rows

abbrev pub has_mark : List ℕ → List Mark → Bool
has_mark text marks = list_any (λ (m : Mark). bytes_eq m.text text) marks

abbrev pub has_kept_mark : List Row → List ℕ → List Mark → Bool
has_kept_mark rows mark19 marks = list_any (λ (m : Mark). keeps_mark rows mark19 m.text) marks

-- ---- rows

-- What a row that joins a 2019 signal and a 1993 one says of them: its mark is that of the 2019 declaration, and the 1993 declaration keeps it; and a port's mode is the mode of both.
pub record IsTrueRow (rows : List Row) (tree19 tree93 : ResolvedTree) (row : Row) (m n : ScalarObject) : Type 0 where
  pub kind : IsTrue (is_kind_of row.kind m.mode m.path.object)
  pub mark : IsTrue (has_mark row.mark (marks_of tree19 m (taken_by row.name19 (object_names m.path) m.path.rest)))
  pub mark93 : IsTrue (has_kept_mark rows row.mark (marks_of tree93 n (taken_by row.name93 (object_names n.path) n.path.rest)))
  pub mode : row.mode ≡ mode_text m.mode
  pub mode93 : row.mode ≡ mode_text n.mode

-- ---- whole maps

-- one number is related to it, and no other one
pub record HasOne (related : ℕ → Type 0) : Type 0 where
  pub number : ℕ
  pub is_related : related number
  pub only : (k : ℕ) → related k → k ≡ number

-- each signal of the first design joins exactly one of the second, and each of the second exactly one of the first
pub record JoinOneToOne (by : Joining) (m n : Made) : Type 0 where
  pub each_left : (i : ℕ) → i < length m.signals → HasOne (λ j. Joins by m n i j)
  pub each_right : (j : ℕ) → j < length n.signals → HasOne (λ i. Joins by m n i j)

pub record IsWhole (rows : List Row) (tree19 tree93 : ResolvedTree) (m n : Made) : Type 0 where
  pub one_to_one : JoinOneToOne (map_of rows) m n
  pub rows_are_true : (i j : ℕ) → (x : Joins (map_of rows) m n i j) → (row : Row) → Contains rows row → IsTrue (gives_objects x.left.path x.right.path row)
      → IsTrueRow rows tree19 tree93 row x.left x.right

-- Where the one elaboration stops, so does the other, with an equal stop. That neither has the top counts only where it isn't there.
abbrev pub IsWholeIf : Type 0 → List Row → ResolvedTree → ResolvedTree → Elaboration → Elaboration → Type 0
IsWholeIf there rows tree19 tree93 (Elaborates m) (Elaborates n) = IsWhole rows tree19 tree93 m n
IsWholeIf there rows tree19 tree93 (Fails f) (Fails g) = EndAlike (map_of rows) f g
IsWholeIf there rows tree19 tree93 NoTop NoTop = there → ⊥
IsWholeIf there rows tree19 tree93 _ _ = ⊥

-- the map is whole for every top and all values that its generics can have
pub record IsWholeMap (rows : List Row) (tree19 tree93 : ResolvedTree) : Type 0 where
  pub for_each : (top : NamedTop) → HasTypedGenerics V2019 tree19 top → IsWholeIf (HasTop tree19 top) rows tree19 tree93 (elaboration V2019 tree19 (top_in tree19 top)) (elaboration V1993 tree93 (top_in tree93 top))

-- ---- a pass: its rows join the two designs signal by signal, or both elaborations end alike

abbrev pub JoinAllIf : Type 0 → Joining → Elaboration → Elaboration → Type 0
JoinAllIf there by (Elaborates m) (Elaborates n) = JoinOneToOne by m n
JoinAllIf there by (Fails f) (Fails g) = EndAlike by f g
JoinAllIf there by NoTop NoTop = there → ⊥
JoinAllIf there by _ _ = ⊥

pub record JoinAll (by : Joining) (r s : Revision) (left right : ResolvedTree) : Type 0 where
  pub for_each : (top : NamedTop) → HasTypedGenerics r left top → JoinAllIf (HasTop left top) by (elaboration r left (top_in left top)) (elaboration s right (top_in right top))
