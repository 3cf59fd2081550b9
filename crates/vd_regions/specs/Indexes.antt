-- The tables by which declarations are found, as functions of their keys, and what they hold of the declarations that were entered.
use Rattle.std.specs.Prelude.{◌≡◌, ℕ, zero, suc, ◌<◌, nat_lt, Bool, true, false, IsTrue, ◌&&◌, not, List, ◌∷◌, map, length, Option, Some, None, if◌then◌else◌, slice_index_or}
use Rattle.std.specs.Bool.{beq}
use Rattle.std.specs.List.{Contains, list_all}
use Rattle.std.specs.Option.{unwrap_or}
use Rattle.vd_region_tables.specs.declared.keys.Key.{Key}
use Rattle.vd_region_tables.specs.declared.keys.Name.{Name}
use Rattle.vd_region_tables.specs.declared.keys.Sort.{Sort}
use Rattle.vd_region_tables.specs.declared.table.Table.{Table}
use Rattle.vd_region_tables.specs.Growth.{grown}
use Rattle.vd_declarations.specs.declared.declarations.Declaration.{Declaration}
use Rattle.vd_declarations.specs.Classes.{is_overloadable, is_predefined, is_copy}
use Rattle.vd_regions.specs.declared.entries.Entered.{Entered}
use Rattle.vd_regions.specs.declared.entries.Link.{Link}
use Rattle.vd_regions.specs.declared.entries.Note.{Note}
use Rattle.vd_regions.specs.Scopes.{nothing_entered, stands_in}
use Rattle.vd_regions.specs.Homographs.{same_types}
use Rattle.vd_regions.specs.Found.{earlier}
use Rattle.vd_regions.specs.Links.{newest_below, first_below, entered_of, AreLinked}

-- ---- the regions of a name

-- each region that declares a name is kept for it. Others may be kept too.
abbrev pub AreHomes : (Name → List ℕ) → List Entered → Type 0
AreHomes homes es = (name : Name) (k : ℕ) → k < length es → (slice_index_or es k nothing_entered).declaration.name ≡ name.bytes.items
    → Contains (homes name) (slice_index_or es k nothing_entered).region

-- ---- the first of a sort

-- the type of a declaration, among these
abbrev pub type_among : List Entered → ℕ → Option ℕ
type_among es k = (slice_index_or es k nothing_entered).declaration.mark

-- the types of its result and of its parameters
abbrev pub profile_among : List Entered → Declaration → List (Option ℕ)
profile_among es d = d.mark ∷ map (type_among es) d.parameters

-- it is overloadable, and of the sort
abbrev pub has_sort : List Entered → Sort → Entered → Bool
has_sort es sort e =
    stands_in sort.region sort.name.items e && (is_overloadable e.declaration.class && (beq (is_predefined e.declaration.class) sort.predefined
    && (beq (is_copy e.declaration.class) sort.copy && same_types (profile_among es e.declaration) sort.profile.items)))

-- the sort of a declaration in a region
pub record IsSortOf (es : List Entered) (region : ℕ) (d : Declaration) (sort : Sort) : Type 0 where
  pub in_region : sort.region ≡ region
  pub named : sort.name.items ≡ d.name
  pub as_predefined : sort.predefined ≡ is_predefined d.class
  pub as_copy : sort.copy ≡ is_copy d.class
  pub typed : sort.profile.items ≡ profile_among es d

-- the sort of what is entered, where it is overloadable
abbrev pub HasItsSort : List Entered → Entered → Option Sort → Type 0
HasItsSort es e None = is_overloadable e.declaration.class ≡ false
HasItsSort es e (Some sort) = (is_overloadable e.declaration.class ≡ true) × IsSortOf es e.region e.declaration sort

-- its parameters stand before place k
abbrev pub knows : ℕ → List ℕ → Bool
knows k parameters = list_all (λ p. nat_lt p k) parameters

-- each of the first k stands behind its parameters, so that no profile changes any more
abbrev pub settled_below : List Entered → ℕ → Bool
settled_below es zero = true
settled_below es (suc k) = settled_below es k && knows k (slice_index_or es k nothing_entered).declaration.parameters

abbrev pub is_settled : List Entered → Bool
is_settled es = settled_below es (length es)

abbrev pub AreFirsts : (Sort → Option ℕ) → List Entered → Type 0
AreFirsts first es = (sort : Sort) → first sort ≡ first_below (has_sort es sort) es (length es)

-- the first of a sort, were it of these kinds
abbrev pub first_of_kind : List Entered → Sort → (predefined copy : Bool) → Option ℕ
first_of_kind es sort predefined copy = first_below (has_sort es (record sort { predefined = predefined; copy = copy })) es (length es)

-- The first overloadable declaration of a profile beside which a new one may not stand: a function may stand beside an operator, and a
-- function of an instance beside another such.
abbrev pub first_by_sorts : List Entered → Sort → (function copy : Bool) → Option ℕ
first_by_sorts es sort function copy =
    earlier (first_of_kind es sort false false)
    (earlier (if not function then first_of_kind es sort true false else None) (if not copy then first_of_kind es sort false true else None))

-- ---- tables of a region and a name

abbrev pub no_table : Table
no_table = record { newest = 0; first = None; alone = None }

-- it stands there and is not overloadable
abbrev pub stands_alone_in : ℕ → List ℕ → Entered → Bool
stands_alone_in region name e = stands_in region name e && not (is_overloadable e.declaration.class)

pub record IsTable (es : List Entered) (region : ℕ) (name : List ℕ) (table : Table) : Type 0 where
  pub leads : table.newest ≡ newest_below (stands_in region name) es (length es)
  pub begins : table.first ≡ first_below (stands_in region name) es (length es)
  pub begins_alone : table.alone ≡ first_below (stands_alone_in region name) es (length es)

abbrev pub AreTables : (Key → Option Table) → List Entered → Type 0
AreTables tables es = (key : Key) → IsTable es key.region key.name.items (unwrap_or (tables key) no_table)

-- ---- all of them

pub record IsIndexed (links : List Link) (tables : Key → Option Table) (firsts : Sort → Option ℕ) (settled : Bool) (homes : Name → List ℕ) : Type 0 where
  pub linked : AreLinked links
  pub tabled : AreTables tables (entered_of links)
  pub settles : settled ≡ is_settled (entered_of links)
  pub sorted : IsTrue settled → AreFirsts firsts (entered_of links)
  pub housed : AreHomes homes (entered_of links)

-- what is noted of a declaration before it is entered
pub record IsNoteOf (es : List Entered) (e : Entered) (note : Note) : Type 0 where
  pub numbered : note.id ≡ length es
  pub settles : note.settled ≡ (is_settled es && knows (length es) e.declaration.parameters)
  pub sorted : IsTrue note.settled → HasItsSort es e note.sort
  pub in_region : note.key.region ≡ e.region
  pub named : note.key.name.items ≡ e.declaration.name
  pub tabled : IsTable es e.region e.declaration.name note.table
  pub grows : note.grown ≡ grown note.table note.id (is_overloadable e.declaration.class)
