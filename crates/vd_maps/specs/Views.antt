-- A design with a view, the one that is written from it, and the map between them: what joins, and the marks that the rows have.
use Rattle.std.specs.Prelude.{◌≡◌, ℕ, ◌+◌, ◌==◌, if◌then◌else◌, Bool, true, false, List, [], ◌∷◌, ◌++◌, map, Option, Some, None, codes}
use Rattle.vd_trees.specs.declared.revision.Revision.{Revision}
use Rattle.vd_trees.specs.declared.revision.Revision.TheVariants.{V2019, V1993}
use Rattle.vd_trees.specs.declared.rows.Row.{Row}
use Rattle.vd_trees.specs.declared.rows.RowKind.TheVariants as kinds
use Rattle.vd_declarations.specs.declared.classes.Class.TheVariants as class
use Rattle.vd_declarations.specs.declared.declarations.Declaration.{Declaration}
use Rattle.vd_forms.specs.declared.form.Form.{Form}
use Rattle.vd_forms.specs.declared.form.Form.TheVariants as form
use Rattle.vd_resolved.specs.Trees.{ResolvedTree, side_by_side}
use Rattle.vd_predefined.specs.Given.{given_scopes}
use Rattle.vd_predefined.specs.Entries.{declared}
use Rattle.vd_predefined.specs.declared.numbers.TheConstants.{STD_ULOGIC}
use Rattle.vd_meaning.specs.Building.{ScalarObject}
use Rattle.vd_meaning.specs.Elaborations.{Elaboration, Elaborates, Fails, NoTop, elaboration}
use Rattle.vd_meaning_facts.specs.Trees.{node, plain, absent, first, name, longer}
use Rattle.vd_elaboration_facts.specs.Designs.{Tree, word, declared_word, architecture}
use Rattle.vd_elaboration_facts.specs.Hierarchies.{names, closing, unit, entity}
use Rattle.vd_maps.specs.Units.{Mark}
use Rattle.vd_maps.specs.Marks.{marks_of}
use Rattle.vd_maps.specs.Tops.{NamedTop, top_in, has_entity, has_architecture}
use Rattle.vd_maps.specs.Units.{units_in}
use Rattle.vd_maps.specs.WholeMaps.{mode_text}
use Rattle.vd_maps.specs.Tests.{is_whole}
use Rattle.vd_maps.specs.RowOrders.{heads, rows_stand_for}
use Rattle.vd_maps.specs.Interfaces.{keeps_interfaces}
use Rattle.vd_maps.specs.Paths.{row, table, view_rows}

-- ---- declarations, from a first number on: the records sub_r with c and link_r with a, b and sub, the views n and m; the ports p_a and p of ma, and those that are written for p;
-- the port p of sl, and those that are written for it

abbrev pub own_from : Revision → ℕ
own_from V2019 = 463
own_from V1993 = 387

abbrev pub declarations : ℕ → List Declaration
declarations d =
    declared class.RecordType (codes "sub_r") None ((d + 1) ∷ []) ∷ declared class.RecordElement (codes "c") (Some STD_ULOGIC) []
    ∷ declared class.RecordType (codes "link_r") None ((d + 3) ∷ (d + 4) ∷ (d + 5) ∷ []) ∷ declared class.RecordElement (codes "a") (Some STD_ULOGIC) []
    ∷ declared class.RecordElement (codes "b") (Some STD_ULOGIC) [] ∷ declared class.RecordElement (codes "sub") (Some d) []
    ∷ declared class.View (codes "n") None [] ∷ declared class.View (codes "m") None [] ∷ declared class.Port (codes "p_a") (Some STD_ULOGIC) []
    ∷ declared class.Port (codes "p") (Some (d + 2)) [] ∷ declared class.Port (codes "p_a_2") (Some STD_ULOGIC) []
    ∷ declared class.Port (codes "p_b") (Some STD_ULOGIC) [] ∷ declared class.Port (codes "p_sub_c") (Some STD_ULOGIC) []
    ∷ declared class.Port (codes "p") (Some (d + 2)) [] ∷ declared class.Port (codes "p_a") (Some STD_ULOGIC) []
    ∷ declared class.Port (codes "p_b") (Some STD_ULOGIC) [] ∷ declared class.Port (codes "p_sub_c") (Some STD_ULOGIC) [] ∷ []

abbrev pub design : Revision → List Tree → ResolvedTree
design r trees =
    record { units = side_by_side trees; declarations = map (λ x. x.declaration) (given_scopes r).entered ++ declarations (own_from r) }

-- ---- pieces

abbrev pub selected : ℕ → List ℕ → Tree
selected d text = node form.SelectedName (Some d) None 0 [] (declared_word d text ∷ [])

abbrev pub indication : ℕ → List ℕ → Tree
indication d text = plain form.SubtypeIndication (selected d text ∷ absent ∷ [])

abbrev pub std_ulogic : Tree
std_ulogic = indication STD_ULOGIC (codes "std_ulogic")

abbrev pub element : ℕ → List ℕ → Tree → Tree
element d text mark = plain form.RecordElement (names d text ∷ mark ∷ [])

abbrev pub record_type : ℕ → List ℕ → List Tree → Tree
record_type d text elements =
    plain form.TypeDeclaration (declared_word d text ∷ plain form.RecordType (plain form.RecordElements elements ∷ absent ∷ []) ∷ [])

abbrev pub records : ℕ → List Tree
records d =
    record_type d (codes "sub_r") (element (d + 1) (codes "c") std_ulogic ∷ [])
    ∷ record_type (d + 2) (codes "link_r") (element (d + 3) (codes "a") std_ulogic ∷ element (d + 4) (codes "b") std_ulogic ∷ element (d + 5) (codes "sub") (indication d (codes "sub_r")) ∷ []) ∷ []

abbrev pub view_element : ℕ → List ℕ → Tree → Tree
view_element d text mode = plain form.ViewElement (names d text ∷ mode ∷ [])

abbrev pub view : ℕ → List ℕ → Tree → List Tree → Tree
view d text mark elements = plain form.ViewDeclaration (declared_word d text ∷ mark ∷ plain form.ViewElements elements ∷ absent ∷ [])

-- view n of sub_r is c : in; end;  view m of link_r is a : in; b : out; sub : view n; end;
abbrev pub views : ℕ → List Tree
views d =
    view (d + 6) (codes "n") (selected d (codes "sub_r")) (view_element (d + 1) (codes "c") (plain form.In []) ∷ [])
    ∷ view (d + 7) (codes "m") (selected (d + 2) (codes "link_r"))
    (view_element (d + 3) (codes "a") (plain form.In []) ∷ view_element (d + 4) (codes "b") (plain form.Out [])
    ∷ view_element (d + 5) (codes "sub") (plain form.ViewMode (selected (d + 6) (codes "n") ∷ absent ∷ [])) ∷ []) ∷ []

abbrev pub packaged : List ℕ → List Tree → Tree
packaged text declaring = unit (plain form.PackageDeclaration (word text ∷ absent ∷ plain form.DeclarativePart declaring ∷ closing ∷ []))

abbrev pub port : ℕ → List ℕ → Form → Tree
port d text mode = plain form.PortDeclaration (absent ∷ names d text ∷ plain mode [] ∷ std_ulogic ∷ absent ∷ [])

abbrev pub assign : Tree → Tree → Tree
assign target value = plain form.ConcurrentAssignment (target ∷ absent ∷ value ∷ [])

-- ---- package pk is the records and views, end; entity ma is port (p_a : in std_ulogic; p : view m of link_r); end;
-- architecture rtl of ma is begin p.b <= p_a; end; entity sl is port (p : view m'converse of link_r); end; architecture rtl of sl is begin end;

abbrev pub view_port : ℕ → ℕ → Tree → Tree
view_port d port_number converse =
    plain form.ViewPort (absent ∷ names port_number (codes "p") ∷ selected (d + 7) (codes "m") ∷ converse ∷ indication (d + 2) (codes "link_r") ∷ [])

abbrev pub element_of_p : ℕ → ℕ → ℕ → Tree
element_of_p d e position = longer STD_ULOGIC (first (d + 9) (d + 2) ∷ node form.Selection (Some (d + e)) (Some STD_ULOGIC) position [] (word [] ∷ []) ∷ [])

abbrev pub texts19 : ℕ → List Tree
texts19 d =
    packaged (codes "pk") (records d ++ views d)
    ∷ entity (codes "ma") absent
    (port (d + 8) (codes "p_a") form.In ∷ view_port d (d + 9) absent ∷ [])
    ∷ architecture (codes "rtl") (codes "ma") [] (assign (element_of_p d 4 1) (name (d + 8) STD_ULOGIC) ∷ [])
    ∷ entity (codes "sl") absent (view_port d (d + 13) (word (codes "converse")) ∷ []) ∷ architecture (codes "rtl") (codes "sl") [] [] ∷ []

-- ---- what is written: package pk is the records, end;
-- entity ma is port (p_a : in std_ulogic; p_a_2 : in std_ulogic; p_b : out std_ulogic; p_sub_c : in std_ulogic); end; architecture rtl of ma is begin p_b <= p_a; end;
-- entity sl is port (p_a : out std_ulogic; p_b : in std_ulogic; p_sub_c : out std_ulogic); end; architecture rtl of sl is begin end;

abbrev pub texts93 : ℕ → List Tree
texts93 d =
    packaged (codes "pk") (records d)
    ∷ entity (codes "ma") absent
    (port (d + 8) (codes "p_a") form.In ∷ port (d + 10) (codes "p_a_2") form.In ∷ port (d + 11) (codes "p_b") form.Out ∷ port (d + 12) (codes "p_sub_c") form.In ∷ [])
    ∷ architecture (codes "rtl") (codes "ma") [] (assign (name (d + 11) STD_ULOGIC) (name (d + 8) STD_ULOGIC) ∷ [])
    ∷ entity (codes "sl") absent (port (d + 14) (codes "p_a") form.Out ∷ port (d + 15) (codes "p_b") form.In ∷ port (d + 16) (codes "p_sub_c") form.Out ∷ [])
    ∷ architecture (codes "rtl") (codes "sl") [] [] ∷ []

abbrev pub tree19 : ResolvedTree
tree19 = design V2019 (texts19 463)

abbrev pub tree93 : ResolvedTree
tree93 = design V1993 (texts93 387)

-- ---- the map

-- with this mode for the element a of p in ma
abbrev pub rows_with : List ℕ → List Row
rows_with mode =
    row kinds.Port (codes "ma") (codes "p_a") (codes "p_a") (codes "std_ulogic") (codes "in")
    ∷ row kinds.Port (codes "ma") (codes "p.a") (codes "p_a_2") (codes "std_ulogic") mode
    ∷ row kinds.Port (codes "ma") (codes "p.b") (codes "p_b") (codes "std_ulogic") (codes "out")
    ∷ row kinds.Port (codes "ma") (codes "p.sub.c") (codes "p_sub_c") (codes "std_ulogic") (codes "in")
    ∷ row kinds.Port (codes "sl") (codes "p.a") (codes "p_a") (codes "std_ulogic") (codes "out")
    ∷ row kinds.Port (codes "sl") (codes "p.b") (codes "p_b") (codes "std_ulogic") (codes "in")
    ∷ row kinds.Port (codes "sl") (codes "p.sub.c") (codes "p_sub_c") (codes "std_ulogic") (codes "out")
    ∷ []

abbrev pub rows : List Row
rows = rows_with (codes "in")

-- ---- what they come to

abbrev pub top : NamedTop
top = record { entity = codes "ma"; architecture = None; generics = [] }

-- whether a map is whole for a top
abbrev pub whole_for : List Row → ResolvedTree → ResolvedTree → Elaboration → Elaboration → Bool
whole_for rs tree tree' (Elaborates m) (Elaborates n) = is_whole rs tree tree' m n
whole_for rs tree tree' _ _ = false

abbrev pub whole_at : List Row → List ℕ → Bool
whole_at rs entity_name =
    let at : NamedTop = record { entity = entity_name; architecture = None; generics = [] } in
    whole_for rs tree19 tree93 (elaboration V2019 tree19 (top_in tree19 at)) (elaboration V1993 tree93 (top_in tree93 at))

abbrev pub signals_of : Elaboration → List ScalarObject
signals_of (Elaborates made) = made.signals
signals_of (Fails failing) = []
signals_of NoTop = []

abbrev pub signals19 : List ScalarObject
signals19 = signals_of (elaboration V2019 tree19 (top_in tree19 top))

abbrev pub signals93 : List ScalarObject
signals93 = signals_of (elaboration V1993 tree93 (top_in tree93 top))

abbrev pub modes : List ScalarObject → List (List ℕ)
modes xs = map (λ (x : ScalarObject). mode_text x.mode) xs

-- the marks of some signals, of each with the fields that its row names
abbrev pub mark_texts : ResolvedTree → List ScalarObject → List (List (List ℕ)) → List (List (List ℕ))
mark_texts tree (x ∷ xs) (fs ∷ fss) = map (λ (m : Mark). m.text) (marks_of tree x fs) ∷ mark_texts tree xs fss
mark_texts tree _ _ = []

abbrev pub once : List ℕ → List (List ℕ)
once text = text ∷ []

-- the output names of the two records
abbrev pub output_names : ℕ → List ℕ
output_names d = if d == 463 then codes "sub_r" else codes "link_r"

-- what is written, without the records of its package
abbrev pub without_records : ResolvedTree
without_records = design V1993 (packaged (codes "pk") [] ∷ Rattle.std.specs.Prelude.drop 1 (texts93 387))

pub record Views : Type 0 where
  -- the ports of both designs join one by one
  pub joined : table view_rows (map (λ (x : ScalarObject). x.path) signals19) (map (λ (x : ScalarObject). x.path) signals93)
      ≡ (true ∷ false ∷ false ∷ false ∷ []) ∷ (false ∷ true ∷ false ∷ false ∷ []) ∷ (false ∷ false ∷ true ∷ false ∷ []) ∷ (false ∷ false ∷ false ∷ true ∷ []) ∷ []
  -- with the modes that the rows have
  pub modes19 : modes signals19 ≡ codes "in" ∷ codes "in" ∷ codes "out" ∷ codes "in" ∷ []
  pub modes93 : modes signals93 ≡ codes "in" ∷ codes "in" ∷ codes "out" ∷ codes "in" ∷ []
  -- and the marks
  pub marks19 : mark_texts tree19 signals19 ([] ∷ (codes "a" ∷ []) ∷ (codes "b" ∷ []) ∷ (codes "sub" ∷ codes "c" ∷ []) ∷ [])
      ≡ once (codes "std_ulogic") ∷ once (codes "std_ulogic") ∷ once (codes "std_ulogic") ∷ once (codes "std_ulogic") ∷ []
  -- without its fields a path has the mark of its port
  pub mark_of_port : mark_texts tree19 signals19 ([] ∷ [] ∷ [] ∷ (codes "sub" ∷ []) ∷ [])
      ≡ once (codes "std_ulogic") ∷ once (codes "link_r") ∷ once (codes "link_r") ∷ once (codes "sub_r") ∷ []
  -- so the map is whole, for the slave too, whose view is conversed
  pub whole : whole_at rows (codes "ma") ≡ true
  pub whole_slave : whole_at rows (codes "sl") ≡ true
  -- and it isn't with another mode, or without its rows
  pub other_mode : whole_at (rows_with (codes "out")) (codes "ma") ≡ false
  pub without_rows : whole_at [] (codes "ma") ≡ false
  -- each port has its row, in the order of the record; and none is left out
  pub order : rows_stand_for (heads tree19) rows ≡ true
  pub left_out : rows_stand_for (heads tree19) (Rattle.std.specs.Prelude.drop 1 rows) ≡ false
  pub other_order : rows_stand_for (heads tree19) (Rattle.std.specs.Prelude.drop 1 rows ++ Rattle.std.specs.Prelude.take 1 rows) ≡ false
  -- both designs have the top
  pub there : has_entity (codes "ma") (units_in tree19.units) ≡ true
  pub architecture : has_architecture top (units_in tree19.units) ≡ true
  pub not_there : has_entity (codes "none") (units_in tree19.units) ≡ false
  -- and what the first shows to those that use it, the second one shows
  pub interface : keeps_interfaces output_names rows tree19 tree93 ≡ true
  pub not_without : keeps_interfaces output_names rows tree19 without_records ≡ false
