-- A design with an expression as an actual and a generate with two alternatives, the one that is written from it, and the map between them: what joins, the marks, and the traces.
use Rattle.std.specs.Prelude.{◌≡◌, ℕ, ◌+◌, Bool, true, false, List, [], ◌∷◌, ◌++◌, map, Option, Some, None, codes}
use Rattle.vd_values.specs.declared.scalar.Scalar.TheVariants.{Literal}
use Rattle.vd_trees.specs.declared.revision.Revision.{Revision}
use Rattle.vd_trees.specs.declared.revision.Revision.TheVariants.{V2019, V1993}
use Rattle.vd_trees.specs.declared.rows.Row.{Row}
use Rattle.vd_trees.specs.declared.rows.RowKind.TheVariants as kinds
use Rattle.vd_composites.specs.Composites.{One}
use Rattle.vd_declarations.specs.declared.classes.Class.TheVariants as class
use Rattle.vd_declarations.specs.declared.declarations.Declaration.{Declaration}
use Rattle.vd_forms.specs.declared.form.Form.{Form}
use Rattle.vd_forms.specs.declared.form.Form.TheVariants as form
use Rattle.vd_resolved.specs.Trees.{ResolvedTree, side_by_side}
use Rattle.vd_predefined.specs.Given.{given_scopes}
use Rattle.vd_predefined.specs.Entries.{declared}
use Rattle.vd_predefined.specs.Lines.{quoted}
use Rattle.vd_predefined.specs.declared.numbers.TheConstants.{BIT, BOOLEAN, STD_ULOGIC}
use Rattle.vd_meaning.specs.Building.{ScalarObject}
use Rattle.vd_meaning.specs.Elaborations.{Elaboration, elaboration}
use Rattle.vd_meaning_facts.specs.Trees.{node, plain, absent, letter, name, number_from}
use Rattle.vd_elaboration_facts.specs.Designs.{Tree, word, architecture, tied, lines, text_of}
use Rattle.vd_elaboration_facts.specs.Hierarchies.{names, closing, unit, entity}
use Rattle.vd_maps.specs.Tops.{NamedTop, top_in}
use Rattle.vd_maps.specs.RowOrders.{heads, rows_stand_for}
use Rattle.vd_maps.specs.Paths.{row, table}
use Rattle.vd_maps.specs.Views.{indication, std_ulogic, port, assign, signals_of, mark_texts, once, whole_for}

-- ---- declarations, from a first number on: the port x, the generic n, the signals a, b and v, and u_x, which is written

abbrev pub declarations : List Declaration
declarations =
    declared class.Port (codes "x") (Some STD_ULOGIC) [] ∷ declared class.GenericConstant (codes "n") (Some BOOLEAN) []
    ∷ declared class.Signal (codes "a") (Some STD_ULOGIC) [] ∷ declared class.Signal (codes "b") (Some STD_ULOGIC) []
    ∷ declared class.Signal (codes "v") (Some BIT) [] ∷ declared class.Signal (codes "u_x") (Some STD_ULOGIC) [] ∷ []

abbrev pub given : Revision → List Declaration
given r = map (λ x. x.declaration) (given_scopes r).entered

abbrev pub design : Revision → List Tree → ResolvedTree
design r trees = record { units = side_by_side trees; declarations = given r ++ declarations }

-- an operator of the revision, on operands of these types, with a result of a type
abbrev pub operator : Revision → Form → List ℕ → List ℕ → ℕ → List Tree → Tree
operator r f symbol types mark parts = node f (Some (number_from (given r) (quoted symbol) types 0 (given r))) (Some mark) 0 [] parts

abbrev pub not_of : Revision → ℕ → Tree → Tree
not_of r mark e = operator r form.Not (codes "not") (mark ∷ []) mark (e ∷ [])

abbrev pub and_of : Revision → ℕ → Tree → Tree → Tree
and_of r mark e f = operator r form.And (codes "and") (mark ∷ mark ∷ []) mark (e ∷ f ∷ [])

-- ---- pieces

abbrev pub signal : ℕ → List ℕ → Tree → Tree → Tree
signal d text mark initial = plain form.SignalDeclaration (names d text ∷ mark ∷ initial ∷ [])

abbrev pub signal_v : ℕ → Tree
signal_v d = signal (d + 4) (codes "v") (indication BIT (codes "bit")) absent

abbrev pub entity_k : ℕ → List Tree
entity_k d = entity (codes "k") absent (port d (codes "x") form.In ∷ []) ∷ architecture (codes "rtl") (codes "k") [] [] ∷ []

abbrev pub entity_t : ℕ → Tree
entity_t d =
    unit (plain form.EntityDeclaration (word (codes "t")
    ∷ plain form.GenericClause (plain form.GenericConstant (absent ∷ names (d + 1) (codes "n") ∷ absent ∷ indication BOOLEAN (codes "boolean") ∷ absent ∷ []) ∷ []) ∷ absent ∷ closing ∷ []))

abbrev pub a_and_b : ℕ → List Tree
a_and_b d =
    signal (d + 2) (codes "a") std_ulogic (letter STD_ULOGIC 3 49) ∷ signal (d + 3) (codes "b") std_ulogic (letter STD_ULOGIC 2 48) ∷ []

abbrev pub labelled : List ℕ → Tree → Tree
labelled label statement = plain form.LabelledConcurrent (word label ∷ statement ∷ [])

abbrev pub instance_u : ℕ → Tree → Tree
instance_u d actual =
    labelled (codes "u") (plain form.EntityInstantiation (plain form.SelectedName (word (codes "work") ∷ word (codes "k") ∷ []) ∷ absent ∷ absent ∷ plain form.PortMap (tied d actual ∷ []) ∷ []))

abbrev pub expression : Revision → ℕ → Tree
expression r d = and_of r STD_ULOGIC (name (d + 2) STD_ULOGIC) (not_of r STD_ULOGIC (name (d + 3) STD_ULOGIC))

abbrev pub not_n : Revision → ℕ → Tree
not_n r d = not_of r BOOLEAN (name (d + 1) BOOLEAN)

abbrev pub body : List Tree → Tree
body declaring = plain form.GenerateBody (plain form.DeclarativePart declaring ∷ [])

-- ---- entity k is port (x : in std_ulogic); end; architecture rtl of k is begin end; entity t is generic (n : boolean); end; architecture s of t is
-- signal a : std_ulogic := '1'; signal b : std_ulogic := '0'; begin u : entity work.k port map (x => a and not b);
-- g : if n generate begin elsif not n generate signal v : bit; begin end generate; end;

abbrev pub texts19 : ℕ → List Tree
texts19 d =
    entity_k d
    ++ (entity_t d
    ∷ architecture (codes "s") (codes "t") (a_and_b d)
    (instance_u d (expression V2019 d)
    ∷ labelled (codes "g") (plain form.IfGenerate (name (d + 1) BOOLEAN ∷ body [] ∷ plain form.ElsifGenerates (plain form.ElsifGenerate (not_n V2019 d ∷ body (signal_v d ∷ []) ∷ []) ∷ []) ∷ absent ∷ absent ∷ [])) ∷ [])
    ∷ [])

-- ---- what is written: k and t as they are; architecture s of t is signal a : std_ulogic := '1'; signal b : std_ulogic := '0'; signal u_x : std_ulogic; begin
-- u_x <= a and (not b); u : entity work.k port map (x => u_x); g : if n generate begin end generate;
-- g_2 : if (not n) and (not n) generate signal v : bit; begin end generate; end;

abbrev pub texts93 : ℕ → List Tree
texts93 d =
    entity_k d
    ++ (entity_t d
    ∷ architecture (codes "s") (codes "t") (a_and_b d ++ signal (d + 5) (codes "u_x") std_ulogic absent ∷ [])
    (assign (name (d + 5) STD_ULOGIC) (expression V1993 d)
    ∷ instance_u d (name (d + 5) STD_ULOGIC)
    ∷ labelled (codes "g") (plain form.IfGenerate (name (d + 1) BOOLEAN ∷ body [] ∷ plain form.ElsifGenerates [] ∷ absent ∷ absent ∷ []))
    ∷ labelled (codes "g_2") (plain form.IfGenerate (and_of V1993 BOOLEAN (not_n V1993 d) (not_n V1993 d) ∷ body (signal_v d ∷ []) ∷ plain form.ElsifGenerates [] ∷ absent ∷ absent ∷ [])) ∷ [])
    ∷ [])

abbrev pub tree19 : ResolvedTree
tree19 = design V2019 (texts19 463)

abbrev pub tree93 : ResolvedTree
tree93 = design V1993 (texts93 387)

abbrev pub rows : List Row
rows =
    row kinds.Port (codes "k") (codes "x") (codes "x") (codes "std_ulogic") (codes "in")
    ∷ row kinds.Signal (codes "t(s)") (codes "a") (codes "a") (codes "std_ulogic") []
    ∷ row kinds.Signal (codes "t(s)") (codes "b") (codes "b") (codes "std_ulogic") []
    ∷ row kinds.Implicit (codes "t(s)") (codes "u'x") (codes "u_x") (codes "std_ulogic") []
    ∷ row kinds.Signal (codes "t(s)") (codes "g.v") (codes "g_2.v") (codes "bit") []
    ∷ row kinds.Label (codes "t(s)") (codes "u") (codes "u") [] []
    ∷ row kinds.Label (codes "t(s)") (codes "g") (codes "g") [] []
    ∷ row kinds.Label (codes "t(s)") (codes "g") (codes "g_2") [] []
    ∷ []

-- n is false, so that the second alternative is taken
abbrev pub top : NamedTop
top = record { entity = codes "t"; architecture = None; generics = (codes "n", One (Literal 0)) ∷ [] }

abbrev pub elaborated19 : Elaboration
elaborated19 = elaboration V2019 tree19 (top_in tree19 top)

abbrev pub elaborated93 : Elaboration
elaborated93 = elaboration V1993 tree93 (top_in tree93 top)

pub record Expressions : Type 0 where
  -- a, b, u'x, u.x and g.v join a, b, u_x, u.x and g_2.v
  pub joined : table rows (map (λ (x : ScalarObject). x.path) (signals_of elaborated19)) (map (λ (x : ScalarObject). x.path) (signals_of elaborated93))
      ≡ (true ∷ false ∷ false ∷ false ∷ false ∷ []) ∷ (false ∷ true ∷ false ∷ false ∷ false ∷ []) ∷ (false ∷ false ∷ true ∷ false ∷ false ∷ [])
      ∷ (false ∷ false ∷ false ∷ true ∷ false ∷ []) ∷ (false ∷ false ∷ false ∷ false ∷ true ∷ []) ∷ []
  pub marks19 : mark_texts tree19 (signals_of elaborated19) ([] ∷ [] ∷ [] ∷ [] ∷ [] ∷ [])
      ≡ once (codes "std_ulogic") ∷ once (codes "std_ulogic") ∷ once (codes "std_ulogic") ∷ once (codes "std_ulogic") ∷ once (codes "bit") ∷ []
  pub marks93 : mark_texts tree93 (signals_of elaborated93) ([] ∷ [] ∷ [] ∷ [] ∷ [] ∷ [])
      ≡ once (codes "std_ulogic") ∷ once (codes "std_ulogic") ∷ once (codes "std_ulogic") ∷ once (codes "std_ulogic") ∷ once (codes "bit") ∷ []
  -- so the map is whole for this top
  pub whole : whole_for rows tree19 tree93 elaborated19 elaborated93 ≡ true
  -- its rows are those of the design, in order; an implicit signal may have none
  pub order : rows_stand_for (heads tree19) rows ≡ true
  pub without_ports : rows_stand_for (heads tree19) (Rattle.std.specs.Prelude.drop 1 rows) ≡ false
  -- the same steps, in which joined signals show the same
  pub trace19 : text_of elaborated19 1
      ≡ lines (codes "cycle 0 0 0" ∷ codes "t.a = '1'" ∷ codes "t.b = '0'" ∷ codes "t.u'x = 'U'" ∷ codes "t.u.x = 'U'" ∷ codes "t.g.v = '0'"
      ∷ codes "cycle 1 0 1" ∷ codes "t.u'x = '1'" ∷ codes "t.u.x = '1'" ∷ codes "quiet" ∷ [])
  pub trace93 : text_of elaborated93 1
      ≡ lines (codes "cycle 0 0 0" ∷ codes "t.a = '1'" ∷ codes "t.b = '0'" ∷ codes "t.u_x = 'U'" ∷ codes "t.u.x = 'U'" ∷ codes "t.g_2.v = '0'"
      ∷ codes "cycle 1 0 1" ∷ codes "t.u_x = '1'" ∷ codes "t.u.x = '1'" ∷ codes "quiet" ∷ [])
