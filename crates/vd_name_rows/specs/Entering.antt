-- Declarations as they are entered: at their ends. (IEEE 1076, declarations; scope of declarations)
use Rattle.std.specs.Prelude.{ℕ, suc, false, List, [], ◌∷◌, ◌++◌, Option, Some, None}
use Rattle.vd_bytes.specs.declared.answers.Refused.{Refused}
use Rattle.vd_bytes.specs.declared.places.Place.{Place}
use Rattle.vd_declarations.specs.declared.classes.Class.{Class}
use Rattle.vd_declarations.specs.declared.classes.Made.TheVariants as made
use Rattle.vd_declarations.specs.declared.declarations.Declaration.{Declaration}
use Rattle.vd_forest.specs.Forest.{Forest, nothing, more, parts_of, skipped}
use Rattle.vd_forms.specs.declared.form.Form.{Form}
use Rattle.vd_predefined.specs.Entries.{with_entry}
use Rattle.vd_regions.specs.Homographs.{homograph}
use Rattle.vd_regions.specs.Scopes.{Scopes}
use Rattle.vd_resolved.specs.declared.node.Resolved.{Resolved}
use Rattle.vd_name_rows.specs.Designs.{Design, with_scopes}
use Rattle.vd_name_rows.specs.Refusals.{lesser, broken}
use Rattle.vd_name_rows.specs.Words.{declared_name}

-- ---- names that are declared, each with its place

pub record Word : Type 0 where
  pub name : List ℕ
  pub place : Place

abbrev pub words_of : Forest Form → List Word
words_of nothing = []
words_of (more form text place parts next) = record { name = declared_name form text; place = place } ∷ words_of next

-- the names of the list that is the part of this number
abbrev pub words_in : ℕ → Forest Form → List Word
words_in n parts = words_of (parts_of (skipped n parts))

-- the number of the n-th part, and of all behind it, on their nodes
abbrev pub numbered : ℕ → Forest Resolved → Forest Resolved
numbered n nothing = nothing
numbered n (more node text place parts next) = more (record node { declaration = Some n }) text place parts (numbered (suc n) next)

-- ---- a declaration

-- of a class, a name and a type
abbrev pub declaration_of : Class → Word → Option ℕ → Declaration
declaration_of c w mark =
    record { class = c; name = w.name; mark = mark; parameters = []; generics = []; inside = None; place = w.place; made = made.Written; wanted = w.name }

-- a design, and the first rule that is broken in entering declarations
pub record Entering : Type 0 where
  pub design : Design
  pub first : Option Refused

abbrev pub refused_homograph : ℕ → Place → Option ℕ → Option Refused
refused_homograph rule place None = None
refused_homograph rule place (Some k) = broken rule place

-- it stands behind the others; where it may not stand beside one of its region, the rule is broken
abbrev pub entering_as : ℕ → ℕ → Declaration → Design → Entering
entering_as rule region new d =
    record { design = with_scopes d (with_entry d.scopes region new); first = refused_homograph rule new.place (homograph d.scopes region new) }

abbrev pub entering : ℕ → Declaration → Design → Entering
entering region new d = entering_as 304 region new d

abbrev pub then_entering : Entering → (Design → Entering) → Entering
then_entering x next = let y = next x.design in
    record { design = y.design; first = lesser x.first y.first }

abbrev pub nothing_entering : Design → Entering
nothing_entering d = record { design = d; first = None }

-- several of one class and type
abbrev pub entering_words : ℕ → Class → Option ℕ → List Word → Design → Entering
entering_words region c mark [] d = nothing_entering d
entering_words region c mark (w ∷ ws) d = then_entering (entering region (declaration_of c w mark) d) (entering_words region c mark ws)

-- ---- regions

-- one region more, which continues another
abbrev pub with_part : Scopes → ℕ → Option ℕ → Scopes
with_part s outer continues =
    record s { regions = s.regions ++ record { outer = outer; continues = continues; closed = false; uses = [] } ∷ [] }
