-- What stands at the end of a unit, a declaration or a statement and repeats what stands at its head. (IEEE 1076, entity declarations,
-- architecture bodies, packages, subprogram bodies, record types, mode views; labels of statements; case statements)
use Rattle.std.specs.Prelude.{ℕ, Bool, true, false, List, Option, Some, None, bytes_eq}
use Rattle.std.specs.Str.{str_eq_ignore_ascii_case}
use Rattle.vd_forest.specs.Forest.{Forest, nothing, more, skipped}
use Rattle.vd_forms.specs.declared.form.Form.{Form}
use Rattle.vd_forms.specs.declared.form.Form.TheVariants as form

-- ---- designators

-- Identifiers are in lower case; operator symbols are the same in either case of letters.
abbrev pub is_same_designator : Form → List ℕ → Form → List ℕ → Bool
is_same_designator form.Identifier a form.Identifier b = bytes_eq a b
is_same_designator form.Quoted a form.Quoted b = str_eq_ignore_ascii_case a b
is_same_designator _ a _ b = false

-- the first tree is this designator
abbrev pub is_designator : Forest Form → Form → List ℕ → Bool
is_designator nothing g name = false
is_designator (more f text place parts next) g name = is_same_designator f text g name

-- ---- units and declarations

-- the part of a unit or declaration that has the name at its head
abbrev pub head_part : Form → ℕ
head_part form.FunctionBody = 1
head_part _ = 0

-- the part that closes it
abbrev pub closing_part : Form → Option ℕ
closing_part form.ContextDeclaration = Some 2
closing_part form.EntityDeclaration = Some 3
closing_part form.ArchitectureBody = Some 4
closing_part form.PackageBody = Some 2
closing_part form.PackageDeclaration = Some 3
closing_part form.FunctionBody = Some 8
closing_part form.TypeDeclaration = Some 1
closing_part form.ViewDeclaration = Some 3
closing_part _ = None

-- the name of a context declaration is a selected name of one identifier
abbrev pub name_at_head : Forest Form → Forest Form
name_at_head (more form.SelectedName text place parts next) = parts
name_at_head f = f

-- the name at the end is the second part of what closes; that of a view closes alone
abbrev pub name_in_closing : Forest Form → Forest Form
name_in_closing (more form.Closing text place parts next) = skipped 1 parts
name_in_closing (more form.FunctionClosing text place parts next) = skipped 1 parts
name_in_closing (more form.RecordType text place parts next) = skipped 1 parts
name_in_closing f = f

-- ---- statements

-- the part of a statement in which its label may stand again
abbrev pub label_part : Form → Option ℕ
label_part form.IfStatement = Some 4
label_part form.CaseStatement = Some 4
label_part form.ForLoop = Some 3
label_part form.WhileLoop = Some 2
label_part form.LoopStatement = Some 1
label_part form.ProcessStatement = Some 4
label_part form.IfGenerate = Some 4
label_part form.ForGenerate = Some 3
label_part form.CaseGenerate = Some 2
label_part _ = None

-- a statement with a label, which is its first part, and the statement behind it
abbrev pub has_label : Form → Bool
has_label form.LabelledStatement = true
has_label form.LabelledConcurrent = true
has_label _ = false

-- ---- the mark of a matching case

-- the first tree is the mark
abbrev pub is_mark : Forest Form → Bool
is_mark (more form.Matching text place parts next) = true
is_mark _ = false
