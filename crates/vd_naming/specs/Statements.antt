-- Labels, lists of names, and the parameters of loops and generates. (IEEE 1076, loop statements; generate statements; next and exit statements)
use Rattle.std.specs.Prelude.{ℕ, ◌+◌, not, List, Option, Some, None}
use Rattle.vd_bytes.specs.declared.places.Place.{Place}
use Rattle.vd_declarations.specs.declared.classes.Class.{Class}
use Rattle.vd_declarations.specs.declared.classes.Class.TheVariants as class
use Rattle.vd_forest.specs.Forest.{Forest, nothing, more, tree_count, parts_of, text_of}
use Rattle.vd_forms.specs.declared.form.Form.{Form}
use Rattle.vd_forms.specs.declared.form.Form.TheVariants as form
use Rattle.vd_name_rows.specs.Noting.{with_loop, is_loop_label}
use Rattle.vd_name_rows.specs.declared.steps.Want.TheVariants as want
use Rattle.vd_name_rows.specs.Designs.{At, Design, Outcome, sight, gives}
use Rattle.vd_name_rows.specs.Entering.{numbered, declaration_of, entering}
use Rattle.vd_name_rows.specs.Members.{next_number}
use Rattle.vd_name_rows.specs.Refusals.{lesser, broken_if}
use Rattle.vd_name_rows.specs.Words.{declared_name}
use Rattle.vd_naming.specs.Expressions.{resolved, unresolved, at_hand, expression, names_or}
use Rattle.vd_naming.specs.Selected.{Meant, some_or}
use Rattle.vd_naming.specs.Paths.{one_that, refused_path}
use Rattle.vd_naming.specs.Units.{is_single}

abbrev pub alone : Form → List ℕ → Place → Forest Form → Forest Form
alone f text place parts = more f text place parts nothing

abbrev pub skipped : At → Design → Forest Form → Outcome
skipped at d tree = gives at d (unresolved tree) None

-- what will be declared at the end
abbrev pub word : At → Design → Form → List ℕ → Place → Forest Form → Outcome
word at d f text place parts = skipped (record at { word = declared_name f text; word_place = place }) d (alone f text place parts)

-- the same where the grammar has a selected name, which has to be one identifier
abbrev pub simple_name : At → Design → Place → Forest Form → Outcome
simple_name at d place tree =
    gives (record at { word = text_of (parts_of tree); word_place = place }) d (unresolved tree) (broken_if (not (is_single (parts_of tree))) 307 place)

-- the names of a list have the numbers that come next
abbrev pub names : At → Design → Form → List ℕ → Place → Forest Form → Outcome
names at d f text place parts =
    gives (record at { next = at.next + tree_count parts }) d (more (resolved f None None) text place (numbered at.next (unresolved parts)) nothing) None

-- a label is declared where it stands
abbrev pub label : At → Design → Form → List ℕ → Place → Outcome
label at d f text place =
    let e = entering at.region (declaration_of class.Label (record { name = text; place = place }) None) d in
    gives (record at { label_place = place }) (with_loop at.is_loop (next_number d) e.design) (more (resolved f (Some (next_number d)) None) text place nothing nothing) e.first

abbrev pub label_named : Option ℕ → Meant → At → Design → Form → List ℕ → Place → Outcome
label_named k m at d f text place = gives at d (more (resolved f k None) text place nothing nothing) (refused_path k m place)

abbrev pub label_name_as : Meant → At → Design → Form → List ℕ → Place → Outcome
label_name_as m at d f text place = label_named (one_that (is_loop_label d) m) m at d f text place

abbrev pub label_name : At → Design → Form → List ℕ → Place → Outcome
label_name at d form.Absent text place = skipped at d (alone form.Absent text place nothing)
label_name at d f text place = label_name_as (some_or 303 ((sight at d).visible text)) at d f text place

-- the parameter of a loop or generate, whose range has the type of its values
abbrev pub declared_parameter : Class → Outcome → Outcome
declared_parameter c o =
    let e = entering o.at.region (declaration_of c (record { name = o.at.word; place = o.at.word_place }) o.at.mark) o.design in
    record o { design = e.design; first = lesser o.first e.first }

abbrev pub parameter : Class → At → Design → Forest Form → Outcome
parameter c at d tree = declared_parameter c (at_hand (expression want.AnyRange at d tree))

-- one range is enough
abbrev pub surplus : At → Design → Place → Forest Form → Outcome
surplus at d place tree = gives at d (unresolved tree) (names_or 305 at d place tree)
