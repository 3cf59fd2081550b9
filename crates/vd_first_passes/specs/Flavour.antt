-- The 1993 tree of a lowered one: ports are declared one by one, each unit's name stands again at its end, and a process
-- has the word `is`.
use Rattle.std.specs.Prelude.{Bool, ◌||◌, [], if◌then◌else◌}
use Rattle.vd_forest.specs.Forest.{Forest, nothing, more, parts_of, next_of, with_next, joined}
use Rattle.vd_first_trees.specs.declared.form.Form.{Form}
use Rattle.vd_first_trees.specs.declared.form.Form.TheVariants as form
use Rattle.vd_first_trees.specs.Forms.{same_form}

-- a declaration for each identifier of a list, each with the same mode and subtype
abbrev pub each_port : Forest Form → Forest Form → Forest Form
each_port nothing mode_and_subtype = nothing
each_port (more f t p parts next) mode_and_subtype =
    more form.PortDeclaration [] p (more form.IdentifierList [] p (more f t p parts nothing) mode_and_subtype) (each_port next mode_and_subtype)

-- declarations of ports, each with one identifier
abbrev pub single_ports : Forest Form → Forest Form
single_ports nothing = nothing
single_ports (more f t p parts next) = joined (each_port (parts_of parts) (next_of parts)) (single_ports next)

-- the parts of a process, with the word `is`
abbrev pub present : Form → Form
present f = if same_form f form.Absent then form.Is else f

abbrev pub with_is : Forest Form → Forest Form
with_is nothing = nothing
with_is (more f t p parts next) = more (present f) t p parts (with_is next)

-- a unit's parts, its closing having this identifier
abbrev pub closed_by : Forest Form → Forest Form → Forest Form
closed_by identifier nothing = nothing
closed_by identifier (more f t p parts next) = more f t p (if same_form f form.Closing then identifier else parts) (closed_by identifier next)

abbrev pub is_unit : Form → Bool
is_unit f = same_form f form.EntityDeclaration || same_form f form.ArchitectureBody

abbrev pub flavoured : Forest Form → Forest Form
flavoured nothing = nothing
flavoured (more f t p parts next) =
    more f t p
    (if same_form f form.PortClause then single_ports parts
    else (if same_form f form.ProcessStatement then with_is parts
    else (if is_unit f then closed_by (with_next parts nothing) (flavoured parts) else flavoured parts)))
    (flavoured next)

-- the parts of one tree
abbrev pub flavoured_parts : Form → Forest Form → Forest Form
flavoured_parts f parts =
    if same_form f form.PortClause then single_ports parts
    else (if same_form f form.ProcessStatement then with_is parts
    else (if is_unit f then closed_by (with_next parts nothing) (flavoured parts) else flavoured parts))

-- the same of a unit's part, where the unit's identifier is known
abbrev pub closing_parts : Forest Form → Form → Forest Form → Forest Form
closing_parts identifier f parts = if same_form f form.Closing then identifier else flavoured_parts f parts
