-- Where the lists of a design's interfaces stand in its tree: which trees side by side are looked at, and what is looked for in them.
use Rattle.std.specs.Prelude.{◌-◌, ◌==◌, ◌++◌, ◌∷◌, Bool, List, None, Option, Some, [], false, if◌then◌else◌, true, ℕ}
use Rattle.vd_walks.specs.Finding.{Finder}
use Rattle.vd_forest.specs.Forest.{Forest, more, nothing, skipped}
use Rattle.vd_forms.specs.declared.form.Form.{Form}
use Rattle.vd_walks.specs.Gathering.{all_found}
use Rattle.vd_meaning.specs.Facets.{nth}
use Rattle.vd_meaning.specs.Meanings.{made, meanings}
use Rattle.vd_meaning.specs.Names.{number_or}
use Rattle.vd_meaning.specs.Tables.{Table}
use Rattle.vd_port_lists.specs.FirstTrees.{declared_first, present_first}
use Rattle.vd_port_lists.specs.declared.entries.ListedElement.{ListedElement}
use Rattle.vd_port_lists.specs.declared.entries.ListedInstance.{ListedInstance}
use Rattle.vd_port_lists.specs.declared.entries.ListedPort.{ListedPort}
use Rattle.vd_port_lists.specs.declared.modes.Mode.TheVariants.{BothWays, Input, Output}
use Rattle.vd_port_lists.specs.declared.modes.PortMode.{PortMode}
use Rattle.vd_port_lists.specs.declared.modes.PortMode.TheVariants.{ByView, Plain}
use Rattle.vd_port_lists.specs.declared.seeking.Seeking.{Seeking}
use Rattle.vd_port_lists.specs.declared.seeking.Sought.{Sought}
use Rattle.vd_port_lists.specs.declared.seeking.Sought.TheVariants.{ElementLists, Names, PackageInstances, PortLists, Units, Views}
use Rattle.vd_port_lists.specs.declared.seeking.Trees.{Trees}
use Rattle.vd_port_lists.specs.declared.seeking.Trees.TheVariants.{AllTrees, NoTree, OneTree}
use Rattle.vd_port_lists.specs.declared.views.ListedView.{ListedView}
use Rattle.vd_resolved.specs.declared.node.Resolved.{Resolved}
use Rattle.vd_forms.specs.declared.form.Form.TheVariants as form

-- ---- which trees

abbrev pub is_here : Trees → Bool
is_here AllTrees = true
is_here (OneTree count) = count == 0
is_here NoTree = false

abbrev pub further : Trees → Trees
further AllTrees = AllTrees
further (OneTree count) = if count == 0 then NoTree else OneTree (count - 1)
further NoTree = NoTree

-- for the next tree
abbrev pub behind : Seeking → Seeking
behind s = record { trees = further s.trees; sought = s.sought }

abbrev pub nothing_sought : Seeking
nothing_sought = record { trees = NoTree; sought = Units }

abbrev pub all_trees : Sought → Seeking
all_trees sought = record { trees = AllTrees; sought = sought }

abbrev pub one_tree : ℕ → Sought → Seeking
one_tree number sought = record { trees = OneTree number; sought = sought }

-- what a tree answers that is looked at, and what is looked for inside it
abbrev pub seeker : {A : Type 0} → (Sought → Resolved → List ℕ → Forest Resolved → Option A) → (Sought → Form → Forest Resolved → Seeking) → Finder Resolved Seeking A
seeker answer inner =
    record {
      answer = λ s n text place parts. if is_here s.trees then answer s.sought n text parts else None;
      down = λ s n text place parts. if is_here s.trees then inner s.sought n.form parts else nothing_sought;
      along = λ s n text place parts. behind s;
    }

-- ---- modes

abbrev pub plain_mode : Form → PortMode
plain_mode form.Out = Plain Output
plain_mode form.InOut = Plain BothWays
plain_mode _ = Plain Input

abbrev pub mode_by : Table → Form → Forest Resolved → PortMode
mode_by t form.ViewMode parts = ByView (declared_first t parts) (present_first t (skipped 1 parts))
mode_by t f parts = plain_mode f

abbrev pub mode_at : Table → Forest Resolved → PortMode
mode_at t nothing = Plain Input
mode_at t (more n text place parts next) = mode_by t n.form parts

-- ---- names

-- lists of names, and what stands for one
abbrev pub inside_names : Form → PortMode → Seeking
inside_names form.IdentifierList mode = all_trees (Names mode)
inside_names form.Association mode = one_tree 1 (Names mode)
inside_names form.OthersAssociation mode = one_tree 0 (Names mode)
inside_names form.UnconstrainedIndex mode = one_tree 0 (Names mode)
inside_names _ mode = nothing_sought

-- ---- ports, which stand in the third parts of entities

abbrev pub inside_unit : Form → Seeking
inside_unit form.EntityDeclaration = one_tree 2 PortLists
inside_unit form.ArchitectureBody = nothing_sought
inside_unit form.PackageDeclaration = nothing_sought
inside_unit form.PackageBody = nothing_sought
inside_unit form.PackageInstantiation = nothing_sought
inside_unit _ = all_trees Units

abbrev pub inside_port : Table → Form → Forest Resolved → Seeking
inside_port t form.PortDeclaration parts = one_tree 1 (Names (mode_at t (skipped 2 parts)))
inside_port t form.ViewPort parts = one_tree 1 (Names (ByView (declared_first t (skipped 2 parts)) (present_first t (skipped 3 parts))))
inside_port t _ parts = all_trees PortLists

abbrev pub inside_for_ports : Table → Sought → Form → Forest Resolved → Seeking
inside_for_ports t Units f parts = inside_unit f
inside_for_ports t PortLists f parts = inside_port t f parts
inside_for_ports t (Names mode) f parts = inside_names f mode
inside_for_ports t _ f parts = nothing_sought

abbrev pub port_of_number : Option ℕ → PortMode → Option ListedPort
port_of_number None mode = None
port_of_number (Some number) mode = Some (record { number = number; mode = mode })

abbrev pub named_port : Form → Option ℕ → PortMode → Option ListedPort
named_port form.Identifier number mode = port_of_number number mode
named_port _ number mode = None

abbrev pub port_at : Sought → Resolved → List ℕ → Forest Resolved → Option ListedPort
port_at (Names mode) n text parts = named_port n.form n.declaration mode
port_at _ n text parts = None

abbrev pub port_seeker : Table → Finder Resolved Seeking ListedPort
port_seeker t = seeker port_at (inside_for_ports t)

-- ---- elements of views, which stand in their third parts

abbrev pub inside_element : Table → Form → Forest Resolved → Seeking
inside_element t form.ViewElement parts = one_tree 0 (Names (mode_at t (skipped 1 parts)))
inside_element t _ parts = all_trees ElementLists

abbrev pub inside_for_elements : Table → Sought → Form → Forest Resolved → Seeking
inside_for_elements t ElementLists f parts = inside_element t f parts
inside_for_elements t (Names mode) f parts = inside_names f mode
inside_for_elements t _ f parts = nothing_sought

-- a character literal has its apostrophes
abbrev pub named_element : Form → List ℕ → PortMode → Option ListedElement
named_element form.Identifier text mode = Some (record { name = text; mode = mode })
named_element form.Letter text mode = Some (record { name = 39 ∷ (text ++ 39 ∷ []); mode = mode })
named_element _ text mode = None

abbrev pub element_at : Sought → Resolved → List ℕ → Forest Resolved → Option ListedElement
element_at (Names mode) n text parts = named_element n.form text mode
element_at _ n text parts = None

abbrev pub element_seeker : Table → Finder Resolved Seeking ListedElement
element_seeker t = seeker element_at (inside_for_elements t)

abbrev pub elements_in : Table → Forest Resolved → List ListedElement
elements_in t f = all_found (element_seeker t) (one_tree 2 ElementLists) f

-- ---- views. No view is declared inside one

abbrev pub inside_view : Form → Seeking
inside_view form.ViewDeclaration = nothing_sought
inside_view _ = all_trees Views

abbrev pub inside_for_views : Sought → Form → Forest Resolved → Seeking
inside_for_views Views f parts = inside_view f
inside_for_views _ f parts = nothing_sought

abbrev pub view_of : Table → Resolved → Forest Resolved → ListedView
view_of t n parts =
    record {
      view = number_or (made n (nth 0 (meanings t parts)));
      mark = declared_first t (skipped 1 parts);
      elements = elements_in t parts;
    }

abbrev pub view_by : Form → Table → Resolved → Forest Resolved → Option ListedView
view_by form.ViewDeclaration t n parts = Some (view_of t n parts)
view_by _ t n parts = None

abbrev pub view_at : Table → Sought → Resolved → List ℕ → Forest Resolved → Option ListedView
view_at t Views n text parts = view_by n.form t n parts
view_at t _ n text parts = None

abbrev pub view_seeker : Table → Finder Resolved Seeking ListedView
view_seeker t = seeker (view_at t) inside_for_views

-- ---- instances of packages

abbrev pub inside_package : Form → Seeking
inside_package form.EntityDeclaration = nothing_sought
inside_package form.ArchitectureBody = nothing_sought
inside_package form.PackageDeclaration = nothing_sought
inside_package form.PackageBody = nothing_sought
inside_package form.PackageInstantiation = nothing_sought
inside_package _ = all_trees PackageInstances

abbrev pub inside_for_instances : Sought → Form → Forest Resolved → Seeking
inside_for_instances PackageInstances f parts = inside_package f
inside_for_instances _ f parts = nothing_sought

abbrev pub instance_of : Table → Resolved → Forest Resolved → ListedInstance
instance_of t n parts =
    record {
      generic = number_or (declared_first t (skipped 1 parts));
      instance = number_or (made n (nth 0 (meanings t parts)));
    }

abbrev pub instance_by : Form → Table → Resolved → Forest Resolved → Option ListedInstance
instance_by form.PackageInstantiation t n parts = Some (instance_of t n parts)
instance_by _ t n parts = None

abbrev pub instance_at : Table → Sought → Resolved → List ℕ → Forest Resolved → Option ListedInstance
instance_at t PackageInstances n text parts = instance_by n.form t n parts
instance_at t _ n text parts = None

abbrev pub instance_seeker : Table → Finder Resolved Seeking ListedInstance
instance_seeker t = seeker (instance_at t) inside_for_instances
