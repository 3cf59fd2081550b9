-- What is known at a place of a design. (IEEE 1076, visibility; the design's declarations so far)
use Rattle.std.specs.Prelude.{ℕ, Bool, true, false, List, [], ◌∷◌, length, Option, Some, None, if◌then◌else◌}
use Rattle.std.specs.Option.{option_or}
use Rattle.std.specs.Str.{is_utf8}
use Rattle.vd_trees.specs.declared.revision.Revision.{Revision}
use Rattle.vd_declarations.specs.declared.classes.Class.{Class}
use Rattle.vd_declarations.specs.declared.classes.Class.TheVariants as class
use Rattle.vd_declarations.specs.declared.declarations.Declaration.{Declaration}
use Rattle.vd_regions.specs.Scopes.{Scopes, declaration_at}
use Rattle.vd_regions.specs.Found.{entered_in}
use Rattle.vd_regions.specs.InOrder.{visible_in, selected_in_order}

-- The revision; how many declarations there are so far, and these by number; the declarations that a name means where it stands alone,
-- and behind a prefix that names a declaration.
pub record Sight : Type 0 where
  pub revision : Revision
  pub count : ℕ
  pub declaration : ℕ → Declaration
  pub visible : (name : List ℕ) → List ℕ
  pub selected : (prefix : ℕ) → (name : List ℕ) → List ℕ

-- A place: the revision, the regions and declarations so far, the region of the place, and that of the ports that are looked up first, which a
-- conversion in front of `=>` has. (IEEE 1076, association lists)
pub record Standpoint : Type 0 where
  pub revision : Revision
  pub scopes : Scopes
  pub region : ℕ
  pub ports : Option ℕ

-- the first port of a name that a region has. The newest declaration of a name stands at the head
abbrev pub is_port : Class → Bool
is_port class.Port = true
is_port _ = false

abbrev pub oldest_port : Scopes → List ℕ → Option ℕ
oldest_port s [] = None
oldest_port s (k ∷ older) = option_or (oldest_port s older) (if is_port (declaration_at s k).class then Some k else None)

abbrev pub port_in : Scopes → Option ℕ → List ℕ → Option ℕ
port_in s None name = None
port_in s (Some region) name = oldest_port s (entered_in s region name)

-- what a name means that stands alone. Bytes that are no text name nothing but a port
abbrev pub visible_from : Standpoint → List ℕ → List ℕ
visible_from p name = if is_utf8 name then visible_in p.scopes p.region name else []

abbrev pub port_or : Option ℕ → List ℕ → List ℕ
port_or None other = other
port_or (Some port) other = port ∷ []

-- what is known there
abbrev pub sight_from : Standpoint → Sight
sight_from p = record {
  revision = p.revision;
  count = length p.scopes.entered;
  declaration = declaration_at p.scopes;
  visible = λ name. port_or (port_in p.scopes p.ports name) (visible_from p name);
  selected = λ prefix name. if is_utf8 name then selected_in_order p.scopes p.region prefix name else [];
}

abbrev pub class_of : Sight → ℕ → Class
class_of s k = (s.declaration k).class

abbrev pub mark_of : Sight → ℕ → Option ℕ
mark_of s k = (s.declaration k).mark

abbrev pub name_of : Sight → ℕ → List ℕ
name_of s k = (s.declaration k).name

-- the parameters of a function, and the elements of a record type
abbrev pub parameters_of : Sight → ℕ → List ℕ
parameters_of s k = (s.declaration k).parameters
