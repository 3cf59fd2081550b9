-- The resolved design: what the header of a body declares stands for what the header of the function's declaration declares. (IEEE 1076, subprogram bodies)
use Rattle.std.specs.Prelude.{ℕ, ◌+◌, ◌-◌, nat_lt, Bool, ◌&&◌, not, List, [], ◌∷◌, map, Option, option_map, if◌then◌else◌}
use Rattle.vd_declarations.specs.declared.classes.Class.{Class}
use Rattle.vd_declarations.specs.declared.classes.Class.TheVariants as class
use Rattle.vd_declarations.specs.declared.declarations.Declaration.{Declaration}
use Rattle.vd_resolved.specs.Trees.{ResolvedTree}
use Rattle.vd_resolved.specs.declared.node.Resolved.{Resolved}
use Rattle.vd_rewriting.specs.Forms.{with_forms}
use Rattle.vd_name_rows.specs.Designs.{Outcome}
use Rattle.vd_name_rows.specs.declared.notes.Taken.{Taken}

abbrev pub is_taken : ℕ → Taken → Bool
is_taken n t = not (nat_lt n t.first) && nat_lt n t.end

abbrev pub settled : List Taken → ℕ → ℕ
settled [] n = n
settled (t ∷ ts) n = if is_taken n t then (n - t.first) + t.other else settled ts n

abbrev pub settled_some : List Taken → Option ℕ → Option ℕ
settled_some ts n = option_map (settled ts) n

abbrev pub settled_node : List Taken → Resolved → Resolved
settled_node ts n = record n { declaration = settled_some ts n.declaration; mark = settled_some ts n.mark }

abbrev pub settled_class : List Taken → Class → Class
settled_class ts (class.ArrayType index element element_mark) = class.ArrayType (settled ts index) (settled ts element) (settled ts element_mark)
settled_class ts (class.Subtype mark) = class.Subtype (settled ts mark)
settled_class ts (class.ActualFunction actual) = class.ActualFunction (settled ts actual)
settled_class ts other = other

abbrev pub settled_declaration : List Taken → Declaration → Declaration
settled_declaration ts d =
    record d {
      class = settled_class ts d.class;
      mark = settled_some ts d.mark;
      parameters = map (settled ts) d.parameters;
      generics = map (settled ts) d.generics;
    }

-- the tree and the declarations that the names of a design come to
abbrev pub resolved_tree : Outcome → ResolvedTree
resolved_tree o = record {
  units = with_forms (settled_node o.design.taken) o.tree;
  declarations = map (λ e. settled_declaration o.design.taken e.declaration) o.design.scopes.entered;
}
