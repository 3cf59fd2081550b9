-- What stands in front of `=>`, as the code keeps it: nothing is kept of a port that isn't known.
use Rattle.std.specs.Prelude.{ℕ, Some, None}
use Rattle.vd_bytes.specs.declared.places.Place.{Place}
use Rattle.vd_forest.specs.Forest.{Forest, nothing, parts_of, with_next}
use Rattle.vd_forms.specs.declared.form.Form.{Form}
use Rattle.vd_regions.specs.Scopes.{declaration_at}
use Rattle.vd_name_rows.specs.Designs.{At, Design}
use Rattle.vd_naming.specs.Ports.{Front, OfPort, Converted, Map, named_front, associated_with, by_conversion, converted, with_other}
use Rattle.vd_name_ports.specs.declared.fronts.Front as code
use Rattle.vd_name_ports.specs.declared.fronts.Front.TheVariants as front

abbrev pub known_front : Front → code.Front
known_front (OfPort (Some k)) = front.Port k
known_front (Converted (Some k)) = front.Conversion k
known_front _ = front.Other

-- an association, by what the code keeps of its front
abbrev pub by_front : code.Front → ℕ → At → Design → Place → Forest Form → Forest Form → Forest Form → Map → Map
by_front (front.Port k) entity at d place choices value tree m =
    associated_with k (declaration_at d.scopes k).mark at d place choices value (named_front k (parts_of choices)) None m
by_front (front.Conversion k) entity at d place choices value tree m =
    by_conversion k at d place choices value (converted entity at d (with_next (parts_of choices) nothing)) m
by_front front.Other entity at d place choices value tree m = with_other at d place tree m
