-- A node whose parts are walked, as it is seen with the store that is made and with the design behind the parts.
use Rattle.std.specs.Prelude.{List}
use Rattle.vd_forest.specs.Forest.{Forest}
use Rattle.vd_resolved.specs.declared.node.Resolved.{Resolved}
use Rattle.vd_walks.specs.Outcomes.{seen_in}
use Rattle.vd_name_rows.specs.Designs.{Design}
use Rattle.vd_naming.specs.Endings.{Ended}
use Rattle.vd_name_entering.specs.declared.ended.Ended as code

abbrev pub seen_ended : List (Forest Resolved) → Design → code.Ended → Ended
seen_ended store d x = record {
  form = x.node.now.form;
  text = x.node.now.text.now;
  place = x.node.now.place;
  parts = x.node.now.parts;
  outer = x.outer.now;
  inside = x.inside.now;
  inner = seen_in store d x.inner.now;
}
