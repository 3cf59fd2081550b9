-- What reading a map answers.
use Rattle.std.specs.Prelude.{◌≡◌, []}
use Rattle.vd_trees.specs.declared.rows.Row.{Row}
use Rattle.vd_names.specs.declared.reading.MapEnd.{MapEnd}
use Rattle.vd_names.specs.declared.reading.MapEnd.TheVariants.{NotAMap, Memory}
use Rattle.vd_names.specs.declared.reading.Texts.{Texts}
use Rattle.vd_names.specs.Reading.{Answer, HasOther}

abbrev pub seen_texts : Texts → Row
seen_texts t = record { kind = t.kind; unit = t.unit.now; name19 = t.name19.now; name93 = t.name93.now; mark = t.mark.now; mode = t.mode.now; range = [] }

-- no map is read where memory runs out, and otherwise only where the answer is that there is none, with its number
abbrev pub Ends : Answer → MapEnd → Type 0
Ends answer (NotAMap number) = answer ≡ HasOther number
Ends answer Memory = Unit {0}
