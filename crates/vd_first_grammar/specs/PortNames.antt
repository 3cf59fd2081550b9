-- What the names of a port so far stand for.
use Rattle.std.specs.Prelude.{List, ℕ}
use Rattle.vd_forest.specs.Forest.{Forest}
use Rattle.vd_forest.specs.Store.{at}
use Rattle.vd_first_trees.specs.declared.form.Form.{Form}
use Rattle.vd_first_grammar.specs.declared.reader_ports.PortNames.{PortNames}
use Rattle.vd_first_grammar.specs.Reader.{NamesRead}

abbrev pub names_read : List (Forest Form) → List (List ℕ) → PortNames → NamesRead
names_read store declared names = record { made = at store names.made; taken = declared; texts = names.texts.items }
