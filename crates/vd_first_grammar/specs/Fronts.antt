-- What the front of a process stands for.
use Rattle.std.specs.Prelude.{List}
use Rattle.vd_forest.specs.Forest.{Forest}
use Rattle.vd_forest.specs.Store.{at}
use Rattle.vd_first_trees.specs.declared.form.Form.{Form}
use Rattle.vd_first_grammar.specs.declared.reader_processes.Front.{Front}
use Rattle.vd_first_grammar.specs.Reader.{FrontRead}

abbrev pub front_read : List (Forest Form) → Front → FrontRead
front_read store front = record { place = front.place; sensitivity = front.sensitivity; names = at store front.names; word = front.word; word_place = front.word_place }
