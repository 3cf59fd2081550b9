-- What the sets of names hold.
use Rattle.std.specs.Prelude.{true}
use Rattle.vd_first_grammar.specs.declared.reader_known.KnownNames.{KnownNames}
use Rattle.vd_first_grammar.specs.Reader.{Known}

abbrev pub known_of : KnownNames → Known
known_of k = record { taken = k.declared; ins = k.ins; outs = k.outs; guarded = true }
