-- The scalar signals of a top: their paths, modes and type marks. (IEEE 1076, elaboration of a design hierarchy; path names.)
use Rattle.std.specs.Prelude.{ℕ, List, [], ◌∷◌, Option, Some, None}
use Rattle.vd_forest.specs.Forest.{text_of}
use Rattle.vd_trees.specs.declared.paths.Path.{Path}
use Rattle.vd_trees.specs.declared.paths.Level.{Level}
use Rattle.vd_trees.specs.declared.paths.Scope.{Scope}
use Rattle.vd_first_elaboration.specs.Tops.{TopUnits}
use Rattle.vd_first_elaboration.specs.Ports.{Mode, mode_word, Port}

-- a scalar signal: its path, a port's mode, and its type mark
pub record ScalarSignal : Type 0 where
  pub path : Path
  pub mode : Option Mode
  pub mark : List ℕ

-- the one level of a top, which no label leads to
abbrev pub top_level : TopUnits → Level
top_level u = record { labels = []; entity = text_of u.entity; architecture = text_of u.architecture }

-- where the processes of a top's architecture stand
abbrev pub top_scope : TopUnits → Scope
top_scope u = record { levels = top_level u ∷ []; generates = []; unit = [] }

abbrev pub port_signal : Level → Port → ScalarSignal
port_signal level p =
    record {
      path = record { levels = level ∷ []; generates = []; object = p.name; rest = [] };
      mode = Some p.mode;
      mark = p.mark;
    }

-- the word for a port's mode, and of another signal no word
abbrev pub mode_text : Option Mode → List ℕ
mode_text None = []
mode_text (Some mode) = mode_word mode
