-- What holds of each file of the first language and of what the passes make of it.
use Rattle.std.specs.Prelude.{◌≡◌, []}
use Rattle.vd_forest.specs.Forest.{Forest}
use Rattle.vd_first_trees.specs.declared.form.Form.{Form}
use Rattle.vd_trees.specs.declared.revision.Revision.TheVariants.{V2019}
use Rattle.vd_first_grammar.specs.Derivations.{File, IsFile}
use Rattle.vd_first_grammar.specs.Conditions.{MeetsConditions}
use Rattle.vd_first_grammar.specs.Refusals.{AllNamesKnown}
use Rattle.vd_first_grammar.specs.Shapes.{file_shape}
use Rattle.vd_first_passes.specs.Lowering.{read_set as written_set, lowered}
use Rattle.vd_first_passes.specs.Flavour.{flavoured}
use Rattle.vd_first_names.specs.Maps.{design_rows}
use Rattle.vd_first_elaboration.specs.Expressions.{each_once}
use Rattle.vd_first_elaboration.specs.Processes.{names_assigned, names_listed}
use Rattle.vd_first_elaboration.specs.Interfaces.{interface_of}
use Rattle.vd_first_correspondence.specs.WholeMaps.{IsWholeMap, HasTops}
use Rattle.vd_first_correspondence.specs.SameRuns.{HaveSameRun, AreSameByPath}
use Rattle.vd_first_correspondence.specs.SameTraces.{TreesShowSame}

-- a 2019 file in which nothing is refused
pub record IsFile19 (f : File) : Type 0 where
  pub is_file : IsFile V2019 f
  pub conditions : MeetsConditions f
  pub known : AllNamesKnown f

-- the list that is written for `process (all)` has the names that its statements read, each once, in the order of their first
-- reading
abbrev pub ListsAreReadSets : Type 0
ListsAreReadSets = (statements : Forest Form) → names_listed (written_set statements) ≡ each_once [] (names_assigned statements)

-- ---- the run

-- with its list for `all` a process does as before, over the definitions of 2019
abbrev pub LoweringKeepsRun : Type 0
LoweringKeepsRun = (f : File) → IsFile19 f → AreSameByPath (file_shape f) (lowered (file_shape f))

-- and it does the same in its 1993 form, over those of 1993
abbrev pub FlavourKeepsRun : Type 0
FlavourKeepsRun = (f : File) → IsFile19 f → HaveSameRun (design_rows (file_shape f)) (lowered (file_shape f)) (flavoured (lowered (file_shape f)))

-- so the written tree has the run of the file
abbrev pub WritingKeepsRun : Type 0
WritingKeepsRun = (f : File) → IsFile19 f → HaveSameRun (design_rows (file_shape f)) (file_shape f) (flavoured (lowered (file_shape f)))

-- and what a run prints of the one is what it prints of the other
abbrev pub WritingKeepsTraces : Type 0
WritingKeepsTraces = (f : File) → IsFile19 f → TreesShowSame (file_shape f) (flavoured (lowered (file_shape f)))

-- ---- what can be seen without a run

abbrev pub MapsAreWhole : Type 0
MapsAreWhole = (f : File) → IsFile19 f → IsWholeMap (design_rows (file_shape f)) (file_shape f) (flavoured (lowered (file_shape f)))

abbrev pub InterfacesAreKept : Type 0
InterfacesAreKept = (f : File) → interface_of (flavoured (lowered (file_shape f))) ≡ interface_of (file_shape f)

-- a file has tops
abbrev pub FilesHaveTops : Type 0
FilesHaveTops = (f : File) → MeetsConditions f → HasTops (file_shape f) f.entity.text f.architecture.text
