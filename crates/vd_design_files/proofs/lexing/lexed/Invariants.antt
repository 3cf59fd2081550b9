use Rattle.std.proofs.Common.{take}
use Rattle.std.specs.List.{AllByRecursion}
use Rattle.vd_tokens.specs.Spellings.{EndsOnce, IsPossible}
use Rattle.vd_trees.specs.declared.revision.Revision.TheVariants.{V2019}
use Rattle.vd_design_files.specs.Files.{IsLexed}
use Rattle.vd_design_files.specs.InOrder.{HaveEach}
use Rattle.vd_design_files.proofs.lexing.lexed.Given as goal

abbrev pub invariant-loop-text : goal.invariant-loop-text
invariant-loop-text l =
    record {
      have : HaveEach IsLexed (take l.text-index l.texts) l.lists.items;
      end_once : AllByRecursion EndsOnce l.lists.items;
      possible : AllByRecursion (AllByRecursion (IsPossible V2019)) l.lists.items;
    }
