-- The productions make valid trees alone.
use Rattle.std.specs.Prelude.{IsTrue}
use Rattle.std.proofs.Common.{refl}
use Rattle.vd_trees.specs.declared.revision.Revision.TheVariants.{V2019}
use Rattle.vd_valid_shapes.specs.Effects.{makes_valid_trees}
use Rattle.vd_valid_shapes.specs.Laws.{ShapesAreDesigns}
use Rattle.vd_valid_shapes.proofs.DesignLemmas.{shapes_are_designs}
use Rattle.vd_grammar19.specs.Grammar.{grammar, actions}
use Rattle.vd_grammar19.specs.Effects.{effects}

pub shown : IsTrue (makes_valid_trees V2019 grammar actions effects)
unfolding makes_valid_trees
shown = refl

pub designs : ShapesAreDesigns V2019 grammar actions
designs = shapes_are_designs V2019 grammar actions effects shown
