-- What a reader of trees finds.
use Rattle.vd_gram.specs.Derivations.{Trees, leaf, node}
use Rattle.vd_gram.specs.declared.derivation.Opened.{Opened}
use Rattle.vd_gram.specs.declared.derivation.Opened.TheVariants.{Leaf, Node}

-- the trees that a first tree and those after it make
abbrev pub opened : Opened → Trees
opened (Leaf symbol place next) = leaf symbol place next
opened (Node production parts next) = node production parts next
