use Rattle.vd_port_lists.proofs.ViewLemmas.{views_are_listed}
use Rattle.vd_port_lists.proofs.views.listed_views.Goals as goal

pub returns : goal.returns
returns c =
    views_are_listed c.args.revision c.args.tree.now c.declarations.result.now c.cursor.result c.all_trees.result c.in_ok-views.views.items
    c.declarations.ensures c.cursor.ensures c.all_trees.ensures c.in_ok-views.ensures
