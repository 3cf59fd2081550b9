use Rattle.vd_regions.proofs.ListLemmas.{lists_what_is_visible, lists_visible_in_order}
use Rattle.vd_regions.proofs.laws.visible_is_listed.Goals as goal

pub returns-clause-all : goal.returns-clause-all
returns-clause-all c = lists_what_is_visible

pub returns-clause-in_order : goal.returns-clause-in_order
returns-clause-in_order c = lists_visible_in_order
