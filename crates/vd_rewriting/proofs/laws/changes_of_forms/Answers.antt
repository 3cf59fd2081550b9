use Rattle.vd_rewriting.proofs.FormLaws.{size_forms, tree_count_forms, text_of_forms, place_of_forms, parts_of_forms, next_of_forms, joined_forms, turned_forms, erased_forms, rewritten_forms}
use Rattle.vd_rewriting.proofs.laws.changes_of_forms.Goals as goal

pub returns-clause-size : goal.returns-clause-size
returns-clause-size g c = λ change f. size_forms change f

pub returns-clause-trees : goal.returns-clause-trees
returns-clause-trees g c = λ change f. tree_count_forms change f

pub returns-clause-texts : goal.returns-clause-texts
returns-clause-texts g c = λ change f. text_of_forms change f

pub returns-clause-places : goal.returns-clause-places
returns-clause-places g c = λ change f. place_of_forms change f

pub returns-clause-parts : goal.returns-clause-parts
returns-clause-parts g c = λ change f. parts_of_forms change f

pub returns-clause-next : goal.returns-clause-next
returns-clause-next g c = λ change f. next_of_forms change f

pub returns-clause-joined : goal.returns-clause-joined
returns-clause-joined g c = λ change f g. joined_forms change f g

pub returns-clause-turned : goal.returns-clause-turned
returns-clause-turned g c = λ change f g. turned_forms change f g

pub returns-clause-erased : goal.returns-clause-erased
returns-clause-erased g c = λ change f. erased_forms change f

pub returns-clause-pass : goal.returns-clause-pass
returns-clause-pass g c = λ change f. rewritten_forms change f
