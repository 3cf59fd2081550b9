use Rattle.std.proofs.Common.{◌≡◌, ap, subst, IfOk}
use Rattle.vd_templates.specs.Templates.{all_written}
use Rattle.vd_writing.proofs.TableLemmas.{written_same}
use Rattle.vd_writing.proofs.items.Items.of_trees.Goals as goal

pub returns : goal.returns
returns c = subst (λ ws. IfOk c.by.result (λ items. items ≡ all_written ws)) (written_same c.args.trees.now) c.by.ensures
