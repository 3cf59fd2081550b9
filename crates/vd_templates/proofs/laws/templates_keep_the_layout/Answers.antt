use Rattle.vd_templates.proofs.LayoutLemmas.{brackets, all_lines, all_levels}
use Rattle.vd_templates.proofs.laws.templates_keep_the_layout.Goals as goal

pub returns-clause-brackets : goal.returns-clause-brackets
returns-clause-brackets c = brackets

pub returns-clause-lines : goal.returns-clause-lines
returns-clause-lines c = all_lines

pub returns-clause-levels : goal.returns-clause-levels
returns-clause-levels c = all_levels
