use Rattle.std.proofs.Common.{◌≡◌, ◌∙◌, ap, [], unwrap_or}
use Rattle.clap.specs.Matches.{found_of}
use Rattle.clap.proofs.WalkLemmas.{raw_values-rows}
use Rattle.vd_words.proofs.plan.values.Goals as goal

pub returns : goal.returns
returns c = ap (λ o. unwrap_or o []) (c.get_strs.ensures ∙ raw_values-rows (found_of c.args.matches.now) c.args.id.now)
