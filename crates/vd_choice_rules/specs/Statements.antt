-- Parts of what statements with choices break.
use Rattle.std.specs.Prelude.{List, [], if◌then◌else◌}
use Rattle.vd_bytes.specs.declared.answers.Refused.{Refused}
use Rattle.vd_environments.specs.Environments.{Env}
use Rattle.vd_meaning.specs.Facets.{ByEquality, ByMatching, Comparison}
use Rattle.vd_value_rules.specs.Choices.{Given, Selecting, array_choices, is_array, matching, scalar_choices}

-- choices that match earlier ones, where they are compared so
abbrev pub matched_by : Comparison → Env → List Given → List Refused
matched_by ByEquality e gs = []
matched_by (ByMatching of) e gs = matching (ByMatching of) e [] gs

-- all but choices that aren't locally static
abbrev pub broken_by_selector : Env → Selecting → List Refused
broken_by_selector e x = if is_array x.selector.indicated.subtype then array_choices e x.selector.length x else scalar_choices e x
