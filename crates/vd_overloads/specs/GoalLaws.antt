-- What is proved of names and their goals.
use Rattle.std.specs.Prelude.{◌≡◌, ℕ, List, map, true}
use Rattle.std.specs.List.{Contains}
use Rattle.vd_forest.specs.Forest.{Forest}
use Rattle.vd_forms.specs.declared.form.Form.{Form}
use Rattle.vd_overloads.specs.Goals.{any_goal, ends_of_name, rules_of, with_goal}
use Rattle.vd_readings.specs.Readings.{readings}
use Rattle.vd_resolved.specs.declared.node.Resolved.{Resolved}
use Rattle.vd_visible.specs.Sights.{Sight}
use Rattle.vd_states.specs.declared.states.Prefix.{Prefix}
use Rattle.vd_states.specs.declared.states.State.TheVariants as state
use Rattle.vd_states.specs.declared.states.Want.{Want}
use Rattle.vd_ways.specs.Ways.{meets, ways}

-- the ways of the first piece and of each suffix are those for any other goal, with this one
pub record KeepsGoals (s : Sight) : Type 0 where
  pub head : (goal : Want) (form : Form) (text : List ℕ) (parts : Forest Form)
      → ways s (state.Head goal) form text parts ≡ map (with_goal goal) (ways s (state.Head any_goal) form text parts)
  pub suffix : (p : Prefix) (goal : Want) (form : Form) (text : List ℕ) (parts : Forest Form)
      → ways s (state.Suffixes p goal) form text parts ≡ map (with_goal goal) (ways s (state.Suffixes p any_goal) form text parts)

-- a prefix at the end of a name that is what is wanted
pub record Meeting (s : Sight) (goal : Want) (pieces : Forest Form) : Type 0 where
  pub end : Prefix
  pub is_end : Contains (ends_of_name s pieces) end
  pub meets : meets s goal end ≡ true

-- a name that has a reading comes to what is wanted
abbrev pub GoalsAreMet : Sight → Type 0
GoalsAreMet s = (goal : Want) (pieces : Forest Form) (reading : Forest Resolved)
    → Contains (readings (rules_of s) pieces (state.Head goal)) reading → Meeting s goal pieces
