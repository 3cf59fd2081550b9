-- What a name can come to at its end. What is wanted of a name is asked there alone: each piece leads to the same prefixes whatever is wanted.
use Rattle.std.specs.Prelude.{ℕ, Bool, true, false, List, [], map}
use Rattle.std.specs.List.{Contains, flat_map, list_any}
use Rattle.vd_forest.specs.Forest.{Forest, nothing, more}
use Rattle.vd_forms.specs.declared.form.Form.{Form}
use Rattle.vd_visible.specs.Sights.{Sight}
use Rattle.vd_visible.specs.declared.kinds.Kind.{Kind}
use Rattle.vd_visible.specs.declared.kinds.Kind.TheVariants as kind
use Rattle.vd_states.specs.declared.states.Prefix.{Prefix}
use Rattle.vd_states.specs.declared.states.Prefix.TheVariants as prefix
use Rattle.vd_states.specs.declared.states.State.{State}
use Rattle.vd_states.specs.declared.states.State.TheVariants as state
use Rattle.vd_states.specs.declared.states.Want.{Want}
use Rattle.vd_states.specs.declared.states.Want.TheVariants as want
use Rattle.vd_states.specs.declared.ways.Way.{Way}
use Rattle.vd_readings.specs.Readings.{Rules}
use Rattle.vd_ways.specs.Ways.{ends, meets, ways}

-- the language of expressions, by what is seen
abbrev pub rules_of : Sight → Rules
rules_of s = record { ways = ways s; ends = ends s }

-- something that is wanted, where it doesn't count what
abbrev pub any_goal : Want
any_goal = want.Value 0

-- what a name is up to where the suffixes go on
abbrev pub prefix_of : State → Prefix
prefix_of (state.Suffixes p goal) = p
prefix_of _ = prefix.Named 0

-- the same way where something else is wanted of the name
abbrev pub with_goal : Want → Way → Way
with_goal goal way = record way { after = state.Suffixes (prefix_of way.after) goal }

abbrev pub prefixes_behind : List Way → List Prefix
prefixes_behind ways = map (λ way. prefix_of way.after) ways

-- behind the first piece, and behind a suffix of what has come to one of some prefixes
abbrev pub heads : Sight → Form → List ℕ → Forest Form → List Prefix
heads s form text parts = prefixes_behind (ways s (state.Head any_goal) form text parts)

abbrev pub behind : Sight → Form → List ℕ → Forest Form → Prefix → List Prefix
behind s form text parts p = prefixes_behind (ways s (state.Suffixes p any_goal) form text parts)

-- at the end of some suffixes, and of a whole name
abbrev pub ends_behind : Sight → List Prefix → Forest Form → List Prefix
ends_behind s ps nothing = ps
ends_behind s ps (more form text place parts next) = ends_behind s (flat_map (behind s form text parts) ps) next

abbrev pub ends_of_name : Sight → Forest Form → List Prefix
ends_of_name s nothing = []
ends_of_name s (more form text place parts next) = ends_behind s (heads s form text parts) next

-- lists with the same members, whatever their order, and however often each stands there
pub record SameMembers (ps qs : List Prefix) : Type 0 where
  pub all : (p : Prefix) → Contains qs p → Contains ps p
  pub no_more : (p : Prefix) → Contains ps p → Contains qs p

-- a name, and not the symbol of an operator as one
abbrev pub is_name_kind : Kind → Bool
is_name_kind kind.Name = true
is_name_kind _ = false

-- whether an expression that is a name with these ends can have readings in a state
abbrev pub is_possible : Sight → List Prefix → State → Bool
is_possible s found (state.Only goal) = list_any (meets s goal) found
is_possible s found _ = true
