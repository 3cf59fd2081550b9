-- Some ways, worked out over the given declarations: in the package `std_logic_1164`, with a function f that takes nothing and gives a
-- STD_ULOGIC_VECTOR.
use Rattle.std.specs.Prelude.{◌≡◌, ℕ, Bool, true, false, List, [], ◌∷◌, length, map, Option, Some, codes}
use Rattle.vd_trees.specs.declared.revision.Revision.{Revision}
use Rattle.vd_trees.specs.declared.revision.Revision.TheVariants.{V2019, V1993}
use Rattle.vd_declarations.specs.declared.classes.Class.TheVariants as class
use Rattle.vd_forest.specs.Forest.{nothing, leaf, no_place}
use Rattle.vd_forms.specs.declared.form.Form.TheVariants as form
use Rattle.vd_predefined.specs.declared.numbers.TheConstants.{BIT, BIT_VECTOR, STD_ULOGIC, STD_ULOGIC_VECTOR, STD_LOGIC_VECTOR, INTEGER, REGION_OF_1164}
use Rattle.vd_predefined.specs.Entries.{declared, with_entry}
use Rattle.vd_predefined.specs.Given.{given_scopes}
use Rattle.vd_regions.specs.Scopes.{Scopes, declaration_at}
use Rattle.vd_regions.specs.InOrder.{visible_in, selected_in_order}
use Rattle.vd_states.specs.declared.states.State.TheVariants as state
use Rattle.vd_states.specs.declared.states.Want.TheVariants as want
use Rattle.vd_states.specs.declared.states.Prefix.TheVariants as prefix
use Rattle.vd_states.specs.declared.ways.Way.{Way}
use Rattle.vd_visible.specs.Sights.{Sight}
use Rattle.vd_visible.specs.Types.{spells, sources}
use Rattle.vd_ways.specs.Ways.{ways}

-- f has the number behind all given declarations
abbrev pub scopes_with_f : Revision → Scopes
scopes_with_f r = with_entry (given_scopes r) REGION_OF_1164 (declared class.Function (codes "f") (Some STD_ULOGIC_VECTOR) [])

-- the names that are looked up here are texts
abbrev pub place : Revision → Sight
place r = record {
  revision = r;
  count = length (scopes_with_f r).entered;
  declaration = declaration_at (scopes_with_f r);
  visible = visible_in (scopes_with_f r) REGION_OF_1164;
  selected = selected_in_order (scopes_with_f r) REGION_OF_1164;
}

abbrev pub declarations_chosen : List Way → List (Option ℕ)
declarations_chosen found = map (λ way. way.declaration) found

abbrev pub types_chosen : List Way → List (Option ℕ)
types_chosen found = map (λ way. way.mark) found

-- how many operators `&` give a type
abbrev pub joinings : Revision → ℕ → ℕ
joinings r t = length (ways (place r) (state.Only (want.Value t)) form.Concatenate [] nothing)

-- the types of what stands in brackets behind a signal of a type
abbrev pub indexed : Revision → ℕ → List (Option ℕ)
indexed r t = types_chosen (ways (place r) (state.Suffixes (prefix.Valued t true) (want.Value t)) form.Arguments [] (leaf form.Number (codes "1") no_place nothing))

-- the types from which a conversion to a type is legal
abbrev pub converted : Revision → ℕ → List ℕ
converted r t = sources (place r) t

-- a literal in quotation marks is of an array with elements of a type
abbrev pub is_spelled : ℕ → List ℕ → Bool
is_spelled element text = spells (place V2019) (Some element) text

abbrev pub f_of : Revision → List Way
f_of r = ways (place r) (state.Head (want.Value STD_ULOGIC)) form.Identifier (codes "f") nothing

pub record WorkedWays : Type 0 where
  -- an array with an array or an element, on either side; in 2019 the two vector types are one
  pub joined_2019 : joinings V2019 STD_ULOGIC_VECTOR ≡ 4
  pub joined_not : joinings V2019 STD_LOGIC_VECTOR ≡ 0
  pub joined_1993 : joinings V1993 STD_ULOGIC_VECTOR ≡ 4
  pub joined_other : joinings V1993 STD_LOGIC_VECTOR ≡ 4
  -- an element and a slice
  pub indexed : indexed V2019 STD_ULOGIC_VECTOR ≡ Some STD_ULOGIC ∷ Some STD_ULOGIC_VECTOR ∷ []
  -- conversions
  pub converted_2019 : converted V2019 STD_ULOGIC_VECTOR ≡ STD_ULOGIC_VECTOR ∷ []
  pub converted_1993 : converted V1993 STD_LOGIC_VECTOR ≡ STD_ULOGIC_VECTOR ∷ STD_LOGIC_VECTOR ∷ []
  pub converted_bits : converted V1993 BIT_VECTOR ≡ BIT_VECTOR ∷ []
  pub converted_integer : converted V1993 INTEGER ≡ INTEGER ∷ []
  -- literals
  pub spelled : is_spelled BIT (codes "01") ≡ true
  pub not_spelled : is_spelled BIT (codes "0Z") ≡ false
  pub spelled_logic : is_spelled STD_ULOGIC (codes "0Z") ≡ true
  -- a function that takes nothing is called where its name stands, and can be indexed
  pub called : types_chosen (f_of V2019) ≡ Some STD_ULOGIC_VECTOR ∷ []
