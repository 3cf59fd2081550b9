-- The elements of a generic map, by what they come to, and the one for each generic. (IEEE 1076, generic map aspects.)
use Rattle.std.specs.Prelude.{◌≡◌, ◌∷◌, List, None, Option, Some, [], if◌then◌else◌, is_some, slice_get, true, ℕ}
use Rattle.std.specs.List.{find}
use Rattle.vd_composites.specs.Subtypes.{Subtype}
use Rattle.vd_environments.specs.Environments.{Argument, Env, Static}
use Rattle.vd_environments.specs.Got.{Got}
use Rattle.vd_value_rules.specs.Indicated.{static_of}
use Rattle.vd_known_generics.specs.declared.elements.Given.{Given}
use Rattle.vd_meaning.specs.Facets.{MapElement}
use Rattle.vd_meaning.specs.Tables.{same_type}
use Rattle.vd_static_values.specs.Entries.{IsFound}
use Rattle.vd_static_values.specs.declared.nodes.Node.{Node}
use Rattle.vd_static_values.specs.declared.senses.Association.{Association}
use Rattle.vd_static_values.specs.declared.senses.Association.TheVariants.{ByChoices}

-- what an element names, which is what the first of its choices names
abbrev pub formal_in : Association → List (Option ℕ) → Option ℕ
formal_in ByChoices (c ∷ cs) = c
formal_in _ cs = None

abbrev pub formal_of : Node → Option ℕ
formal_of x = formal_in x.sense.association x.sense.choices.items

-- the first that names a generic
abbrev pub naming : ℕ → List Node → Option Node
naming g xs = find (λ x. same_type (formal_of x) (Some g)) xs

abbrev pub unless_named : Node → Option Node
unless_named x = if is_some (formal_of x) then None else Some x

abbrev pub unless_named_in : Option Node → Option Node
unless_named_in None = None
unless_named_in (Some x) = unless_named x

abbrev pub element_placed : ℕ → List Node → Option Node
element_placed k xs = unless_named_in (slice_get xs k)

abbrev pub either : Option Node → Option Node → Option Node
either None other = other
either (Some x) other = Some x

abbrev pub unless_open : Option Node → Option Node
unless_open None = None
unless_open (Some x) = if x.sense.is_open then None else Some x

-- the one for a generic with a place among the generics
abbrev pub element_for : ℕ → ℕ → List Node → Option Node
element_for k g xs = unless_open (either (naming g xs) (element_placed k xs))

abbrev pub given_by : Option Node → Option Given
given_by None = None
given_by (Some x) = Some (record { value = x.sense.value; known = x.sense.known })

-- ---- what stands for an element

pub record IsElement (e : Env) (x : Node) (y : MapElement) : Type 0 where
  pub formal : y.formal ≡ formal_of x
  pub is_open : y.is_open ≡ x.sense.is_open
  pub known : static_of x.sense.known ≡ y.known e
  pub value : (y.known e).is_local ≡ true → (given : Got Subtype) → IsFound x.sense.value (y.value given e)

abbrev pub AreElements : Env → List Node → List MapElement → Type 0
AreElements e [] [] = Unit {0}
AreElements e (x ∷ xs) (y ∷ ys) = IsElement e x y × AreElements e xs ys
AreElements e _ _ = ⊥

-- A constant is given a value that is so static, or none.
pub record IsValue (x : Given) (argument : Argument) (known : Static) : Type 0 where
  pub known_is : static_of x.known ≡ known
  pub value_is : known.is_local ≡ true → (given : Got Subtype) → IsFound x.value (argument given)

abbrev pub IsGiven : Option Given → Option Argument → Static → Type 0
IsGiven None None known = Unit {0}
IsGiven (Some x) (Some argument) known = IsValue x argument known
IsGiven _ _ known = ⊥
