-- The operators that a type brings with it name what is declared.
use Rattle.std.proofs.Common.{◌≡◌, ℕ, List, [], ◌∷◌, length, Option, Some, None, codes}
use Rattle.std.specs.List.{AllByRecursion}
use Rattle.std.specs.Option.{unwrap_or}
use Rattle.vd_declarations.specs.Classes.{types_of, named_by}
use Rattle.vd_declarations.specs.declared.classes.Class.{Class}
use Rattle.vd_declarations.specs.declared.classes.Class.TheVariants as class
use Rattle.vd_predefined.specs.declared.numbers.TheConstants.{INTEGER}
use Rattle.vd_predefined.specs.declared.operators.Group.{Group}
use Rattle.vd_predefined.specs.declared.operators.Operand.{Operand}
use Rattle.vd_predefined.specs.declared.operators.Operand.TheVariants as operand
use Rattle.vd_predefined.specs.declared.operators.Outcome.{Outcome}
use Rattle.vd_predefined.specs.declared.operators.Outcome.TheVariants as outcome
use Rattle.vd_predefined.specs.declared.operands.Operands.{Operands}
use Rattle.vd_predefined.specs.declared.operands.Pair.{Pair}
use Rattle.vd_predefined.specs.Entries.{declared, with_entry, with_region}
use Rattle.vd_predefined.specs.Lines.{OperatorLine}
use Rattle.vd_predefined.specs.Operators.{with_left, with_pair, pair_of, with_pair_of, pair_or, with_operands, operands_of, pair_at, result_type, right_operand, operator_of, with_group, with_groups, with_operators, with_operators_of, groups_of_arrays}
use Rattle.vd_predefined.specs.Table.{operators_in, groups_of_enumerations, groups_of_others}
use Rattle.vd_regions.specs.Scopes.{Scopes}
use Rattle.vd_resolved.specs.Validity.{OnSome}
use Rattle.vd_naming_laws.proofs.Growth.{Entries, Own, Typed, IsFine, AreSound, Grows, grows_not, grows_both, own_more, typed_more, entry_sound, entry_grows, new_own}

-- a design's declarations after some more
pub record IsMore (es fs : Entries) : Type 0 where
  pub grows : Grows es fs
  pub sound : AreSound fs

pub then_more : {es fs gs : Entries} → IsMore es fs → IsMore fs gs → IsMore es gs
then_more a b = record { grows = grows_both a.grows b.grows; sound = b.sound }

parameter_fine : (es : Entries) (name : List ℕ) (t : ℕ) → Typed es t → IsFine es (declared class.Parameter name (Some t) [])
parameter_fine es name t typed = record { mark = typed; parameters = tt; generics = tt; named = tt; types = tt }

-- ---- operands

module _ (s : Scopes) (sound : AreSound s.entered) (region t : ℕ) (typed : Typed s.entered t) where
  left_sound : AreSound (with_left s region t).entered
  left_sound = entry_sound (with_region s region) (length s.regions) (declared class.Parameter (codes "l") (Some t) []) sound (parameter_fine s.entered (codes "l") t typed)

  left_grows : Grows s.entered (with_left s region t).entered
  left_grows = entry_grows (with_region s region) (length s.regions) (declared class.Parameter (codes "l") (Some t) [])

  pair_more : IsMore s.entered (with_pair s region t).entered
  pair_more = record {
    grows = grows_both left_grows (entry_grows (with_left s region t) (length s.regions) (declared class.Parameter (codes "r") (Some t) []));
    sound = entry_sound (with_left s region t) (length s.regions) (declared class.Parameter (codes "r") (Some t) []) left_sound
        (parameter_fine (with_left s region t).entered (codes "r") t (typed_more left_grows t typed));
  }

abbrev PairIs : Entries → Pair → Type 0
PairIs es p = Own es p.left × Own es p.right

pair_is_more : {es fs : Entries} → Grows es fs → (p : Pair) → PairIs es p → PairIs fs p
pair_is_more g p is = (own_more g p.left is.0, own_more g p.right is.1)

pair_is : (s : Scopes) (region t : ℕ) → PairIs (with_pair s region t).entered (pair_of s region t)
pair_is s region t =
    let own = new_own (with_region s region) (length s.regions) (declared class.Parameter (codes "l") (Some t) []) in (
      own_more (entry_grows (with_left s region t) (length s.regions) (declared class.Parameter (codes "r") (Some t) [])) (length s.entered) own,
      new_own (with_left s region t) (length s.regions) (declared class.Parameter (codes "r") (Some t) []),
    )

pub record OperandsAre (es : Entries) (o : Operands) : Type 0 where
  pub own_type : Typed es o.own_type
  pub element_type : Typed es o.element_type
  pub own : PairIs es o.own
  pub element : PairIs es o.element
  pub integer : PairIs es o.integer

operands_more : {es fs : Entries} → Grows es fs → (o : Operands) → OperandsAre es o → OperandsAre fs o
operands_more g o is = record {
  own_type = typed_more g o.own_type is.own_type;
  element_type = typed_more g o.element_type is.element_type;
  own = pair_is_more g o.own is.own;
  element = pair_is_more g o.element is.element;
  integer = pair_is_more g o.integer is.integer;
}

module _ (s : Scopes) (sound : AreSound s.entered) (region own : ℕ) (typed : Typed s.entered own) where
  with_own : IsMore s.entered (with_pair s region own).entered
  with_own = pair_more s sound region own typed

  with_element : (element : Option ℕ) → OnSome (Typed s.entered) element
      → IsMore (with_pair s region own).entered (with_pair_of (with_pair s region own) region element).entered
  with_element None is = record { grows = grows_not (with_pair s region own).entered; sound = with_own.sound }
  with_element (Some t) is = pair_more (with_pair s region own) with_own.sound region t (typed_more with_own.grows t is)

  element_pair : (element : Option ℕ)
      → PairIs (with_pair_of (with_pair s region own) region element).entered (pair_or (with_pair s region own) region element (pair_of s region own))
  element_pair None = pair_is s region own
  element_pair (Some t) = pair_is (with_pair s region own) region t

  element_typed : (element : Option ℕ) → OnSome (Typed s.entered) element → Typed s.entered (unwrap_or element own)
  element_typed None is = typed
  element_typed (Some t) is = is

  module _ (element : Option ℕ) (is : OnSome (Typed s.entered) element) where
    abbrev u : Scopes
    u = with_pair_of (with_pair s region own) region element

    pub with_all : IsMore s.entered (with_operands s region own element).entered
    with_all = then_more with_own (then_more (with_element element is) (pair_more u (with_element element is).sound region INTEGER (with_element element is).sound.integer))

    pub operands_are : OperandsAre (with_operands s region own element).entered (operands_of s region own element)
    operands_are =
        let last = (pair_more u (with_element element is).sound region INTEGER (with_element element is).sound.integer).grows in
        record {
          own_type = typed_more with_all.grows own typed;
          element_type = typed_more with_all.grows (unwrap_or element own) (element_typed element is);
          own = pair_is_more last (pair_of s region own) (pair_is_more (with_element element is).grows (pair_of s region own) (pair_is s region own));
          element = pair_is_more last _ (element_pair element);
          integer = pair_is u region INTEGER;
        }

-- ---- operators

result_typed : (es : Entries) (o : Operands) → AreSound es → OperandsAre es o → (r : Outcome) → Typed es (result_type o r)
result_typed es o sound are outcome.Own = are.own_type
result_typed es o sound are outcome.Element = are.element_type
result_typed es o sound are outcome.Boolean = sound.boolean

pair_at_is : (es : Entries) (o : Operands) → OperandsAre es o → (p : Operand) → PairIs es (pair_at o p)
pair_at_is es o are operand.Own = are.own
pair_at_is es o are operand.Element = are.element
pair_at_is es o are operand.Integer = are.integer

right_own : (es : Entries) (o : Operands) → OperandsAre es o → (p : Option Operand) → AllByRecursion (Own es) (right_operand o p)
right_own es o are None = tt
right_own es o are (Some p) = ((pair_at_is es o are p).1, tt)

abbrev NamesNone : Class → Type 0
NamesNone c = (named_by c ≡ []) × (types_of c ≡ [])

operator_fine : (es : Entries) (o : Operands) → AreSound es → OperandsAre es o → (line : OperatorLine) → IsFine es (operator_of class.PredefinedOperator o line)
operator_fine es o sound are line = record {
  mark = result_typed es o sound are line.result;
  parameters = ((pair_at_is es o are line.left).0, right_own es o are line.right);
  generics = tt;
  named = tt;
  types = tt;
}

group_more : (s : Scopes) (region : ℕ) (o : Operands) (lines : List OperatorLine) → AreSound s.entered → OperandsAre s.entered o
    → IsMore s.entered (with_group s region class.PredefinedOperator o lines).entered
group_more s region o [] sound are = record { grows = grows_not s.entered; sound = sound }
group_more s region o (line ∷ lines) sound are =
    let new = operator_of class.PredefinedOperator o line in
    let t = with_entry s region new in
    let one : IsMore s.entered t.entered = record { grows = entry_grows s region new; sound = entry_sound s region new sound (operator_fine s.entered o sound are line) } in
    then_more one (group_more t region o lines one.sound (operands_more one.grows o are))

groups_more : (s : Scopes) (region : ℕ) (o : Operands) (groups : List Group) → AreSound s.entered → OperandsAre s.entered o
    → IsMore s.entered (with_groups s region class.PredefinedOperator o groups).entered
groups_more s region o [] sound are = record { grows = grows_not s.entered; sound = sound }
groups_more s region o (group ∷ groups) sound are =
    let one = group_more s region o (operators_in group) sound are in
    then_more one (groups_more (with_group s region class.PredefinedOperator o (operators_in group)) region o groups one.sound (operands_more one.grows o are))

operators_more : (s : Scopes) (region own : ℕ) (element : Option ℕ) (groups : List Group) → AreSound s.entered → Typed s.entered own → OnSome (Typed s.entered) element
    → IsMore s.entered (with_operators s region class.PredefinedOperator own element groups).entered
operators_more s region own element groups sound typed is =
    let all = with_all s sound region own typed element is in
    then_more all (groups_more (with_operands s region own element) region (operands_of s region own element) groups all.sound (operands_are s sound region own typed element is))

-- of a type of this class, whose elements have a type
pub operators_of_more : (s : Scopes) (region own : ℕ) (c : Class) → AreSound s.entered → Typed s.entered own → AllByRecursion (Typed s.entered) (types_of c)
    → IsMore s.entered (with_operators_of s region own c).entered
operators_of_more s region own class.EnumerationType sound typed types = operators_more s region own None groups_of_enumerations sound typed tt
operators_of_more s region own (class.ArrayType index element mark) sound typed types =
    operators_more s region own (Some element) (groups_of_arrays s element) sound typed types.1.0
operators_of_more s region own class.RecordType sound typed types = operators_more s region own None groups_of_others sound typed tt
operators_of_more s region own class.GenericType sound typed types = operators_more s region own None groups_of_others sound typed tt
operators_of_more s region own _ sound typed types = record { grows = grows_not s.entered; sound = sound }
