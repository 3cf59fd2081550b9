-- Lists in brackets as pieces of names.
use Rattle.std.proofs.Common.{◌≡◌, ◌≢◌, List, None, Option, Some, ap, refl, subst, sym, true}
use Rattle.vd_environments.specs.Environments.{Env}
use Rattle.vd_composites.specs.declared.ranges.Bounds.{Bounds}
use Rattle.vd_environments.specs.Got.{Got}
use Rattle.vd_operations.specs.Roles.{read_role}
use Rattle.vd_operations.specs.declared.roles.Role.{Role as WrittenRole}
use Rattle.vd_operations.specs.declared.roles.Role.TheVariants as written
use Rattle.vd_forest.specs.Forest.{Forest}
use Rattle.vd_value_rules.specs.Indicated.{static_of}
use Rattle.vd_value_rules.specs.declared.forms.IndicatedForm.{IndicatedForm}
use Rattle.vd_meaning.specs.Brackets.{argument_read, arguments_piece, by_callee, by_role, element_or_slice}
use Rattle.vd_meaning.specs.Facets.{Meaning, nth, value_of}
use Rattle.vd_meaning.specs.Names.{Callee, Named}
use Rattle.vd_meaning.specs.Tables.{Table, role_of}
use Rattle.vd_resolved.specs.declared.node.Resolved.{Resolved}
use Rattle.vd_static_values.specs.Entries.{IsFound}
use Rattle.vd_static_values.specs.Names.{IsRanging}
use Rattle.vd_static_values.specs.Nodes.{AreArguments, IsBracketed}
use Rattle.vd_static_values.specs.declared.names.Ranging.TheVariants.{NoRange, Range}
use Rattle.vd_static_values.specs.declared.nodes.Arguments.{Arguments}
use Rattle.vd_static_values.specs.declared.nodes.Bracketed.{Bracketed}
use Rattle.vd_static_values.specs.declared.nodes.Bracketed.TheVariants as bracketed

module _ (subtypes : List (Forest IndicatedForm)) (e : Env) (n : Resolved) (ms : List Meaning) (p : Named) where
  -- ---- indexes and slices

  pub index_bracketed : (range : Option (Env → Got Bounds)) → IsRanging NoRange range ((nth 0 ms).known e) e
      → IsBracketed subtypes e bracketed.Element (nth 0 ms).known p (element_or_slice range n ms p)
  index_bracketed None is = record { index = value_of (nth 0 ms); inner = (nth 0 ms).reads; mark = n.mark; is = refl }
  index_bracketed (Some range) is = absurd is

  pub slice_bracketed : (bounds : Option Bounds) (range : Option (Env → Got Bounds)) → IsRanging (Range bounds) range ((nth 0 ms).known e) e
      → IsBracketed subtypes e (bracketed.Slice bounds) (nth 0 ms).known p (element_or_slice range n ms p)
  slice_bracketed bounds None is = absurd is
  slice_bracketed bounds (Some range) is = record { range = range; inner = (nth 0 ms).reads; mark = n.mark; known = is; is = refl }

  -- what names no function and no mark
  pub other_role : (t : Table) (b : Bracketed) (r : WrittenRole) → r ≢ written.Function → r ≢ written.Mark
      → IsBracketed subtypes e b (nth 0 ms).known p (element_or_slice (nth 0 ms).range n ms p)
      → IsBracketed subtypes e b (nth 0 ms).known p (by_role (read_role r) t n ms p)
  other_role t b written.Constant function mark is = is
  other_role t b written.Variable function mark is = is
  other_role t b written.Signal function mark is = is
  other_role t b written.Literal function mark is = is
  other_role t b written.Function function mark is = absurd (function refl)
  other_role t b written.Mark function mark is = absurd (mark refl)
  other_role t b written.Element function mark is = is
  other_role t b written.Nothing function mark is = is

-- ---- lists in brackets

module _ (subtypes : List (Forest IndicatedForm)) (e : Env) (t : Table) (n : Resolved) (ms : List Meaning) (a : Arguments) where
  pub are_arguments : static_of a.known ≡ (nth 0 ms).known e → (((nth 0 ms).known e).is_local ≡ true → IsFound a.value (value_of (nth 0 ms) e))
      → ((p : Named) → IsBracketed subtypes e a.otherwise (nth 0 ms).known p (by_role (role_of t n.declaration) t n ms p))
      → AreArguments subtypes e a (arguments_piece t n ms)
  are_arguments known found otherwise = record {
    value = value_of (nth 0 ms);
    kn = (nth 0 ms).known;
    known = known;
    found = found;
    argument = λ p attribute callee. record { inner = argument_read p ms; mark = n.mark; is = ap (λ (c : Callee). by_callee c t n ms p) callee };
    otherwise = λ p callee.
        subst (λ (c : Callee). IsBracketed subtypes e a.otherwise (nth 0 ms).known p (by_callee c t n ms p)) (sym callee) (otherwise p);
  }
