-- Expressions whose value doesn't depend on the place where they stand.
use Rattle.std.proofs.Common.{◌≡◌, ℕ, Bool, true, false, ◌&&◌, List, [], ◌∷◌, Option, Some, None, refl, sym, ◌∙◌, subst}
use Rattle.std.specs.Prelude.{if◌then◌else◌, Ok, is_some}
use Rattle.vd_values.specs.declared.scalar.Scalar.{Scalar}
use Rattle.vd_values.specs.declared.scalar.Scalar.TheVariants.{Literal}
use Rattle.vd_composites.specs.declared.ranges.Bounds.{Bounds}
use Rattle.vd_composites.specs.Stops.{◌>>=◌}
use Rattle.vd_composites.specs.Composites.{Value, One}
use Rattle.vd_composites.specs.Subtypes.{Subtype}
use Rattle.vd_resolved.specs.declared.node.Resolved.{Resolved}
use Rattle.vd_environments.specs.Got.{Got, is_got}
use Rattle.vd_environments.specs.Environments.{Signals, Static, always, both, only_global, all_bounds, Argument, Env, unknown}
use Rattle.vd_meaning.specs.Tables.{Table, Role, ConstantRole, VariableRole, SignalRole, LiteralRole, FunctionRole, MarkRole, ElementRole, NoRole, role_of, followed, is_vector}
use Rattle.vd_meaning.specs.Operators.{Operation, Apply, Lazily, Join, TruthText, Edge, NoOperation, function_of}
use Rattle.vd_meaning.specs.Names.{Named, Stepping, Callee, NoCallee, Attributed, called_here, call, qualified, whole_converted, converting, fresh, conversion_known, converted, tied_through, type_attribute_value, literal_known, stepped, standing, number_or, unless_stopped, and_read, call_known}
use Rattle.vd_meaning.specs.Facets.{Meaning, nth, value_of, known_of, arguments}
use Rattle.vd_meaning.specs.Brackets.{arguments_for, argument_read, called_with, operation_called, element_or_slice, is_between_vectors, by_role, by_callee, is_positional, aggregate, bracketed_value, bracketed_known}
use Rattle.vd_meaning.specs.Meanings.{string_value, selection_piece, meaning_of}
use Rattle.vd_meaning.specs.Kinds
use Rattle.vd_meaning_laws.specs.Conversions.{IsPlain}
use Rattle.vd_meaning_laws.specs.Plain.{IsSettled, PiecesAreSettled, ExpressionsArePlain}

-- ---- what is said twice

and_true : (b : Bool) → (b && true) ≡ b
and_true true = refl
and_true false = refl

and_same : (b c : Bool) → ((b && c) && c) ≡ (b && c)
and_same true true = refl
and_same true false = refl
and_same false c = refl

with_value : (v : Value Scalar) (s : Static) → unless_stopped (Ok v) s ≡ s
with_value v s = λ i. record s { is_local = and_true s.is_local i }

twice : {A : Type 0} (g : Got A) (s : Static) → unless_stopped g (unless_stopped g s) ≡ unless_stopped g s
twice g s = λ i. record s { is_local = and_same s.is_local (is_got g) i }

-- ---- pieces

call_settled : (t : Table) (d : ℕ) (arguments : Env → List Argument) (mark : Option ℕ) (known : Env → Static) (inner : Env → Got (List Signals)) → IsSettled (call t d arguments mark known inner)
call_settled t d arguments mark known inner e = twice (function_of t d e (arguments e)) (call_known t d (known e) e)

qualified_settled : (d : ℕ) (mark : Option ℕ) (operand : Env → Got (Value Scalar)) (known : Env → Static) (inner : Env → Got (List Signals)) → IsSettled (qualified d mark operand known inner)
qualified_settled d mark operand known inner e = twice (operand e >>= whole_converted (e.denotes d).subtype) (conversion_known d known e)

called_settled : (t : Table) (d : ℕ) (m : Option ℕ) → IsSettled (called_here t d m)
called_settled t d None e = refl
called_settled t d (Some m) e = call_settled t (followed t d) (λ _. []) (Some m) (λ _. always) (λ _. Ok []) e

standing_settled : (r : Role) (t : Table) (d : ℕ) (n : Resolved) → (r ≡ MarkRole → ⊥) → IsSettled (standing t r d n)
standing_settled ConstantRole t d n h e = with_value (e.denotes d).value (e.denotes d).known
standing_settled VariableRole t d n h e = with_value (e.denotes d).value (e.denotes d).known
standing_settled SignalRole t d n h e = refl
standing_settled LiteralRole t d n h e = with_value (One (Literal n.position)) (literal_known n.mark e)
standing_settled FunctionRole t d n h e = called_settled t d n.mark e
standing_settled MarkRole t d n h e = absurd (h refl)
standing_settled ElementRole t d n h e = refl
standing_settled NoRole t d n h e = refl

stepped_settled : (s : Stepping) (mark : Option ℕ) (p : Named) → IsSettled (stepped s mark p)
stepped_settled s mark p e = refl

part_settled : (r : Option (Env → Got Bounds)) (n : Resolved) (ms : List Meaning) (p : Named) → IsSettled (element_or_slice r n ms p)
part_settled None n ms p e = refl
part_settled (Some r) n ms p e = refl

tied_settled : (b : Bool) (p c : Named) → IsSettled c → IsSettled (tied_through b p c)
tied_settled true p c h = h
tied_settled false p c h = h

arguments_settled : (t : Table) (d : ℕ) (n : Resolved) (ms : List Meaning) (p : Named) → IsSettled (called_with NoOperation t d n ms p)
arguments_settled t d n ms p = call_settled t d (arguments_for 0 (t.declared d).parameters ms) n.mark (known_of ms) (argument_read p ms)

with_settled : (o : Operation) (t : Table) (d : ℕ) (n : Resolved) (ms : List Meaning) (p : Named) → IsSettled (called_with o t d n ms p)
with_settled (Edge rising) t d n ms p e = refl
with_settled (Apply op) t d n ms p e = arguments_settled t d n ms p e
with_settled (Lazily o) t d n ms p e = arguments_settled t d n ms p e
with_settled (Join x y) t d n ms p e = arguments_settled t d n ms p e
with_settled TruthText t d n ms p e = arguments_settled t d n ms p e
with_settled NoOperation t d n ms p e = arguments_settled t d n ms p e

role_settled : (r : Role) (t : Table) (n : Resolved) (ms : List Meaning) (p : Named) → IsSettled (by_role r t n ms p)
role_settled FunctionRole t n ms p e = with_settled (operation_called t (followed t (number_or n.declaration))) t (followed t (number_or n.declaration)) n ms p e
role_settled MarkRole t n ms p e =
    tied_settled (is_vector (number_or n.declaration) && is_some (nth 0 ms).name.prefix) (nth 0 ms).name
    (fresh (converting (is_between_vectors n.declaration (nth 0 ms).mark) (number_or n.declaration) (value_of (nth 0 ms))) n.mark
    (conversion_known (number_or n.declaration) (nth 0 ms).known) (argument_read p ms))
    (λ x. twice (converting (is_between_vectors n.declaration (nth 0 ms).mark) (number_or n.declaration) (value_of (nth 0 ms)) x)
    (conversion_known (number_or n.declaration) (nth 0 ms).known x)) e
role_settled ConstantRole t n ms p e = part_settled (nth 0 ms).range n ms p e
role_settled VariableRole t n ms p e = part_settled (nth 0 ms).range n ms p e
role_settled SignalRole t n ms p e = part_settled (nth 0 ms).range n ms p e
role_settled LiteralRole t n ms p e = part_settled (nth 0 ms).range n ms p e
role_settled ElementRole t n ms p e = part_settled (nth 0 ms).range n ms p e
role_settled NoRole t n ms p e = part_settled (nth 0 ms).range n ms p e

callee_settled : (c : Callee) (t : Table) (n : Resolved) (ms : List Meaning) (p : Named) → IsSettled (by_callee c t n ms p)
callee_settled (Attributed a) t n ms p e = twice (type_attribute_value a p (value_of (nth 0 ms)) e) (both (p.known e) ((nth 0 ms).known e))
callee_settled NoCallee t n ms p e = role_settled (role_of t n.declaration) t n ms p e

element_settled : (r : Role) (t : Table) (n : Resolved) (p : Named) → r ≡ ElementRole → IsSettled (selection_piece r t n p)
element_settled r t n p h = subst (λ x. IsSettled (selection_piece x t n p)) (sym h) (λ e. refl)

pub pieces_are_settled : PiecesAreSettled
pieces_are_settled =
    record {
      first = λ t n h. standing_settled (role_of t n.declaration) t (number_or n.declaration) n h;
      arguments = λ t n text ms p. callee_settled p.callee t n ms p;
      qualification = λ t n text ms p.
          qualified_settled (number_or n.declaration) n.mark (λ e. bracketed_value n.mark ms (Ok (e.denotes (number_or n.declaration)).subtype) e) (bracketed_known ms) (argument_read p ms);
      element = λ t n text ms p h. element_settled (role_of t n.declaration) t n p h;
    }

-- ---- expressions

-- one positional element in brackets has its value, and is as static
brackets_plain : (t : Table) (n : Resolved) (text : List ℕ) (m : Meaning) → IsPlain m → IsPlain (meaning_of Kinds.Brackets t n text (m ∷ []))
brackets_plain t n text m h =
    record {
      there = refl;
      value = λ known. valued known ∙ h.value known ∙ sym (valued unknown);
      chosen = λ act. refl;
      association = refl;
      choices = refl;
      is_open = refl;
      targets = λ e. λ i. and_read (h.targets e i) (Ok []);
      known = λ e. (λ i. unless_stopped (valued unknown i e) (known_as e i)) ∙ h.known e ∙ sym (known_as e);
    }
  where
    valued : (known : Got Subtype) → bracketed_value n.mark (m ∷ []) known ≡ m.value known
    valued known = λ i. (if is_positional (h.association i) then m.value else aggregate n.mark (m ∷ [])) known

    known_as : (e : Env) → bracketed_known (m ∷ []) e ≡ m.known e
    known_as e = λ i. if is_positional (h.association i) then m.known e else only_global (m.known e)

pub expressions_are_plain : ExpressionsArePlain
expressions_are_plain =
    record {
      names = λ t n text ms h. record {
        there = refl;
        value = λ known. refl;
        chosen = λ act. refl;
        association = refl;
        choices = refl;
        is_open = refl;
        targets = λ e. refl;
        known = h;
      };
      strings = λ t n text ms h. record {
        there = refl;
        value = λ known. refl;
        chosen = λ act. refl;
        association = refl;
        choices = refl;
        is_open = refl;
        targets = h;
        known = λ e. twice (string_value n text e) (all_bounds (e.denotes (number_or n.mark)).make);
      };
      operators = λ t n text ms h. record {
        there = refl;
        value = λ known. refl;
        chosen = λ act. refl;
        association = refl;
        choices = refl;
        is_open = refl;
        targets = h;
        known = λ e. twice (function_of t (followed t (number_or n.declaration)) e (arguments ms e)) (call_known t (followed t (number_or n.declaration)) (known_of ms e) e);
      };
      brackets = λ t n text m h. brackets_plain t n text m h;
    }
