-- Lists in brackets behind a name, with other numbers.
use Rattle.std.proofs.Common.{◌≡◌, ℕ, Bool, true, false, ◌&&◌, List, Option, Some, None, refl, sym, ◌∙◌, subst}
use Rattle.std.specs.Prelude.{if◌then◌else◌, Ok, is_some}
use Rattle.vd_values.specs.declared.scalar.Scalar.{Scalar}
use Rattle.vd_composites.specs.Composites.{Value}
use Rattle.vd_composites.specs.Parts.{AtIndex, AtSlice}
use Rattle.std.specs.List.{AllZip}
use Rattle.vd_composites.specs.declared.ranges.Bounds.{Bounds}
use Rattle.vd_composites.specs.Stops.{◌>>=◌}
use Rattle.vd_resolved.specs.declared.node.Resolved.{Resolved}
use Rattle.vd_environments.specs.Got.{Got}
use Rattle.vd_environments.specs.Environments.{Signals, Static, never, both, sliced_make, all_bounds, Env, unknown}
use Rattle.vd_meaning.specs.Tables.{Table, Role, ConstantRole, VariableRole, SignalRole, LiteralRole, FunctionRole, MarkRole, ElementRole, NoRole, role_of, followed, is_vector}
use Rattle.vd_meaning.specs.Operators.{Operation, Apply, Lazily, Join, TruthText, Edge, NoOperation, edge}
use Rattle.vd_meaning.specs.Names.{Named, TypeAttribute, Callee, NoCallee, Attributed, call, whole_converted, converted, conversion_known, qualified, converting, tied_through, conversion_of, fresh, to_element, to_slice, position_in, scalars_of, sliced_subtype, sliced_bounds, of_type, type_attribute_value, number_or, and_read}
use Rattle.vd_meaning.specs.Facets.{Meaning, nth, value_of, known_of}
use Rattle.vd_meaning.specs.Brackets.{arguments_for, argument_read, called_with, operation_called, element_or_slice, is_between_vectors, by_role, by_callee, arguments_piece, bracketed_value, bracketed_known, qualification_piece}
use Rattle.vd_meaning_laws.specs.Agreement.{Link, IsApart, Alike, number_in}
use Rattle.vd_meaning_laws.specs.Renumbering.{SameTable, AlikeOption, AlikeName, AlikeStepping, AlikeMeaning, renumbered}
use Rattle.vd_meaning_laws.proofs.Naming.{fresh_alike, call_alike, number_or_same}
use Rattle.vd_meaning_laws.proofs.Stepping.{some_same, stepped_alike}
use Rattle.vd_meaning_laws.proofs.Parts.{nth_alike, known_alike, reads_alike, arguments_alike}
use Rattle.vd_meaning_laws.proofs.Aggregating.{bracketed_same, bracketed_known_alike}

module _ (l : Link) (numbers : IsApart l) (t t' : Table) (tables : SameTable l t t') (ms ns : List Meaning) (h : AllZip (AlikeMeaning l) ms ns) where
  first_alike : AlikeMeaning l (nth 0 ms) (nth 0 ns)
  first_alike = nth_alike l numbers 0 ms ns h

  read_alike : (p q : Named) → AlikeName l p q → Alike l (argument_read p ms) (argument_read q ns)
  read_alike p q a e k = λ i. and_read (a.inner e k i) (reads_alike l numbers ms ns h e k i)

  call_arguments : (d : ℕ) (n : Resolved) (p q : Named) → AlikeName l p q
      → AlikeName l (call t d (arguments_for 0 (t.declared d).parameters ms) n.mark (known_of ms) (argument_read p ms))
      (call t' (l.number d) (arguments_for 0 (t'.declared (l.number d)).parameters ns) (number_in l n.mark) (known_of ns) (argument_read q ns))
  call_arguments d n p q a =
      subst (λ ps. AlikeName l (call t d (arguments_for 0 (t.declared d).parameters ms) n.mark (known_of ms) (argument_read p ms))
      (call t' (l.number d) (arguments_for 0 ps ns) (number_in l n.mark) (known_of ns) (argument_read q ns))) (sym (tables.parameters d))
      (call_alike l numbers t t' tables d _ _ n.mark _ _ _ _ (arguments_alike l numbers 0 (t.declared d).parameters ms ns h) (known_alike l numbers ms ns h) (read_alike p q a))

  called_alike : (o : Operation) (d : ℕ) (n : Resolved) (p q : Named) → AlikeName l p q
      → AlikeName l (called_with o t d n ms p) (called_with o t' (l.number d) (renumbered l n) ns q)
  called_alike (Edge rising) d n p q a =
      fresh_alike l numbers (λ e. (nth 0 ms).name.signals e >>= edge rising e.view) (λ e. (nth 0 ns).name.signals e >>= edge rising e.view) n.mark (λ _. never) (λ _. never) _ _
      (λ e k i. first_alike.name.signals e k i >>= edge rising e.view) (λ e k. refl) (read_alike p q a)
  called_alike (Apply op) d n p q a = call_arguments d n p q a
  called_alike (Lazily o) d n p q a = call_arguments d n p q a
  called_alike (Join x y) d n p q a = call_arguments d n p q a
  called_alike TruthText d n p q a = call_arguments d n p q a
  called_alike NoOperation d n p q a = call_arguments d n p q a

  operation_same : (d : ℕ) → operation_called t' (l.number d) ≡ operation_called t d
  operation_same d = λ i. if tables.predefined d i then tables.operation d i else NoOperation

  callee_same : (n : Resolved) → followed t' (number_or (number_in l n.declaration)) ≡ l.number (followed t (number_or n.declaration))
  callee_same n = (λ i. followed t' (number_or_same l numbers t t' tables n.declaration i)) ∙ tables.followed (number_or n.declaration)

  function_called : (n : Resolved) (p q : Named) → AlikeName l p q → AlikeName l (by_role FunctionRole t n ms p) (by_role FunctionRole t' (renumbered l n) ns q)
  function_called n p q a =
      subst (λ d. AlikeName l (by_role FunctionRole t n ms p) (called_with (operation_called t' d) t' d (renumbered l n) ns q)) (sym (callee_same n))
      (subst (λ o. AlikeName l (by_role FunctionRole t n ms p) (called_with o t' (l.number (followed t (number_or n.declaration))) (renumbered l n) ns q)) (sym (operation_same (followed t (number_or n.declaration))))
      (called_alike (operation_called t (followed t (number_or n.declaration))) (followed t (number_or n.declaration)) n p q a))

  -- ---- conversions

  qualified_alike : (d : ℕ) (m : Option ℕ) (operand operand' : Env → Got (Value Scalar)) (known known' : Env → Static) (inner inner' : Env → Got (List Signals))
      → Alike l operand operand' → Alike l known known' → Alike l inner inner'
      → AlikeName l (qualified d m operand known inner) (qualified (l.number d) (number_in l m) operand' known' inner')
  qualified_alike d m operand operand' known known' inner inner' x y z =
      fresh_alike l numbers (λ e. operand e >>= whole_converted (e.denotes d).subtype) (λ e. operand' e >>= whole_converted (e.denotes (l.number d)).subtype) m
      (conversion_known d known) (conversion_known (l.number d) known') inner inner'
      (λ e k i. x e k i >>= whole_converted (e.denotes (l.number d)).subtype) (λ e k i. both (all_bounds (e.denotes (l.number d)).make) (y e k i)) z

  tied_alike : (b : Bool) (p q c d : Named) → AlikeName l p q → AlikeName l c d → AlikeName l (tied_through b p c) (tied_through b q d)
  tied_alike true p q c d a x =
      record {
        value = x.value;
        place = x.place;
        signals = a.signals;
        range = x.range;
        shape = x.shape;
        subtype = x.subtype;
        make = x.make;
        is_object = x.is_object;
        local_slices = x.local_slices;
        is_mark = x.is_mark;
        mark = x.mark;
        callee = x.callee;
        known = x.known;
        prefix = x.prefix;
        is_whole = a.is_whole;
        inner = x.inner;
      }
  tied_alike false p q c d a x = x

  vector_same : (m : Option ℕ) → is_vector (number_or (number_in l m)) ≡ is_vector (number_or m)
  vector_same m = (λ i. is_vector (number_or_same l numbers t t' tables m i)) ∙ tables.vector (number_or m)

  between_same : (n : Resolved) → is_between_vectors (number_in l n.declaration) (nth 0 ns).mark ≡ is_between_vectors n.declaration (nth 0 ms).mark
  between_same n = (λ i. vector_same n.declaration i && is_vector (number_or (first_alike.mark i))) ∙ (λ i. is_vector (number_or n.declaration) && vector_same (nth 0 ms).mark i)

  converting_alike : (b : Bool) (d : ℕ) → Alike l (converting b d (value_of (nth 0 ms))) (converting b (l.number d) (value_of (nth 0 ns)))
  converting_alike true d e k = first_alike.value unknown e k
  converting_alike false d e k = λ i. first_alike.value unknown e k i >>= converted (e.denotes (l.number d)).subtype

  converted_from : (b : Bool) (n : Resolved) (p q : Named) → AlikeName l p q
      → AlikeName l (conversion_of b (number_or n.declaration) n.mark (value_of (nth 0 ms)) (nth 0 ms).known (argument_read p ms) (nth 0 ms).name)
      (conversion_of b (l.number (number_or n.declaration)) (number_in l n.mark) (value_of (nth 0 ns)) (nth 0 ns).known (argument_read q ns) (nth 0 ns).name)
  converted_from b n p q a =
      subst (λ c. AlikeName l (conversion_of b (number_or n.declaration) n.mark (value_of (nth 0 ms)) (nth 0 ms).known (argument_read p ms) (nth 0 ms).name)
      (tied_through c (nth 0 ns).name (fresh (converting b (l.number (number_or n.declaration)) (value_of (nth 0 ns))) (number_in l n.mark) (conversion_known (l.number (number_or n.declaration)) (nth 0 ns).known) (argument_read q ns))))
      (λ i. sym (tables.vector (number_or n.declaration)) i && sym (some_same l numbers (nth 0 ms).name.prefix (nth 0 ns).name.prefix first_alike.name.prefix) i)
      (tied_alike (is_vector (number_or n.declaration) && is_some (nth 0 ms).name.prefix) (nth 0 ms).name (nth 0 ns).name _ _ first_alike.name
      (fresh_alike l numbers (converting b (number_or n.declaration) (value_of (nth 0 ms))) (converting b (l.number (number_or n.declaration)) (value_of (nth 0 ns))) n.mark
      (conversion_known (number_or n.declaration) (nth 0 ms).known) (conversion_known (l.number (number_or n.declaration)) (nth 0 ns).known) (argument_read p ms) (argument_read q ns)
      (converting_alike b (number_or n.declaration))
      (λ e k i. both (all_bounds (e.denotes (l.number (number_or n.declaration))).make) (first_alike.known e k i)) (read_alike p q a)))

  converted_alike : (n : Resolved) (p q : Named) → AlikeName l p q → AlikeName l (by_role MarkRole t n ms p) (by_role MarkRole t' (renumbered l n) ns q)
  converted_alike n p q a =
      subst (λ b. AlikeName l (by_role MarkRole t n ms p) (conversion_of b (number_or (number_in l n.declaration)) (number_in l n.mark) (value_of (nth 0 ns)) (nth 0 ns).known (argument_read q ns) (nth 0 ns).name))
      (sym (between_same n))
      (subst (λ d. AlikeName l (by_role MarkRole t n ms p) (conversion_of (is_between_vectors n.declaration (nth 0 ms).mark) d (number_in l n.mark) (value_of (nth 0 ns)) (nth 0 ns).known (argument_read q ns) (nth 0 ns).name))
      (sym (number_or_same l numbers t t' tables n.declaration))
      (converted_from (is_between_vectors n.declaration (nth 0 ms).mark) n p q a))

  -- ---- elements and slices

  element_alike : AlikeStepping l (to_element (value_of (nth 0 ms)) (nth 0 ms).known (nth 0 ms).reads) (to_element (value_of (nth 0 ns)) (nth 0 ns).known (nth 0 ns).reads)
  element_alike =
      record {
        to = λ e k i. first_alike.value unknown e k i >>= position_in >>= λ x. Ok (AtIndex x);
        known = first_alike.known;
        inner = first_alike.reads;
        subtype = λ e k. refl;
        make = λ e k. refl;
        local_slices = λ e k. refl;
        shape = λ e k. refl;
      }

  slice_alike : (r r' : Env → Got Bounds) → Alike l r r' → AlikeStepping l (to_slice r (nth 0 ms).known (nth 0 ms).reads) (to_slice r' (nth 0 ns).known (nth 0 ns).reads)
  slice_alike r r' a =
      record {
        to = λ e k i. a e k i >>= λ b. Ok (AtSlice b);
        known = first_alike.known;
        inner = first_alike.reads;
        subtype = λ e k i s. a e k i >>= λ b. sliced_subtype b s;
        make = λ e k i m. sliced_make (first_alike.known e k i) m;
        local_slices = λ e k i. (first_alike.known e k i).is_local;
        shape = λ e k i whole s. whole >>= λ w. a e k i >>= sliced_bounds w;
      }

  part_alike : (r r' : Option (Env → Got Bounds)) → AlikeOption l r r' → (n : Resolved) (p q : Named) → AlikeName l p q
      → AlikeName l (element_or_slice r n ms p) (element_or_slice r' (renumbered l n) ns q)
  part_alike None None x n p q a = stepped_alike l numbers _ _ element_alike p q a n.mark
  part_alike (Some r) (Some r') x n p q a = stepped_alike l numbers _ _ (slice_alike r r' x) p q a n.mark
  part_alike _ _ x n p q a = absurd x

  role_alike : (r : Role) (n : Resolved) (p q : Named) → AlikeName l p q → AlikeName l (by_role r t n ms p) (by_role r t' (renumbered l n) ns q)
  role_alike FunctionRole n p q a = function_called n p q a
  role_alike MarkRole n p q a = converted_alike n p q a
  role_alike ConstantRole n p q a = part_alike (nth 0 ms).range (nth 0 ns).range first_alike.range n p q a
  role_alike VariableRole n p q a = part_alike (nth 0 ms).range (nth 0 ns).range first_alike.range n p q a
  role_alike SignalRole n p q a = part_alike (nth 0 ms).range (nth 0 ns).range first_alike.range n p q a
  role_alike LiteralRole n p q a = part_alike (nth 0 ms).range (nth 0 ns).range first_alike.range n p q a
  role_alike ElementRole n p q a = part_alike (nth 0 ms).range (nth 0 ns).range first_alike.range n p q a
  role_alike NoRole n p q a = part_alike (nth 0 ms).range (nth 0 ns).range first_alike.range n p q a

  attribute_alike : (b : TypeAttribute) (p q : Named) → AlikeName l p q → Alike l (type_attribute_value b p (value_of (nth 0 ms))) (type_attribute_value b q (value_of (nth 0 ns)))
  attribute_alike b p q a e k =
      λ i. a.subtype e k i >>= scalars_of >>= λ s. first_alike.value unknown e k i >>= of_type b s (a.make e k i)

  callee_alike : (c : Callee) (n : Resolved) (p q : Named) → AlikeName l p q → AlikeName l (by_callee c t n ms p) (by_callee c t' (renumbered l n) ns q)
  callee_alike (Attributed b) n p q a =
      fresh_alike l numbers _ _ n.mark _ _ _ _ (attribute_alike b p q a) (λ e k i. both (a.known e k i) (first_alike.known e k i)) (read_alike p q a)
  callee_alike NoCallee n p q a =
      subst (λ r. AlikeName l (by_callee NoCallee t n ms p) (by_role r t' (renumbered l n) ns q)) (sym (tables.role n.declaration)) (role_alike (role_of t n.declaration) n p q a)

  pub arguments_piece_alike : (n : Resolved) (p q : Named) → AlikeName l p q → AlikeName l (arguments_piece t n ms p) (arguments_piece t' (renumbered l n) ns q)
  arguments_piece_alike n p q a =
      subst (λ c. AlikeName l (arguments_piece t n ms p) (by_callee c t' (renumbered l n) ns q)) (sym a.callee) (callee_alike p.callee n p q a)

  pub qualification_alike : (n : Resolved) (p q : Named) → AlikeName l p q → AlikeName l (qualification_piece t n ms p) (qualification_piece t' (renumbered l n) ns q)
  qualification_alike n p q a =
      subst (λ d. AlikeName l (qualification_piece t n ms p)
      (qualified d (number_in l n.mark) (λ e. bracketed_value (number_in l n.mark) ns (Ok (e.denotes d).subtype) e) (bracketed_known ns) (argument_read q ns)))
      (sym (number_or_same l numbers t t' tables n.declaration))
      (qualified_alike (number_or n.declaration) n.mark _ _ _ _ _ _
      (λ e k. bracketed_same l numbers n.mark ms ns h (Ok (e.denotes (l.number (number_or n.declaration))).subtype) e k) (bracketed_known_alike l numbers ms ns h) (read_alike p q a))
