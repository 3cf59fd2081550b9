-- What a node of each kind sees of its parts.
use Rattle.std.proofs.Common.{◌≡◌, ℕ, Bool, true, false, List, [], ◌∷◌, map, refl, sym, subst}
use Rattle.std.specs.Prelude.{Ok}
use Rattle.vd_resolved.specs.declared.node.Resolved.{Resolved}
use Rattle.vd_environments.specs.Environments.{both}
use Rattle.vd_meaning.specs.Tables.{Table, Role, ConstantRole, VariableRole, SignalRole, LiteralRole, FunctionRole, MarkRole, ElementRole, NoRole, role_of, followed}
use Rattle.vd_meaning.specs.Operators.{Operation, Apply, Lazily, Join, TruthText, Edge, NoOperation, function_of}
use Rattle.vd_meaning.specs.Names.{Named, TypeAttribute, Callee, NoCallee, Attributed, call, call_known, qualified, number_or, unless_stopped, fresh, type_attribute_value}
use Rattle.vd_meaning.specs.Facets.{Meaning, value_of, at_once, of_node}
use Rattle.vd_meaning.specs.Brackets.{called_with, operation_called, by_role, by_callee, qualification_piece}
use Rattle.vd_meaning.specs.Meanings.{operator, map_element, meaning_of}
use Rattle.vd_meaning.specs.Kinds
use Rattle.vd_meaning_laws.specs.Renumbering.{AlikeMeaning, renumbered}
use Rattle.vd_meaning_laws.proofs.Cases.{kind_alike}
use Rattle.vd_meaning_laws.specs.Places.{as_value, looks_at_signal, seen_arguments, seen, seen_within}
use Rattle.vd_meaning_laws.specs.PlaceLaws.{PartsAreSeen, NodesSeeParts, ValuesSeeParts, ValueNodesSeeParts}
use Rattle.vd_meaning_laws.proofs.Seeing.{known_same, arguments_same, node_same, argument_read_same, arguments_for_same}
use Rattle.vd_meaning_laws.proofs.Values.{values_alike}
use Rattle.vd_meaning_laws.proofs.Gathering.{bracketed_same, bracketed_known_same}

-- ---- operators, lists in brackets, qualified expressions

operator_seen : (t : Table) (d : ℕ) (n : Resolved) (text : List ℕ) (ms : List Meaning) → operator t d n text ms ≡ operator t d n text (map as_value ms)
operator_seen t d n text ms =
    λ i. record (node_same n text ms i) {
      value = λ _ e. function_of t d e (arguments_same ms e i);
      known = λ e. unless_stopped (function_of t d e (arguments_same ms e i)) (call_known t d (known_same ms e i) e);
      chosen = λ act. act (at_once (λ _ e. function_of t d e (arguments_same ms e i)));
    }

brackets_seen : (t : Table) (n : Resolved) (text : List ℕ) (ms : List Meaning) → meaning_of Kinds.Brackets t n text ms ≡ meaning_of Kinds.Brackets t n text (map as_value ms)
brackets_seen t n text ms =
    λ i. record (node_same n text ms i) {
      value = λ known e. bracketed_same n.mark ms known e i;
      known = λ e. bracketed_known_same ms e i;
      chosen = λ act. act (at_once (λ known e. bracketed_same n.mark ms known e i));
    }

qualification_seen : (t : Table) (n : Resolved) (ms : List Meaning) (p : Named) → qualification_piece t n ms p ≡ qualification_piece t n (map as_value ms) p
qualification_seen t n ms p =
    λ i. qualified (number_or n.declaration) n.mark (λ e. bracketed_same n.mark ms (Ok (e.denotes (number_or n.declaration)).subtype) e i)
    (λ e. bracketed_known_same ms e i) (λ e. argument_read_same p ms e i)

-- ---- elements of generic maps

elements_same : (ms : List Meaning) → map map_element ms ≡ map map_element (map as_value ms)
elements_same [] = refl
elements_same (m ∷ ms) = λ i. map_element m ∷ elements_same ms i

-- ---- arguments

call_seen : (t : Table) (d : ℕ) (n : Resolved) (ms : List Meaning) (p : Named)
    → called_with NoOperation t d n ms p ≡ called_with NoOperation t d n (map as_value ms) p
call_seen t d n ms p =
    λ i. call t d (λ e. arguments_for_same 0 (t.declared d).parameters ms e i) n.mark (λ e. known_same ms e i) (λ e. argument_read_same p ms e i)

called_seen : (o : Operation) (t : Table) (d : ℕ) (n : Resolved) (ms : List Meaning) (p : Named)
    → called_with o t d n ms p ≡ called_with o t d n (seen_arguments FunctionRole (looks_at_signal o) ms) p
called_seen (Edge rising) t d n ms p = refl
called_seen (Apply op) t d n ms p = call_seen t d n ms p
called_seen (Lazily o) t d n ms p = call_seen t d n ms p
called_seen (Join x y) t d n ms p = call_seen t d n ms p
called_seen TruthText t d n ms p = call_seen t d n ms p
called_seen NoOperation t d n ms p = call_seen t d n ms p

-- what the name in front of the arguments calls
called : Table → Resolved → Operation
called t n = operation_called t (followed t (number_or n.declaration))

role_seen : (r : Role) (t : Table) (n : Resolved) (ms : List Meaning) (p : Named)
    → by_role r t n ms p ≡ by_role r t n (seen_arguments r (looks_at_signal (called t n)) ms) p
unfolding called
role_seen FunctionRole t n ms p = called_seen (called t n) t (followed t (number_or n.declaration)) n ms p
role_seen ConstantRole t n ms p = refl
role_seen VariableRole t n ms p = refl
role_seen SignalRole t n ms p = refl
role_seen LiteralRole t n ms p = refl
role_seen MarkRole t n ms p = refl
role_seen ElementRole t n ms p = refl
role_seen NoRole t n ms p = refl

attribute_seen : (a : TypeAttribute) (t : Table) (n : Resolved) (ms : List Meaning) (p : Named)
    → by_callee (Attributed a) t n ms p ≡ by_callee (Attributed a) t n (map as_value ms) p
attribute_seen a t n [] p = refl
attribute_seen a t n (m ∷ ms) p =
    λ i. fresh (type_attribute_value a p (value_of m)) n.mark (λ e. both (p.known e) (m.known e)) (λ e. argument_read_same p (m ∷ ms) e i)

-- where arguments are seen whole all is the same
either_way : {A : Type 0} (f : List Meaning → A) (r : Role) (b : Bool) (ms : List Meaning) → f ms ≡ f (map as_value ms) → f ms ≡ f (seen_arguments r b ms)
either_way f FunctionRole false ms h = h
either_way f FunctionRole true ms h = refl
either_way f ConstantRole b ms h = refl
either_way f VariableRole b ms h = refl
either_way f SignalRole b ms h = refl
either_way f LiteralRole b ms h = refl
either_way f MarkRole b ms h = refl
either_way f ElementRole b ms h = refl
either_way f NoRole b ms h = refl

callee_seen : (c : Callee) (t : Table) (n : Resolved) (ms : List Meaning) (p : Named)
    → by_callee c t n ms p ≡ by_callee c t n (seen_arguments (role_of t n.declaration) (looks_at_signal (called t n)) ms) p
callee_seen (Attributed a) t n ms p =
    either_way (λ xs. by_callee (Attributed a) t n xs p) (role_of t n.declaration) (looks_at_signal (called t n)) ms (attribute_seen a t n ms p)
callee_seen NoCallee t n ms p = role_seen (role_of t n.declaration) t n ms p

arguments_seen : (t : Table) (n : Resolved) (text : List ℕ) (ms : List Meaning)
    → meaning_of Kinds.ArgumentsPiece t n text ms ≡ meaning_of Kinds.ArgumentsPiece t n text (seen_arguments (role_of t n.declaration) (looks_at_signal (called t n)) ms)
arguments_seen t n text ms =
    λ i. record (either_way (of_node n text) (role_of t n.declaration) (looks_at_signal (called t n)) ms (node_same n text ms) i) {
      piece = λ p. callee_seen p.callee t n ms p i;
    }

-- ---- a case for each kind

pub parts_are_seen : PartsAreSeen
unfolding called
parts_are_seen Kinds.Operator t n text ms = operator_seen t (followed t (number_or n.declaration)) n text ms
parts_are_seen Kinds.Brackets t n text ms = brackets_seen t n text ms
parts_are_seen Kinds.QualificationPiece t n text ms = λ i. record (node_same n text ms i) { piece = λ p. qualification_seen t n ms p i }
parts_are_seen Kinds.ArgumentsPiece t n text ms = arguments_seen t n text ms
parts_are_seen Kinds.GenericActuals t n text ms = λ i. record (node_same n text ms i) { elements = elements_same ms i }
parts_are_seen Kinds.NewConstants t n text (a ∷ b ∷ c ∷ ms) = refl
parts_are_seen Kinds.NewConstants t n text (a ∷ b ∷ []) = refl
parts_are_seen Kinds.NewConstants t n text (a ∷ []) = refl
parts_are_seen Kinds.NewConstants t n text [] = refl
parts_are_seen Kinds.NewVariables t n text (a ∷ b ∷ c ∷ ms) = refl
parts_are_seen Kinds.NewVariables t n text (a ∷ b ∷ []) = refl
parts_are_seen Kinds.NewVariables t n text (a ∷ []) = refl
parts_are_seen Kinds.NewVariables t n text [] = refl
parts_are_seen Kinds.NewSignals t n text (a ∷ b ∷ c ∷ ms) = refl
parts_are_seen Kinds.NewSignals t n text (a ∷ b ∷ []) = refl
parts_are_seen Kinds.NewSignals t n text (a ∷ []) = refl
parts_are_seen Kinds.NewSignals t n text [] = refl
parts_are_seen Kinds.NewPorts t n text (a ∷ b ∷ c ∷ d ∷ f ∷ ms) = refl
parts_are_seen Kinds.NewPorts t n text (a ∷ b ∷ c ∷ d ∷ []) = refl
parts_are_seen Kinds.NewPorts t n text (a ∷ b ∷ c ∷ []) = refl
parts_are_seen Kinds.NewPorts t n text (a ∷ b ∷ []) = refl
parts_are_seen Kinds.NewPorts t n text (a ∷ []) = refl
parts_are_seen Kinds.NewPorts t n text [] = refl
parts_are_seen Kinds.NewGenerics t n text (a ∷ b ∷ c ∷ d ∷ f ∷ ms) = refl
parts_are_seen Kinds.NewGenerics t n text (a ∷ b ∷ c ∷ d ∷ []) = refl
parts_are_seen Kinds.NewGenerics t n text (a ∷ b ∷ c ∷ []) = refl
parts_are_seen Kinds.NewGenerics t n text (a ∷ b ∷ []) = refl
parts_are_seen Kinds.NewGenerics t n text (a ∷ []) = refl
parts_are_seen Kinds.NewGenerics t n text [] = refl
parts_are_seen Kinds.Delayed t n text (a ∷ ms) = refl
parts_are_seen Kinds.Delayed t n text [] = refl
parts_are_seen Kinds.Conditional t n text (a ∷ b ∷ c ∷ ms) = refl
parts_are_seen Kinds.Conditional t n text (a ∷ b ∷ []) = refl
parts_are_seen Kinds.Conditional t n text (a ∷ []) = refl
parts_are_seen Kinds.Conditional t n text [] = refl
parts_are_seen Kinds.Guarded t n text (a ∷ ms) = refl
parts_are_seen Kinds.Guarded t n text [] = refl
parts_are_seen Kinds.AssignSignal t n text (a ∷ b ∷ c ∷ ms) = refl
parts_are_seen Kinds.AssignSignal t n text (a ∷ b ∷ []) = refl
parts_are_seen Kinds.AssignSignal t n text (a ∷ []) = refl
parts_are_seen Kinds.AssignSignal t n text [] = refl
parts_are_seen Kinds.AssignConcurrently t n text (a ∷ b ∷ c ∷ ms) = refl
parts_are_seen Kinds.AssignConcurrently t n text (a ∷ b ∷ []) = refl
parts_are_seen Kinds.AssignConcurrently t n text (a ∷ []) = refl
parts_are_seen Kinds.AssignConcurrently t n text [] = refl
parts_are_seen Kinds.AssignVariable t n text (a ∷ b ∷ ms) = refl
parts_are_seen Kinds.AssignVariable t n text (a ∷ []) = refl
parts_are_seen Kinds.AssignVariable t n text [] = refl
parts_are_seen Kinds.SelectedAlternative t n text (a ∷ ms) = refl
parts_are_seen Kinds.SelectedAlternative t n text [] = refl
parts_are_seen Kinds.Giving t n text (a ∷ ms) = refl
parts_are_seen Kinds.Giving t n text [] = refl
parts_are_seen _ t n text ms = refl

pub nodes_see_parts : NodesSeeParts
nodes_see_parts l numbers t t' tables k n text ms ns h =
    subst (λ m. AlikeMeaning l m (meaning_of k t' (renumbered l n) text ns)) (sym (parts_are_seen k t n text ms))
    (subst (λ m. AlikeMeaning l (meaning_of k t n text (seen k t n ms)) m) (sym (parts_are_seen k t' (renumbered l n) text ns))
    (kind_alike l numbers t t' tables (seen k t n ms) (seen k t' (renumbered l n) ns) h k n text))

-- ---- nodes that are only evaluated themselves

pub values_see_parts : ValuesSeeParts
values_see_parts Kinds.Associated t n text (a ∷ b ∷ ms) = refl
values_see_parts Kinds.Associated t n text (a ∷ []) = refl
values_see_parts Kinds.Associated t n text [] = refl
values_see_parts Kinds.AssociatedOthers t n text (a ∷ ms) = refl
values_see_parts Kinds.AssociatedOthers t n text [] = refl
values_see_parts k t n text ms = λ i. as_value (parts_are_seen k t n text ms i)

pub value_nodes_see_parts : ValueNodesSeeParts
value_nodes_see_parts l numbers t t' tables k n text ms ns h =
    subst (λ m. AlikeMeaning l m (as_value (meaning_of k t' (renumbered l n) text ns))) (sym (values_see_parts k t n text ms))
    (subst (λ m. AlikeMeaning l (as_value (meaning_of k t n text (seen_within k t n ms))) m) (sym (values_see_parts k t' (renumbered l n) text ns))
    (values_alike l numbers _ _ (kind_alike l numbers t t' tables (seen_within k t n ms) (seen_within k t' (renumbered l n) ns) h k n text)))
