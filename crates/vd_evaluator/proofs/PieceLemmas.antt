-- Names piece by piece, as the code has them and as they are defined.
use Rattle.std.proofs.Common.{◌≡◌, ◌<◌, ◌≤◌, ℕ, zero, suc, ◌+◌, ℤ, Bool, true, false, ◌&&◌, List, [], ◌∷◌, ◌++◌, length, map, Option, None, Some, refl, sym, ap, subst, ◌∙◌, arith}
use Rattle.std.specs.Prelude.{Result, Ok, Err, slice_index_or, ◌==◌, if◌then◌else◌}
use Rattle.vd_values.specs.declared.scalar.Scalar.{Scalar}
use Rattle.vd_values.specs.declared.scalar.StopKind.{StopKind}
use Rattle.vd_values.specs.declared.scalar.StopKind.TheVariants.{Index}
use Rattle.vd_values.specs.declared.scalar.StopKind.TheVariants as kind
use Rattle.vd_kernel.specs.Models.{View}
use Rattle.vd_composites.specs.declared.ranges.Bounds.{Bounds}
use Rattle.vd_composites.specs.Stops.{OrStop, ◌>>=◌}
use Rattle.vd_declarations.specs.declared.classes.Class.{Class}
use Rattle.vd_composites.specs.Scalars.{position_of}
use Rattle.vd_composites.specs.Ranges.{is_within, place_of, length_of}
use Rattle.vd_composites.specs.Composites.{Value, One, Array, Fields, Items, none, item, scalar_of, count, without, first_of}
use Rattle.vd_composites.specs.Parts.{Step, AtIndex, AtSlice, AtField, part, first_item, array_of, is_slice}
use Rattle.vd_composites.specs.Subtypes.{Subtype}
use Rattle.vd_subtypes.specs.Heads.{head_of}
use Rattle.vd_subtypes.specs.declared.heads.SubtypeHead.{SubtypeHead}
use Rattle.vd_resolved.specs.declared.node.Resolved.{Resolved}
use Rattle.vd_environments.specs.Got.{Got, got, halt_of, senseless}
use Rattle.vd_environments.specs.Environments.{Env, Signals, Static, ScalarSignal, each_leaf, each_leaf_of, of_the_type, read, or_senseless, unknown}
use Rattle.vd_meaning.specs.Tables.{Table, Role, ConstantRole, VariableRole, SignalRole, LiteralRole, FunctionRole, MarkRole, ElementRole, NoRole, role, role_of}
use Rattle.vd_meaning.specs.Names.{Named, NoCallee, Stepping, to_field, to_element, to_slice, position_in, part_value, where_signal, part_signals, part_of_value, part_prefix, first_piece, standing, signal, fresh, number_or, whole_converted}
use Rattle.vd_meaning.specs.Kinds
use Rattle.vd_meaning.specs.Brackets.{by_callee, by_role, element_or_slice, bracketed_value, arguments_piece, qualification_piece}
use Rattle.vd_meaning.specs.Facets.{Meaning, nth, value_of}
use Rattle.vd_meaning.specs.Meanings.{meaning_of, named_by, selection_piece, limits}
use Rattle.vd_plain_values.specs.declared.environment.Entry.{Entry}
use Rattle.vd_evaluator.specs.declared.names.Caller.TheVariants as caller
use Rattle.vd_evaluator.specs.declared.senses.Name.{Name}
use Rattle.vd_evaluator.specs.declared.senses.Name.TheVariants as name
use Rattle.vd_evaluator.specs.declared.senses.Part.{Part}
use Rattle.vd_evaluator.specs.declared.senses.Part.TheVariants as code
use Rattle.vd_evaluator.specs.declared.senses.Piece.{Piece as NamePiece}
use Rattle.vd_evaluator.specs.declared.senses.Piece.TheVariants as piece
use Rattle.vd_evaluator.specs.declared.senses.What.{What}
use Rattle.vd_evaluator.specs.declared.senses.What.TheVariants as what
use Rattle.vd_evaluator.specs.declared.senses.Sense.{Sense}
use Rattle.vd_plain_values.specs.Plain.{Holds, IsSeen, signal_in, no_entry, subtype_in}
use Rattle.vd_evaluator.specs.Outlines.{Outline, NotTaken, Piece, piece_after, named_outline, word_outline, finished_outline, operand_outline, index_outline, indexes_outline, arguments_outline, limits_outline, selection_outline, declared_outline, first_outline, is_element, outline_of}
use Rattle.vd_evaluator.specs.Pieces.{part_found, with_what, with_pieces, first_word, position_of_some, position_read, index_read, slice_read, limits_read, converted_by, index_of, index_what, operand_of, operand_what, from_limit, limits_what, declared_what, caller_of}
use Rattle.vd_evaluator.specs.Senses.{IsSense, IsWhat, IsValue, IsName, IsPrefix, IsReadAs, IsExpression, IsRange, IsStepped, IsPiece, AreSenses, IsNode, sense_outline, what_outline, name_outline_of, piece_outline, step_in, finished_what}
use Rattle.vd_evaluator.proofs.SenseLemmas.{expression_node, untaken_node}

-- ---- what is seen of a part of a signal is that part of what is seen

invert : {E A B : Type 0} (g : Result A E) (h : A → Result B E) (y : B) → (g >>= h) ≡ Ok y → (x : A) × ((g ≡ Ok x) × (h x ≡ Ok y))
invert (Ok x) h y e = (x, (refl, e))
invert (Err k) h y e = cc

module _ {L M : Type 0} (f : L → Got M) where
  IsRead : OrStop (Value L) → OrStop (Value M) → Type 0
  IsRead (Ok s) (Ok v) = each_leaf f s ≡ Ok v
  IsRead (Err k) (Err l) = k ≡ l
  IsRead _ _ = ⊥

  first_read : (v : Value L) (vs : Items L) (ws : Items M) → each_leaf_of f (item v vs) ≡ Ok ws
      → (w : Value M) × ((us : Items M) × ((item w us ≡ ws) × ((each_leaf f v ≡ Ok w) × (each_leaf_of f vs ≡ Ok us))))
  first_read v vs ws e =
      let i = invert (each_leaf f v) (λ w. each_leaf_of f vs >>= λ us. Ok (item w us)) ws e in
      let j = invert (each_leaf_of f vs) (λ us. Ok (item i.0 us)) ws i.1.1 in
      (i.0, (j.0, ((let h : item i.0 j.0 ≡ ws = let k = j.1.1 in cc in h), (i.1.0, j.1.0))))

  item_read : (vs : Items L) (ws : Items M) → each_leaf_of f vs ≡ Ok ws → IsRead (first_item vs) (first_item ws)
  unfolding IsRead
  item_read none none e = refl
  item_read none (item w ws) e = cc
  item_read (item v vs) ws e = let r = first_read v vs ws e in subst (λ x. IsRead (Ok v) (first_item x)) r.1.1.0 r.1.1.1.0

  without_read : (n : ℕ) (vs : Items L) (ws : Items M) → each_leaf_of f vs ≡ Ok ws → each_leaf_of f (without n vs) ≡ Ok (without n ws)
  without_read zero vs ws e = e
  without_read (suc n) none none e = refl
  without_read (suc n) none (item w ws) e = cc
  without_read (suc n) (item v vs) ws e = let r = first_read v vs ws e in subst (λ x. each_leaf_of f (without n vs) ≡ Ok (without (suc n) x)) r.1.1.0 (without_read n vs r.1.0 r.1.1.1.1)

  first_of_read : (n : ℕ) (vs : Items L) (ws : Items M) → each_leaf_of f vs ≡ Ok ws → each_leaf_of f (first_of n vs) ≡ Ok (first_of n ws)
  first_of_read zero vs ws e = refl
  first_of_read (suc n) none none e = refl
  first_of_read (suc n) none (item w ws) e = cc
  first_of_read (suc n) (item v vs) ws e =
      let r = first_read v vs ws e in
      subst (λ x. each_leaf_of f (item v (first_of n vs)) ≡ Ok (first_of (suc n) x)) r.1.1.0
      (ap (λ g. g >>= λ w. each_leaf_of f (first_of n vs) >>= λ us. Ok (item w us)) r.1.1.1.0
      ∙ ap (λ g. g >>= λ us. Ok (item r.0 us)) (first_of_read n vs r.1.0 r.1.1.1.1))

  count_read : (vs : Items L) (ws : Items M) → each_leaf_of f vs ≡ Ok ws → count vs ≡ count ws
  count_read none none e = refl
  count_read none (item w ws) e = cc
  count_read (item v vs) ws e = let r = first_read v vs ws e in ap suc (count_read vs r.1.0 r.1.1.1.1) ∙ ap count r.1.1.0

  if_read : (c : Bool) (k : StopKind) (x : OrStop (Value L)) (y : OrStop (Value M)) → IsRead x y → IsRead (if c then x else Err k) (if c then y else Err k)
  unfolding IsRead
  if_read true k x y h = h
  if_read false k x y h = refl

  array_read : (b : Bounds) (vs : Items L) (ws : Items M) → each_leaf_of f vs ≡ Ok ws → IsRead (array_of b vs) (array_of b ws)
  unfolding IsRead
  array_read b vs ws e =
      subst (λ n. IsRead (array_of b vs) (if n == length_of b then Ok (Array b ws) else Err kind.Range)) (count_read vs ws e)
      (if_read (count vs == length_of b) kind.Range (Ok (Array b vs)) (Ok (Array b ws)) (ap (λ g. g >>= λ us. Ok (Array b us)) e))

  part_read : (to : Step) (s : Value L) (v : Value M) → each_leaf f s ≡ Ok v → IsRead (part to s) (part to v)
  unfolding IsRead
  part_read to (One x) v e = let i = invert (f x) (λ y. Ok (One y)) v e in subst (λ u. IsRead (part to (One x)) (part to u)) (let h : One i.0 ≡ v = let k = i.1.1 in cc in h) (leaf_read to x i.0)
    where
      leaf_read : (to : Step) (x : L) (y : M) → IsRead (part to (One x)) (part to (One y))
      leaf_read (AtIndex i) x y = refl
      leaf_read (AtSlice b) x y = refl
      leaf_read (AtField n) x y = refl
  part_read to (Array b vs) v e = let i = invert (each_leaf_of f vs) (λ ws. Ok (Array b ws)) v e in subst (λ u. IsRead (part to (Array b vs)) (part to u)) (let h : Array b i.0 ≡ v = let k = i.1.1 in cc in h) (elements_read to b vs i.0 i.1.0)
    where
      elements_read : (to : Step) (b : Bounds) (vs : Items L) (ws : Items M) → each_leaf_of f vs ≡ Ok ws → IsRead (part to (Array b vs)) (part to (Array b ws))
      elements_read (AtIndex i) b vs ws e = if_read (is_within b i) Index _ _ (item_read (without (place_of b i) vs) (without (place_of b i) ws) (without_read (place_of b i) vs ws e))
      elements_read (AtSlice s) b vs ws e = if_read (is_slice b s) Index _ _ (array_read s _ _ (first_of_read (length_of s) _ _ (without_read (place_of b s.left) vs ws e)))
      elements_read (AtField n) b vs ws e = refl
  part_read to (Fields vs) v e = let i = invert (each_leaf_of f vs) (λ ws. Ok (Fields ws)) v e in subst (λ u. IsRead (part to (Fields vs)) (part to u)) (let h : Fields i.0 ≡ v = let k = i.1.1 in cc in h) (fields_read to vs i.0 i.1.0)
    where
      fields_read : (to : Step) (vs : Items L) (ws : Items M) → each_leaf_of f vs ≡ Ok ws → IsRead (part to (Fields vs)) (part to (Fields ws))
      fields_read (AtIndex i) vs ws e = refl
      fields_read (AtSlice b) vs ws e = refl
      fields_read (AtField n) vs ws e = item_read (without n vs) (without n ws) (without_read n vs ws e)

-- ---- the same in a view

leaf_in : View → ScalarSignal → Got Scalar
leaf_in view x = of_the_type x.of_type (view.value x.number)

module _ (view : View) where
  to_got : (s : OrStop Signals) (r : OrStop (Value Scalar)) → IsRead (leaf_in view) s r → IsReadAs view (got s) r
  unfolding IsRead leaf_in
  to_got (Ok s) (Ok v) h = h
  to_got (Ok s) (Err k) h = absurd h
  to_got (Err k) (Ok v) h = absurd h
  to_got (Err k) (Err l) h = ap halt_of h

  step_read : (sg : Got Signals) (r : OrStop (Value Scalar)) (to : OrStop Part) → IsReadAs view sg r
      → IsReadAs view (sg >>= λ s. (got to >>= λ x. Ok (step_in x)) >>= λ x. got (part x s)) (part_found r to)
  unfolding IsRead leaf_in
  step_read (Ok s) (Ok v) (Ok x) h = to_got (part (step_in x) s) (part (step_in x) v) (part_read (leaf_in view) (step_in x) s v h)
  step_read (Ok s) (Ok v) (Err k) h = refl
  step_read (Ok s) (Err k) to h = absurd h
  step_read (Err k) (Ok v) to h = absurd h
  step_read (Err k) (Err l) to h = h

  seen : (sg : Got Signals) (r : OrStop (Value Scalar)) → IsReadAs view sg r → (sg >>= read view) ≡ got r
  seen (Ok s) (Ok v) h = h
  seen (Ok s) (Err k) h = absurd h
  seen (Err k) (Ok v) h = absurd h
  seen (Err k) (Err l) h = ap Err h

-- ---- steps

part_got : (r : OrStop (Value Scalar)) (to : OrStop Part) → (got r >>= λ v. (got to >>= λ x. Ok (step_in x)) >>= λ x. got (part x v)) ≡ got (part_found r to)
part_got (Ok v) (Ok x) = refl
part_got (Ok v) (Err k) = refl
part_got (Err k) to = refl

module _ (e : Env) (p : Named) (s : Stepping) (r : OrStop (Value Scalar)) (to : OrStop Part) (value : p.value e ≡ got r) (goes : s.to e ≡ (got to >>= λ x. Ok (step_in x))) where
  own_value_is : part_of_value p s e ≡ got (part_found r to)
  own_value_is = ap (λ g. g >>= λ v. s.to e >>= λ x. got (part x v)) value ∙ ap (λ h. got r >>= λ v. h >>= λ x. got (part x v)) goes ∙ part_got r to

  signals_read : IsReadAs e.view (p.signals e) r → IsReadAs e.view (part_signals p s e) (part_found r to)
  signals_read h = subst (λ g. IsReadAs e.view (p.signals e >>= λ v. g >>= λ x. got (part x v)) (part_found r to)) (sym goes) (step_read e.view (p.signals e) r to h)

  value_is : (prefix : Option (Env → Got Signals)) → IsPrefix e.view prefix (p.signals e) r → part_value prefix (part_signals p s) (part_of_value p s) e ≡ got (part_found r to)
  value_is None h = own_value_is
  value_is (Some prefix) h = seen e.view (part_signals p s e) (part_found r to) (signals_read h)

  prefix_is : (prefix : Option (Env → Got Signals)) → IsPrefix e.view prefix (p.signals e) r
      → IsPrefix e.view (part_prefix p s prefix) (where_signal prefix (λ _. senseless) (part_signals p s) e) (part_found r to)
  prefix_is None h = tt
  prefix_is (Some prefix) h = signals_read h

pub stepped_is : (e : Env) (p q : Named) (r : OrStop (Value Scalar)) (to : OrStop Part) → IsValue e r p → IsStepped e to p q → IsValue e (part_found r to) q
stepped_is e p q r to is step =
    subst (λ n. IsValue e (part_found r to) n) (sym step.is)
    (record {
      value = value_is e p step.stepping r to is.value step.to p.prefix is.prefix;
      range = refl;
      is_mark = refl;
      callee = refl;
      prefix = prefix_is e p step.stepping r to is.value step.to p.prefix is.prefix;
    })

-- ---- names with all their pieces

with_is : (e : Env) (w : What) (x : Name) (m : Meaning) (p : Named) → IsWhat e w m → IsName e x p → IsName e (with_what x w) (m.piece p)
with_is e what.NotTaken x m p is named = tt
with_is e (what.Word y) x m p is named = tt
with_is e (what.Expression r) x m p is named = tt
with_is e what.Textual x m p is named = tt
with_is e (what.Range r) x m p is named = tt
with_is e (what.Piece (piece.Step to)) (name.Valued r) m p is named = stepped_is e p (m.piece p) r to named (is p named.callee)
with_is e (what.Piece (piece.Step to)) name.Called m p is named = tt
with_is e (what.Piece (piece.Step to)) name.Unnamed m p is named = tt
with_is e (what.Piece (piece.Own r)) (name.Valued y) m p is named = is p named.callee
with_is e (what.Piece (piece.Own r)) name.Called m p is named = is p named
with_is e (what.Piece (piece.Own r)) name.Unnamed m p is named = tt

all_with_is : (e : Env) (ss : List Sense) (x : Name) (ms : List Meaning) (p : Named) → AreSenses e ss ms → IsName e x p → IsName e (with_pieces x ss) (named_by p ms)
all_with_is e [] x [] p are named = named
all_with_is e [] x (m ∷ ms) p are named = absurd are
all_with_is e (s ∷ ss) x [] p are named = absurd are
all_with_is e (s ∷ ss) x (m ∷ ms) p are named = all_with_is e ss (with_what x s.what) ms (m.piece p) are.1 (with_is e s.what x m p are.0.what named)

first_is : (e : Env) (w : What) (m : Meaning) → IsWhat e w m → IsName e (first_word w) m.name
first_is e what.NotTaken m is = tt
first_is e (what.Word x) m is = is
first_is e (what.Expression r) m is = tt
first_is e what.Textual m is = tt
first_is e (what.Range r) m is = tt
first_is e (what.Piece p) m is = tt

with_outline : (w : What) (x : Name) → name_outline_of (with_what x w) ≡ piece_after (name_outline_of x) (what_outline w)
with_outline what.NotTaken (name.Valued r) = refl
with_outline what.NotTaken name.Called = refl
with_outline what.NotTaken name.Unnamed = refl
with_outline (what.Word y) (name.Valued r) = refl
with_outline (what.Word y) name.Called = refl
with_outline (what.Word y) name.Unnamed = refl
with_outline (what.Expression q) (name.Valued r) = refl
with_outline (what.Expression q) name.Called = refl
with_outline (what.Expression q) name.Unnamed = refl
with_outline what.Textual (name.Valued r) = refl
with_outline what.Textual name.Called = refl
with_outline what.Textual name.Unnamed = refl
with_outline (what.Range q) (name.Valued r) = refl
with_outline (what.Range q) name.Called = refl
with_outline (what.Range q) name.Unnamed = refl
with_outline (what.Piece (piece.Step q)) (name.Valued r) = refl
with_outline (what.Piece (piece.Step q)) name.Called = refl
with_outline (what.Piece (piece.Step q)) name.Unnamed = refl
with_outline (what.Piece (piece.Own q)) (name.Valued r) = refl
with_outline (what.Piece (piece.Own q)) name.Called = refl
with_outline (what.Piece (piece.Own q)) name.Unnamed = refl

all_outline : (ss : List Sense) (x : Name) → name_outline_of (with_pieces x ss) ≡ named_outline (name_outline_of x) (map sense_outline ss)
all_outline [] x = refl
all_outline (s ∷ ss) x = all_outline ss (with_what x s.what) ∙ ap (λ o. named_outline o (map sense_outline ss)) (with_outline s.what x)

word_is : (w : What) → name_outline_of (first_word w) ≡ word_outline (what_outline w)
word_is what.NotTaken = refl
word_is (what.Word x) = refl
word_is (what.Expression r) = refl
word_is what.Textual = refl
word_is (what.Range r) = refl
word_is (what.Piece p) = refl

module _ (t : Table) (entries : List Entry) (n : Resolved) (text : List ℕ) where
  name_of_kind : (s : Sense) (ss : List Sense) (made : Sense) (x : Name) → x ≡ with_pieces (first_word s.what) ss → made.what ≡ finished_what x → made.text.now ≡ text → IsNode t entries Kinds.WholeName n text (s ∷ ss) made
  name_of_kind s ss made (name.Valued r) is what_is same =
      expression_node t entries n text Kinds.WholeName (s ∷ ss) made r what_is same
      (ap (λ o. finished_outline (named_outline o (map sense_outline ss))) (sym (word_is s.what)) ∙ ap finished_outline (sym (all_outline ss (first_word s.what)) ∙ ap name_outline_of (sym is))) (λ ms. refl)
      (λ e holds ms are. values e ms are)
    where
      values : (e : Env) (ms : List Meaning) → AreSenses e (s ∷ ss) ms → IsExpression e r (meaning_of Kinds.WholeName t n text ms)
      values e [] are = absurd are
      values e (m ∷ ms) are =
          let v : IsValue e r (named_by m.name ms) = subst (λ y. IsName e y (named_by m.name ms)) (sym is) (all_with_is e ss (first_word s.what) ms m.name are.1 (first_is e s.what m are.0.what)) in
          record { value = λ known. v.value; association = refl; range = v.range; choices = refl }
  name_of_kind s ss made name.Called is what_is same =
      untaken_node t entries n text Kinds.WholeName (s ∷ ss) made what_is
      (ap (λ o. finished_outline (named_outline o (map sense_outline ss))) (sym (word_is s.what)) ∙ ap finished_outline (sym (all_outline ss (first_word s.what)) ∙ ap name_outline_of (sym is)))
  name_of_kind s ss made name.Unnamed is what_is same =
      untaken_node t entries n text Kinds.WholeName (s ∷ ss) made what_is
      (ap (λ o. finished_outline (named_outline o (map sense_outline ss))) (sym (word_is s.what)) ∙ ap finished_outline (sym (all_outline ss (first_word s.what)) ∙ ap name_outline_of (sym is)))

  pub whole_name_node : (parts : List Sense) (s : Sense) (ss : List Sense) (made : Sense) (x : Name) → parts ≡ s ∷ ss → x ≡ with_pieces (first_word s.what) ss → made.what ≡ finished_what x → made.text.now ≡ text → IsNode t entries Kinds.WholeName n text parts made
  whole_name_node parts s ss made x split is what_is same = subst (λ ps. IsNode t entries Kinds.WholeName n text ps made) (sym split) (name_of_kind s ss made x is what_is same)

pub first_and_rest : {A : Type 0} (xs : List A) (a : A) → 1 ≤ length xs → a ≡ Rattle.std.proofs.Common.get_or xs 0 a → xs ≡ a ∷ Rattle.std.proofs.Common.drop 1 xs
first_and_rest [] a some first = absurd (omega arith)
first_and_rest (x ∷ xs) a some first = λ i. sym first i ∷ xs

-- ---- signals

seen_entry : (view : View) (x : Option (Value Scalar)) (s : Option Signals) → IsSeen view x s → IsReadAs view (or_senseless s) (signal_in x)
seen_entry view None None h = refl
seen_entry view None (Some s) h = absurd h
seen_entry view (Some v) None h = absurd h
seen_entry view (Some v) (Some s) h = h

signal_is : (t : Table) (n : Resolved) (d : ℕ) (e : Env) (r : OrStop (Value Scalar)) (x : Option (Value Scalar)) → IsSeen e.view x (e.denotes d).signals → r ≡ signal_in x → IsValue e r (signal d n.mark)
signal_is t n d e r x seen_so is =
    let h : IsReadAs e.view (or_senseless (e.denotes d).signals) r = subst (IsReadAs e.view (or_senseless (e.denotes d).signals)) (sym is) (seen_entry e.view x (e.denotes d).signals seen_so) in
    record {
      value = seen e.view (or_senseless (e.denotes d).signals) r h;
      range = refl;
      is_mark = refl;
      callee = refl;
      prefix = h;
    }

pub signal_name : (t : Table) (entries : List Entry) (n : Resolved) (d : ℕ) (c : Class) (e : Env) (r : OrStop (Value Scalar)) → n.declaration ≡ Some d → c ≡ (t.declared d).class → role c ≡ SignalRole → Holds entries e
    → r ≡ signal_in (slice_index_or entries d no_entry).signal → IsValue e r (first_piece t n)
signal_name t entries n d c e r named class_is is holds found =
    let standing_is : first_piece t n ≡ signal d n.mark =
    ap (λ o. standing t (role_of t o) (number_or o) n) named ∙ ap (λ x. standing t (role x) d n) (sym class_is) ∙ ap (λ x. standing t x d n) is in
    subst (λ p. IsValue e r p) (sym standing_is) (signal_is t n d e r (slice_index_or entries d no_entry).signal (holds d).signal found)

-- ---- pieces and ranges as nodes

position_got : (o : Option Scalar) → (or_senseless o >>= λ x. Ok (position_of x)) ≡ got (position_of_some o)
position_got None = refl
position_got (Some x) = refl

positions_got : (r : OrStop (Value Scalar)) → (got r >>= position_in) ≡ got (position_read r)
positions_got (Ok v) = position_got (scalar_of v)
positions_got (Err k) = refl

index_got : (g : OrStop ℤ) → (got g >>= λ i. Ok (AtIndex i)) ≡ (got (g >>= λ i. Ok (code.Index i)) >>= λ x. Ok (step_in x))
index_got (Ok i) = refl
index_got (Err k) = refl

slice_got : (r : OrStop Bounds) → (got r >>= λ b. Ok (AtSlice b)) ≡ (got (slice_read r) >>= λ x. Ok (step_in x))
slice_got (Ok b) = refl
slice_got (Err k) = refl

ranged : Bool → ℤ → ℤ → Got Bounds
ranged down i j = Ok (record { left = i; right = j; down = down })

limits_got : (down : Bool) (g h : OrStop ℤ) (x y : OrStop (Value Scalar)) → position_read x ≡ g → position_read y ≡ h → (got g >>= λ i. got h >>= λ j. ranged down i j) ≡ got (limits_read down x y)
unfolding ranged
limits_got down (Ok i) (Ok j) x y a b = rw (a, b) refl
limits_got down (Ok i) (Err k) x y a b = rw (a, b) refl
limits_got down (Err k) h x y a b = rw a refl

is_expression_of : (e : Env) (s : Sense) (r : OrStop (Value Scalar)) (m : Meaning) → s.what ≡ what.Expression r → IsSense e s m → IsExpression e r m
is_expression_of e s r m is h = subst (λ w. IsWhat e w m) is h.what

is_range_of : (e : Env) (s : Sense) (r : OrStop Bounds) (m : Meaning) → s.what ≡ what.Range r → IsSense e s m → IsRange e r m
is_range_of e s r m is h = subst (λ w. IsWhat e w m) is h.what

fresh_value : (e : Env) (r : OrStop (Value Scalar)) (value : Env → Got (Value Scalar)) (mark : Option ℕ) (known : Env → Static) (inner : Env → Got (List Signals)) → value e ≡ got r → IsValue e r (fresh value mark known inner)
fresh_value e r value mark known inner is = record { value = is; range = refl; is_mark = refl; callee = refl; prefix = tt }

converted_got : (s : Subtype) (r : OrStop (Value Scalar)) → (got r >>= whole_converted s) ≡ got (converted_by (head_of s) r)
converted_got s (Ok v) = refl
converted_got s (Err k) = refl

module _ (t : Table) (entries : List Entry) (n : Resolved) (text : List ℕ) where
  piece_node : (k : Kinds.Kind) (parts : List Sense) (made : Sense) (p : NamePiece) → made.what ≡ what.Piece p → made.text.now ≡ text
      → outline_of k t n text (map sense_outline parts) ≡ Piece (piece_outline p) → ((ms : List Meaning) → (meaning_of k t n text ms).text ≡ text)
      → ((e : Env) → Holds entries e → (ms : List Meaning) → AreSenses e parts ms → IsPiece e p (meaning_of k t n text ms).piece)
      → IsNode t entries k n text parts made
  piece_node k parts made p is same outline_is texts pieces = record {
    outline = ap what_outline is ∙ sym outline_is;
    sense = λ e holds ms are. record { text = λ has. texts ms ∙ sym same; what = subst (λ w. IsWhat e w (meaning_of k t n text ms)) (sym is) (pieces e holds ms are) };
  }

  -- ---- ranges

  limits_outlines : (l r : Sense) (a b : What) → l.what ≡ a → r.what ≡ b → limits_outline (sense_outline l ∷ sense_outline r ∷ []) ≡ limits_outline (what_outline a ∷ what_outline b ∷ [])
  limits_outlines l r a b x y = λ i. limits_outline (what_outline (x i) ∷ what_outline (y i) ∷ [])

  limits_bounds : (down : Bool) (l r : Sense) (x y : OrStop (Value Scalar)) (e : Env) (ms : List Meaning) → l.what ≡ what.Expression x → r.what ≡ what.Expression y → AreSenses e (l ∷ r ∷ []) ms
      → IsRange e (limits_read down x y) (meaning_of (Kinds.Limits down) t n text ms)
  unfolding ranged
  limits_bounds down l r x y e [] a b are = absurd are
  limits_bounds down l r x y e (m ∷ []) a b are = absurd are.1
  limits_bounds down l r x y e (m ∷ m' ∷ []) a b are = record {
    range = limits down m m';
    is = refl;
    bounds = ap (λ g. g >>= position_in >>= λ i. value_of m' e >>= position_in >>= λ j. ranged down i j) ((is_expression_of e l x m a are.0).value unknown)
        ∙ ap (λ g. got x >>= position_in >>= λ i. g >>= position_in >>= λ j. ranged down i j) ((is_expression_of e r y m' b are.1.0).value unknown)
        ∙ ap (λ g. g >>= λ i. got y >>= position_in >>= λ j. ranged down i j) (positions_got x)
        ∙ ap (λ h. got (position_read x) >>= λ i. h >>= λ j. ranged down i j) (positions_got y)
        ∙ limits_got down (position_read x) (position_read y) x y refl refl;
  }
  limits_bounds down l r x y e (m ∷ m' ∷ m'' ∷ ms) a b are = absurd are.1.1

  limits_of_two : (down : Bool) (l r : Sense) (made : Sense) (a b : What) → l.what ≡ a → r.what ≡ b → made.what ≡ from_limit down a b → made.text.now ≡ text → IsNode t entries (Kinds.Limits down) n text (l ∷ r ∷ []) made
  limits_of_two down l r made (what.Expression x) (what.Expression y) p q is same = record {
    outline = ap what_outline is ∙ sym (limits_outlines l r _ _ p q);
    sense = λ e holds ms are. record { text = λ has. sym same; what = subst (λ w. IsWhat e w (meaning_of (Kinds.Limits down) t n text ms)) (sym is) (limits_bounds down l r x y e ms p q are) };
  }
  limits_of_two down l r made (what.Expression x) what.NotTaken p q is same = untaken_node t entries n text (Kinds.Limits down) (l ∷ r ∷ []) made is (limits_outlines l r _ _ p q)
  limits_of_two down l r made (what.Expression x) (what.Word y) p q is same = untaken_node t entries n text (Kinds.Limits down) (l ∷ r ∷ []) made is (limits_outlines l r _ _ p q)
  limits_of_two down l r made (what.Expression x) what.Textual p q is same = untaken_node t entries n text (Kinds.Limits down) (l ∷ r ∷ []) made is (limits_outlines l r _ _ p q)
  limits_of_two down l r made (what.Expression x) (what.Range y) p q is same = untaken_node t entries n text (Kinds.Limits down) (l ∷ r ∷ []) made is (limits_outlines l r _ _ p q)
  limits_of_two down l r made (what.Expression x) (what.Piece y) p q is same = untaken_node t entries n text (Kinds.Limits down) (l ∷ r ∷ []) made is (limits_outlines l r _ _ p q)
  limits_of_two down l r made what.NotTaken b p q is same = untaken_node t entries n text (Kinds.Limits down) (l ∷ r ∷ []) made is (limits_outlines l r _ _ p q)
  limits_of_two down l r made (what.Word y) b p q is same = untaken_node t entries n text (Kinds.Limits down) (l ∷ r ∷ []) made is (limits_outlines l r _ _ p q)
  limits_of_two down l r made what.Textual b p q is same = untaken_node t entries n text (Kinds.Limits down) (l ∷ r ∷ []) made is (limits_outlines l r _ _ p q)
  limits_of_two down l r made (what.Range y) b p q is same = untaken_node t entries n text (Kinds.Limits down) (l ∷ r ∷ []) made is (limits_outlines l r _ _ p q)
  limits_of_two down l r made (what.Piece y) b p q is same = untaken_node t entries n text (Kinds.Limits down) (l ∷ r ∷ []) made is (limits_outlines l r _ _ p q)

  pub limits_node : (down : Bool) (parts : List Sense) (made : Sense) → made.what ≡ limits_what down parts → made.text.now ≡ text → IsNode t entries (Kinds.Limits down) n text parts made
  limits_node down [] made is same = untaken_node t entries n text (Kinds.Limits down) [] made is refl
  limits_node down (l ∷ []) made is same = untaken_node t entries n text (Kinds.Limits down) (l ∷ []) made is refl
  limits_node down (l ∷ r ∷ []) made is same = limits_of_two down l r made l.what r.what refl refl is same
  limits_node down (l ∷ r ∷ s ∷ ss) made is same = untaken_node t entries n text (Kinds.Limits down) (l ∷ r ∷ s ∷ ss) made is refl

  -- ---- qualified expressions

  qualified_piece : (s : Sense) (h : SubtypeHead) (r : OrStop (Value Scalar)) (e : Env) (ms : List Meaning) → Holds entries e → h ≡ head_of (subtype_in (slice_index_or entries (number_or n.declaration) no_entry).subtype)
      → s.what ≡ what.Expression r → AreSenses e (s ∷ []) ms → IsPiece e (piece.Own (converted_by h r)) (qualification_piece t n ms)
  qualified_piece s h r e [] holds head is are = absurd are
  qualified_piece s h r e (m ∷ []) holds head is are = λ p free.
      let x = is_expression_of e s r m is are.0 in
      let d = e.denotes (number_or n.declaration) in
      fresh_value e (converted_by h r) _ _ _ _
      (ap (λ g. g >>= whole_converted d.subtype) (let v : bracketed_value n.mark (m ∷ []) (Ok d.subtype) e ≡ got r = rw x.association (x.value (Ok d.subtype)) in v)
      ∙ converted_got d.subtype r ∙ ap (λ y. got (converted_by y r)) (ap head_of (holds (number_or n.declaration)).subtype ∙ sym head))
  qualified_piece s h r e (m ∷ m' ∷ ms) holds head is are = absurd are.1

  qualified_of_one : (s made : Sense) (h : SubtypeHead) (w : What) → s.what ≡ w → h ≡ head_of (subtype_in (slice_index_or entries (number_or n.declaration) no_entry).subtype)
      → made.what ≡ operand_of h w → made.text.now ≡ text → IsNode t entries Kinds.QualificationPiece n text (s ∷ []) made
  qualified_of_one s made h (what.Expression r) x head is same =
      piece_node Kinds.QualificationPiece (s ∷ []) made (piece.Own (converted_by h r)) is same (ap (λ y. operand_outline (what_outline y ∷ [])) x) (λ ms. refl) (λ e holds ms are. qualified_piece s h r e ms holds head x are)
  qualified_of_one s made h what.NotTaken x head is same = untaken_node t entries n text Kinds.QualificationPiece (s ∷ []) made is (ap (λ y. operand_outline (what_outline y ∷ [])) x)
  qualified_of_one s made h (what.Word y) x head is same = untaken_node t entries n text Kinds.QualificationPiece (s ∷ []) made is (ap (λ z. operand_outline (what_outline z ∷ [])) x)
  qualified_of_one s made h what.Textual x head is same = untaken_node t entries n text Kinds.QualificationPiece (s ∷ []) made is (ap (λ y. operand_outline (what_outline y ∷ [])) x)
  qualified_of_one s made h (what.Range y) x head is same = untaken_node t entries n text Kinds.QualificationPiece (s ∷ []) made is (ap (λ z. operand_outline (what_outline z ∷ [])) x)
  qualified_of_one s made h (what.Piece y) x head is same = untaken_node t entries n text Kinds.QualificationPiece (s ∷ []) made is (ap (λ z. operand_outline (what_outline z ∷ [])) x)

  pub qualification_node : (parts : List Sense) (made : Sense) (h : SubtypeHead) (d : ℕ) → d ≡ number_or n.declaration → h ≡ head_of (subtype_in (slice_index_or entries d no_entry).subtype)
      → made.what ≡ operand_what h parts → made.text.now ≡ text → IsNode t entries Kinds.QualificationPiece n text parts made
  qualification_node [] made h d named head is same = untaken_node t entries n text Kinds.QualificationPiece [] made is refl
  qualification_node (s ∷ []) made h d named head is same = qualified_of_one s made h s.what refl (head ∙ ap (λ k. head_of (subtype_in (slice_index_or entries k no_entry).subtype)) named) is same
  qualification_node (s ∷ r ∷ ss) made h d named head is same = untaken_node t entries n text Kinds.QualificationPiece (s ∷ r ∷ ss) made is refl

  -- ---- calls and conversions aren't taken

  function_outline : (o : Role) (os : List Outline) → caller.Called ≡ caller_of o → arguments_outline o os ≡ NotTaken
  function_outline ConstantRole os h = cc
  function_outline VariableRole os h = cc
  function_outline SignalRole os h = cc
  function_outline LiteralRole os h = cc
  function_outline FunctionRole os h = refl
  function_outline MarkRole os h = refl
  function_outline ElementRole os h = cc
  function_outline NoRole os h = cc

  pub call_node : (parts : List Sense) (made : Sense) → caller.Called ≡ caller_of (role_of t n.declaration) → made.what ≡ what.NotTaken → IsNode t entries Kinds.ArgumentsPiece n text parts made
  call_node parts made calls is = untaken_node t entries n text Kinds.ArgumentsPiece parts made is (function_outline _ _ calls)

  -- ---- indexes and slices

  other_outline : (o : Role) (os : List Outline) → caller.Other ≡ caller_of o → arguments_outline o os ≡ indexes_outline os
  other_outline ConstantRole os h = refl
  other_outline VariableRole os h = refl
  other_outline SignalRole os h = refl
  other_outline LiteralRole os h = refl
  other_outline FunctionRole os h = cc
  other_outline MarkRole os h = cc
  other_outline ElementRole os h = refl
  other_outline NoRole os h = refl

  other_role : (o : Role) (ms : List Meaning) (p : Named) → caller.Other ≡ caller_of o → by_role o t n ms p ≡ element_or_slice (nth 0 ms).range n ms p
  other_role ConstantRole ms p h = refl
  other_role VariableRole ms p h = refl
  other_role SignalRole ms p h = refl
  other_role LiteralRole ms p h = refl
  other_role FunctionRole ms p h = cc
  other_role MarkRole ms p h = cc
  other_role ElementRole ms p h = refl
  other_role NoRole ms p h = refl

  part_piece : (ms : List Meaning) (p : Named) → caller.Other ≡ caller_of (role_of t n.declaration) → p.callee ≡ NoCallee → arguments_piece t n ms p ≡ element_or_slice (nth 0 ms).range n ms p
  part_piece ms p calls free = ap (λ c. by_callee c t n ms p) free ∙ other_role (role_of t n.declaration) ms p calls

  element_piece : (s : Sense) (r : OrStop (Value Scalar)) (e : Env) (ms : List Meaning) → caller.Other ≡ caller_of (role_of t n.declaration) → s.what ≡ what.Expression r → AreSenses e (s ∷ []) ms → IsPiece e (piece.Step (index_read r)) (arguments_piece t n ms)
  element_piece s r e [] calls is are = absurd are
  element_piece s r e (m ∷ ms) calls is are = λ p free.
      let x = is_expression_of e s r m is are.0 in
      record {
        stepping = to_element (value_of m) m.known m.reads;
        mark = n.mark;
        to = ap (λ g. g >>= position_in >>= λ i. Ok (AtIndex i)) (x.value unknown) ∙ ap (λ g. g >>= λ i. Ok (AtIndex i)) (positions_got r) ∙ index_got (position_read r);
        is = part_piece (m ∷ ms) p calls free ∙ ap (λ o. element_or_slice o n (m ∷ ms) p) x.range;
      }

  slice_piece : (s : Sense) (r : OrStop Bounds) (e : Env) (ms : List Meaning) → caller.Other ≡ caller_of (role_of t n.declaration) → s.what ≡ what.Range r → AreSenses e (s ∷ []) ms → IsPiece e (piece.Step (slice_read r)) (arguments_piece t n ms)
  slice_piece s r e [] calls is are = absurd are
  slice_piece s r e (m ∷ ms) calls is are = λ p free.
      let x = is_range_of e s r m is are.0 in
      record {
        stepping = to_slice x.range m.known m.reads;
        mark = n.mark;
        to = ap (λ g. g >>= λ b. Ok (AtSlice b)) x.bounds ∙ slice_got r;
        is = part_piece (m ∷ ms) p calls free ∙ ap (λ o. element_or_slice o n (m ∷ ms) p) x.is;
      }

  index_outlines : (s : Sense) (w : What) → s.what ≡ w → caller.Other ≡ caller_of (role_of t n.declaration) → arguments_outline (role_of t n.declaration) (sense_outline s ∷ []) ≡ index_outline (what_outline w)
  index_outlines s w x calls = other_outline _ _ calls ∙ ap (λ y. index_outline (what_outline y)) x

  index_of_one : (s made : Sense) (w : What) → s.what ≡ w → caller.Other ≡ caller_of (role_of t n.declaration) → made.what ≡ index_of w → made.text.now ≡ text → IsNode t entries Kinds.ArgumentsPiece n text (s ∷ []) made
  index_of_one s made (what.Expression r) x calls is same = piece_node Kinds.ArgumentsPiece (s ∷ []) made (piece.Step (index_read r)) is same (index_outlines s _ x calls) (λ ms. refl) (λ e holds ms are. element_piece s r e ms calls x are)
  index_of_one s made (what.Range r) x calls is same = piece_node Kinds.ArgumentsPiece (s ∷ []) made (piece.Step (slice_read r)) is same (index_outlines s _ x calls) (λ ms. refl) (λ e holds ms are. slice_piece s r e ms calls x are)
  index_of_one s made what.NotTaken x calls is same = untaken_node t entries n text Kinds.ArgumentsPiece (s ∷ []) made is (index_outlines s _ x calls)
  index_of_one s made (what.Word y) x calls is same = untaken_node t entries n text Kinds.ArgumentsPiece (s ∷ []) made is (index_outlines s _ x calls)
  index_of_one s made what.Textual x calls is same = untaken_node t entries n text Kinds.ArgumentsPiece (s ∷ []) made is (index_outlines s _ x calls)
  index_of_one s made (what.Piece y) x calls is same = untaken_node t entries n text Kinds.ArgumentsPiece (s ∷ []) made is (index_outlines s _ x calls)

  pub index_node : (parts : List Sense) (made : Sense) → caller.Other ≡ caller_of (role_of t n.declaration) → made.what ≡ index_what parts → made.text.now ≡ text → IsNode t entries Kinds.ArgumentsPiece n text parts made
  index_node [] made calls is same = untaken_node t entries n text Kinds.ArgumentsPiece [] made is (other_outline _ _ calls)
  index_node (s ∷ []) made calls is same = index_of_one s made s.what refl calls is same
  index_node (s ∷ r ∷ ss) made calls is same = untaken_node t entries n text Kinds.ArgumentsPiece (s ∷ r ∷ ss) made is (other_outline _ _ calls)

  -- ---- selected names

  element_role : (o : Role) → is_element o ≡ true → o ≡ ElementRole
  element_role ConstantRole h = cc
  element_role VariableRole h = cc
  element_role SignalRole h = cc
  element_role LiteralRole h = cc
  element_role FunctionRole h = cc
  element_role MarkRole h = cc
  element_role ElementRole h = refl
  element_role NoRole h = cc

  pub field_node : (parts : List Sense) (made : Sense) → is_element (role_of t n.declaration) ≡ true → made.what ≡ what.Piece (piece.Step (Ok (code.Field n.position))) → made.text.now ≡ text → IsNode t entries Kinds.SelectionPiece n text parts made
  field_node parts made element_is is same =
      let role_is = element_role (role_of t n.declaration) element_is in
      piece_node Kinds.SelectionPiece parts made (piece.Step (Ok (code.Field n.position))) is same (ap (λ o. selection_outline o n.mark) role_is) (λ ms. refl)
      (λ e holds ms are. λ p free. record { stepping = to_field n.position; mark = n.mark; to = refl; is = ap (λ o. selection_piece o t n p) role_is })

  declared_role : (o : Role) (p : Named) → is_element o ≡ false → selection_piece o t n p ≡ first_piece t n
  declared_role ConstantRole p h = refl
  declared_role VariableRole p h = refl
  declared_role SignalRole p h = refl
  declared_role LiteralRole p h = refl
  declared_role FunctionRole p h = refl
  declared_role MarkRole p h = refl
  declared_role ElementRole p h = cc
  declared_role NoRole p h = refl

  declared_outlines : (o : Role) → is_element o ≡ false → selection_outline o n.mark ≡ declared_outline (first_outline o n.mark)
  declared_outlines ConstantRole h = refl
  declared_outlines VariableRole h = refl
  declared_outlines SignalRole h = refl
  declared_outlines LiteralRole h = refl
  declared_outlines FunctionRole h = refl
  declared_outlines MarkRole h = refl
  declared_outlines ElementRole h = cc
  declared_outlines NoRole h = refl

  pub declared_node : (parts : List Sense) (made : Sense) (x : Name) → is_element (role_of t n.declaration) ≡ false → name_outline_of x ≡ first_outline (role_of t n.declaration) n.mark
      → ((e : Env) → Holds entries e → IsName e x (first_piece t n)) → made.what ≡ declared_what x → made.text.now ≡ text → IsNode t entries Kinds.SelectionPiece n text parts made
  declared_node parts made (name.Valued r) element_is outline_is names is same =
      piece_node Kinds.SelectionPiece parts made (piece.Own r) is same (declared_outlines _ element_is ∙ ap declared_outline (sym outline_is)) (λ ms. refl)
      (λ e holds ms are. λ p free. subst (λ q. IsValue e r q) (sym (declared_role (role_of t n.declaration) p element_is)) (names e holds))
  declared_node parts made name.Called element_is outline_is names is same = untaken_node t entries n text Kinds.SelectionPiece parts made is (declared_outlines _ element_is ∙ ap declared_outline (sym outline_is))
  declared_node parts made name.Unnamed element_is outline_is names is same = untaken_node t entries n text Kinds.SelectionPiece parts made is (declared_outlines _ element_is ∙ ap declared_outline (sym outline_is))
