-- Declarations behind those of a tree.
use Rattle.std.proofs.Common.{◌≡◌, ◌<◌, ◌≤◌, ◌+◌, ◌⊎◌, inl, inr, ℕ, zero, suc, nat_lt, ◌==◌, Bool, true, false, not, ◌&&◌, ◌||◌, true≢false, List, [], ◌∷◌, ◌++◌, length, length-append, Option, Some, None, map, refl, sym, ap, ◌∙◌, subst, arith, if◌then◌else◌, slice_index_or, ltb-true, ltb-false, lt-ltb, le-ltb, eqb-true, eq-eqb}
use Rattle.std.specs.List.{All, AllZip}
use Rattle.vd_trees.specs.declared.revision.Revision.{Revision}
use Rattle.vd_trees.specs.declared.revision.Revision.TheVariants.{V2019, V1993}
use Rattle.vd_declarations.specs.declared.classes.Class.{Class}
use Rattle.vd_declarations.specs.declared.classes.Class.TheVariants as class
use Rattle.vd_declarations.specs.declared.declarations.Declaration.{Declaration}
use Rattle.vd_declarations.specs.Classes.{named_by}
use Rattle.vd_predefined.specs.declared.numbers.TheConstants.{BOOLEAN, BIT, INTEGER, TIME, STD_ULOGIC, STD_ULOGIC_VECTOR, STD_LOGIC_VECTOR}
use Rattle.vd_forest.specs.Forest.{nothing, more}
use Rattle.vd_resolved.specs.Validity.{IsOwn, IsType, OnSome, IsAmong}
use Rattle.vd_environments.specs.Environments.{Denotation}
use Rattle.vd_meaning.specs.Tables.{Table, table, no_declaration, given_count, role, role_of, IntegerSort, TimeSort, sort_of_composite, actual_of, mark_in, is_brought, operand_types, logic_type, sort_of, sort_of_scalar}
use Rattle.vd_vectors.specs.declared.logics.LogicType.{LogicType}
use Rattle.vd_vectors.specs.declared.logics.LogicType.TheVariants.{TwoValued, NineValued}
use Rattle.vd_meaning.specs.Operators.{Symbol, symbol, of_operands, of_one, of_pair, operand_kind, is_local_of, is_local_of_one}
use Rattle.vd_meaning.specs.Meanings.{meanings}
use Rattle.vd_meaning_laws.specs.Agreement.{Link, number_in}
use Rattle.vd_meaning_laws.specs.Renumbering.{SameTable, AlikeMeaning}
use Rattle.vd_meaning_laws.specs.Appending.{moved, appended, AppendedIsApart, AppendedTablesAreSame, OwnNodesStay, OwnTreesStay, OwnTreesMeanTheSame}
use Rattle.vd_meaning_laws.proofs.Cases.{all_trees_alike}

-- ---- numbers

pub stays : (n m k : ℕ) → k < n → moved n m k ≡ k
stays n m k h = ap (λ b. if b then k else k + m) (lt-ltb k n h)

moves : (n m k : ℕ) → n ≤ k → moved n m k ≡ k + m
moves n m k h = ap (λ b. if b then k else k + m) (le-ltb k n h)

side : (k n : ℕ) (b : Bool) → nat_lt k n ≡ b → (k < n) ⊎ (n ≤ k)
side k n true h = inl (ltb-true k n h)
side k n false h = inr (ltb-false k n h)

one_number : (n m i j : ℕ) → (i < n) ⊎ (n ≤ i) → (j < n) ⊎ (n ≤ j) → moved n m i ≡ moved n m j → i ≡ j
one_number n m i j (inl a) (inl b) e = sym (stays n m i a) ∙ e ∙ stays n m j b
one_number n m i j (inl a) (inr b) e = absurd (omega (arith, a, b, sym (stays n m i a) ∙ e ∙ moves n m j b))
one_number n m i j (inr a) (inl b) e = absurd (omega (arith, a, b, sym (moves n m i a) ∙ e ∙ stays n m j b))
one_number n m i j (inr a) (inr b) e = omega (arith, sym (moves n m i a) ∙ e ∙ moves n m j b)

truths_equal : (b c : Bool) → (b ≡ true → c ≡ true) → (c ≡ true → b ≡ true) → b ≡ c
truths_equal true c f g = sym (f refl)
truths_equal false true f g = g refl
truths_equal false false f g = refl

pub same_number : (n m i j : ℕ) → (moved n m i == moved n m j) ≡ (i == j)
same_number n m i j =
    truths_equal (moved n m i == moved n m j) (i == j) (λ h. eq-eqb i j (one_number n m i j (side i n _ refl) (side j n _ refl) (eqb-true _ _ h))) (λ h. eq-eqb _ _ (ap (moved n m) (eqb-true i j h)))

never : (b : Bool) → (b ≡ true → ⊥) → b ≡ false
never true h = absurd (h refl)
never false h = refl

first_of : (b c : Bool) → (b && c) ≡ true → b ≡ true
first_of true c h = refl
first_of false c h = h

then_of : (b c : Bool) → (b && c) ≡ true → c ≡ true
then_of true c h = h
then_of false c h = absurd (true≢false (sym h))

not_true : (b : Bool) → not b ≡ true → b ≡ false
not_true true h = sym h
not_true false h = refl

no_new : (n m k j : ℕ) → n ≤ k → k < n + m → (j < n) ⊎ (n ≤ j) → k ≡ moved n m j → ⊥
no_new n m k j a b (inl c) e = omega (arith, a, b, c, e ∙ stays n m j c)
no_new n m k j a b (inr c) e = omega (arith, a, b, c, e ∙ moves n m j c)

pub is_apart : AppendedIsApart
is_apart n m kept base h =
    record {
      first = stays n m 0 h;
      same = same_number n m;
      apart = λ k j x. never (k == moved n m j) (λ e.
          no_new n m k j (ltb-false k n (not_true _ (first_of _ _ x))) (ltb-true k (n + m) (first_of _ _ (then_of (not (nat_lt k n)) _ x))) (side j n _ refl) (eqb-true _ _ e));
    }

-- ---- lists

front : {A : Type 0} (xs ys : List A) (k : ℕ) (d : A) → k < length xs → slice_index_or (xs ++ ys) k d ≡ slice_index_or xs k d
front [] ys k d h = absurd (omega (arith, h))
front (x ∷ xs) ys zero d h = refl
front (x ∷ xs) ys (suc k) d h = front xs ys k d (omega (arith, h))

behind : {A : Type 0} (xs : List A) (k : ℕ) (d : A) → length xs ≤ k → slice_index_or xs k d ≡ d
behind [] k d h = refl
behind (x ∷ xs) zero d h = absurd (omega (arith, h))
behind (x ∷ xs) (suc k) d h = behind xs k d (omega (arith, h))

looked_up : {A : Type 0} (xs ys : List A) (d : A) (k : ℕ) → (k < length xs) ⊎ (length xs ≤ k) → slice_index_or (xs ++ ys) (moved (length xs) (length ys) k) d ≡ slice_index_or xs k d
looked_up xs ys d k (inl h) = ap (λ j. slice_index_or (xs ++ ys) j d) (stays (length xs) (length ys) k h) ∙ front xs ys k d h
looked_up xs ys d k (inr h) =
    ap (λ j. slice_index_or (xs ++ ys) j d) (moves (length xs) (length ys) k h) ∙ behind (xs ++ ys) (k + length ys) d (omega (arith, h, length-append xs ys)) ∙ sym (behind xs k d h)

pub head_of : {A : Type 0} (P : A → Type 0) (x : A) (xs : List A) → All P (x ∷ xs) → P x
head_of P x xs h = h 0 x (omega arith)

pub rest_of : {A : Type 0} (P : A → Type 0) (x : A) (xs : List A) → All P (x ∷ xs) → All P xs
rest_of P x xs h = λ k d b. h (suc k) d (omega (arith, b))

all_at : {A : Type 0} (P : A → Type 0) (xs : List A) (k : ℕ) (d : A) → All P xs → P d → (k < length xs) ⊎ (length xs ≤ k) → P (slice_index_or xs k d)
all_at P xs k d h p (inl b) = h k d b
all_at P xs k d h p (inr b) = subst P (sym (behind xs k d b)) p

-- ---- tables

module _ (r : Revision) (ds new : List Declaration) (kept : ℕ → Bool) (base : ℕ → Denotation) (counted : given_count r ≤ length ds) (among : All (IsAmong ds) ds) where
  abbrev l : Link
  l = appended (length ds) (length new) kept base

  abbrev before : Table
  before = table r ds

  abbrev after : Table
  after = table r (ds ++ new)

  same_declared : (k : ℕ) → after.declared (l.number k) ≡ before.declared k
  same_declared k = looked_up ds new no_declaration k (side k (length ds) _ refl)

  own_declared : (k : ℕ) → k < length ds → after.declared k ≡ before.declared k
  own_declared k h = front ds new k no_declaration h

  among_at : (k : ℕ) → IsAmong ds (before.declared k)
  among_at k = all_at (IsAmong ds) ds k no_declaration among (record { mark = tt; parameters = λ k d h. absurd (omega (arith, h)); generics = λ k d h. absurd (omega (arith, h)); named = λ k d h. absurd (omega (arith, h)); types = λ k d h. absurd (omega (arith, h)) }) (side k (length ds) _ refl)

  own_stay : (ks : List ℕ) → All (IsOwn ds) ks → map l.number ks ≡ ks
  own_stay [] h = refl
  own_stay (k ∷ ks) h = λ i. stays (length ds) (length new) k (head_of (IsOwn ds) k ks h) i ∷ own_stay ks (rest_of (IsOwn ds) k ks h) i

  type_stays : (x : Option ℕ) → OnSome (IsType ds) x → number_in l x ≡ x
  type_stays None h = refl
  type_stays (Some k) h = ap Some (stays (length ds) (length new) k h.own)

  actual_in : (c : Class) (d : ℕ) → All (IsOwn ds) (named_by c) → actual_of c (l.number d) ≡ l.number (actual_of c d)
  actual_in (class.ActualFunction actual) d h = sym (stays (length ds) (length new) actual (head_of (IsOwn ds) actual [] h))
  actual_in (class.LibraryName library) d h = refl
  actual_in (class.ArrayType index element element_mark) d h = refl
  actual_in (class.Subtype mark) d h = refl
  actual_in class.Library d h = refl
  actual_in class.Entity d h = refl
  actual_in class.Architecture d h = refl
  actual_in class.Package d h = refl
  actual_in class.UninstantiatedPackage d h = refl
  actual_in class.PackageInstance d h = refl
  actual_in class.Context d h = refl
  actual_in class.Constant d h = refl
  actual_in class.Signal d h = refl
  actual_in class.Variable d h = refl
  actual_in class.Port d h = refl
  actual_in class.GenericConstant d h = refl
  actual_in class.Parameter d h = refl
  actual_in class.LoopParameter d h = refl
  actual_in class.GenerateParameter d h = refl
  actual_in class.EnumerationType d h = refl
  actual_in class.IntegerType d h = refl
  actual_in class.PhysicalType d h = refl
  actual_in class.RecordType d h = refl
  actual_in class.GenericType d h = refl
  actual_in class.EnumerationLiteral d h = refl
  actual_in class.RecordElement d h = refl
  actual_in class.PhysicalUnit d h = refl
  actual_in class.View d h = refl
  actual_in class.Function d h = refl
  actual_in class.UninstantiatedFunction d h = refl
  actual_in class.GenericFunction d h = refl
  actual_in class.InstanceFunction d h = refl
  actual_in class.PredefinedOperator d h = refl
  actual_in class.Label d h = refl

  marked_in : (c : Class) (d : ℕ) → All (IsOwn ds) (named_by c) → mark_in c (l.number d) ≡ l.number (mark_in c d)
  marked_in (class.ActualFunction actual) d h = refl
  marked_in (class.LibraryName library) d h = refl
  marked_in (class.ArrayType index element element_mark) d h = refl
  marked_in (class.Subtype mark) d h = sym (stays (length ds) (length new) mark (head_of (IsOwn ds) mark [] h))
  marked_in class.Library d h = refl
  marked_in class.Entity d h = refl
  marked_in class.Architecture d h = refl
  marked_in class.Package d h = refl
  marked_in class.UninstantiatedPackage d h = refl
  marked_in class.PackageInstance d h = refl
  marked_in class.Context d h = refl
  marked_in class.Constant d h = refl
  marked_in class.Signal d h = refl
  marked_in class.Variable d h = refl
  marked_in class.Port d h = refl
  marked_in class.GenericConstant d h = refl
  marked_in class.Parameter d h = refl
  marked_in class.LoopParameter d h = refl
  marked_in class.GenerateParameter d h = refl
  marked_in class.EnumerationType d h = refl
  marked_in class.IntegerType d h = refl
  marked_in class.PhysicalType d h = refl
  marked_in class.RecordType d h = refl
  marked_in class.GenericType d h = refl
  marked_in class.EnumerationLiteral d h = refl
  marked_in class.RecordElement d h = refl
  marked_in class.PhysicalUnit d h = refl
  marked_in class.View d h = refl
  marked_in class.Function d h = refl
  marked_in class.UninstantiatedFunction d h = refl
  marked_in class.GenericFunction d h = refl
  marked_in class.InstanceFunction d h = refl
  marked_in class.PredefinedOperator d h = refl
  marked_in class.Label d h = refl

  pub small : (r : Revision) (n : ℕ) → given_count r ≤ n → (b : ℕ) → nat_lt b 387 ≡ true → b < n
  small V2019 n h b e = omega (arith, h, ltb-true b 387 e)
  small V1993 n h b e = omega (arith, h, ltb-true b 387 e)

  pub is_given : (b : ℕ) → nat_lt b 387 ≡ true → (d : ℕ) → (l.number d == b) ≡ (d == b)
  is_given b e d = ap (λ j. l.number d == j) (sym (stays (length ds) (length new) b (small r (length ds) counted b e))) ∙ same_number (length ds) (length new) d b

  given_side : (d : ℕ) → (d < length ds) ⊎ (length ds ≤ d) → nat_lt (l.number d) (given_count r) ≡ nat_lt d (given_count r)
  given_side d (inl h) = ap (λ j. nat_lt j (given_count r)) (stays (length ds) (length new) d h)
  given_side d (inr h) =
      ap (λ j. nat_lt j (given_count r)) (moves (length ds) (length new) d h) ∙ le-ltb (d + length new) (given_count r) (omega (arith, h, counted)) ∙ sym (le-ltb d (given_count r) (omega (arith, h, counted)))

  -- sorts

  logic_same : (d : ℕ) → logic_type (l.number d) ≡ logic_type d
  logic_same d = λ i. if is_given BIT refl d i || is_given BOOLEAN refl d i then Some TwoValued else (if is_given STD_ULOGIC refl d i then Some NineValued else None)

  by_logic : (o : Option LogicType) (d : ℕ) (c : Class) → sort_of_scalar o (l.number d) c ≡ sort_of_scalar o d c
  by_logic (Some of) d c = refl
  by_logic None d c = λ i. if is_given INTEGER refl d i then IntegerSort else (if is_given TIME refl d i then TimeSort else sort_of_composite c)

  sort_same : (x : Option ℕ) → sort_of after (number_in l x) ≡ sort_of before x
  sort_same None = refl
  sort_same (Some d) = (λ i. sort_of_scalar (logic_same d i) (l.number d) (same_declared d i).class) ∙ by_logic (logic_type d) d (before.declared d).class

  own_sort : (x : Option ℕ) → OnSome (IsType ds) x → sort_of after x ≡ sort_of before x
  own_sort x h = ap (sort_of after) (sym (type_stays x h)) ∙ sort_same x

  -- operands

  marks_same : (ps : List ℕ) → All (IsOwn ds) ps → map (λ p. (after.declared p).mark) ps ≡ map (λ p. (before.declared p).mark) ps
  marks_same [] h = refl
  marks_same (p ∷ ps) h = λ i. (own_declared p (head_of (IsOwn ds) p ps h) i).mark ∷ marks_same ps (rest_of (IsOwn ds) p ps h) i

  operands_at : (d : ℕ) → operand_types after (l.number d) ≡ operand_types before d
  operands_at d = (λ i. map (λ p. (after.declared p).mark) (same_declared d i).parameters) ∙ marks_same (before.declared d).parameters (among_at d).parameters

  abbrev SameSorts : List (Option ℕ) → Type 0
  SameSorts [] = Unit {0}
  SameSorts (x ∷ os) = (sort_of after x ≡ sort_of before x) × SameSorts os

  sorts_at : (ps : List ℕ) → SameSorts (map (λ p. (before.declared p).mark) ps)
  sorts_at [] = tt
  sorts_at (p ∷ ps) = (own_sort (before.declared p).mark (among_at p).mark, sorts_at ps)

  operations_same : (s : Symbol) (result : Option ℕ) (os : List (Option ℕ)) → SameSorts os → of_operands after s result os ≡ of_operands before s result os
  operations_same s result [] h = refl
  operations_same s result (x ∷ []) h = λ i. of_one s (h.0 i)
  operations_same s result (x ∷ y ∷ []) h = λ i. of_pair s (operand_kind result x) (operand_kind result y) (h.0 i) (h.1.0 i)
  operations_same s result (x ∷ y ∷ z ∷ zs) h = refl

  locals_same : (s : Symbol) (os : List (Option ℕ)) → SameSorts os → is_local_of after s os ≡ is_local_of before s os
  locals_same s [] h = refl
  locals_same s (x ∷ []) h = λ i. is_local_of_one s (h.0 i)
  locals_same s (x ∷ y ∷ []) h = refl
  locals_same s (x ∷ y ∷ z ∷ zs) h = refl

  by_role : (x : Option ℕ) → role_of after (number_in l x) ≡ role_of before x
  by_role None = refl
  by_role (Some d) = ap (λ x. role x.class) (same_declared d)

  pub same_table : SameTable l before after
  same_table =
      record {
        role = by_role;
        followed = λ d. (λ i. actual_of (same_declared d i).class (l.number d)) ∙ actual_in (before.declared d).class d (among_at d).named;
        predefined = λ d i. given_side d (side d (length ds) _ refl) i || is_brought (same_declared d i).class;
        operation = λ d. (λ i. of_operands after (symbol (same_declared d i).name) (same_declared d i).mark (operands_at d i)) ∙ operations_same (symbol (before.declared d).name) (before.declared d).mark (operand_types before d) (sorts_at (before.declared d).parameters);
        is_local = λ d. (λ i. is_brought (same_declared d i).class && is_local_of after (symbol (same_declared d i).name) (operands_at d i))
            ∙ ap (λ b. is_brought (before.declared d).class && b) (locals_same (symbol (before.declared d).name) (operand_types before d) (sorts_at (before.declared d).parameters));
        result = λ d. ap (λ x. x.mark) (same_declared d) ∙ sym (type_stays (before.declared d).mark (among_at d).mark);
        parameters = λ d. ap (λ x. x.parameters) (same_declared d) ∙ sym (own_stay (before.declared d).parameters (among_at d).parameters);
        generics = λ d. ap (λ x. x.generics) (same_declared d) ∙ sym (own_stay (before.declared d).generics (among_at d).generics);
        actual_mark = λ d. (λ i. mark_in (same_declared d i).class (l.number d)) ∙ marked_in (before.declared d).class d (among_at d).named;
        vector = λ d i. is_given STD_ULOGIC_VECTOR refl d i || is_given STD_LOGIC_VECTOR refl d i;
        sort = sort_same;
      }

pub same_tables : AppendedTablesAreSame
same_tables r ds new kept base counted among = same_table r ds new kept base counted among

-- ---- trees

node_stays : (ds : List Declaration) (m : ℕ) (x : Option ℕ) → OnSome (IsOwn ds) x → (kept : ℕ → Bool) (base : ℕ → Denotation) → number_in (appended (length ds) m kept base) x ≡ x
node_stays ds m None h kept base = refl
node_stays ds m (Some k) h kept base = ap Some (stays (length ds) m k h)

mark_stays : (ds : List Declaration) (m : ℕ) (x : Option ℕ) → OnSome (IsType ds) x → (kept : ℕ → Bool) (base : ℕ → Denotation) → number_in (appended (length ds) m kept base) x ≡ x
mark_stays ds m None h kept base = refl
mark_stays ds m (Some k) h kept base = ap Some (stays (length ds) m k h.own)

pub own_nodes : OwnNodesStay
own_nodes ds m kept base n h k = λ i. record n { declaration = node_stays ds m n.declaration h kept base i; mark = mark_stays ds m n.mark k kept base i }

pub own_trees : OwnTreesStay
own_trees ds m kept base nothing h = refl
own_trees ds m kept base (more n text place parts next) h =
    λ i. more (own_nodes ds m kept base n h.0 h.1 i) text place (own_trees ds m kept base parts h.2 i) (own_trees ds m kept base next h.3 i)

pub some_given : (r : Revision) (n : ℕ) → given_count r ≤ n → 0 < n
some_given V2019 n h = omega (arith, h)
some_given V1993 n h = omega (arith, h)

pub own_meanings : OwnTreesMeanTheSame
own_meanings r ds new kept base counted among f h =
    subst (λ g. AllZip (AlikeMeaning (appended (length ds) (length new) kept base)) (meanings (table r ds) f) (meanings (table r (ds ++ new)) g)) (own_trees ds (length new) kept base f h)
    (all_trees_alike (appended (length ds) (length new) kept base) (is_apart (length ds) (length new) kept base (some_given r (length ds) counted)) (table r ds) (table r (ds ++ new)) (same_tables r ds new kept base counted among) f)
