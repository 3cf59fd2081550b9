-- A map with a row for each port, where the ports have names that differ, is whole for two designs that have these ports.
use Rattle.std.proofs.Common.{◌≡◌, ◌<◌, ℕ, List, [], ◌∷◌, ◌++◌, length, map, Option, Some, None, refl, sym, ap, ◌∙◌, inl, inr, subst, arith}
use Rattle.std.specs.Prelude.{slice_get, Contains, option_map}
use Rattle.std.proofs.lemmas.List.{length-map}
use Rattle.std.proofs.lemmas.Option.{slice_get-map, slice_get-get_or, slice_get_within, get_or_from_slice_get, slice_get_cases}
use Rattle.vd_trees.specs.declared.paths.Level.{Level}
use Rattle.vd_trees.specs.declared.paths.PathStep.{PathStep}
use Rattle.vd_trees.specs.declared.rows.Row.{Row}
use Rattle.vd_trees.specs.declared.rows.RowKind.TheVariants as kinds
use Rattle.vd_first_names.specs.Maps.{port_row}
use Rattle.vd_first_names.specs.Joins.{field_steps, object_name, JoinsBy}
use Rattle.vd_first_elaboration.specs.Ports.{Port, mode_word}
use Rattle.vd_first_elaboration.specs.Signals.{ScalarSignal, port_signal, mode_text}
use Rattle.vd_first_correspondence.specs.WholeMaps.{Joined, IsOfKind, IsTrueRow, IsWhole}

-- the row of a port of a unit
abbrev pub row_of : List ℕ → Port → Row
row_of unit p = port_row unit p.name p.mark (mode_word p.mode)

-- ports with one name stand at one place
abbrev pub HaveOwnNames : List Port → Type 0
HaveOwnNames ports = (i j : ℕ) (a b : Port) → slice_get ports i ≡ Some a → slice_get ports j ≡ Some b → a.name ≡ b.name → i ≡ j

-- what a mapped option came from
some_mapped : {A B : Type 0} (g : A → B) (o : Option A) (y : B) → option_map g o ≡ Some y → (x : A) × (o ≡ Some x) × (g x ≡ y)
some_mapped g None y e = cc
some_mapped g (Some x) y e = (x, refl, cc)

pub same_some : {A : Type 0} (a b : A) → Some a ≡ Some b → a ≡ b
same_some a b e = cc

-- an element of a mapped list came from one of the list
pub element_mapped : {A B : Type 0} (g : A → B) (xs : List A) (k : ℕ) (y : B) → slice_get (map g xs) k ≡ Some y → (x : A) × (slice_get xs k ≡ Some x) × (g x ≡ y)
element_mapped g xs k y e = some_mapped g (slice_get xs k) y (sym (slice_get-map g xs k) ∙ e)

pub element_there : {A B : Type 0} (g : A → B) (xs : List A) (k : ℕ) (x : A) → slice_get xs k ≡ Some x → slice_get (map g xs) k ≡ Some (g x)
element_there g xs k x e = slice_get-map g xs k ∙ ap (option_map g) e

-- where an element stands
place_of_element : {A : Type 0} (xs : List A) (x : A) → Contains xs x → (k : ℕ) × (slice_get xs k ≡ Some x)
place_of_element xs x c = (c.0, slice_get-get_or xs c.0 x c.1 ∙ ap Some c.2)

element_stands : {A : Type 0} (xs : List A) (k : ℕ) (x : A) → slice_get xs k ≡ Some x → Contains xs x
element_stands xs k x e = (k, slice_get_within xs k x e, get_or_from_slice_get xs k x x e)

no_fields : (fields : List (List ℕ)) (behind : List PathStep) → [] ≡ field_steps fields ++ behind → fields ≡ []
no_fields [] behind e = refl
no_fields (f ∷ fs) behind e = cc

-- the one level of a top
abbrev pub bare_level : List ℕ → List ℕ → Level
bare_level entity architecture = record { labels = []; entity = entity; architecture = architecture }

module _ (entity architecture : List ℕ) (ports : List Port) (own : HaveOwnNames ports) where
  abbrev rows : List Row
  rows = map (row_of entity) ports

  abbrev signal : Port → ScalarSignal
  signal = port_signal (bare_level entity architecture)

  abbrev signals : List ScalarSignal
  signals = map signal ports

  -- a row that joins the signals of two ports is the row of a port with the name of each
  pub record IsRowOfBoth (p q : Port) (row : Row) : Type 0 where
    port : Port
    number : ℕ
    stands : slice_get ports number ≡ Some port
    made : row_of entity port ≡ row
    left : port.name ≡ p.name
    right : port.name ≡ q.name

  row_port : (p q : Port) (row : Row) → JoinsBy rows row (signal p).path (signal q).path → IsRowOfBoth p q row
  row_port p q row j =
      let there = place_of_element rows row j.stands in
      let made = element_mapped (row_of entity) ports there.0 row there.1 in
      let none19 = no_fields j.fields19 j.behind j.rest19 in
      let none93 = no_fields j.fields93 j.behind j.rest93 in
      record {
        port = made.0;
        number = there.0;
        stands = made.1;
        made = made.2;
        left = ap (λ (r : Row). r.name19) made.2 ∙ j.name19 ∙ ap (object_name [] p.name) none19;
        right = ap (λ (r : Row). r.name93) made.2 ∙ j.name93 ∙ ap (object_name [] q.name) none93;
      }

  joins_itself : (k : ℕ) (p : Port) → slice_get ports k ≡ Some p → Joined rows signals signals k k
  joins_itself k p e =
      record {
        left = signal p;
        right = signal p;
        row = row_of entity p;
        left_is = element_there signal ports k p e;
        right_is = element_there signal ports k p e;
        joins = record {
          stands = element_stands rows k (row_of entity p) (element_there (row_of entity) ports k p e);
          object = tt;
          levels = (record { entity = refl; architecture = refl; labels = (tt, inl (refl, refl)) }, tt);
          level = bare_level entity architecture;
          last = refl;
          unit = refl;
          indexes = tt;
          fields19 = [];
          fields93 = [];
          behind = [];
          rest19 = refl;
          rest93 = refl;
          name19 = refl;
          name93 = refl;
        };
      }

  -- the ports of two joined signals, and of the row, stand at one place
  pub record IsOnePort (i j : ℕ) (x : Joined rows signals signals i j) : Type 0 where
    port : Port
    left_stands : slice_get ports i ≡ Some port
    same : i ≡ j
    left : signal port ≡ x.left
    right : signal port ≡ x.right
    row : row_of entity port ≡ x.row

  one_port : (i j : ℕ) (x : Joined rows signals signals i j) → IsOnePort i j x
  one_port i j x =
      let p = element_mapped signal ports i x.left x.left_is in
      let q = element_mapped signal ports j x.right x.right_is in
      let by = subst (λ s. JoinsBy rows x.row s.path x.right.path) (sym p.2) x.joins in
      let by' = subst (λ s. JoinsBy rows x.row (signal p.0).path s.path) (sym q.2) by in
      let r = row_port p.0 q.0 x.row by' in
      let left : r.number ≡ i = own r.number i r.port p.0 r.stands p.1 r.left in
      let right : r.number ≡ j = own r.number j r.port q.0 r.stands q.1 r.right in
      let port : r.port ≡ p.0 = same_some _ _ (sym r.stands ∙ ap (slice_get ports) left ∙ p.1) in
      let port' : r.port ≡ q.0 = same_some _ _ (sym r.stands ∙ ap (slice_get ports) right ∙ q.1) in
      record {
        port = p.0;
        left_stands = p.1;
        same = sym left ∙ right;
        left = p.2;
        right = ap signal (sym port ∙ port') ∙ q.2;
        row = ap (row_of entity) (sym port) ∙ r.made;
      }

  pub joined_same : (i j : ℕ) → Joined rows signals signals i j → i ≡ j
  joined_same i j x = (one_port i j x).same

  of_kind : (p : Port) (s : ScalarSignal) (row : Row) → signal p ≡ s → row_of entity p ≡ row → IsOfKind row.kind s.mode
  of_kind p s row left made =
      subst (λ (r : Row). IsOfKind r.kind s.mode) made (subst (λ (t : ScalarSignal). IsOfKind kinds.Port t.mode) left tt)

  true_row : (i j : ℕ) (x : Joined rows signals signals i j) → IsTrueRow rows x.row x.left x.right
  true_row i j x =
      let o = one_port i j x in
      record {
        kind = of_kind o.port x.left x.row o.left o.row;
        kind93 = of_kind o.port x.right x.row o.right o.row;
        mark = sym (ap (λ (r : Row). r.mark) o.row) ∙ ap (λ (s : ScalarSignal). s.mark) o.left;
        mark93 = inl (ap (λ (s : ScalarSignal). s.mark) (sym o.left ∙ o.right));
        mode = sym (ap (λ (r : Row). r.mode) o.row) ∙ ap (λ (s : ScalarSignal). mode_text s.mode) o.left;
        mode93 = sym (ap (λ (r : Row). r.mode) o.row) ∙ ap (λ (s : ScalarSignal). mode_text s.mode) o.right;
      }

  pub number_there : (i : ℕ) → i < length signals → Joined rows signals signals i i
  number_there i within =
      let few : i < length ports = subst (λ n. i < n) (length-map ports signal) within in
      elim (slice_get_cases ports i).1 [ inl x ↦ joins_itself i x.0 x.2 | inr y ↦ absurd (omega arith) ]

  pub whole : IsWhole rows signals signals
  whole =
      record {
        each19 = λ i within. record { number = i; is_related = number_there i within; only = λ k x. sym (one_port i k x).same };
        each93 = λ j within. record { number = j; is_related = number_there j within; only = λ k x. (one_port k j x).same };
        rows_are_true = true_row;
      }
