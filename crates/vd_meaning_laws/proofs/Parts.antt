-- What the parts of a node have with other numbers.
use Rattle.std.proofs.Common.{◌≡◌, ℕ, zero, suc, Bool, true, false, List, [], ◌∷◌, Option, Some, None, map, refl, sym, ap, ◌∙◌, subst}
use Rattle.std.specs.Prelude.{◌||◌, if◌then◌else◌, Ok}
use Rattle.std.specs.List.{AllZip, list_any}
use Rattle.vd_kernel.specs.Correspondence.{BothOrNone}
use Rattle.vd_values.specs.declared.scalar.Scalar.{Scalar}
use Rattle.vd_composites.specs.declared.ranges.Bounds.{Bounds}
use Rattle.vd_composites.specs.Stops.{◌>>=◌}
use Rattle.vd_composites.specs.Composites.{Value}
use Rattle.vd_environments.specs.Got.{Got}
use Rattle.vd_environments.specs.Environments.{Static, both, Env, unknown}
use Rattle.vd_meaning.specs.Tables.{same_type}
use Rattle.vd_meaning.specs.Names.{and_read, position_in}
use Rattle.vd_meaning.specs.Facets.{Meaning, no_meaning, nth, from, value_of, known_of, reads_of, targets_of, Choice}
use Rattle.vd_meaning.specs.Brackets.{choice_bounds, choice_of, choice_known, choices_known, ranges_of, names_it, named_argument, nth_positional, is_positional, or_else, argument_in, arguments_for}
use Rattle.vd_meaning_laws.specs.Agreement.{Link, IsApart, Alike, number_in}
use Rattle.vd_meaning_laws.specs.Renumbering.{AlikeOption, AlikeChoice, AlikeMeaning}
use Rattle.vd_meaning_laws.proofs.Agreeing.{skips_alike}
use Rattle.vd_meaning_laws.proofs.Naming.{no_name_alike}

module _ (l : Link) (numbers : IsApart l) where
  pub none_alike : AlikeMeaning l no_meaning no_meaning
  none_alike =
      record {
        text = refl;
        declaration = refl;
        mark = refl;
        position = refl;
        is_present = refl;
        value = λ known e k. refl;
        known = λ e k. refl;
        reads = λ e k. refl;
        range = tt;
        name = no_name_alike l numbers;
        piece = λ p q h. no_name_alike l numbers;
        association = refl;
        choices = tt;
        is_open = refl;
        mode = refl;
        covers = λ c v e k. refl;
        chosen = λ act act' h. skips_alike l numbers;
        indicated = λ e k. refl;
        fields = λ e k. refl;
        texts = refl;
        numbers = refl;
        objects = tt;
        parameters = tt;
        formals = tt;
        elements = tt;
        actuals = λ e k. refl;
        copies = refl;
        command = λ label. skips_alike l numbers;
        otherwise = λ c d h. h;
        cases = λ c s s' h. skips_alike l numbers;
        declarations = tt;
        settling = λ e e' a. a;
        targets = λ e k. refl;
        listening = λ r r' h. tt;
        processes = tt;
      }

  pub nth_alike : (k : ℕ) (ms ns : List Meaning) → AllZip (AlikeMeaning l) ms ns → AlikeMeaning l (nth k ms) (nth k ns)
  nth_alike k [] [] h = none_alike
  nth_alike zero (m ∷ ms) (n ∷ ns) h = h.0
  nth_alike (suc k) (m ∷ ms) (n ∷ ns) h = nth_alike k ms ns h.1
  nth_alike k _ _ h = absurd h

  pub from_alike : (k : ℕ) (ms ns : List Meaning) → AllZip (AlikeMeaning l) ms ns → AllZip (AlikeMeaning l) (from k ms) (from k ns)
  from_alike zero ms ns h = h
  from_alike (suc k) [] [] h = tt
  from_alike (suc k) (m ∷ ms) (n ∷ ns) h = from_alike k ms ns h.1
  from_alike (suc k) _ _ h = absurd h

  pub value_alike : (m n : Meaning) → AlikeMeaning l m n → Alike l (value_of m) (value_of n)
  value_alike m n h = h.value unknown

  pub known_alike : (ms ns : List Meaning) → AllZip (AlikeMeaning l) ms ns → Alike l (known_of ms) (known_of ns)
  known_alike [] [] h e k = refl
  known_alike (m ∷ ms) (n ∷ ns) h e k = λ i. both (h.0.known e k i) (known_alike ms ns h.1 e k i)
  known_alike _ _ h e k = absurd h

  pub reads_alike : (ms ns : List Meaning) → AllZip (AlikeMeaning l) ms ns → Alike l (reads_of ms) (reads_of ns)
  reads_alike [] [] h e k = refl
  reads_alike (m ∷ ms) (n ∷ ns) h e k = λ i. and_read (h.0.reads e k i) (reads_alike ms ns h.1 e k i)
  reads_alike _ _ h e k = absurd h

  pub targets_alike : (ms ns : List Meaning) → AllZip (AlikeMeaning l) ms ns → Alike l (targets_of ms) (targets_of ns)
  targets_alike [] [] h e k = refl
  targets_alike (m ∷ ms) (n ∷ ns) h e k = λ i. and_read (h.0.targets e k i) (targets_alike ms ns h.1 e k i)
  targets_alike _ _ h e k = absurd h

  -- ---- choices

  choice_bounds_alike : (r r' : Option (Env → Got Bounds)) → AlikeOption l r r' → (v v' : Env → Got (Value Scalar)) → Alike l v v' → Alike l (choice_bounds r v) (choice_bounds r' v')
  choice_bounds_alike None None h v v' a e k = λ i. a e k i >>= position_in >>= λ x. Ok (record { left = x; right = x; down = false })
  choice_bounds_alike (Some r) (Some r') h v v' a e k = h e k
  choice_bounds_alike _ _ h v v' a e k = absurd h

  pub choice_alike : (m n : Meaning) → AlikeMeaning l m n → AlikeChoice l (choice_of m) (choice_of n)
  choice_alike m n h =
      record { named = h.declaration; position = h.position; bounds = choice_bounds_alike m.range n.range h.range (value_of m) (value_of n) (h.value unknown) }

  pub choices_alike : (ms ns : List Meaning) → AllZip (AlikeMeaning l) ms ns → AllZip (AlikeChoice l) (map choice_of ms) (map choice_of ns)
  choices_alike [] [] h = tt
  choices_alike (m ∷ ms) (n ∷ ns) h = (choice_alike m n h.0, choices_alike ms ns h.1)
  choices_alike _ _ h = absurd h

  choice_known_alike : (d : Option ℕ) (f g : Env → Static) → Alike l f g → Alike l (choice_known d f) (choice_known (number_in l d) g)
  choice_known_alike None f g h e k = refl
  choice_known_alike (Some d) f g h e k = h e k

  marked_choice : (m n : Meaning) → AlikeMeaning l m n → Alike l (choice_known m.mark m.known) (choice_known n.mark n.known)
  marked_choice m n h e k = (λ i. choice_known (h.mark i) n.known e) ∙ choice_known_alike m.mark m.known n.known h.known e k

  pub choices_known_alike : (ms ns : List Meaning) → AllZip (AlikeMeaning l) ms ns → Alike l (choices_known ms) (choices_known ns)
  choices_known_alike [] [] h e k = refl
  choices_known_alike (m ∷ ms) (n ∷ ns) h e k = λ i. both (marked_choice m n h.0 e k i) (choices_known_alike ms ns h.1 e k i)
  choices_known_alike _ _ h e k = absurd h

  pub ranges_alike : (cs ds : List Choice) → AllZip (AlikeChoice l) cs ds → Alike l (ranges_of cs) (ranges_of ds)
  ranges_alike [] [] h e k = refl
  ranges_alike (c ∷ cs) (d ∷ ds) h e k = λ i. h.0.bounds e k i >>= λ x. ranges_alike cs ds h.1 e k i >>= λ xs. Ok (x ∷ xs)
  ranges_alike _ _ h e k = absurd h

  -- ---- arguments

  pub type_named : (x : Option ℕ) (p : ℕ) → same_type (number_in l x) (Some (l.number p)) ≡ same_type x (Some p)
  type_named None p = refl
  type_named (Some d) p = numbers.same d p

  named_same : (p : ℕ) (cs ds : List Choice) → AllZip (AlikeChoice l) cs ds → list_any (names_it (l.number p)) ds ≡ list_any (names_it p) cs
  named_same p [] [] h = refl
  named_same p (c ∷ cs) (d ∷ ds) h = λ i. ((λ j. same_type (h.0.named j) (Some (l.number p))) ∙ type_named c.named p) i || named_same p cs ds h.1 i
  named_same p _ _ h = absurd h

  abbrev MeaningOption : Option Meaning → Option Meaning → Type 0
  MeaningOption x y = BothOrNone (AlikeMeaning l) x y

  either : (b c : Bool) (x y x' y' : Option Meaning) → c ≡ b → MeaningOption x x' → MeaningOption y y' → MeaningOption (if b then x else y) (if c then x' else y')
  either true c x y x' y' e h k = subst (λ c. MeaningOption x (if c then x' else y')) (sym e) h
  either false c x y x' y' e h k = subst (λ c. MeaningOption y (if c then x' else y')) (sym e) k

  argument_named : (p : ℕ) (ms ns : List Meaning) → AllZip (AlikeMeaning l) ms ns → MeaningOption (named_argument p ms) (named_argument (l.number p) ns)
  argument_named p [] [] h = tt
  argument_named p (m ∷ ms) (n ∷ ns) h =
      either (list_any (names_it p) m.choices) (list_any (names_it (l.number p)) n.choices) (Some m) (named_argument p ms) (Some n) (named_argument (l.number p) ns)
      (named_same p m.choices n.choices h.0.choices) h.0 (argument_named p ms ns h.1)
  argument_named p _ _ h = absurd h

  argument_placed : (k : ℕ) (ms ns : List Meaning) → AllZip (AlikeMeaning l) ms ns → MeaningOption (nth_positional k ms) (nth_positional k ns)
  argument_placed k [] [] h = tt
  argument_placed zero (m ∷ ms) (n ∷ ns) h =
      either (is_positional m.association) (is_positional n.association) (Some m) None (Some n) None (ap is_positional h.0.association) h.0 tt
  argument_placed (suc k) (m ∷ ms) (n ∷ ns) h =
      either (is_positional m.association) (is_positional n.association) (nth_positional k ms) None (nth_positional k ns) None (ap is_positional h.0.association) (argument_placed k ms ns h.1) tt
  argument_placed k _ _ h = absurd h

  either_one : (x y x' y' : Option Meaning) → MeaningOption x x' → MeaningOption y y' → MeaningOption (or_else x y) (or_else x' y')
  either_one None y None y' h k = k
  either_one (Some m) y (Some n) y' h k = h
  either_one _ y _ y' h k = absurd h

  argument_alike : (x y : Option Meaning) → MeaningOption x y → Alike l (argument_in x) (argument_in y)
  argument_alike None None h e k = refl
  argument_alike (Some m) (Some n) h e k = λ i known. h.value known e k i
  argument_alike _ _ h e k = absurd h

  pub arguments_alike : (k : ℕ) (ps : List ℕ) (ms ns : List Meaning) → AllZip (AlikeMeaning l) ms ns → Alike l (arguments_for k ps ms) (arguments_for k (map l.number ps) ns)
  arguments_alike k [] ms ns h e j = refl
  arguments_alike k (p ∷ ps) ms ns h e j =
      λ i. argument_alike _ _ (either_one (named_argument p ms) (nth_positional k ms) (named_argument (l.number p) ns) (nth_positional k ns) (argument_named p ms ns h) (argument_placed k ms ns h)) e j i
      ∷ arguments_alike (suc k) ps ms ns h e j i
