-- A node means the same with other numbers, where its parts do: a case for each kind.
use Rattle.std.proofs.Common.{◌≡◌, ℕ, Bool, true, false, List, [], ◌∷◌, ◌++◌, Option, Some, None, map, refl, sym, ◌∙◌, subst}
use Rattle.std.specs.Prelude.{if◌then◌else◌, option_to_list, Ok}
use Rattle.std.specs.List.{AllZip}
use Rattle.vd_values.specs.declared.scalar.Scalar.{Scalar}
use Rattle.vd_composites.specs.declared.ranges.Bounds.{Bounds}
use Rattle.vd_composites.specs.Stops.{◌>>=◌}
use Rattle.vd_composites.specs.Composites.{Value}
use Rattle.vd_composites.specs.Subtypes.{Subtype, constrained}
use Rattle.vd_resolved.specs.declared.node.Resolved.{Resolved}
use Rattle.vd_environments.specs.Got.{Got, got}
use Rattle.vd_environments.specs.Environments.{Signals, Static, Env, unknown, or_senseless}
use Rattle.vd_environments.specs.Commands.{Command, Skip, Choose, Leave, in_order}
use Rattle.vd_environments.specs.Processes.{settled_by}
use Rattle.vd_meaning.specs.Names.{Named, number_or, name_read, position_in, unless_stopped}
use Rattle.vd_meaning.specs.Facets.{Meaning, nth, last_of, from, flattened, known_of, settled_of, arguments, of_node, at_once, expression, commanding, Waveform}
use Rattle.vd_meaning.specs.Brackets.{or_else}
use Rattle.vd_meaning.specs.Statements.{driving, setting}
use Rattle.vd_meaning.specs.Meanings.{made, named_by, whole_name, piece_of, limits, limits_of_mark, ranging, target_read, target_of, process_of, assigning, jump_of, branches, listed_signals, body_of}
use Rattle.vd_meaning_laws.specs.Agreement.{Link, IsApart, through, Keeps, Alike, number_in, jump_in, AlikeCommands}
use Rattle.vd_meaning_laws.specs.Renumbering.{AlikeMeaning, AlikeSettling, AlikeBody, AlikeName, AlikeOption, AlikeValues, AlikeWaveform, AlikeObjects, AlikeParameter, AlikeFormal, renumbered}
use Rattle.vd_meaning_laws.proofs.Naming.{no_name_alike}
use Rattle.vd_meaning_laws.proofs.Agreeing.{skips_alike, sequences_alike, choices_alike, jumps_alike}
use Rattle.vd_meaning_laws.proofs.Stepping.{name_read_alike}
use Rattle.vd_meaning_laws.proofs.Parts.{nth_alike, from_alike, none_alike, known_alike, reads_alike, targets_alike}
use Rattle.vd_meaning_laws.proofs.Doing.{settled_by_alike, driving_alike, setting_alike}
use Rattle.vd_meaning_laws.proofs.Facing.{with_value, with_known, with_chosen, with_command, with_settling, with_name, with_range, with_reads, with_piece, with_processes, with_targets}

module _ (l : Link) (numbers : IsApart l) where
  abbrev Parts : List Meaning → List Meaning → Type 0
  Parts ms ns = AllZip (AlikeMeaning l) ms ns

  -- ---- nodes and expressions in general

  pub node_alike : (n : Resolved) (text : List ℕ) (ms ns : List Meaning) → Parts ms ns → AlikeMeaning l (of_node n text ms) (of_node (renumbered l n) text ns)
  node_alike n text ms ns h =
      record {
        text = refl;
        declaration = refl;
        mark = refl;
        position = refl;
        is_present = refl;
        value = λ known e k. refl;
        known = λ e k. refl;
        reads = reads_alike l numbers ms ns h;
        range = tt;
        name = no_name_alike l numbers;
        piece = λ p q a. no_name_alike l numbers;
        association = refl;
        choices = tt;
        is_open = refl;
        mode = refl;
        covers = λ c v e k. refl;
        chosen = λ act act' a. skips_alike l numbers;
        indicated = λ e k. refl;
        fields = λ e k. refl;
        texts = refl;
        numbers = refl;
        objects = tt;
        parameters = tt;
        formals = tt;
        elements = tt;
        actuals = λ e k. refl;
        copies = refl;
        command = λ label. skips_alike l numbers;
        otherwise = λ c d a. a;
        cases = λ c s s' a. skips_alike l numbers;
        declarations = tt;
        settling = λ e e' a. a;
        targets = targets_alike l numbers ms ns h;
        listening = λ r r' a. tt;
        processes = tt;
      }

  pub at_once_alike : (v v' : Got Subtype → Env → Got (Value Scalar)) → AlikeValues l v v' → AlikeWaveform l (at_once v) (at_once v')
  at_once_alike v v' x = record { value = x; delay = λ e k. refl }

  pub settled_of_alike : (ms ns : List Meaning) → Parts ms ns → AlikeSettling l (settled_of ms) (settled_of ns)
  settled_of_alike [] [] h e e' a = a
  settled_of_alike (m ∷ ms) (n ∷ ns) h e e' a = settled_of_alike ms ns h.1 (m.settling e) (n.settling e') (h.0.settling e e' a)
  settled_of_alike _ _ h e e' a = absurd h

  pub expression_alike : (n : Resolved) (text : List ℕ) (ms ns : List Meaning) → Parts ms ns → (v v' : Got Subtype → Env → Got (Value Scalar)) (k k' : Env → Static)
      → AlikeValues l v v' → Alike l k k' → AlikeMeaning l (expression n text ms v k) (expression (renumbered l n) text ns v' k')
  expression_alike n text ms ns h v v' k k' x y =
      with_chosen l (with_known l (with_value l (node_alike n text ms ns h) v v' x) k k' y) _ _ (λ act act' a. a (at_once v) (at_once v') (at_once_alike v v' x))

  pub commanding_alike : (n : Resolved) (ms ns : List Meaning) → Parts ms ns → (c d : Command) → AlikeCommands l c d → AlikeMeaning l (commanding n ms c) (commanding (renumbered l n) ns d)
  commanding_alike n ms ns h c d k =
      with_settling l (with_command l (node_alike n [] ms ns h) (λ _. c) (λ _. d) (λ label. k)) (settled_by c) (settled_by d) (settled_by_alike l numbers c d k)

  -- ---- lists that parts give

  joined_map : {A : Type 0} (f : A → A) (xs ys : List A) → map f (xs ++ ys) ≡ map f xs ++ map f ys
  joined_map f [] ys = refl
  joined_map f (x ∷ xs) ys = λ i. f x ∷ joined_map f xs ys i

  pub texts_same : (ms ns : List Meaning) → Parts ms ns → flattened (λ m. m.texts) ns ≡ flattened (λ m. m.texts) ms
  texts_same [] [] h = refl
  texts_same (m ∷ ms) (n ∷ ns) h = λ i. h.0.texts i ++ texts_same ms ns h.1 i
  texts_same _ _ h = absurd h

  pub numbers_same : (ms ns : List Meaning) → Parts ms ns → flattened (λ m. m.numbers) ns ≡ map l.number (flattened (λ m. m.numbers) ms)
  numbers_same [] [] h = refl
  numbers_same (m ∷ ms) (n ∷ ns) h = (λ i. h.0.numbers i ++ numbers_same ms ns h.1 i) ∙ sym (joined_map l.number m.numbers (flattened (λ m. m.numbers) ms))
  numbers_same _ _ h = absurd h

  pub joined_zip : {A B : Type 0} (R : A → B → Type 0) (xs : List A) (ys : List B) (us : List A) (vs : List B) → AllZip R xs ys → AllZip R us vs → AllZip R (xs ++ us) (ys ++ vs)
  joined_zip R [] [] us vs h k = k
  joined_zip R (x ∷ xs) (y ∷ ys) us vs h k = (h.0, joined_zip R xs ys us vs h.1 k)
  joined_zip R _ _ us vs h k = absurd h

  pub flattened_zip : {A : Type 0} (R : A → A → Type 0) (g : Meaning → List A) → ((m n : Meaning) → AlikeMeaning l m n → AllZip R (g m) (g n)) → (ms ns : List Meaning) → Parts ms ns
      → AllZip R (flattened g ms) (flattened g ns)
  flattened_zip R g same [] [] h = tt
  flattened_zip R g same (m ∷ ms) (n ∷ ns) h = joined_zip R (g m) (g n) (flattened g ms) (flattened g ns) (same m n h.0) (flattened_zip R g same ms ns h.1)
  flattened_zip R g same _ _ h = absurd h

  pub objects_alike : (ms ns : List Meaning) → Parts ms ns → AllZip (AlikeObjects l) (flattened (λ m. m.objects) ms) (flattened (λ m. m.objects) ns)
  objects_alike ms ns h = flattened_zip (AlikeObjects l) (λ m. m.objects) (λ m n a. a.objects) ms ns h

  pub parameters_alike : (ms ns : List Meaning) → Parts ms ns → AllZip (AlikeParameter l) (flattened (λ m. m.parameters) ms) (flattened (λ m. m.parameters) ns)
  parameters_alike ms ns h = flattened_zip (AlikeParameter l) (λ m. m.parameters) (λ m n a. a.parameters) ms ns h

  pub formals_alike : (ms ns : List Meaning) → Parts ms ns → AllZip (AlikeFormal l) (flattened (λ m. m.formals) ms) (flattened (λ m. m.formals) ns)
  formals_alike ms ns h = flattened_zip (AlikeFormal l) (λ m. m.formals) (λ m n a. a.formals) ms ns h

  pub commands_alike : (ms ns : List Meaning) → Parts ms ns → AllZip (AlikeCommands l) (map (λ m. m.command None) ms) (map (λ m. m.command None) ns)
  commands_alike [] [] h = tt
  commands_alike (m ∷ ms) (n ∷ ns) h = (h.0.command None, commands_alike ms ns h.1)
  commands_alike _ _ h = absurd h

  pub in_order_alike : (cs ds : List Command) → AllZip (AlikeCommands l) cs ds → AlikeCommands l (in_order cs) (in_order ds)
  in_order_alike [] [] h = skips_alike l numbers
  in_order_alike (c ∷ []) (d ∷ []) h = h.0
  in_order_alike (c ∷ c' ∷ cs) (d ∷ d' ∷ ds) h = sequences_alike l numbers _ _ _ _ h.0 (in_order_alike (c' ∷ cs) (d' ∷ ds) h.1)
  in_order_alike (c ∷ []) (d ∷ d' ∷ ds) h = absurd h.1
  in_order_alike (c ∷ c' ∷ cs) (d ∷ []) h = absurd h.1
  in_order_alike _ _ h = absurd h

  pub arguments_alike : (ms ns : List Meaning) → Parts ms ns → Alike l (arguments ms) (arguments ns)
  arguments_alike [] [] h e k = refl
  arguments_alike (m ∷ ms) (n ∷ ns) h e k = λ i. (λ known. h.0.value known e k i) ∷ arguments_alike ms ns h.1 e k i
  arguments_alike _ _ h e k = absurd h

  pub listed_alike : (ms ns : List Meaning) → Parts ms ns → Alike l (listed_signals ms) (listed_signals ns)
  listed_alike [] [] h e k = refl
  listed_alike (m ∷ ms) (n ∷ ns) h e k = λ i. h.0.name.signals e k i >>= λ x. listed_alike ms ns h.1 e k i >>= λ xs. Ok (x ∷ xs)
  listed_alike _ _ h e k = absurd h

  pub branches_alike : (ms ns : List Meaning) → Parts ms ns → (c d : Command) → AlikeCommands l c d → AlikeCommands l (branches ms c) (branches ns d)
  branches_alike [] [] h c d k = k
  branches_alike (m ∷ ms) (n ∷ ns) h c d k = h.0.otherwise _ _ (branches_alike ms ns h.1 c d k)
  branches_alike _ _ h c d k = absurd h

  -- ---- declarations that are made

  pub either_same : (x y : Option ℕ) → or_else (number_in l x) (number_in l y) ≡ number_in l (or_else x y)
  either_same None y = refl
  either_same (Some d) y = refl

  pub made_same : (n : Resolved) (m m' : Meaning) → AlikeMeaning l m m' → made (renumbered l n) m' ≡ number_in l (made n m)
  made_same n m m' h = (λ i. or_else (number_in l n.declaration) (h.declaration i)) ∙ either_same n.declaration m.declaration

  pub or_first : (d : Option ℕ) → number_or (number_in l d) ≡ l.number (number_or d)
  or_first None = sym numbers.first
  or_first (Some d) = refl

  pub made_number : (n : Resolved) (m m' : Meaning) → AlikeMeaning l m m' → number_or (made (renumbered l n) m') ≡ l.number (number_or (made n m))
  made_number n m m' h = (λ i. number_or (made_same n m m' h i)) ∙ or_first (made n m)

  pub list_same : (d : Option ℕ) → option_to_list (number_in l d) ≡ map l.number (option_to_list d)
  list_same None = refl
  list_same (Some d) = refl

  -- ---- names

  pub named_by_alike : (p q : Named) → AlikeName l p q → (ms ns : List Meaning) → Parts ms ns → AlikeName l (named_by p ms) (named_by q ns)
  named_by_alike p q a [] [] h = a
  named_by_alike p q a (m ∷ ms) (n ∷ ns) h = named_by_alike (m.piece p) (n.piece q) (h.0.piece p q a) ms ns h.1
  named_by_alike p q a _ _ h = absurd h

  pub whole_alike : (n : Resolved) (text : List ℕ) (p q : Named) → AlikeName l p q → AlikeMeaning l (whole_name n text p) (whole_name (renumbered l n) text q)
  whole_alike n text p q a =
      with_name l (with_range l (with_reads l (expression_alike n text [] [] tt (λ _. p.value) (λ _. q.value) p.known q.known (λ known. a.value) a.known)
      (name_read p) (name_read q) (name_read_alike l numbers p q a)) p.range q.range a.range) p q a

  pub name_alike : (n : Resolved) (text : List ℕ) (ms ns : List Meaning) → Parts ms ns
      → AlikeMeaning l (whole_name n text (named_by (nth 0 ms).name (from 1 ms))) (whole_name (renumbered l n) text (named_by (nth 0 ns).name (from 1 ns)))
  name_alike n text ms ns h =
      whole_alike n text _ _ (named_by_alike (nth 0 ms).name (nth 0 ns).name (nth_alike l numbers 0 ms ns h).name (from 1 ms) (from 1 ns) (from_alike l numbers 1 ms ns h))

  pub piece_alike : (n : Resolved) (text : List ℕ) (ms ns : List Meaning) → Parts ms ns → (f g : Named → Named) → ((p q : Named) → AlikeName l p q → AlikeName l (f p) (g q))
      → AlikeMeaning l (piece_of n text ms f) (piece_of (renumbered l n) text ns g)
  piece_alike n text ms ns h f g same = with_piece l (node_alike n text ms ns h) f g same

  -- ---- ranges

  pub limits_alike : (down : Bool) (m n m' n' : Meaning) → AlikeMeaning l m n → AlikeMeaning l m' n' → Alike l (limits down m m') (limits down n n')
  limits_alike down m n m' n' h j e k =
      λ i. h.value unknown e k i >>= position_in >>= λ x. j.value unknown e k i >>= position_in >>= λ y. Ok (record { left = x; right = y; down = down })

  abbrev in_mark : Got Subtype → Option (Env → Got Bounds) → Env → Got Bounds
  in_mark g r e = g >>= λ s. or_senseless r >>= λ range. range e >>= λ b. got (constrained s b) >>= λ narrower. Ok b

  in_mark_by : (g : Got Subtype) (r r' : Option (Env → Got Bounds)) → AlikeOption l r r' → (e : Env) → Keeps l e → in_mark g r' e ≡ in_mark g r (through l e)
  in_mark_by g None None x e k = refl
  in_mark_by g (Some r) (Some r') x e k = λ i. g >>= λ s. x e k i >>= λ b. got (constrained s b) >>= λ narrower. Ok b
  in_mark_by g _ _ x e k = absurd x

  pub in_mark_alike : (m n m' n' : Meaning) → AlikeMeaning l m n → AlikeMeaning l m' n' → Alike l (limits_of_mark m m') (limits_of_mark n n')
  in_mark_alike m n m' n' h j e k =
      (λ i. in_mark (h.name.subtype e k i) n'.range e) ∙ in_mark_by (m.name.subtype (through l e)) m'.range n'.range j.range e k

  pub ranging_alike : (n : Resolved) (text : List ℕ) (ms ns : List Meaning) → Parts ms ns → (f g : Env → Got Bounds) → Alike l f g
      → AlikeMeaning l (ranging n text ms f) (ranging (renumbered l n) text ns g)
  ranging_alike n text ms ns h f g same =
      with_known l (with_range l (node_alike n text ms ns h) (Some f) (Some g) same)
      (λ e. unless_stopped (f e) (known_of ms e)) (λ e. unless_stopped (g e) (known_of ns e)) (λ e k i. unless_stopped (same e k i) (known_alike l numbers ms ns h e k i))

  -- ---- assignments

  pub target_read_alike : (m n : Meaning) → AlikeMeaning l m n → Alike l (target_read m) (target_read n)
  target_read_alike m n h = h.name.inner

  target_by : (x y : Option (Env → Got Signals)) → AlikeOption l x y → (e : Env) → Keeps l e
      → (or_senseless y >>= λ prefix. prefix e >>= λ s. Ok (s ∷ [])) ≡ (or_senseless x >>= λ prefix. prefix (through l e) >>= λ s. Ok (s ∷ []))
  target_by None None h e k = refl
  target_by (Some x) (Some y) h e k = λ i. h e k i >>= λ s. Ok (s ∷ [])
  target_by _ _ h e k = absurd h

  pub target_alike : (m n : Meaning) → AlikeMeaning l m n → Alike l (target_of m) (target_of n)
  target_alike m n h = target_by m.name.prefix n.name.prefix h.name.prefix

  pub assigning_alike : (n : Resolved) (c d : Command) (f g f' g' : Env → Got (List Signals)) → AlikeCommands l c d → Alike l f g → Alike l f' g'
      → AlikeMeaning l (assigning n c f f') (assigning (renumbered l n) d g g')
  assigning_alike n c d f g f' g' k same same' =
      with_processes l (with_targets l (with_reads l (with_command l (node_alike n [] [] [] tt) (λ _. c) (λ _. d) (λ label. k)) f g same) f' g' same')
      (process_of c (Some f) f' ∷ []) (process_of d (Some g) g' ∷ [])
      (record { declarations = tt; settling = λ e e' a. a; statements = k; sensitivity = same; targets = same' }, tt)

  pub drives_alike : (m n m' n' : Meaning) → AlikeMeaning l m n → AlikeMeaning l m' n' → (w x : Waveform) → AlikeWaveform l w x → AlikeCommands l (driving m.name m'.mode w) (driving n.name n'.mode x)
  drives_alike m n m' n' h k w x a =
      subst (λ mode. AlikeCommands l (driving m.name m'.mode w) (driving n.name mode x)) (sym k.mode) (driving_alike l numbers m.name n.name h.name m'.mode w x a)

  pub sets_alike : (m n : Meaning) → AlikeMeaning l m n → (w x : Waveform) → AlikeWaveform l w x → AlikeCommands l (setting m.name w) (setting n.name x)
  sets_alike m n h w x a = setting_alike l numbers m.name n.name h.name w x a

  pub present_alike : (x y : Bool) (t u : Env → Got Bool) (c d : Command) → y ≡ x → Alike l t u → AlikeCommands l c d → AlikeCommands l (if x then Choose t c Skip else c) (if y then Choose u d Skip else d)
  present_alike true y t u c d e k h =
      subst (λ y. AlikeCommands l (Choose t c Skip) (if y then Choose u d Skip else d)) (sym e) (choices_alike l numbers t u c Skip d Skip k h (skips_alike l numbers))
  present_alike false y t u c d e k h = subst (λ y. AlikeCommands l c (if y then Choose u d Skip else d)) (sym e) h

  pub jump_same : (out : Bool) (d : Option ℕ) → jump_of out (number_in l d) ≡ jump_in l (jump_of out d)
  jump_same true d = refl
  jump_same false d = refl

  pub leaving_alike : (out : Bool) (m n : Meaning) → AlikeMeaning l m n → AlikeCommands l (Leave (λ _. Ok (jump_of out m.declaration))) (Leave (λ _. Ok (jump_of out n.declaration)))
  leaving_alike out m n h =
      jumps_alike l numbers _ _ (λ e e' a. (λ i. Ok (jump_of out (h.declaration i))) ∙ (λ i. Ok (jump_same out m.declaration i)))

  -- ---- functions

  pub body_alike : (n : Resolved) (ms ns : List Meaning) → Parts ms ns → AlikeBody l (body_of n ms) (body_of (renumbered l n) ns)
  body_alike n ms ns h =
      record {
        function = made_number n (nth 1 ms) (nth 1 ns) (nth_alike l numbers 1 ms ns h);
        generics = (nth_alike l numbers 2 ms ns h).formals;
        parameters = (nth_alike l numbers 4 ms ns h).parameters;
        result = λ e k i. (e.denotes (((λ j. number_or ((nth_alike l numbers 5 ms ns h).declaration j)) ∙ or_first (nth 5 ms).declaration) i)).subtype;
        statements = in_order_alike ((nth 6 ms).declarations ++ (nth 7 ms).command None ∷ []) ((nth 6 ns).declarations ++ (nth 7 ns).command None ∷ [])
            (joined_zip (AlikeCommands l) (nth 6 ms).declarations (nth 6 ns).declarations _ _ (nth_alike l numbers 6 ms ns h).declarations ((nth_alike l numbers 7 ms ns h).command None, tt));
      }

  -- ---- selected names in declarations

  pub last_alike : (ms ns : List Meaning) → Parts ms ns → AlikeMeaning l (last_of ms) (last_of ns)
  last_alike [] [] h = none_alike l numbers
  last_alike (m ∷ []) (n ∷ []) h = h.0
  last_alike (m ∷ m' ∷ ms) (n ∷ n' ∷ ns) h = last_alike (m' ∷ ms) (n' ∷ ns) h.1
  last_alike (m ∷ []) (n ∷ n' ∷ ns) h = absurd h.1
  last_alike (m ∷ m' ∷ ms) (n ∷ []) h = absurd h.1
  last_alike _ _ h = absurd h

  pub mark_named_same : (n : Resolved) (ms ns : List Meaning) → Parts ms ns → or_else (number_in l n.declaration) (last_of ns).declaration ≡ number_in l (or_else n.declaration (last_of ms).declaration)
  mark_named_same n ms ns h = (λ i. or_else (number_in l n.declaration) ((last_alike ms ns h).declaration i)) ∙ either_same n.declaration (last_of ms).declaration
