-- Names with other numbers.
use Rattle.std.proofs.Common.{◌≡◌, ℕ, List, [], Option, Some, None, refl, sym, ◌∙◌, subst}
use Rattle.std.specs.Prelude.{if◌then◌else◌, Ok}
use Rattle.vd_values.specs.declared.scalar.Scalar.{Scalar}
use Rattle.vd_composites.specs.Stops.{◌>>=◌}
use Rattle.vd_composites.specs.Composites.{Value}
use Rattle.vd_resolved.specs.declared.node.Resolved.{Resolved}
use Rattle.vd_environments.specs.Got.{Got}
use Rattle.vd_environments.specs.Environments.{Signals, Static, always, only_global, both, Argument, Env}
use Rattle.vd_meaning.specs.Tables.{Table, Role, ConstantRole, VariableRole, SignalRole, LiteralRole, FunctionRole, MarkRole, ElementRole, NoRole}
use Rattle.vd_meaning.specs.Operators.{Operation, Apply, Lazily, Join, TruthText, Edge, NoOperation, arguments_of, joining, marked, operate, function_of}
use Rattle.vd_meaning.specs.Names.{no_name, shape_of_value, unless_stopped, fresh, call, calls_known, call_known, called_here, constant, variable, signal, literal, literal_known, mark_of, standing, number_or, first_piece}
use Rattle.vd_meaning_laws.specs.Agreement.{Link, IsApart, through, Alike, number_in}
use Rattle.vd_meaning_laws.specs.Renumbering.{SameTable, renumbered, AlikeName}

module _ (l : Link) (numbers : IsApart l) where
  -- ---- names of what stands alone

  pub no_name_alike : AlikeName l no_name no_name
  no_name_alike =
      record {
        value = λ e k. refl;
        place = λ e k. refl;
        signals = λ e k. refl;
        range = tt;
        shape = λ e k. refl;
        subtype = λ e k. refl;
        make = λ e k. refl;
        is_object = refl;
        local_slices = λ e k. refl;
        is_mark = refl;
        mark = refl;
        callee = refl;
        known = λ e k. refl;
        prefix = tt;
        is_whole = λ e k. refl;
        inner = λ e k. refl;
      }

  -- a value of its own
  pub fresh_alike : (v v' : Env → Got (Value Scalar)) (m : Option ℕ) (known known' : Env → Static) (inner inner' : Env → Got (List Signals))
      → Alike l v v' → Alike l known known' → Alike l inner inner' → AlikeName l (fresh v m known inner) (fresh v' (number_in l m) known' inner')
  fresh_alike v v' m known known' inner inner' x y z =
      record {
        value = x;
        place = λ e k. refl;
        signals = λ e k. refl;
        range = tt;
        shape = λ e k i. x e k i >>= shape_of_value;
        subtype = λ e k. refl;
        make = λ e k. refl;
        is_object = refl;
        local_slices = λ e k. refl;
        is_mark = refl;
        mark = refl;
        callee = refl;
        known = λ e k i. unless_stopped (x e k i) (y e k i);
        prefix = tt;
        is_whole = λ e k. refl;
        inner = z;
      }

  constant_alike : (d : ℕ) (m : Option ℕ) → AlikeName l (constant d m) (constant (l.number d) (number_in l m))
  constant_alike d m =
      record {
        value = λ e k. refl;
        place = λ e k. refl;
        signals = λ e k. refl;
        range = tt;
        shape = λ e k. refl;
        subtype = λ e k. refl;
        make = λ e k. refl;
        is_object = refl;
        local_slices = λ e k. refl;
        is_mark = refl;
        mark = refl;
        callee = refl;
        known = λ e k. refl;
        prefix = tt;
        is_whole = λ e k. refl;
        inner = λ e k. refl;
      }

  variable_alike : (d : ℕ) (m : Option ℕ) → AlikeName l (variable d m) (variable (l.number d) (number_in l m))
  variable_alike d m =
      record {
        value = λ e k. refl;
        place = λ e k. refl;
        signals = λ e k. refl;
        range = tt;
        shape = λ e k. refl;
        subtype = λ e k. refl;
        make = λ e k. refl;
        is_object = refl;
        local_slices = λ e k. refl;
        is_mark = refl;
        mark = refl;
        callee = refl;
        known = λ e k. refl;
        prefix = tt;
        is_whole = λ e k. refl;
        inner = λ e k. refl;
      }

  signal_alike : (d : ℕ) (m : Option ℕ) → AlikeName l (signal d m) (signal (l.number d) (number_in l m))
  signal_alike d m =
      record {
        value = λ e k. refl;
        place = λ e k. refl;
        signals = λ e k. refl;
        range = tt;
        shape = λ e k. refl;
        subtype = λ e k. refl;
        make = λ e k. refl;
        is_object = refl;
        local_slices = λ e k. refl;
        is_mark = refl;
        mark = refl;
        callee = refl;
        known = λ e k. refl;
        prefix = λ e k. refl;
        is_whole = λ e k. refl;
        inner = λ e k. refl;
      }

  mark_alike : (d : ℕ) (m : Option ℕ) → AlikeName l (mark_of d m) (mark_of (l.number d) (number_in l m))
  mark_alike d m =
      record {
        value = λ e k. refl;
        place = λ e k. refl;
        signals = λ e k. refl;
        range = λ e k. refl;
        shape = λ e k. refl;
        subtype = λ e k. refl;
        make = λ e k. refl;
        is_object = refl;
        local_slices = λ e k. refl;
        is_mark = refl;
        mark = refl;
        callee = refl;
        known = λ e k. refl;
        prefix = tt;
        is_whole = λ e k. refl;
        inner = λ e k. refl;
      }

  pub literal_known_same : (m : Option ℕ) (e : Env) → literal_known (number_in l m) e ≡ literal_known m (through l e)
  literal_known_same None e = refl
  literal_known_same (Some d) e = refl

  literal_alike : (position : ℕ) (m : Option ℕ) → AlikeName l (literal position m) (literal position (number_in l m))
  literal_alike position m =
      record {
        value = λ e k. refl;
        place = λ e k. refl;
        signals = λ e k. refl;
        range = tt;
        shape = λ e k. refl;
        subtype = λ e k. refl;
        make = λ e k. refl;
        is_object = refl;
        local_slices = λ e k. refl;
        is_mark = refl;
        mark = refl;
        callee = refl;
        known = λ e k. literal_known_same m e;
        prefix = tt;
        is_whole = λ e k. refl;
        inner = λ e k. refl;
      }

  module _ (t t' : Table) (tables : SameTable l t t') where
    -- ---- functions

    pub marked_same : (m : Option ℕ) (e : Env) → marked (number_in l m) e ≡ marked m (through l e)
    marked_same None e = refl
    marked_same (Some d) e = refl

    operate_same : (o : Operation) (m : Option ℕ) (e : Env) → operate o (number_in l m) e ≡ operate o m (through l e)
    operate_same (Apply op) m e = refl
    operate_same (Lazily o) m e = refl
    operate_same (Join x y) m e = λ i as'. arguments_of as' >>= λ vs. marked_same m e i >>= λ s. joining x y s vs
    operate_same TruthText m e = refl
    operate_same (Edge rising) m e = refl
    operate_same NoOperation m e = refl

    pub function_same : (d : ℕ) (e : Env) → function_of t' (l.number d) e ≡ function_of t d (through l e)
    function_same d e =
        (λ i. if tables.predefined d i then operate (tables.operation d i) (tables.result d i) e else (e.denotes (l.number d)).function)
        ∙ (λ i. if Rattle.vd_meaning.specs.Tables.is_predefined t d then operate_same (Rattle.vd_meaning.specs.Operators.operation t d) (t.declared d).mark e i else (e.denotes (l.number d)).function)

    pub calls_known_same : (d : ℕ) (e : Env) → calls_known t' (l.number d) e ≡ calls_known t d (through l e)
    calls_known_same d e = λ i. if tables.is_local d i then always else (if tables.predefined d i then only_global always else (e.denotes (l.number d)).known)

    pub call_alike : (d : ℕ) (as' bs : Env → List Argument) (m : Option ℕ) (known known' : Env → Static) (inner inner' : Env → Got (List Signals))
        → Alike l as' bs → Alike l known known' → Alike l inner inner' → AlikeName l (call t d as' m known inner) (call t' (l.number d) bs (number_in l m) known' inner')
    call_alike d as' bs m known known' inner inner' x y z =
        fresh_alike (λ e. function_of t d e (as' e)) (λ e. function_of t' (l.number d) e (bs e)) m (λ e. call_known t d (known e) e) (λ e. call_known t' (l.number d) (known' e) e) inner inner'
        (λ e k i. function_same d e i (x e k i)) (λ e k i. both (calls_known_same d e i) (y e k i)) z

    called_here_alike : (d : ℕ) (m : Option ℕ) → AlikeName l (called_here t d m) (called_here t' (l.number d) (number_in l m))
    called_here_alike d None = no_name_alike
    called_here_alike d (Some m) =
        subst (λ c. AlikeName l (called_here t d (Some m)) (call t' c (λ _. []) (Some (l.number m)) (λ _. always) (λ _. Ok []))) (sym (tables.followed d))
        (call_alike (Rattle.vd_meaning.specs.Tables.followed t d) (λ _. []) (λ _. []) (Some m) (λ _. always) (λ _. always) (λ _. Ok []) (λ _. Ok []) (λ e k. refl) (λ e k. refl) (λ e k. refl))

    -- ---- first pieces

    standing_alike : (r : Role) (d : ℕ) (n : Resolved) → AlikeName l (standing t r d n) (standing t' r (l.number d) (renumbered l n))
    standing_alike ConstantRole d n = constant_alike d n.mark
    standing_alike VariableRole d n = variable_alike d n.mark
    standing_alike SignalRole d n = signal_alike d n.mark
    standing_alike LiteralRole d n = literal_alike n.position n.mark
    standing_alike FunctionRole d n = called_here_alike d n.mark
    standing_alike MarkRole d n = mark_alike d n.mark
    standing_alike ElementRole d n = no_name_alike
    standing_alike NoRole d n = no_name_alike

    pub number_or_same : (d : Option ℕ) → number_or (number_in l d) ≡ l.number (number_or d)
    number_or_same None = sym numbers.first
    number_or_same (Some d) = refl

    pub first_piece_alike : (n : Resolved) → AlikeName l (first_piece t n) (first_piece t' (renumbered l n))
    first_piece_alike n =
        subst (λ r. AlikeName l (first_piece t n) (standing t' r (number_or (number_in l n.declaration)) (renumbered l n))) (sym (tables.role n.declaration))
        (subst (λ d. AlikeName l (first_piece t n) (standing t' (Rattle.vd_meaning.specs.Tables.role_of t n.declaration) d (renumbered l n))) (sym (number_or_same n.declaration))
        (standing_alike (Rattle.vd_meaning.specs.Tables.role_of t n.declaration) (number_or n.declaration) n))
