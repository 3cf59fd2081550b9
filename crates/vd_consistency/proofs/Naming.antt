-- Names give the scalar signals of what they name.
use Rattle.std.proofs.Common.{◌≡◌, refl, sym, subst, ℕ, Bool, true, false, List, [], ◌∷◌, Option, Some, None}
use Rattle.std.specs.Prelude.{◌&&◌, is_some, Ok, IfOk, IfSome}
use Rattle.vd_composites.specs.Stops.{◌>>=◌}
use Rattle.vd_composites.specs.Parts.{part}
use Rattle.vd_resolved.specs.declared.node.Resolved.{Resolved}
use Rattle.vd_environments.specs.Got.{Got, got, senseless}
use Rattle.vd_environments.specs.Environments.{Signals, Env, or_senseless}
use Rattle.vd_meaning.specs.Tables.{Table, Role, ConstantRole, VariableRole, SignalRole, LiteralRole, FunctionRole, MarkRole, ElementRole, NoRole, role_of, is_vector}
use Rattle.vd_meaning.specs.Operators.{Operation, Apply, Lazily, Join, TruthText, Edge, NoOperation}
use Rattle.vd_meaning.specs.Names.{Named, no_name, called_here, standing, number_or, first_piece, Stepping, goes_on, part_signals, part_prefix, where_signal, stepped, to_element, to_slice, Attribute, BoundAt, LengthOf, RangeOf, EventOf, OfType, NoAttribute, attributed, tied_through, Callee, NoCallee, Attributed}
use Rattle.vd_meaning.specs.Facets.{Meaning, no_meaning, nth, reads_of, value_of}
use Rattle.vd_meaning.specs.Brackets.{argument_read, called_with, element_or_slice, by_role, by_callee, arguments_piece, qualification_piece}
use Rattle.vd_composites.specs.declared.ranges.Bounds.{Bounds}
use Rattle.vd_consistency.specs.Invariants.{AreOf, Gives, GivesAll, KeepsName, KeepsMeaning}
use Rattle.vd_consistency.proofs.Steps.{after, after_any, got_keeps, either}
use Rattle.vd_consistency.proofs.Parting.{part_of}
use Rattle.vd_consistency.proofs.Reading.{KeepAll, and_gives, reads_give, attribute_reads_give}

-- what is no name of a signal
pub no_name_keeps : KeepsName no_name
no_name_keeps = record { signals = λ P e h. tt; prefix = tt; inner = λ P e h. tt }

denoted_gives : (d : ℕ) → Gives (λ e. or_senseless (e.denotes d).signals)
denoted_gives d P e h = some_or_senseless (e.denotes d).signals (h.denoted d) where
  some_or_senseless : (x : Option Signals) → IfSome x (AreOf P) → IfOk (or_senseless x) (AreOf P)
  some_or_senseless (Some s) h = h
  some_or_senseless None h = tt

called_here_keeps : (t : Table) (d : ℕ) (m : Option ℕ) → KeepsName (called_here t d m)
called_here_keeps t d None = no_name_keeps
called_here_keeps t d (Some m) = record { signals = λ P e h. tt; prefix = tt; inner = λ P e h. tt }

standing_keeps : (t : Table) (r : Role) (d : ℕ) (n : Resolved) → KeepsName (standing t r d n)
standing_keeps t ConstantRole d n = record { signals = λ P e h. tt; prefix = tt; inner = λ P e h. tt }
standing_keeps t VariableRole d n = record { signals = λ P e h. tt; prefix = tt; inner = λ P e h. tt }
standing_keeps t SignalRole d n = record { signals = denoted_gives d; prefix = denoted_gives d; inner = λ P e h. tt }
standing_keeps t LiteralRole d n = record { signals = λ P e h. tt; prefix = tt; inner = λ P e h. tt }
standing_keeps t FunctionRole d n = called_here_keeps t d n.mark
standing_keeps t MarkRole d n = record { signals = λ P e h. tt; prefix = tt; inner = λ P e h. tt }
standing_keeps t ElementRole d n = no_name_keeps
standing_keeps t NoRole d n = no_name_keeps

pub first_piece_keeps : (t : Table) (n : Resolved) → KeepsName (first_piece t n)
first_piece_keeps t n = standing_keeps t (role_of t n.declaration) (number_or n.declaration) n

pub none_keeps : KeepsMeaning no_meaning
none_keeps =
    record {
      of_reads = λ P e h. tt;
      of_name = no_name_keeps;
      of_piece = λ p k. no_name_keeps;
      of_chosen = λ act k P. tt;
      of_command = λ label P. tt;
      of_otherwise = λ c k. k;
      of_cases = λ c selector P. tt;
      of_declarations = tt;
      of_settling = λ P drivers e h. h;
      of_targets = λ P e h. tt;
      of_listening = λ f k. tt;
      of_processes = tt;
    }

-- ---- parts

part_signals_give : (p : Named) (s : Stepping) → KeepsName p → Gives (part_signals p s)
part_signals_give p s k P e h =
    after (AreOf P) (AreOf P) (p.signals e) _ (k.signals P e h) (λ v j. after_any (AreOf P) (s.to e) _ (λ to. got_keeps (AreOf P) (part to v) (part_of P to v j)))

part_prefix_gives : (p : Named) (s : Stepping) (x : Option (Env → Got Signals)) → IfSome x Gives → IfSome (part_prefix p s x) Gives
part_prefix_gives p s None k = tt
part_prefix_gives p s (Some prefix) k = λ P e h.
    after (AreOf P) (AreOf P) (prefix e) _ (k P e h) (λ v j.
    either (AreOf P) (goes_on p s e) (s.to e >>= λ to. got (part to v)) (Ok v) (after_any (AreOf P) (s.to e) _ (λ to. got_keeps (AreOf P) (part to v) (part_of P to v j))) j)

where_signal_gives : (x : Option (Env → Got Signals)) (f : Env → Got Signals) → Gives f → Gives (where_signal x (λ _. senseless) f)
where_signal_gives None f k P e h = tt
where_signal_gives (Some prefix) f k P e h = k P e h

pub stepped_keeps : (s : Stepping) → GivesAll s.inner → (m : Option ℕ) (p : Named) → KeepsName p → KeepsName (stepped s m p)
stepped_keeps s j m p k =
    record {
      signals = where_signal_gives p.prefix (part_signals p s) (part_signals_give p s k);
      prefix = part_prefix_gives p s p.prefix k.prefix;
      inner = and_gives p.inner s.inner k.inner j;
    }

pub attributed_keeps : (a : Attribute) (m : Option ℕ) (p : Named) → KeepsName p → KeepsName (attributed a m p)
attributed_keeps (BoundAt side) m p k = record { signals = λ P e h. tt; prefix = tt; inner = attribute_reads_give false p k }
attributed_keeps LengthOf m p k = record { signals = λ P e h. tt; prefix = tt; inner = attribute_reads_give false p k }
attributed_keeps (RangeOf backwards) m p k = record { signals = λ P e h. tt; prefix = tt; inner = attribute_reads_give false p k }
attributed_keeps EventOf m p k = record { signals = λ P e h. tt; prefix = tt; inner = attribute_reads_give true p k }
attributed_keeps (OfType attribute) m p k = record { signals = k.signals; prefix = k.prefix; inner = k.inner }
attributed_keeps NoAttribute m p k = no_name_keeps

-- ---- what a list in brackets is behind a name

tied_through_keeps : (b : Bool) (p c : Named) → KeepsName p → KeepsName c → KeepsName (tied_through b p c)
tied_through_keeps true p c j k = record { signals = j.signals; prefix = k.prefix; inner = k.inner }
tied_through_keeps false p c j k = k

module _ (t : Table) (n : Resolved) (ms : List Meaning) (h : KeepAll ms) where
  first : KeepsMeaning (nth 0 ms)
  first = first_keeps ms h where
    first_keeps : (ms : List Meaning) → KeepAll ms → KeepsMeaning (nth 0 ms)
    first_keeps [] h = none_keeps
    first_keeps (m ∷ ms) h = h.0

  arguments_read : (p : Named) → KeepsName p → GivesAll (argument_read p ms)
  arguments_read p k = and_gives p.inner (reads_of ms) k.inner (reads_give ms h)

  read_alone : (p : Named) → KeepsName p → (c : Named) → c.signals ≡ no_name.signals → c.prefix ≡ None → c.inner ≡ argument_read p ms → KeepsName c
  read_alone p k c e f g =
      record {
        signals = subst Gives (sym e) (λ P e h. tt);
        prefix = subst (λ x. IfSome x Gives) (sym f) tt;
        inner = subst GivesAll (sym g) (arguments_read p k);
      }

  called_with_keeps : (o : Operation) (d : ℕ) (p : Named) → KeepsName p → KeepsName (called_with o t d n ms p)
  called_with_keeps (Apply op) d p k = read_alone p k _ refl refl refl
  called_with_keeps (Lazily o) d p k = read_alone p k _ refl refl refl
  called_with_keeps (Join l r) d p k = read_alone p k _ refl refl refl
  called_with_keeps TruthText d p k = read_alone p k _ refl refl refl
  called_with_keeps (Edge rising) d p k = read_alone p k _ refl refl refl
  called_with_keeps NoOperation d p k = read_alone p k _ refl refl refl

  element_keeps : (x : Option (Env → Got Bounds)) (p : Named) → KeepsName p → KeepsName (element_or_slice x n ms p)
  element_keeps None p k = stepped_keeps (to_element (value_of (nth 0 ms)) (nth 0 ms).known (nth 0 ms).reads) first.of_reads n.mark p k
  element_keeps (Some range) p k = stepped_keeps (to_slice range (nth 0 ms).known (nth 0 ms).reads) first.of_reads n.mark p k

  by_role_keeps : (r : Role) (p : Named) → KeepsName p → KeepsName (by_role r t n ms p)
  by_role_keeps FunctionRole p k = called_with_keeps _ _ p k
  by_role_keeps MarkRole p k =
      tied_through_keeps (is_vector (number_or n.declaration) && is_some (nth 0 ms).name.prefix) (nth 0 ms).name _ first.of_name (read_alone p k _ refl refl refl)
  by_role_keeps ConstantRole p k = element_keeps (nth 0 ms).range p k
  by_role_keeps VariableRole p k = element_keeps (nth 0 ms).range p k
  by_role_keeps SignalRole p k = element_keeps (nth 0 ms).range p k
  by_role_keeps LiteralRole p k = element_keeps (nth 0 ms).range p k
  by_role_keeps ElementRole p k = element_keeps (nth 0 ms).range p k
  by_role_keeps NoRole p k = element_keeps (nth 0 ms).range p k

  by_callee_keeps : (c : Callee) (p : Named) → KeepsName p → KeepsName (by_callee c t n ms p)
  by_callee_keeps (Attributed attribute) p k = read_alone p k _ refl refl refl
  by_callee_keeps NoCallee p k = by_role_keeps (role_of t n.declaration) p k

  pub arguments_piece_keeps : (p : Named) → KeepsName p → KeepsName (arguments_piece t n ms p)
  arguments_piece_keeps p k = by_callee_keeps p.callee p k

  pub qualification_keeps : (p : Named) → KeepsName p → KeepsName (qualification_piece t n ms p)
  qualification_keeps p k = read_alone p k _ refl refl refl
