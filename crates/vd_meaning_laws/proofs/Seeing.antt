-- Lists of parts that are only evaluated: what is read, driven and known in them, and the arguments that they are.
use Rattle.std.proofs.Common.{◌≡◌, ℕ, zero, suc, Bool, true, false, List, [], ◌∷◌, Option, Some, None, map, refl, sym, ◌∙◌}
use Rattle.std.specs.Prelude.{if◌then◌else◌}
use Rattle.std.specs.List.{list_any}
use Rattle.vd_resolved.specs.declared.node.Resolved.{Resolved}
use Rattle.vd_environments.specs.Environments.{both, Env}
use Rattle.vd_meaning.specs.Names.{Named, and_read}
use Rattle.vd_meaning.specs.Facets.{Meaning, reads_of, targets_of, known_of, arguments, of_node}
use Rattle.vd_meaning.specs.Brackets.{names_it, named_argument, nth_positional, is_positional, or_else, argument_in, arguments_for, argument_read}
use Rattle.vd_meaning_laws.specs.Places.{as_value}

pub reads_same : (ms : List Meaning) (e : Env) → reads_of ms e ≡ reads_of (map as_value ms) e
reads_same [] e = refl
reads_same (m ∷ ms) e = λ i. and_read (m.reads e) (reads_same ms e i)

pub targets_same : (ms : List Meaning) (e : Env) → targets_of ms e ≡ targets_of (map as_value ms) e
targets_same [] e = refl
targets_same (m ∷ ms) e = λ i. and_read (m.targets e) (targets_same ms e i)

pub known_same : (ms : List Meaning) (e : Env) → known_of ms e ≡ known_of (map as_value ms) e
known_same [] e = refl
known_same (m ∷ ms) e = λ i. both (m.known e) (known_same ms e i)

pub arguments_same : (ms : List Meaning) (e : Env) → arguments ms e ≡ arguments (map as_value ms) e
arguments_same [] e = refl
arguments_same (m ∷ ms) e = λ i. (λ known. m.value known e) ∷ arguments_same ms e i

pub node_same : (n : Resolved) (text : List ℕ) (ms : List Meaning) → of_node n text ms ≡ of_node n text (map as_value ms)
node_same n text ms = λ i. record (of_node n text ms) { reads = λ e. reads_same ms e i; targets = λ e. targets_same ms e i }

pub argument_read_same : (p : Named) (ms : List Meaning) (e : Env) → argument_read p ms e ≡ argument_read p (map as_value ms) e
argument_read_same p ms e = λ i. and_read (p.inner e) (reads_same ms e i)

-- ---- arguments, which are found by their names and places

seen_option : Option Meaning → Option Meaning
seen_option None = None
seen_option (Some m) = Some (as_value m)

either_seen : (b : Bool) (x y x' y' : Option Meaning) → x' ≡ seen_option x → y' ≡ seen_option y → (if b then x' else y') ≡ seen_option (if b then x else y)
either_seen true x y x' y' h k = h
either_seen false x y x' y' h k = k

named_seen : (p : ℕ) (ms : List Meaning) → named_argument p (map as_value ms) ≡ seen_option (named_argument p ms)
unfolding seen_option
named_seen p [] = refl
named_seen p (m ∷ ms) = either_seen (list_any (names_it p) m.choices) (Some m) (named_argument p ms) (Some (as_value m)) (named_argument p (map as_value ms)) refl (named_seen p ms)

placed_seen : (k : ℕ) (ms : List Meaning) → nth_positional k (map as_value ms) ≡ seen_option (nth_positional k ms)
unfolding seen_option
placed_seen k [] = refl
placed_seen zero (m ∷ ms) = either_seen (is_positional m.association) (Some m) None (Some (as_value m)) None refl refl
placed_seen (suc k) (m ∷ ms) = either_seen (is_positional m.association) (nth_positional k ms) None (nth_positional k (map as_value ms)) None (placed_seen k ms) refl

option_same : (x y : Option Meaning) (e : Env) → argument_in (or_else x y) e ≡ argument_in (or_else (seen_option x) (seen_option y)) e
unfolding seen_option
option_same None None e = refl
option_same None (Some m) e = refl
option_same (Some m) y e = refl

argument_same : (k p : ℕ) (ms : List Meaning) (e : Env)
    → argument_in (or_else (named_argument p ms) (nth_positional k ms)) e ≡ argument_in (or_else (named_argument p (map as_value ms)) (nth_positional k (map as_value ms))) e
argument_same k p ms e =
    option_same (named_argument p ms) (nth_positional k ms) e ∙ (λ i. argument_in (or_else (sym (named_seen p ms) i) (sym (placed_seen k ms) i)) e)

pub arguments_for_same : (k : ℕ) (ps : List ℕ) (ms : List Meaning) (e : Env) → arguments_for k ps ms e ≡ arguments_for k ps (map as_value ms) e
arguments_for_same k [] ms e = refl
arguments_for_same k (p ∷ ps) ms e = λ i. argument_same k p ms e i ∷ arguments_for_same (suc k) ps ms e i
