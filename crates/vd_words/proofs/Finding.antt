-- What `clap` answers for the command line of the program.
use Rattle.std.proofs.Common.{◌≡◌, ◌⊎◌, inl, inr, ℕ, Bool, true, false, not, ◌&&◌, ◌||◌, List, [], ◌∷◌, ◌++◌, Option, Some, None, option_and_then, codes, fold, refl, sym, ap, ap₂, ◌∙◌, subst, bytes_eq}
use Rattle.clap.specs.Kinds.{Kinds, or_else, HasKind, IsAmong}
use Rattle.clap.specs.Walk.{Row, Rule, Text, idle, has_row, rows_of, settled, with_default, nothing_held}
use Rattle.clap.specs.Matches.{found_of}
use Rattle.clap.specs.Simple.{App, HasMatchesOf, built, is_simple, matches_of}
use Rattle.clap.specs.Faults.{default_fault, defaults_fault, fault_of, is_simple_and_free, settle_fault, walk_fault}
use Rattle.clap.specs.Values.{kind_of}
use Rattle.clap.specs.declared.error.Error.{Error}
use Rattle.clap.specs.declared.error.kind.ErrorKind.{ErrorKind}
use Rattle.clap.specs.declared.error.kind.ErrorKind.TheVariants.{OutOfMemory}
use Rattle.clap.specs.declared.parser.matches.ArgMatches.{ArgMatches}
use Rattle.clap.proofs.FaultLemmas.{leaf_fault}
use Rattle.vd_words.specs.Commands.{meaning_by, meaning_of, meaning_of_said, meaning_of_values}
use Rattle.vd_words.specs.Words.{Said, said_after, values_of}
use Rattle.vd_words.specs.Given.{line, file_id, values_in, values_given, Tells, is_plain_line}
use Rattle.vd_words.proofs.Walks.{rules, shape}
use Rattle.vd_words.proofs.Steps.{at, Clean, IsFree}
use Rattle.vd_words.proofs.Readings.{end, faults, Gets, Follows, follows}

pub line_is_simple : is_simple line ≡ true
line_is_simple = refl

pub line_is_free : is_simple_and_free line ≡ true
line_is_free = refl

-- ---- no argument has a value by default

abbrev NoDefaults : List Rule → Type 0
NoDefaults [] = Unit {0}
NoDefaults (a ∷ rest) = (a.defaults ≡ []) × NoDefaults rest

default_none : (a : Rule) (rows : List Row) → a.defaults ≡ [] → (default_fault rows a ≡ []) × (with_default rows a ≡ rows)
default_none a rows none = by_test (has_row a.id rows) refl
  where
    by_test : (b : Bool) → has_row a.id rows ≡ b → (default_fault rows a ≡ []) × (with_default rows a ≡ rows)
    by_test true e = (rw e refl, rw e refl)
    by_test false e = (rw (e, none) refl, rw (e, none) refl)

defaults_none : (rs : List Rule) (rows : List Row) → NoDefaults rs → defaults_fault rows rs ≡ []
unfolding defaults_fault
defaults_none [] rows h = refl
defaults_none (a ∷ rest) rows h =
    let x = default_none a rows h.0 in
    ap (λ t. or_else t (defaults_fault (with_default rows a) rest)) x.0 ∙ defaults_none rest (with_default rows a) h.1

defaults_kept : (rs : List Rule) (rows : List Row) → NoDefaults rs → fold with_default rows rs ≡ rows
defaults_kept [] rows h = refl
defaults_kept (a ∷ rest) rows h = defaults_kept rest (with_default rows a) h.1 ∙ (default_none a rows h.0).1

no_defaults : NoDefaults rules
no_defaults = (refl, (refl, (refl, (refl, (refl, (refl, tt))))))

-- ---- the whole

no_more : (a b c : Kinds) → b ≡ [] → or_else a (or_else c (or_else b [])) ≡ or_else a c
no_more a b [] none = ap (λ x. or_else a (or_else x [])) none
no_more a b (k ∷ ks) none = refl

pub faults_are : (words : List Text) → fault_of line words ≡ faults (at [] None idle false) words
faults_are words =
    leaf_fault (built line) nothing_held words refl
    ∙ no_more (walk_fault shape [] (at [] None idle false) words) (defaults_fault (settled rules (end (at [] None idle false) words).held).rows rules) (settle_fault rules false (end (at [] None idle false) words).held)
    (defaults_none rules (settled rules (end (at [] None idle false) words).held).rows no_defaults)

pub rows_are : (words : List Text) → matches_of line words ≡ (settled rules (end (at [] None idle false) words).held).rows
rows_are words = defaults_kept rules (settled rules (end (at [] None idle false) words).held).rows no_defaults

whole : (words : List Text) → is_plain_line words ≡ true → Follows (said_after None words) [] (at [] None idle false) words
whole words h = (follows words h).free [] [] None idle (Clean.nothing []) IsFree.is_idle

pub told : (words : List Text) (m : ArgMatches) → is_plain_line words ≡ true → HasMatchesOf line words m → fault_of line words ≡ [] → (said : Said) × (said_after None words ≡ Some said) × Tells m said
told words m h matches none = by_said (said_after None words) refl (whole words h)
  where
    rows : rows_of (found_of m) ≡ (settled rules (end (at [] None idle false) words).held).rows
    rows = (matches line_is_simple).0 ∙ rows_are words

    by_said : (o : Option Said) → said_after None words ≡ o → Follows o [] (at [] None idle false) words → (said : Said) × (said_after None words ≡ Some said) × Tells m said
    by_said None e f = absurd (f (sym (faults_are words) ∙ none))
    by_said (Some said) e f = (
      said,
      e,
      record {
        modes = ap (values_in (codes "do")) rows ∙ f.1.options (codes "do") refl;
        tops = ap (values_in (codes "top")) rows ∙ f.1.options (codes "top") refl;
        cycles = ap (values_in (codes "cycles")) rows ∙ f.1.options (codes "cycles") refl;
        units = ap (values_in (codes "units")) rows ∙ f.1.options (codes "units") refl;
        tool_types = ap (values_in (codes "tool-type")) rows ∙ f.1.options (codes "tool-type") refl;
        files = ap (values_in file_id) rows ∙ f.1.files;
      },
    )

pub untold : (words : List Text) (k : ErrorKind) → is_plain_line words ≡ true → IsAmong k (fault_of line words) → said_after None words ≡ None
untold words k h among = by_said (said_after None words) refl (whole words h)
  where
    by_said : (o : Option Said) → said_after None words ≡ o → Follows o [] (at [] None idle false) words → said_after None words ≡ None
    by_said None e f = e
    by_said (Some said) e f = absurd (subst (IsAmong k) (faults_are words ∙ f.0) among)

-- ---- as the call gives it

pub told_by : (a : App) (given words : List Text) (m : ArgMatches) → a ≡ line → given ≡ words → is_plain_line words ≡ true → HasMatchesOf a given m → (is_simple_and_free a ≡ true → fault_of a given ≡ []) → (said : Said) × (said_after None words ≡ Some said) × Tells m said
told_by a given words m is same h matches none =
    told words m h (subst (λ x. HasMatchesOf x words m) is (subst (λ ws. HasMatchesOf a ws m) same matches)) (sym (ap₂ fault_of is same) ∙ none (ap is_simple_and_free is ∙ line_is_free))

pub untold_by : (a : App) (given words : List Text) (e : Error) → a ≡ line → given ≡ words → is_plain_line words ≡ true → (is_simple_and_free a ≡ true → HasKind (fault_of a given) e) → (kind_of e ≡ OutOfMemory → ⊥) → said_after None words ≡ None
untold_by a given words e is same h kinds enough = by_kind (kinds (ap is_simple_and_free is ∙ line_is_free))
  where
    by_kind : HasKind (fault_of a given) e → said_after None words ≡ None
    by_kind (inl out) = absurd (enough out)
    by_kind (inr among) = untold words (kind_of e) h (subst (IsAmong (kind_of e)) (ap₂ fault_of is same) among)

-- the command of the values that were found is what the words mean
pub read_as : (words : List Text) (m : ArgMatches) → (said : Said) × (said_after None words ≡ Some said) × Tells m said → meaning_of words ≡ meaning_by (values_given m) (values_given m file_id)
read_as words m x =
    let v = values_given m in
    let s = λ (name : Text). values_of name x.0 in
    let t = x.2 in
    ap (option_and_then meaning_of_said) x.1
    ∙ sym (
    ap (λ a. meaning_of_values a (v (codes "top")) (v (codes "cycles")) (v (codes "units")) (v (codes "tool-type")) (v file_id)) t.modes
    ∙ ap (λ a. meaning_of_values (s (codes "do")) a (v (codes "cycles")) (v (codes "units")) (v (codes "tool-type")) (v file_id)) t.tops
    ∙ ap (λ a. meaning_of_values (s (codes "do")) (s (codes "top")) a (v (codes "units")) (v (codes "tool-type")) (v file_id)) t.cycles
    ∙ ap (λ a. meaning_of_values (s (codes "do")) (s (codes "top")) (s (codes "cycles")) a (v (codes "tool-type")) (v file_id)) t.units
    ∙ ap (λ a. meaning_of_values (s (codes "do")) (s (codes "top")) (s (codes "cycles")) (s (codes "units")) a (v file_id)) t.tool_types
    ∙ ap (λ a. meaning_of_values (s (codes "do")) (s (codes "top")) (s (codes "cycles")) (s (codes "units")) (s (codes "tool-type")) a) t.files
    )
