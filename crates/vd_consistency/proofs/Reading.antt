-- What is read, as lists of signals, and the numbers in it.
use Rattle.std.proofs.Common.{◌≡◌, Bool, true, false, List, [], ◌∷◌, Option, Some, None, map, refl}
use Rattle.std.specs.Prelude.{Ok, IfSome, if◌then◌else◌}
use Rattle.std.specs.List.{AllByRecursion}
use Rattle.vd_composites.specs.Stops.{◌>>=◌}
use Rattle.vd_composites.specs.Composites.{leaves}
use Rattle.vd_environments.specs.Got.{Got}
use Rattle.vd_environments.specs.Environments.{ScalarSignal, Signals, Env}
use Rattle.vd_environments.specs.Processes.{numbers_of}
use Rattle.vd_meaning.specs.Names.{Named, and_read, prefix_read, name_read, is_out, unless_out, attribute_read}
use Rattle.vd_meaning.specs.Facets.{Meaning, reads_of, targets_of}
use Rattle.vd_meaning.specs.Meanings.{listed_signals}
use Rattle.vd_consistency.specs.Invariants.{AreOf, Gives, GivesAll, KeepsName, IsNumberOf, KeepsMeaning}
use Rattle.vd_consistency.proofs.Steps.{after, joined, mapped}
use Rattle.vd_consistency.proofs.Parting.{leaves_of}

abbrev pub KeepAll : List Meaning → Type 0
KeepAll ms = AllByRecursion KeepsMeaning ms

pub and_gives : (f g : Env → Got (List Signals)) → GivesAll f → GivesAll g → GivesAll (λ e. and_read (f e) (g e))
and_gives f g j k P e h =
    after (AllByRecursion (AreOf P)) (AllByRecursion (AreOf P)) (f e) _ (j P e h) (λ xs a.
    after (AllByRecursion (AreOf P)) (AllByRecursion (AreOf P)) (g e) _ (k P e h) (λ ys b. joined (AreOf P) xs ys a b))

pub reads_give : (ms : List Meaning) → KeepAll ms → GivesAll (reads_of ms)
reads_give [] h P e j = tt
reads_give (m ∷ ms) h P e j = and_gives m.reads (reads_of ms) h.0.of_reads (reads_give ms h.1) P e j

pub targets_give : (ms : List Meaning) → KeepAll ms → GivesAll (targets_of ms)
targets_give [] h P e j = tt
targets_give (m ∷ ms) h P e j = and_gives m.targets (targets_of ms) h.0.of_targets (targets_give ms h.1) P e j

pub listed_give : (ms : List Meaning) → KeepAll ms → GivesAll (listed_signals ms)
listed_give [] h P e j = tt
listed_give (m ∷ ms) h P e j =
    after (AreOf P) (AllByRecursion (AreOf P)) (m.name.signals e) _ (h.0.of_name.signals P e j) (λ x a.
    after (AllByRecursion (AreOf P)) (AllByRecursion (AreOf P)) (listed_signals ms e) _ (listed_give ms h.1 P e j) (λ xs b. (a, b)))

prefix_gives : (x : Option (Env → Got Signals)) → IfSome x Gives → GivesAll (prefix_read x)
prefix_gives None k P e h = tt
prefix_gives (Some prefix) k P e h = after (AreOf P) (AllByRecursion (AreOf P)) (prefix e) _ (k P e h) (λ s j. (j, tt))

pub name_reads_give : (p : Named) → KeepsName p → GivesAll (name_read p)
name_reads_give p k = and_gives (prefix_read p.prefix) p.inner (prefix_gives p.prefix k.prefix) k.inner

or_not : (P : ScalarSignal → Bool) (b : Bool) (xs ys : List Signals) → AllByRecursion (AreOf P) xs → AllByRecursion (AreOf P) ys → AllByRecursion (AreOf P) (if b then xs else ys)
or_not P true xs ys h k = h
or_not P false xs ys h k = k

unless_out_of : (P : ScalarSignal → Bool) (ss : List Signals) → AllByRecursion (AreOf P) ss → AllByRecursion (AreOf P) (unless_out ss)
unless_out_of P [] h = tt
unless_out_of P (s ∷ ss) h = or_not P (is_out s) (unless_out ss) (s ∷ unless_out ss) (unless_out_of P ss h.1) (h.0, unless_out_of P ss h.1)

attribute_prefix : (of_event : Bool) (p : Named) → KeepsName p → GivesAll (λ e. prefix_read p.prefix e >>= λ xs. Ok (if of_event then xs else unless_out xs))
attribute_prefix of_event p k P e h =
    after (AllByRecursion (AreOf P)) (AllByRecursion (AreOf P)) (prefix_read p.prefix e) _ (prefix_gives p.prefix k.prefix P e h) (λ xs j.
    or_not P of_event xs (unless_out xs) j (unless_out_of P xs j))

pub attribute_reads_give : (of_event : Bool) (p : Named) → KeepsName p → GivesAll (attribute_read of_event p)
attribute_reads_give of_event p k = and_gives (λ e. prefix_read p.prefix e >>= λ xs. Ok (if of_event then xs else unless_out xs)) p.inner (attribute_prefix of_event p k) k.inner

-- ---- numbers

pub numbers_keep : (P : ScalarSignal → Bool) (names : List Signals) → AllByRecursion (AreOf P) names → AllByRecursion (IsNumberOf P) (numbers_of names)
numbers_keep P [] h = tt
numbers_keep P (s ∷ ss) h =
    joined (IsNumberOf P) (map (λ x. x.number) (leaves s)) (numbers_of ss)
    (mapped (λ x. P x ≡ true) (IsNumberOf P) (λ x. x.number) (λ x i. record { signal = x; is_of = i; is = refl }) (leaves s) (leaves_of P s h.0)) (numbers_keep P ss h.1)
