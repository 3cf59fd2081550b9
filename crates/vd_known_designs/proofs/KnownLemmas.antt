-- What is known of a table that changes. No name has a dash, so that a caller can name each in `#[tactic(auto, using(..))]`.
use Rattle.std.proofs.Common.{◌≡◌, ◌≤◌, List, [], ◌∷◌, ◌++◌, ap, arith, length, reverse, subst, sym, ℕ, ◌∙◌}
use Rattle.std.proofs.Math.Seq.{drop-length}
use Rattle.std.proofs.lemmas.List.{length-append, reverse-append}
use Rattle.vd_environments.specs.Environments.{Denotation, Indicated}
use Rattle.vd_forest.specs.Forest.{Forest}
use Rattle.vd_forest.specs.Store.{Extends}
use Rattle.vd_value_rules.specs.Indicated.{indicated_in}
use Rattle.vd_value_rules.specs.declared.forms.IndicatedForm.{IndicatedForm}
use Rattle.vd_value_rules.specs.Made.{Indicates}
use Rattle.vd_known_designs.specs.Contents.{AreRestorable, Content, Replaces, content_of, lengths_of, no_content, undone}
use Rattle.vd_known_designs.specs.Known.{AreKnown, CanGoBack, GoesBack, HasKnown, IsKnown, WereKnown, content_at, none_known}
use Rattle.vd_known_designs.specs.declared.contents.Contents.{Contents}
use Rattle.vd_known_designs.specs.declared.contents.Replaced.{Replaced}
use Rattle.vd_known_designs.specs.declared.table.KnownTable.{KnownTable}
use Rattle.vd_known_designs.proofs.DeclaredLemmas.{none_is_known}
use Rattle.vd_known_designs.proofs.LogLemmas.{all_restorable_longer, had_before, restorable_pushed}
use Rattle.vd_meaning.specs.Tables.{Table}
use Rattle.vd_static_values.specs.Entries.{IsEntry}
use Rattle.vd_static_values.specs.declared.entries.Entry.{Entry}
use Rattle.vd_value_rules.specs.Knowledge.{Known, indicated_of}

-- ---- a store of subtypes that grows

pub indicates_grown : (fs gs : List (Forest IndicatedForm)) (n : ℕ) (i : Indicated) → Extends fs gs → Indicates fs n i → Indicates gs n i
indicates_grown fs gs n i grown is = record {
  within = omega (arith, grown.grows, is.within);
  is = ap indicated_in (grown.keeps n is.within) ∙ is.is;
}

pub entry_grown : (fs gs : List (Forest IndicatedForm)) (t : Table) (x : Entry) (d : Denotation) → Extends fs gs → IsEntry fs t x d → IsEntry gs t x d
entry_grown fs gs t x d grown is = record {
  within = omega (arith, grown.grows, is.within);
  subtype = ap indicated_in (grown.keeps x.subtype is.within) ∙ is.subtype;
  bounds = is.bounds;
  known = is.known;
  value = is.value;
  value_shape = is.value_shape;
  signal_shape = is.signal_shape;
  function = is.function;
}

pub is_known_grown : (fs gs : List (Forest IndicatedForm)) (t : Table) (c : Content) (k : Known) → Extends fs gs → IsKnown t fs c k → IsKnown t gs c k
is_known_grown fs gs t c k grown known = record {
  entries = λ n. entry_grown fs gs t (c.entries n) (k.env.denotes n) grown (known.entries n);
  choosing = λ n. indicates_grown fs gs (c.choosing n) (indicated_of (k.choosing.denotes n)) grown (known.choosing n);
  packages = known.packages;
  functions = known.functions;
  is_inside = known.is_inside;
  is_inside_choosing = known.is_inside_choosing;
  result_within = omega (arith, grown.grows, known.result_within);
  result = known.result ∙ ap (λ f. (indicated_in f).subtype) (sym (grown.keeps c.result known.result_within));
}

-- ---- marks

were_known_grown : (fs gs : List (Forest IndicatedForm)) (t : Table) (had : ℕ → Content) (top : ℕ) (marks : List ℕ) (ks : List Known) → Extends fs gs
    → WereKnown t fs had top marks ks → WereKnown t gs had top marks ks
were_known_grown fs gs t had top [] [] grown were = tt
were_known_grown fs gs t had top (mark ∷ marks) (k ∷ ks) grown were =
    (were.0, is_known_grown fs gs t (had mark) k grown were.1, were_known_grown fs gs t had mark marks ks grown were.2)
were_known_grown fs gs t had top [] (k ∷ ks) grown were = absurd were
were_known_grown fs gs t had top (mark ∷ marks) [] grown were = absurd were

pub were_known_kept : (fs : List (Forest IndicatedForm)) (t : Table) (had had' : ℕ → Content) (top : ℕ) (marks : List ℕ) (ks : List Known)
    → ((n : ℕ) → n ≤ top → had' n ≡ had n) → WereKnown t fs had top marks ks → WereKnown t fs had' top marks ks
were_known_kept fs t had had' top [] [] same were = tt
were_known_kept fs t had had' top (mark ∷ marks) (k ∷ ks) same were = (
  were.0,
  subst (λ c. IsKnown t fs c k) (sym (same mark were.0)) were.1,
  were_known_kept fs t had had' mark marks ks (λ n below. same n (omega (arith, below, were.0))) were.2,
)
were_known_kept fs t had had' top [] (k ∷ ks) same were = absurd were
were_known_kept fs t had had' top (mark ∷ marks) [] same were = absurd were

pub were_known_below : (fs : List (Forest IndicatedForm)) (t : Table) (had : ℕ → Content) (top top' : ℕ) (marks : List ℕ) (ks : List Known)
    → top ≤ top' → WereKnown t fs had top marks ks → WereKnown t fs had top' marks ks
were_known_below fs t had top top' [] [] below were = tt
were_known_below fs t had top top' (mark ∷ marks) (k ∷ ks) below were = (omega (arith, below, were.0), were.1, were.2)
were_known_below fs t had top top' [] (k ∷ ks) below were = absurd were
were_known_below fs t had top top' (mark ∷ marks) [] below were = absurd were

-- ---- tables

-- subtypes were added
pub has_known_grown : (t : Table) (fs gs : List (Forest IndicatedForm)) (x : Contents) (log : List Replaced) (marks : List ℕ) (k : Known) (ks : List Known)
    → Extends fs gs → HasKnown t fs x log marks k ks → HasKnown t gs x log marks k ks
has_known_grown t fs gs x log marks k ks grown known = record {
  now = is_known_grown fs gs t (content_of x) k grown known.now;
  before = were_known_grown fs gs t (content_at x log) (length log) (reverse marks) ks grown known.before;
  restorable = known.restorable;
}

pub known_grown : (t : Table) (x : KnownTable) (fs : List (Forest IndicatedForm)) (ks : List Known) → Extends x.subtypes fs → AreKnown t x ks
    → AreKnown t (record x { subtypes = fs }) ks
known_grown t x fs [] grown known = absurd known
known_grown t x fs (k ∷ ks) grown known =
    has_known_grown t x.subtypes fs x.contents x.log.items x.marks.items k ks grown known

-- a change was noted
pub known_changed : (t : Table) (fs : List (Forest IndicatedForm)) (x y : Contents) (log log' : List Replaced) (marks : List ℕ) (r : Replaced) (c : Content) (k k' : Known) (ks : List Known)
    → Replaces x y r c → log' ≡ log ++ r ∷ [] → HasKnown t fs x log marks k ks → IsKnown t fs c k' → HasKnown t fs y log' marks k' ks
known_changed t fs x y log log' marks r c k k' ks replaces noted known is = record {
  now = subst (λ d. IsKnown t fs d k') (sym replaces.has) is;
  before =
      were_known_below fs t (content_at y log') (length log) (length log') (reverse marks) ks longer
      (were_known_kept fs t (content_at x log) (content_at y log') (length log) (reverse marks) ks
      (had_before log log' r (content_of x) (content_of y) noted replaces.undoes) known.before);
  restorable =
      subst (AreRestorable (lengths_of y)) (sym noted)
      (restorable_pushed (lengths_of y) log r (all_restorable_longer (lengths_of x) (lengths_of y) log replaces.longer known.restorable) replaces.restorable);
}
  where
    longer : length log ≤ length log'
    longer = omega (arith, ap length noted, length-append log (r ∷ []))

-- where the log is as long as it is now, everything is as it is now
had_now : (x : Contents) (log : List Replaced) → content_at x log (length log) ≡ content_of x
had_now x log = ap (λ rs. undone rs (content_of x)) (drop-length log)

marks_turned : (marks marks' : List ℕ) (m : ℕ) → marks' ≡ marks ++ m ∷ [] → reverse marks' ≡ m ∷ reverse marks
marks_turned marks marks' m is = ap reverse is ∙ reverse-append marks (m ∷ [])

-- what was known at the last mark
last_known : (t : Table) (fs : List (Forest IndicatedForm)) (x : Contents) (log : List Replaced) (marks marks' : List ℕ) (m : ℕ) (now k : Known) (ks : List Known)
    → marks ≡ marks' ++ m ∷ [] → HasKnown t fs x log marks now (k ∷ ks)
    → WereKnown t fs (content_at x log) (length log) (m ∷ reverse marks') (k ∷ ks)
last_known t fs x log marks marks' m now k ks popped known =
    subst (λ ms. WereKnown t fs (content_at x log) (length log) ms (k ∷ ks)) (marks_turned marks' marks m popped) known.before

-- the last mark was forgotten
pub known_kept : (t : Table) (fs : List (Forest IndicatedForm)) (x : Contents) (log : List Replaced) (marks marks' : List ℕ) (m : ℕ) (now k : Known) (ks : List Known)
    → marks ≡ marks' ++ m ∷ [] → HasKnown t fs x log marks now (k ∷ ks) → HasKnown t fs x log marks' now ks
known_kept t fs x log marks marks' m now k ks popped known =
    let were = last_known t fs x log marks marks' m now k ks popped known in
    record {
      now = known.now;
      before = were_known_below fs t (content_at x log) m (length log) (reverse marks') ks were.0 were.2;
      restorable = known.restorable;
    }

-- the last mark was gone back to
pub known_back : (t : Table) (fs : List (Forest IndicatedForm)) (x y : Contents) (log left : List Replaced) (marks marks' : List ℕ) (m : ℕ) (now k : Known) (ks : List Known)
    → marks ≡ marks' ++ m ∷ [] → (m ≤ length log → length left ≡ m) → (CanGoBack x log m → GoesBack x y log left)
    → HasKnown t fs x log marks now (k ∷ ks) → HasKnown t fs y left marks' k ks
known_back t fs x y log left marks marks' m now k ks popped shortened gone known =
    let were = last_known t fs x log marks marks' m now k ks popped known in
    let end : length left ≡ m = shortened were.0 in
    let back : GoesBack x y log left = gone (record { within = were.0; restorable = known.restorable }) in
    record {
      now = subst (λ c. IsKnown t fs c k) (sym (sym (had_now y left) ∙ back.had (length left) (omega arith) ∙ ap (content_at x log) end)) were.1;
      before =
          subst (λ n. WereKnown t fs (content_at y left) n (reverse marks') ks) (sym end)
          (were_known_kept fs t (content_at x log) (content_at y left) m (reverse marks') ks (λ n below. back.had n (omega (arith, below, end))) were.2);
      restorable = back.restorable;
    }

-- with no mark there is nothing to go back to
pub none_before : {P : Type 0} (t : Table) (fs : List (Forest IndicatedForm)) (x : Contents) (log : List Replaced) (marks : List ℕ) (now k : Known) (ks : List Known)
    → length marks ≡ 0 → HasKnown t fs x log marks now (k ∷ ks) → P
none_before t fs x log [] now k ks none known = absurd known.before
none_before t fs x log (m ∷ marks) now k ks none known = absurd (omega arith)

-- a table in which nothing is declared
pub known_nothing : (t : Table) (fs : List (Forest IndicatedForm)) (x : Contents) (log : List Replaced) (marks : List ℕ) → fs ≡ [] → content_of x ≡ no_content
    → log ≡ [] → marks ≡ [] → HasKnown t fs x log marks none_known []
known_nothing t fs x log marks none nothing unchanged unmarked = record {
  now =
      subst (λ gs. IsKnown t gs (content_of x) none_known) (sym none)
      (subst (λ c. IsKnown t [] c none_known) (sym nothing) (none_is_known t));
  before = subst (λ ms. WereKnown t fs (content_at x log) (length log) (reverse ms) []) (sym unmarked) tt;
  restorable = subst (AreRestorable (lengths_of x)) (sym unchanged) tt;
}

-- the same marks over the same subtypes
pub known_moved : (t : Table) (fs gs : List (Forest IndicatedForm)) (x : Contents) (log : List Replaced) (marks marks' : List ℕ) (k : Known) (ks : List Known)
    → gs ≡ fs → marks' ≡ marks → HasKnown t fs x log marks k ks → HasKnown t gs x log marks' k ks
known_moved t fs gs x log marks marks' k ks same unmarked known =
    subst (λ hs. HasKnown t hs x log marks' k ks) (sym same) (subst (λ ms. HasKnown t fs x log ms k ks) (sym unmarked) known)
