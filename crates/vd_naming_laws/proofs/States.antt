-- What is known at a place, and what trees come to, names what is declared.
use Rattle.std.proofs.Common.{◌≡◌, ◌<◌, ◌≤◌, ◌+◌, ℕ, zero, suc, Bool, true, false, List, [], ◌∷◌, length, Option, Some, None, sym, subst, arith, slice_index_or}
use Rattle.std.specs.List.{AllByRecursion}
use Rattle.vd_forest.specs.Forest.{Forest, nothing, more, joined}
use Rattle.vd_forms.specs.declared.form.Form.{Form}
use Rattle.vd_resolved.specs.declared.node.Resolved.{Resolved}
use Rattle.vd_resolved.specs.Validity.{OnSome}
use Rattle.vd_regions.specs.Scopes.{Scopes}
use Rattle.vd_name_rows.specs.declared.at.Actual.{Actual}
use Rattle.vd_name_rows.specs.declared.notes.Note.{Note}
use Rattle.vd_name_rows.specs.declared.notes.Span.{Span}
use Rattle.vd_name_rows.specs.Designs.{At, Design, Outcome, no_note, note_at, put_note, with_note, standpoint}
use Rattle.vd_naming.specs.Expressions.{unresolved}
use Rattle.vd_naming_laws.specs.Numbers.{IsSound, NamesDeclared}
use Rattle.vd_naming_laws.proofs.Lists.{OnOption, all_weaker}
use Rattle.vd_naming_laws.proofs.Growth.{Entries, Own, Typed, AreSound, sound_scopes, Grows, grows_not, longer, own_more, own_some_more, typed_some_more}

-- ---- trees: numbers of declarations below a limit, where they are asked for, and types

abbrev pub Number : Bool → ℕ → ℕ → Type 0
Number false n k = Unit {0}
Number true n k = k < n

pub number_below : (b : Bool) (n k : ℕ) → k < n → Number b n k
number_below false n k h = tt
number_below true n k h = h

pub some_below : (b : Bool) (n m : ℕ) (k : Option ℕ) → m ≤ n → OnSome (λ k. k < m) k → OnSome (Number b n) k
some_below b n m None h own = tt
some_below b n m (Some k) h own = number_below b n k (omega (arith, h, own))

abbrev pub TreeIs : Bool → ℕ → Entries → Forest Resolved → Type 0
TreeIs b n es nothing = Unit {0}
TreeIs b n es (more node text place parts next) =
    OnSome (Number b n) node.declaration × OnSome (Typed es) node.mark × TreeIs b n es parts × TreeIs b n es next

pub unresolved_is : (b : Bool) (n : ℕ) (es : Entries) (t : Forest Form) → TreeIs b n es (unresolved t)
unresolved_is b n es nothing = tt
unresolved_is b n es (more f text place parts next) = (tt, tt, unresolved_is b n es parts, unresolved_is b n es next)

pub joined_is : (b : Bool) (n : ℕ) (es : Entries) (t u : Forest Resolved) → TreeIs b n es t → TreeIs b n es u → TreeIs b n es (joined t u)
joined_is b n es nothing u is other = other
joined_is b n es (more node text place parts next) u is other = (is.0, is.1, is.2, joined_is b n es next u is.3 other)

number_more : (b : Bool) (n m : ℕ) (k : Option ℕ) → n ≤ m → OnSome (Number b n) k → OnSome (Number b m) k
number_more b n m None h is = tt
number_more false n m (Some k) h is = tt
number_more true n m (Some k) h is = omega (arith, h, is)

pub tree_more : (b : Bool) (n m : ℕ) {es fs : Entries} → Grows es fs → n ≤ m → (t : Forest Resolved) → TreeIs b n es t → TreeIs b m fs t
tree_more b n m g h nothing is = tt
tree_more b n m g h (more node text place parts next) is =
    (number_more b n m node.declaration h is.0, typed_some_more g node.mark is.1, tree_more b n m g h parts is.2, tree_more b n m g h next is.3)

pub named_is : (b : Bool) (n : ℕ) (s : Scopes) (t : Forest Resolved) → length s.entered ≤ n → NamesDeclared s t → TreeIs b n s.entered t
named_is b n s nothing h is = tt
named_is b n s (more node text place parts next) h is =
    (some_below b n (length s.entered) node.declaration h is.0, is.1, named_is b n s parts h is.2, named_is b n s next h is.3)

-- ---- what is noted: a span ends in front of its owner

abbrev pub SpanIs : ℕ → Note → Type 0
SpanIs k note = OnOption (λ x. Span.end x ≤ k) note.span

abbrev pub SpansAre : ℕ → List Note → Type 0
SpansAre base [] = Unit {0}
SpansAre base (note ∷ notes) = SpanIs base note × SpansAre (suc base) notes

pub span_of : (base : ℕ) (notes : List Note) (k : ℕ) → SpansAre base notes → SpanIs (base + k) (slice_index_or notes k no_note)
span_of base [] k are = tt
span_of base (note ∷ notes) zero are = subst (λ j. SpanIs j note) (omega arith) are.0
span_of base (note ∷ notes) (suc k) are = subst (λ j. SpanIs j (slice_index_or notes k no_note)) (omega arith) (span_of (suc base) notes k are.1)

pub spans_put : (base k : ℕ) (note : Note) (notes : List Note) → SpansAre base notes → SpanIs (base + k) note → SpansAre base (put_note k note notes)
spans_put base zero note [] are is = (subst (λ j. SpanIs j note) (omega arith) is, tt)
spans_put base zero note (old ∷ notes) are is = (subst (λ j. SpanIs j note) (omega arith) is, are.1)
spans_put base (suc k) note [] are is = (tt, spans_put (suc base) k note [] tt (subst (λ j. SpanIs j note) (omega arith) is))
spans_put base (suc k) note (old ∷ notes) are is = (are.0, spans_put (suc base) k note notes are.1 (subst (λ j. SpanIs j note) (omega arith) is))

-- ---- designs and places

pub record DesignParts (es : Entries) (notes : List Note) : Type 0 where
  pub sound : AreSound es
  pub spans : SpansAre 0 notes

abbrev pub DesignIs : Design → Type 0
DesignIs d = DesignParts d.scopes.entered d.notes

pub note_is : (d : Design) (k : ℕ) → SpansAre 0 d.notes → SpanIs k (note_at d k)
note_is d k are = subst (λ j. SpanIs j (slice_index_or d.notes k no_note)) (omega arith) (span_of 0 d.notes k are)

pub noted : (k : ℕ) (note : Note) (d : Design) → DesignIs d → SpanIs k note → DesignIs (with_note k note d)
noted k note d is span = record { sound = is.sound; spans = spans_put 0 k note d.notes is.spans (subst (λ j. SpanIs j note) (omega arith) span) }

pub record PlaceIs (es : Entries) (named_is marked selecting resulting viewing : Option ℕ) (given : List Actual) (header_ends : ℕ) (round_it : Option ℕ) : Type 0 where
  pub named : OnSome (Own es) named_is
  pub mark : OnSome (Typed es) marked
  pub selector : OnSome (Typed es) selecting
  pub result : OnSome (Typed es) resulting
  pub viewed : OnSome (Typed es) viewing
  pub actuals : AllByRecursion (λ a. Own es (Actual.actual a)) given
  pub header_end : header_ends ≤ length es
  pub function : OnSome (Own es) round_it

abbrev pub AtIs : Entries → At → Type 0
AtIs es at = PlaceIs es at.named at.mark at.selector at.result at.viewed at.actuals at.header_end at.function

pub at_more : {es fs : Entries} → Grows es fs → (at : At) → AtIs es at → AtIs fs at
at_more {es} {fs} g at is = record {
  named = own_some_more g at.named is.named;
  mark = typed_some_more g at.mark is.mark;
  selector = typed_some_more g at.selector is.selector;
  result = typed_some_more g at.result is.result;
  viewed = typed_some_more g at.viewed is.viewed;
  actuals = all_weaker (λ a. Own es (Actual.actual a)) (λ a. Own fs (Actual.actual a)) (λ a own. own_more g a.actual own) at.actuals is.actuals;
  header_end = omega (arith, is.header_end, longer g);
  function = own_some_more g at.function is.function;
}

abbrev pub entries : Design → Entries
entries d = d.scopes.entered

pub record Comes (b : Bool) (d : Design) (o : Outcome) : Type 0 where
  pub grows : Grows (entries d) (entries o.design)
  pub design : DesignIs o.design
  pub at : AtIs (entries o.design) o.at
  pub tree : (n : ℕ) → length (entries o.design) ≤ n → (b ≡ true → o.at.next ≤ n) → TreeIs b n (entries o.design) o.tree

-- nothing is entered
pub comes : (b : Bool) (d : Design) (o : Outcome) → entries o.design ≡ entries d → DesignIs o.design → AtIs (entries d) o.at
    → ((n : ℕ) → length (entries d) ≤ n → (b ≡ true → o.at.next ≤ n) → TreeIs b n (entries d) o.tree) → Comes b d o
comes b d o e design at tree = record {
  grows = subst (Grows (entries d)) (sym e) (grows_not (entries d));
  design = design;
  at = subst (λ es. AtIs es o.at) (sym e) at;
  tree = subst (λ es. (n : ℕ) → length es ≤ n → (b ≡ true → o.at.next ≤ n) → TreeIs b n es o.tree) (sym e) tree;
}

pub point_sound : (at : At) (d : Design) → DesignIs d → IsSound (standpoint at d).scopes
point_sound at d is = sound_scopes d.scopes is.sound
