-- Declarations as they are entered.
use Rattle.std.proofs.Common.{◌≡◌, ◌+◌, ℕ, List, [], ◌∷◌, length, length-append, Option, Some, None, refl, sym, subst, arith}
use Rattle.std.specs.List.{AllByRecursion}
use Rattle.vd_declarations.specs.Classes.{types_of, named_by}
use Rattle.vd_declarations.specs.declared.classes.Class.{Class}
use Rattle.vd_declarations.specs.declared.declarations.Declaration.{Declaration}
use Rattle.vd_regions.specs.Scopes.{Scopes, Clause, with_clause, with_clauses, declaration_at, region_at}
use Rattle.vd_resolved.specs.Validity.{OnSome}
use Rattle.vd_name_rows.specs.declared.steps.Object.{Object}
use Rattle.vd_name_rows.specs.declared.steps.Object.TheVariants as object
use Rattle.vd_name_rows.specs.Rows.{class_of}
use Rattle.vd_name_rows.specs.Designs.{Design, with_scopes}
use Rattle.vd_name_rows.specs.Entering.{Word, declaration_of, entering, entering_as, entering_words}
use Rattle.vd_name_rows.specs.Members.{declared_in}
use Rattle.vd_name_rows.specs.declared.sorts.Sort.TheVariants as sort
use Rattle.vd_naming.specs.Units.{entering_libraries, clauses_again}
use Rattle.vd_naming_laws.proofs.Growth.{Entries, Own, Typed, IsFine, AreSound, Grows, grows_not, grows_both, typed_some_more, entry_sound, entry_grows}
use Rattle.vd_naming_laws.proofs.States.{SpansAre, DesignIs, entries}

-- a design after more is entered
pub record Entered (d e : Design) : Type 0 where
  pub grows : Grows (entries d) (entries e)
  pub design : DesignIs e

pub entered_not : (d : Design) → DesignIs d → Entered d d
entered_not d is = record { grows = grows_not (entries d); design = is }

pub entered_then : {c d e : Design} → Entered c d → Entered d e → Entered c e
entered_then a b = record { grows = grows_both a.grows b.grows; design = b.design }

-- a class that names nothing
pub record NamesNothing (c : Class) : Type 0 where
  pub named : named_by c ≡ []
  pub types : types_of c ≡ []

pub plain_fine : (es : Entries) (c : Class) (w : Word) (mark : Option ℕ) → NamesNothing c → OnSome (Typed es) mark → IsFine es (declaration_of c w mark)
plain_fine es c w mark none typed = record {
  mark = typed;
  parameters = tt;
  generics = tt;
  named = subst (AllByRecursion (Own es)) (sym none.named) tt;
  types = subst (AllByRecursion (Typed es)) (sym none.types) tt;
}

pub object_names : (o : Object) → NamesNothing (class_of o)
object_names object.GenericConstant = record { named = refl; types = refl }
object_names object.Parameter = record { named = refl; types = refl }
object_names object.Constant = record { named = refl; types = refl }
object_names object.Signal = record { named = refl; types = refl }
object_names object.Variable = record { named = refl; types = refl }
object_names object.RecordElement = record { named = refl; types = refl }
object_names object.LoopParameter = record { named = refl; types = refl }
object_names object.GenerateParameter = record { named = refl; types = refl }

pub one_entered : (rule region : ℕ) (new : Declaration) (d : Design) → DesignIs d → IsFine (entries d) new → Entered d (entering_as rule region new d).design
one_entered rule region new d is fine = record {
  grows = entry_grows d.scopes region new;
  design = record { sound = entry_sound d.scopes region new is.sound fine; spans = is.spans };
}

pub one_longer : (rule region : ℕ) (new : Declaration) (d : Design) → length (entries (entering_as rule region new d).design) ≡ length (entries d) + 1
one_longer rule region new d = length-append d.scopes.entered (record { region = region; declaration = new } ∷ [])

pub words_entered : (region : ℕ) (c : Class) (mark : Option ℕ) (ws : List Word) (d : Design) → DesignIs d → NamesNothing c → OnSome (Typed (entries d)) mark
    → Entered d (entering_words region c mark ws d).design
words_entered region c mark [] d is none typed = entered_not d is
words_entered region c mark (w ∷ ws) d is none typed =
    let new = declaration_of c w mark in
    let one = one_entered 304 region new d is (plain_fine (entries d) c w mark none typed) in
    let e = (entering region new d).design in
    entered_then one (words_entered region c mark ws e one.design none (typed_some_more one.grows mark typed))

pub words_longer : (region : ℕ) (c : Class) (mark : Option ℕ) (ws : List Word) (d : Design)
    → length (entries (entering_words region c mark ws d).design) ≡ length (entries d) + length ws
words_longer region c mark [] d = omega arith
words_longer region c mark (w ∷ ws) d =
    let one = one_longer 304 region (declaration_of c w mark) d in
    let rest = words_longer region c mark ws (entering region (declaration_of c w mark) d).design in
    omega (arith, one, rest)

-- ---- contexts again

libraries_entered : (region : ℕ) (ks : List ℕ) (d : Design) → DesignIs d → Entered d (entering_libraries region ks d).design
libraries_entered region [] d is = entered_not d is
libraries_entered region (k ∷ ks) d is =
    let new = declaration_at d.scopes k in
    let one = one_entered 304 region new d is (is.sound.fine k) in
    entered_then one (libraries_entered region ks (entering region new d).design one.design)

clauses_same : (region : ℕ) (cs : List Clause) (s : Scopes) → (with_clauses region cs s).entered ≡ s.entered
clauses_same region [] s = refl
clauses_same region (c ∷ cs) s = clauses_same region cs (with_clause s region c)

same_entered : (d e : Design) → DesignIs d → entries e ≡ entries d → e.notes ≡ d.notes → Entered d e
same_entered d e is same notes = record {
  grows = subst (Grows (entries d)) (sym same) (grows_not (entries d));
  design = record {
    sound = subst AreSound (sym same) is.sound;
    spans = subst (SpansAre 0) (sym notes) is.spans;
  };
}

pub clauses_entered : (region : ℕ) (inside : Option ℕ) (d : Design) → DesignIs d → Entered d (clauses_again region inside d)
clauses_entered region None d is = entered_not d is
clauses_entered region (Some context) d is =
    let first = libraries_entered region (declared_in context sort.Any d) d is in
    let e = (entering_libraries region (declared_in context sort.Any d) d).design in
    entered_then first
    (same_entered e (with_scopes e (with_clauses region (region_at d.scopes context).uses e.scopes)) first.design (clauses_same region (region_at d.scopes context).uses e.scopes) refl)
