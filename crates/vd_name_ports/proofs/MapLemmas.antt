-- The elements of a port map so far, in a store that grows.
use Rattle.std.proofs.Common.{◌≡◌, ◌≤◌, ℕ, Bool, false, List, ◌∷◌, length, Option, None, refl, ap, ◌∙◌}
use Rattle.vd_bytes.specs.declared.answers.Refused.{Refused}
use Rattle.vd_bytes.specs.declared.places.Place.{Place}
use Rattle.vd_forest.specs.Forest.{Forest, nothing, more, joined, turned}
use Rattle.vd_forest.specs.Store.{at, Holds, Extends}
use Rattle.vd_forest.proofs.ForestLemmas.{turned_turned, turned_is, joined_nothing}
use Rattle.vd_forms.specs.declared.form.Form.{Form}
use Rattle.vd_resolved.specs.declared.node.Resolved.{Resolved}
use Rattle.vd_name_rows.specs.Designs.{At, Design, Outcome}
use Rattle.vd_name_rows.specs.Refusals.{lesser, broken, broken_if}
use Rattle.vd_naming.specs.Associations.{is_among_numbers}
use Rattle.vd_naming.specs.Expressions.{resolved, unresolved}
use Rattle.vd_naming.specs.Ports.{Map, with_element, with_other, names_of_expression, missing_port, map_outcome}
use Rattle.vd_name_entering.specs.Made.{IsMade}
use Rattle.vd_name_entering.specs.declared.made.Made.{Made}
use Rattle.vd_name_expressions.specs.Reads.{IsRead}
use Rattle.vd_name_expressions.specs.declared.reading.Read.{Read}
use Rattle.vd_name_ports.specs.Maps.{seen_map, IsMapped}
use Rattle.vd_name_ports.specs.declared.elements.Mapped as code

-- ---- a store that grows

abbrev seen_with : code.Mapped → Forest Resolved → Map
seen_with m trees = record { tree = turned trees nothing; first = m.first; given = m.given; is_known = m.is_known; is_named = m.is_named }

pub seen_kept : (fs hs : List (Forest Resolved)) (m : code.Mapped) → m.trees ≤ length fs → Extends fs hs → seen_map hs m ≡ seen_map fs m
seen_kept fs hs m within grown = ap (seen_with m) (grown.keeps m.trees within)

-- ---- one element more

turned_behind : (some old : Forest Resolved) → turned (turned some old) nothing ≡ joined (turned old nothing) some
turned_behind some old = turned_turned some old nothing ∙ ap (turned old) (joined_nothing some) ∙ turned_is old some

abbrev map_of : Forest Resolved → Option Refused → List ℕ → Bool → Bool → Map
map_of tree first given known named = record { tree = tree; first = first; given = given; is_known = known; is_named = named }

same_map : (tree tree' : Forest Resolved) (first first' : Option Refused) (given given' : List ℕ) (known known' named named' : Bool)
    → tree ≡ tree' → first ≡ first' → given ≡ given' → known ≡ known' → named ≡ named'
    → map_of tree first given known named ≡ map_of tree' first' given' known' named'
same_map tree tree' first first' given given' known known' named named' trees firsts givens knowns nameds = cc

module _ (fs gs : List (Forest Resolved)) (old new : code.Mapped) where
  trees_added : (number : ℕ) (some : Forest Resolved) → at fs number ≡ some → Holds gs new.trees (turned (at fs number) (at fs old.trees))
      → turned (at gs new.trees) nothing ≡ joined (turned (at fs old.trees) nothing) some
  trees_added number some is added =
      ap (λ f. turned f nothing) (added.is ∙ ap (λ f. turned f (at fs old.trees)) is) ∙ turned_behind some (at fs old.trees)

  -- for a port
  pub element_added : (k : ℕ) (place : Place) (o : Outcome) (read : Read) → IsRead fs read o
      → Holds gs new.trees (turned (at fs read.tree) (at fs old.trees))
      → new.first ≡ lesser old.first (lesser (broken_if (is_among_numbers old.given k) 310 place) read.first)
      → new.given ≡ k ∷ old.given → new.is_known ≡ old.is_known → new.is_named ≡ old.is_named
      → IsMapped gs new (with_element k place o (seen_map fs old))
  element_added k place o read is added first given known named = record {
    within = added.within;
    is =
        same_map _ _ _ _ _ _ _ _ _ _ (trees_added read.tree o.tree is.holds.is added)
        (first ∙ ap (λ r. lesser old.first (lesser (broken_if (is_among_numbers old.given k) 310 place) r)) is.first) given known named;
  }

  -- for none
  pub other_added : (a : At) (d : Design) (place : Place) (tree : Forest Form) (number : ℕ) (inner : Option Refused)
      → Holds fs number (unresolved tree) → Holds gs new.trees (turned (at fs number) (at fs old.trees)) → inner ≡ names_of_expression a d tree
      → new.first ≡ lesser old.first (lesser (broken 310 place) inner) → new.given ≡ old.given → new.is_known ≡ false → new.is_named ≡ old.is_named
      → IsMapped gs new (with_other a d place tree (seen_map fs old))
  other_added a d place tree number inner held added names first given known named = record {
    within = added.within;
    is =
        same_map _ _ _ _ _ _ _ _ _ _ (trees_added number (unresolved tree) held.is added)
        (first ∙ ap (λ r. lesser old.first (lesser (broken 310 place) r)) names) given known named;
  }

-- ---- the whole map

pub map_made : (a : At) (d : Design) (f : Form) (text : List ℕ) (place : Place) (ports : List ℕ) (hs ks gs : List (Forest Resolved)) (all : code.Mapped)
    (m : Map) (parts : ℕ) (made : Made) (missing : Option Refused)
    → seen_map hs all ≡ m → Holds ks parts (turned (at hs all.trees) nothing)
    → Holds gs made.tree (more (resolved f None None) text place (at ks parts) nothing)
    → missing ≡ missing_port a d ports (seen_map hs all) → made.first ≡ lesser all.first missing
    → IsMade gs d made (map_outcome a d f text place ports m)
map_made a d f text place ports hs ks gs all m parts made missing same turns added missings first = record {
  holds = record {
    within = added.within;
    is = added.is ∙ ap (λ t. more (resolved f None None) text place t nothing) (turns.is ∙ ap (λ (x : Map). x.tree) same);
  };
  design = refl;
  first =
      first ∙ ap (λ (x : Map). lesser x.first missing) same
      ∙ ap (lesser m.first) (missings ∙ ap (missing_port a d ports) same);
}
