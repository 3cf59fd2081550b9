-- What the walk comes to is what the group refuses. No name has a dash, so that a caller can name each in `#[tactic(auto, using(..))]`.
use Rattle.std.proofs.Common.{◌≡◌, Bool, List, None, Option, [], ap, ap₂, append_assoc, false, length, refl, sym, true, ℕ, ◌++◌, ◌∙◌, ◌∷◌}
use Rattle.std.proofs.lemmas.List.{append-nil}
use Rattle.std.proofs.Math.Seq.{take-append_seam}
use Rattle.std.specs.List.{filter}
use Rattle.vd_body_rules.proofs.StateLemmas.{along_declares, down_keeps}
use Rattle.vd_body_rules.proofs.TextLemmas.{behind_both}
use Rattle.vd_body_rules.specs.Texts.{behind, known_texts, or_nothing, texted, texts_by, texts_declared}
use Rattle.vd_body_rules.specs.Walk.{bodies_walker, knowing, texts_left}
use Rattle.vd_body_rules.specs.declared.declaring.Declares.{Declares}
use Rattle.vd_body_rules.specs.declared.walk.Kept.{Kept}
use Rattle.vd_bytes.specs.declared.answers.Refused.{Refused}
use Rattle.vd_bytes.specs.declared.places.Place.{Place}
use Rattle.vd_forest.specs.Forest.{Forest, more, nothing}
use Rattle.vd_forms.specs.declared.form.Form.{Form}
use Rattle.vd_walks.proofs.OrderLaws.{lesser_brackets}
use Rattle.vd_walks.specs.Least.{Judge, least, least_of, lesser}
use Rattle.vd_meaning.specs.Meanings.{made}
use Rattle.vd_meaning.specs.Names.{number_or}
use Rattle.vd_resolved.specs.Trees.{ResolvedTree}
use Rattle.vd_resolved.specs.declared.node.Resolved.{Resolved}
use Rattle.vd_value_rules.proofs.WalkLemmas.{firsts_of_rules_alone, least_alike}
use Rattle.vd_value_rules.specs.Groups.{bodies, firsts_by, judge_by}
use Rattle.vd_value_rules.specs.declared.firsts.Firsts.{Firsts}
use Rattle.vd_trees.specs.declared.revision.Revision.{Revision}
use Rattle.vd_value_rules.specs.Bodies.{body_broken, differs}
use Rattle.vd_value_rules.specs.Declaring.{declaring}
use Rattle.vd_value_rules.specs.Designs.{Design, design_of}
use Rattle.vd_value_rules.specs.Judging.{refused_if}
use Rattle.vd_value_rules.specs.Knowledge.{meaning_at}
use Rattle.vd_value_rules.specs.Rules.{is_of_names}
use Rattle.vd_value_rules.specs.Standings.{State, beginning}
use Rattle.vd_walks.specs.Walking.{Walked, followed, walked}
use Rattle.vd_body_rules.specs.declared.declaring.Declares.TheVariants as declares
use Rattle.vd_forms.specs.declared.form.Form.TheVariants as form

-- ---- of the state the texts of functions alone count

abbrev pub texts_judge : Design → Judge Resolved (List (ℕ × Forest Resolved))
texts_judge d = record {
  broken = λ xs n text place parts. body_broken n.form d (knowing (known_texts xs)) n place parts;
  down = λ xs n text place parts. xs;
  along = λ xs n text place parts. xs ++ texts_by (texted (declaring n.form)) d n parts (texts_declared d parts);
}

same_body : (f : Form) (d : Design) (s : State) (known : ℕ → Forest Resolved) (n : Resolved) (place : Place) (parts : Forest Resolved) → s.known.functions ≡ known
    → body_broken f d (knowing known) n place parts ≡ body_broken f d s n place parts
same_body form.FunctionBody d s known n place parts is =
    ap (λ (g : ℕ → Forest Resolved). refused_if (differs d (g (number_or (made n (meaning_at d 1 parts)))) parts) place 409) (sym is)
same_body _ d s known n place parts is = refl

none_of_names : (f : Form) (d : Design) (s : State) (n : Resolved) (place : Place) (parts : Forest Resolved) → filter is_of_names (body_broken f d s n place parts) ≡ []
none_of_names form.FunctionBody d s n place parts = by (differs d (s.known.functions (number_or (made n (meaning_at d 1 parts)))) parts)
  where
    by : (b : Bool) → filter is_of_names (refused_if b place 409) ≡ []
    by true = refl
    by false = refl
none_of_names _ d s n place parts = refl

same_least : (d : Design) (f : Forest Resolved) → least (texts_judge d) [] f ≡ least (judge_by bodies d) beginning f
same_least d f =
    least_alike (texts_judge d) (judge_by bodies d) (λ xs s. s.known.functions ≡ known_texts xs)
    (λ xs s n text place parts alike. same_body n.form d s (known_texts xs) n place parts alike)
    (λ xs s n text place parts alike. down_keeps n.form d n parts s.known ∙ alike)
    (λ xs s n text place parts alike.
    let here = texts_by (texted (declaring n.form)) d n parts (texts_declared d parts) in
    along_declares d n parts s.known ∙ ap (λ g. behind g here) alike ∙ sym (behind_both (λ _. nothing) xs here))
    [] beginning f refl

-- ---- the walk

left_is : (k : Declares) (d : Design) (n : Resolved) (parts : Forest Resolved) (xs es : List (ℕ × Forest Resolved))
    → texts_left k d n parts (length xs) (xs ++ es) ≡ xs ++ texts_by k d n parts es
left_is declares.Inside d n parts xs es = refl
left_is declares.Function d n parts xs es = append_assoc xs es ((number_or (made n (meaning_at d 1 parts)), parts) ∷ [])
left_is declares.Nothing d n parts xs es = take-append_seam xs es ∙ sym (append-nil xs)

module _ {G D : Type 0} (d : Design) where
  abbrev refusing : List (ℕ × Forest Resolved) → D → Option Refused → Walked G (List (ℕ × Forest Resolved)) D
  refusing xs table first = record { tree = nothing; at = xs; design = table; first = first }

  pub walk_is : (f : Forest Resolved) (xs : List (ℕ × Forest Resolved)) (table : D)
      → walked (bodies_walker d) f xs table ≡ refusing (xs ++ texts_declared d f) table (least (texts_judge d) xs f)
  walk_is nothing xs table = ap (λ ys. refusing ys table None) (sym (append-nil xs))
  walk_is (more n text place parts next) xs table =
      let declared = texts_by (texted (declaring n.form)) d n parts (texts_declared d parts) in
      let here = least_of (body_broken n.form d (knowing (known_texts xs)) n place parts) in
      let inside = least (texts_judge d) xs parts in
      let after = least (texts_judge d) (xs ++ declared) next in
      let kept : Kept = record { count = length xs; refused = here } in
      ap (λ (o : Walked G (List (ℕ × Forest Resolved)) D). followed ((bodies_walker d).leave kept n text place parts o) (walked (bodies_walker d) next)) (walk_is parts xs table)
      ∙ ap (λ ys. followed (refusing ys table (lesser here inside)) (walked (bodies_walker d) next)) (left_is (texted (declaring n.form)) d n parts xs (texts_declared d parts))
      ∙ ap (λ (o : Walked G (List (ℕ × Forest Resolved)) D). record o { first = lesser (lesser here inside) o.first }) (walk_is next (xs ++ declared) table)
      ∙ ap₂ (λ ys o. refusing ys table o) (append_assoc xs declared (texts_declared d next)) (lesser_brackets here inside after)

-- ---- the first refusals

pub firsts_are : {G D : Type 0} (r : Revision) (tree : ResolvedTree) (table : D) (texts : List (ℕ × Forest Resolved)) (units : Forest Resolved)
    (w : Walked G (List (ℕ × Forest Resolved)) D) (first : Option Refused)
    → texts ≡ [] → units ≡ tree.units → w ≡ walked (bodies_walker (design_of r tree)) units texts table → first ≡ w.first
    → record { of_names = None; of_rules = first } ≡ firsts_by bodies r tree
firsts_are {G} {D} r tree table texts units w first no_texts units_are is first_is =
    let d = design_of r tree in
    let firsts : Option Refused → Firsts = λ o. record { of_names = None; of_rules = o } in
    ap firsts
    (first_is
    ∙ ap (λ (o : Walked G (List (ℕ × Forest Resolved)) D). o.first)
    (is ∙ ap₂ (λ f xs. walked (bodies_walker d) f xs table) units_are no_texts ∙ walk_is d tree.units [] table)
    ∙ same_least d tree.units)
    ∙ sym (firsts_of_rules_alone bodies r tree (λ e s n text place parts. none_of_names n.form e s n place parts))

-- ---- a body

pub body_is : (d : Design) (xs : List (ℕ × Forest Resolved)) (n : Resolved) (place : Place) (parts : Forest Resolved) (number : ℕ) (text : Option (Forest Resolved)) (refused : Option Refused)
    → number ≡ number_or (made n (meaning_at d 1 parts)) → or_nothing text ≡ known_texts xs number
    → refused ≡ least_of (refused_if (differs d (or_nothing text) parts) place 409)
    → refused ≡ least_of (body_broken form.FunctionBody d (knowing (known_texts xs)) n place parts)
body_is d xs n place parts number text refused number_is text_is is =
    is ∙ ap (λ t. least_of (refused_if (differs d t parts) place 409)) (text_is ∙ ap (known_texts xs) number_is)
