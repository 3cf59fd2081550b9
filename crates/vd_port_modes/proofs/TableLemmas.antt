-- What stands in the tables is what the definitions say of a design.
use Rattle.std.proofs.Common.{◌≡◌, ◌==◌, ◌++◌, ◌||◌, ℕ, zero, suc, Bool, true, false, cond, List, [], ◌∷◌, Option, Some, None, map, get_or, slice_index_or, drop, refl, sym, ap, ap₂, ◌∙◌, arith}
use Rattle.std.proofs.lemmas.Bool.Decides.{nat_tests}
use Rattle.std.specs.Str.{bytes_eq}
use Rattle.vd_meaning.specs.Building.{Input}
use Rattle.vd_meaning.specs.Elaborations.{copied, element_as, mode_as, units_of, view_as, views_as, views_of_instances}
use Rattle.vd_meaning.specs.NodeFacets.{ByMode, ElementMode, Ports, View, ViewElement}
use Rattle.vd_meaning.specs.Instances.{element_mode, view_in}
use Rattle.vd_meaning.specs.Brackets.{or_else}
use Rattle.vd_meaning.specs.Names.{number_or}
use Rattle.vd_meaning.specs.Tables.{Table, copies_in, same_type, table}
use Rattle.vd_port_lists.specs.Listed.{one_by_one, own_views, read_element, read_port, read_view, views_of_listed, with_mode}
use Rattle.vd_port_lists.specs.declared.entries.ListedElement.{ListedElement}
use Rattle.vd_port_lists.specs.declared.entries.ListedInstance.{ListedInstance}
use Rattle.vd_port_lists.specs.declared.entries.ListedPort.{ListedPort}
use Rattle.vd_port_lists.specs.declared.modes.PortMode.{PortMode}
use Rattle.vd_port_lists.specs.declared.views.ListedView.{ListedView}
use Rattle.vd_port_modes.proofs.CountLemmas.{views_are_counted}
use Rattle.vd_port_modes.specs.Counts.{view_count}
use Rattle.vd_port_modes.specs.Source.{Source, copies_there, design_in}
use Rattle.vd_port_modes.specs.Tables.{AreTables, copied_before, copied_view, first_listed, found_at, found_before, found_in, names_listed, names_of, no_view, own_before, read_or_input, view_by, view_found}
use Rattle.vd_port_modes.specs.declared.found.Found.{Found}
use Rattle.vd_resolved.specs.Trees.{ResolvedTree}
use Rattle.vd_trees.specs.declared.revision.Revision.{Revision}
use Rattle.vd_value_rules.specs.Designs.{design_of, elements_of, is_listed, mode_of_port, mode_of_ports, port_among, ports_in}

-- ---- ports

first_mode : List (ℕ × ElementMode) → ℕ → ElementMode
first_mode [] n = ByMode Input
first_mode (p ∷ ps) n = cond (p.0 == n) p.1 (first_mode ps n)

read_first : (b : Bool) (mode : PortMode) (rest : Option PortMode) → read_or_input (cond b (Some mode) rest) ≡ cond b (Rattle.vd_port_lists.specs.Modes.read_mode mode) (read_or_input rest)
read_first true mode rest = refl
read_first false mode rest = refl

listed_first : (xs : List ListedPort) (n : ℕ) → read_or_input (first_listed xs n) ≡ first_mode (map read_port xs) n
unfolding first_mode
listed_first [] n = refl
listed_first (x ∷ xs) n =
    read_first (x.number == n) x.mode (first_listed xs n)
    ∙ ap (λ rest. cond (x.number == n) (Rattle.vd_port_lists.specs.Modes.read_mode x.mode) rest) (listed_first xs n)

either_mode : (a b : Bool) (mode rest : ElementMode) → cond a mode (cond b mode rest) ≡ cond (a || b) mode rest
either_mode true b mode rest = refl
either_mode false b mode rest = refl

first_together : (mode : ElementMode) (ns : List ℕ) (rest : List (ℕ × ElementMode)) (n : ℕ)
    → first_mode (with_mode mode ns ++ rest) n ≡ cond (is_listed n ns) mode (first_mode rest n)
unfolding first_mode
first_together mode [] rest n = refl
first_together mode (m ∷ ms) rest n =
    ap (λ other. cond (m == n) mode other) (first_together mode ms rest n) ∙ either_mode (m == n) (is_listed n ms) mode (first_mode rest n)

among_first : (b : Bool) (p : Ports) (rest : Option Ports) → mode_of_ports (cond b (Some p) rest) ≡ cond b p.mode (mode_of_ports rest)
among_first true p rest = refl
among_first false p rest = refl

first_among : (ps : List Ports) (n : ℕ) → mode_of_ports (port_among ps n) ≡ first_mode (one_by_one ps) n
unfolding first_mode
first_among [] n = refl
first_among (p ∷ ps) n =
    among_first (is_listed n p.objects.numbers) p (port_among ps n)
    ∙ ap (λ rest. cond (is_listed n p.objects.numbers) p.mode rest) (first_among ps n)
    ∙ sym (first_together p.mode p.objects.numbers (one_by_one ps) n)

pub modes_are_found : (r : Revision) (tree : ResolvedTree) (xs : List ListedPort) → map read_port xs ≡ one_by_one (ports_in (units_of r tree).units)
    → (n : ℕ) → read_or_input (first_listed xs n) ≡ mode_of_port (design_of r tree) n
modes_are_found r tree xs listed n = listed_first xs n ∙ ap (λ ys. first_mode ys n) listed ∙ sym (first_among (ports_in (units_of r tree).units) n)

-- ---- views

or_else_by : {A : Type 0} (b : Bool) (x : A) (first rest : Option A) → cond b (Some x) (or_else first rest) ≡ or_else (cond b (Some x) first) rest
or_else_by true x first rest = refl
or_else_by false x first rest = refl

views_joined : (xs ys : List View) (d : Option ℕ) → view_in (xs ++ ys) d ≡ or_else (view_in xs d) (view_in ys d)
views_joined [] ys d = refl
views_joined (x ∷ xs) ys d =
    ap (λ rest. cond (same_type (Some x.view) d) (Some x) rest) (views_joined xs ys d)
    ∙ or_else_by (same_type (Some x.view) d) x (view_in xs d) (view_in ys d)

-- what stands at a place, and behind it
at_place : {A : Type 0} (whole : List A) (k : ℕ) (x d : A) (xs : List A) → drop k whole ≡ x ∷ xs → get_or whole k d ≡ x
at_place [] zero x d xs is = absurd (cc)
at_place [] (suc k) x d xs is = absurd (cc)
at_place (y ∷ ys) zero x d xs is = cc
at_place (y ∷ ys) (suc k) x d xs is = at_place ys k x d xs is

behind_place : {A : Type 0} (whole : List A) (k : ℕ) (x : A) (xs : List A) → drop k whole ≡ x ∷ xs → drop (suc k) whole ≡ xs
behind_place [] zero x xs is = absurd (cc)
behind_place [] (suc k) x xs is = absurd (cc)
behind_place (y ∷ ys) zero x xs is = cc
behind_place (y ∷ ys) (suc k) x xs is = behind_place ys k x xs is

module _ (whole : List ListedView) (all : List (List (ℕ × ℕ))) (n : ℕ) where
  found_by : (b : Bool) (one : Found) (rest : Option Found)
      → view_found whole all n (cond b (Some one) rest) ≡ cond b (view_found whole all n (Some one)) (view_found whole all n rest)
  found_by true one rest = refl
  found_by false one rest = refl

  own_found : (k : ℕ) (vs : List ListedView) (behind : Option Found) → drop k whole ≡ vs
      → view_found whole all n (own_before k vs n behind) ≡ or_else (view_in (map read_view vs) (Some n)) (view_found whole all n behind)
  own_found k [] behind is = refl
  own_found k (v ∷ vs) behind is =
      found_by (v.view == n) (record { view = k; instance = None }) (own_before (suc k) vs n behind)
      ∙ ap₂ (λ x rest. cond (v.view == n) (Some (read_view x)) rest) (at_place whole k v no_view vs is)
      (own_found (suc k) vs behind (behind_place whole k v vs is))
      ∙ or_else_by (v.view == n) (read_view v) (view_in (map read_view vs) (Some n)) (view_found whole all n behind)

  -- the copy that has the number
  copy_by : (b : Bool) (cs : List (ℕ × ℕ)) (v : View) (copy : ℕ) (rest : Option View) → (copy == n) ≡ b
      → cond b (Some (copied_view cs n v)) rest ≡ cond b (Some (copied_view cs copy v)) rest
  copy_by true cs v copy rest same = let e : n ≡ copy = grind (arith, nat_tests) in ap (λ m. Some (copied_view cs m v)) e
  copy_by false cs v copy rest same = refl

  copied_step : (o : Option ℕ) (cs : List (ℕ × ℕ)) (v : View) (others : List View) (after : Option View)
      → cond (same_type o (Some n)) (Some (copied_view cs n v)) (or_else (view_in others (Some n)) after)
      ≡ or_else (view_in (view_as cs v o ++ others) (Some n)) after
  copied_step None cs v others after = refl
  copied_step (Some copy) cs v others after =
      copy_by (copy == n) cs v copy (or_else (view_in others (Some n)) after) refl
      ∙ or_else_by (copy == n) (copied_view cs copy v) (view_in others (Some n)) after

  copied_found : (instance : ℕ) (cs : List (ℕ × ℕ)) (k : ℕ) (vs : List ListedView) (behind : Option Found) → drop k whole ≡ vs → get_or all instance [] ≡ cs
      → view_found whole all n (copied_before instance cs k vs n behind) ≡ or_else (view_in (views_as cs (map read_view vs)) (Some n)) (view_found whole all n behind)
  copied_found instance cs k [] behind is are = refl
  copied_found instance cs k (v ∷ vs) behind is are =
      found_by (same_type (copied cs v.view) (Some n)) (record { view = k; instance = Some instance }) (copied_before instance cs (suc k) vs n behind)
      ∙ ap₂ (λ ds x. cond (same_type (copied cs v.view) (Some n)) (Some (copied_view ds n (read_view x))) (view_found whole all n (copied_before instance cs (suc k) vs n behind)))
      are (at_place whole k v no_view vs is)
      ∙ ap (λ rest. cond (same_type (copied cs v.view) (Some n)) (Some (copied_view cs n (read_view v))) rest)
      (copied_found instance cs (suc k) vs behind (behind_place whole k v vs is) are)
      ∙ copied_step (copied cs v.view) cs (read_view v) (views_as cs (map read_view vs)) (view_found whole all n behind)

  instance_views : List (List (ℕ × ℕ)) → List View
  instance_views [] = []
  instance_views (cs ∷ css) = views_as cs (map read_view whole) ++ instance_views css

  instances_found : (instance : ℕ) (css : List (List (ℕ × ℕ))) → drop instance all ≡ css
      → view_found whole all n (found_before instance whole css n) ≡ view_in (instance_views css) (Some n)
  unfolding instance_views
  instances_found instance [] is = refl
  instances_found instance (cs ∷ css) is =
      copied_found instance cs 0 whole (found_before (suc instance) whole css n) refl (at_place all instance cs [] css is)
      ∙ ap (or_else (view_in (views_as cs (map read_view whole)) (Some n))) (instances_found (suc instance) css (behind_place all instance cs css is))
      ∙ sym (views_joined (views_as cs (map read_view whole)) (instance_views css) (Some n))

  all_found : view_found whole all n (found_in whole all n) ≡ view_in (map read_view whole ++ instance_views all) (Some n)
  all_found =
      own_found 0 whole (found_before 0 whole all n) refl
      ∙ ap (or_else (view_in (map read_view whole) (Some n))) (instances_found 0 all refl)
      ∙ sym (views_joined (map read_view whole) (instance_views all) (Some n))

  listed_views : (t : Table) (xs : List ListedInstance) → instance_views (map (λ x. copies_in t x.generic x.instance) xs) ≡ views_of_listed t (map read_view whole) xs
  unfolding instance_views
  listed_views t [] = refl
  listed_views t (x ∷ xs) = ap (λ ys. views_as (copies_in t x.generic x.instance) (map read_view whole) ++ ys) (listed_views t xs)

pub views_are_found : (r : Revision) (tree : ResolvedTree) (whole : List ListedView) (xs : List ListedInstance) (all : List (List (ℕ × ℕ)))
    → map read_view whole ≡ own_views r tree
    → ((views : List View) → views_of_listed (table r tree.declarations) views xs ≡ views_of_instances (units_of r tree).units views)
    → all ≡ map (λ x. copies_in (table r tree.declarations) x.generic x.instance) xs
    → (n : ℕ) → view_found whole all n (found_in whole all n) ≡ view_in (design_of r tree).units.views (Some n)
views_are_found r tree whole xs all own copies are n =
    all_found whole all n
    ∙ ap (λ css. view_in (map read_view whole ++ instance_views whole all n css) (Some n)) are
    ∙ ap (λ vs. view_in (map read_view whole ++ vs) (Some n)) (listed_views whole all n (table r tree.declarations) xs ∙ copies (map read_view whole))
    ∙ ap (λ vs. view_in (vs ++ views_of_instances (units_of r tree).units vs) (Some n)) own

pub are_tables : (r : Revision) (tree : ResolvedTree) (ports : List ListedPort) (whole : List ListedView) (xs : List ListedInstance) (all : List (List (ℕ × ℕ)))
    (modes : ℕ → Option PortMode) (found : ℕ → Option Found) (count : ℕ)
    → map read_port ports ≡ one_by_one (ports_in (units_of r tree).units)
    → map read_view whole ≡ own_views r tree
    → ((views : List View) → views_of_listed (table r tree.declarations) views xs ≡ views_of_instances (units_of r tree).units views)
    → all ≡ map (copies_there tree.declarations) xs
    → ((n : ℕ) → modes n ≡ first_listed ports n) → ((n : ℕ) → found n ≡ found_in whole all n)
    → count ≡ view_count whole all
    → AreTables r tree modes found whole all count
are_tables r tree ports whole xs all modes found count listed own copies are modes_are found_are count_is = record {
  modes_are = λ n. ap read_or_input (modes_are n) ∙ modes_are_found r tree ports listed n;
  views_are = λ n. ap (view_found whole all n) (found_are n) ∙ views_are_found r tree whole xs all own copies are n;
  count_is = views_are_counted r tree whole xs all count own copies are count_is;
}

-- ---- modes of elements of copies

mode_by_name : (b : Bool) (cs : List (ℕ × ℕ)) (x rest : ElementMode) → cond b (mode_as cs x) (mode_as cs rest) ≡ mode_as cs (cond b x rest)
mode_by_name true cs x rest = refl
mode_by_name false cs x rest = refl

pub copied_mode : (cs : List (ℕ × ℕ)) (xs : List ViewElement) (name : List ℕ) → element_mode (map (element_as cs) xs) name ≡ mode_as cs (element_mode xs name)
copied_mode cs [] name = refl
copied_mode cs (x ∷ xs) name =
    ap (λ rest. cond (bytes_eq x.name name) (mode_as cs x.mode) rest) (copied_mode cs xs name)
    ∙ mode_by_name (bytes_eq x.name name) cs x.mode (element_mode xs name)

-- ---- names of elements of copies

names_read : (xs : List ListedElement) → names_listed xs ≡ names_of (map read_element xs)
names_read [] = refl
names_read (x ∷ xs) = ap (λ ns. x.name ∷ ns) (names_read xs)

names_copied : (cs : List (ℕ × ℕ)) (xs : List ViewElement) → names_of xs ≡ names_of (map (element_as cs) xs)
names_copied cs [] = refl
names_copied cs (x ∷ xs) = ap (λ ns. x.name ∷ ns) (names_copied cs xs)

names_by : (instance : Option ℕ) (all : List (List (ℕ × ℕ))) (n : ℕ) (v : ListedView) → names_listed v.elements ≡ names_of (view_by instance all n v).elements
names_by None all n v = names_read v.elements
names_by (Some instance) all n v = names_read v.elements ∙ names_copied (get_or all instance []) (map read_element v.elements)

pub names_found : (vs : List ListedView) (all : List (List (ℕ × ℕ))) (n : ℕ) (found : Found)
    → names_listed (slice_index_or vs found.view no_view).elements ≡ names_of (elements_of (view_found vs all n (Some found)))
names_found vs all n found = names_by found.instance all n (slice_index_or vs found.view no_view)

view_of_none : (vs : List View) → view_in vs None ≡ None
view_of_none [] = refl
view_of_none (v ∷ vs) = view_of_none vs

tables_find : (r : Revision) (tree : ResolvedTree) (modes : ℕ → Option PortMode) (found : ℕ → Option Found) (vs : List ListedView) (all : List (List (ℕ × ℕ))) (count : ℕ)
    → AreTables r tree modes found vs all count → (view : Option ℕ)
    → view_found vs all (number_or view) (found_at found view) ≡ view_in (design_of r tree).units.views view
tables_find r tree modes found vs all count are None = sym (view_of_none (design_of r tree).units.views)
tables_find r tree modes found vs all count are (Some n) = are.views_are n

-- what is asked of the view that is found is asked of the view that is meant
pub view_answered : {A : Type 0} (g : Option View → A) {r : Revision} {tree : ResolvedTree} {modes : ℕ → Option PortMode} {found : ℕ → Option Found}
    {vs : List ListedView} {all : List (List (ℕ × ℕ))} {count : ℕ}
    → AreTables r tree modes found vs all count
    → (vs' : List ListedView) (all' : List (List (ℕ × ℕ))) (s : Source) (view : Option ℕ) (o : Option Found) (x : A)
    → record { revision = r; tree = tree } ≡ s → vs' ≡ vs → all' ≡ all → o ≡ found_at found view → ((n : ℕ) → x ≡ g (view_found vs' all' n o))
    → x ≡ g (view_in (design_in s).units.views view)
view_answered g {r} {tree} {modes} {found} {vs} {all} {count} are vs' all' s view o x is_source is_vs is_all is_o is =
    is (number_or view)
    ∙ ap₂ (λ ws ds. g (view_found ws ds (number_or view) o)) is_vs is_all
    ∙ ap (λ p. g (view_found vs all (number_or view) p)) is_o
    ∙ ap g (tables_find r tree modes found vs all count are view)
    ∙ ap (λ z. g (view_in (design_in z).units.views view)) is_source

-- the names of the elements are those of the view that is meant, whatever the copies are
pub names_answered : {r : Revision} {tree : ResolvedTree} {modes : ℕ → Option PortMode} {found : ℕ → Option Found}
    {vs : List ListedView} {all : List (List (ℕ × ℕ))} {count : ℕ}
    → AreTables r tree modes found vs all count
    → (vs' : List ListedView) (s : Source) (view : Option ℕ) (o : Option Found) (x : List (List ℕ))
    → record { revision = r; tree = tree } ≡ s → vs' ≡ vs → o ≡ found_at found view
    → ((copies : List (List (ℕ × ℕ))) (n : ℕ) → x ≡ names_of (elements_of (view_found vs' copies n o)))
    → x ≡ names_of (elements_of (view_in (design_in s).units.views view))
names_answered {r} {tree} {modes} {found} {vs} {all} are vs' s view o x is_source is_vs is_o is =
    view_answered (λ v. names_of (elements_of v)) are vs' all s view o x is_source is_vs refl is_o (is all)
