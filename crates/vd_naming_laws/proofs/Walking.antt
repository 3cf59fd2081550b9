-- The whole walk names what is declared.
use Rattle.std.proofs.Common.{◌≡◌, ◌≤◌, ◌==◌, ◌&&◌, ◌||◌, ℕ, Bool, true, false, List, [], ◌∷◌, length, refl, sym, ap, ◌∙◌, subst, arith, if◌then◌else◌, eqb-true}
use Rattle.std.proofs.lemmas.Bool.{and_parts, false≢true}
use Rattle.std.specs.List.{AllByRecursion, list_all}
use Rattle.vd_bytes.specs.declared.places.Place.{Place}
use Rattle.vd_declarations.specs.Classes.{types_of}
use Rattle.vd_forest.specs.Forest.{Forest, nothing, more}
use Rattle.vd_forms.specs.declared.form.Form.{Form}
use Rattle.vd_forms.specs.declared.form.Form.TheVariants as form
use Rattle.vd_forms.specs.Forms.{is_among, expressions}
use Rattle.vd_predefined.specs.declared.numbers.TheConstants.{TIME, STRING, SEVERITY_LEVEL}
use Rattle.vd_walks.specs.Walking.{Done, Inside, through, walked, together}
use Rattle.vd_name_rows.specs.declared.steps.Want as steps
use Rattle.vd_name_rows.specs.declared.steps.Want.TheVariants as want
use Rattle.vd_name_rows.specs.declared.steps.Step.{Step}
use Rattle.vd_name_rows.specs.declared.steps.Step.TheVariants as step
use Rattle.vd_name_rows.specs.declared.steps.Ending.{Ending}
use Rattle.vd_name_rows.specs.declared.steps.Ending.TheVariants as ending
use Rattle.vd_name_rows.specs.Rows.{row_of}
use Rattle.vd_name_rows.specs.Designs.{At, Design, Outcome}
use Rattle.vd_naming.specs.Endings.{Ended}
use Rattle.vd_naming.specs.Expressions.{expression}
use Rattle.vd_naming.specs.Statements.{alone}
use Rattle.vd_naming.specs.Naming.{Kept, Entered, looked, looked_at, left_by, done, naming, step_of, steps_behind, stepped, index_of_array}
use Rattle.vd_naming.specs.Openings.{opened}
use Rattle.vd_naming.specs.Views.{of_viewed_record}
use Rattle.vd_naming_laws.proofs.Growth.{Entries, at as entry_at, Typed, Grows, grows_not, grows_both, longer}
use Rattle.vd_naming_laws.proofs.Appending.{leave_appends, walk_appends, left_design}
use Rattle.vd_naming_laws.proofs.Keeping.{Keeps, EntryKeeps, done_keeps, leave_keeps}
use Rattle.vd_naming_laws.proofs.Expressing.{GivenIs}
use Rattle.vd_naming_laws.proofs.Stepping.{skipped_goes, word_goes, simple_name_goes, names_goes, surplus_goes, mark_goes, view_name_goes, instance_entity_goes, generic_package_goes, generic_function_goes, use_name_goes, context_name_goes, element_names_goes, result_goes, expression_goes, target_goes, array_index_goes, selector_goes, index_mark_goes, parameter_goes, label_goes, library_word_goes, entity_word_goes, label_name_goes, converse_goes, instance_architecture_goes}
use Rattle.vd_naming_laws.proofs.Mapping.{generic_map_goes, port_map_goes}
use Rattle.vd_naming_laws.proofs.Opening.{opened_opens}
use Rattle.vd_naming_laws.proofs.Ending.{EndIs, ended_goes}
use Rattle.vd_naming_laws.proofs.States.{TreeIs, joined_is, tree_more, DesignIs, AtIs, at_more, entries, Comes}

-- ---- the types that rows name

abbrev given_ok : Step → Bool
given_ok (step.Expression (want.Given t)) = (t == TIME) || ((t == STRING) || (t == SEVERITY_LEVEL))
given_ok _ = true

pub record StepsOk (left : List Step) (others : Step) : Type 0 where
  pub left_ok : list_all given_ok left ≡ true
  pub others_ok : given_ok others ≡ true

rows_ok : (f : Form) → (list_all given_ok (row_of f).steps && given_ok (row_of f).rest) ≡ true
rows_ok form.Absent = refl
rows_ok _ = refl

row_ok : (f : Form) → StepsOk (row_of f).steps (row_of f).rest
row_ok f = let a = and_parts (list_all given_ok (row_of f).steps) (given_ok (row_of f).rest) (rows_ok f) in record { left_ok = a.0; others_ok = a.1 }

first_ok : (left : List Step) (others : Step) → StepsOk left others → given_ok (elim left as (λ _. Step) [ [] ↦ others | s ∷ ss ↦ s ]) ≡ true
first_ok [] others ok = ok.others_ok
first_ok (s ∷ ss) others ok = (and_parts (given_ok s) (list_all given_ok ss) ok.left_ok).0

behind_ok : (left : List Step) (others : Step) → StepsOk left others → StepsOk (steps_behind left) others
behind_ok [] others ok = ok
behind_ok (s ∷ ss) others ok = record { left_ok = (and_parts (given_ok s) (list_all given_ok ss) ok.left_ok).1; others_ok = ok.others_ok }

one_of : (P : ℕ → Type 0) (t u : ℕ) (c : Bool) → P u → (c ≡ true → P t) → ((t == u) || c) ≡ true → P t
one_of P t u c p others h = by (t == u) refl h
  where
    by : (e : Bool) → (t == u) ≡ e → (e || c) ≡ true → P t
    by true same h = subst P (sym (eqb-true t u same)) p
    by false same h = others h

-- ---- steps, one tree at a time

module _ (b : Bool) where
  pub record Enters (d : Design) (inside : At) (e : Design) : Type 0 where
    pub same : entries e ≡ entries d
    pub design : DesignIs e
    pub here : AtIs (entries e) inside

  abbrev EntryGoes : Design → Entered → Type 0
  EntryGoes d (Done o) = Comes b d o
  EntryGoes d (Inside inside e k) = Enters d inside e

  entry_if : (d : Design) (c : Bool) (x y : Entered) → EntryGoes d x → EntryGoes d y → EntryGoes d (if c then x else y)
  entry_if d true x y p q = p
  entry_if d false x y p q = q

  module _ (whole : Forest Form) (f : Form) (text : List ℕ) (place : Place) (parts : Forest Form) (at : At) (d : Design) (is : DesignIs d) (a : AtIs (entries d) at) where
    look : (g : Form) (s : Step) → EntryGoes d (looked s g place parts at d)
    look g s =
        let x = opened_opens at d is a g place parts in
        record { same = x.same; design = x.design; here = subst (λ es. AtIs es (opened g at d place parts).at) (sym x.same) x.here }

    given : (w : steps.Want) → given_ok (step.Expression w) ≡ true → GivenIs b at d is w
    given (want.Given t) h =
        one_of (Typed (entries d)) t TIME ((t == STRING) || (t == SEVERITY_LEVEL)) is.sound.time
        (one_of (Typed (entries d)) t STRING (t == SEVERITY_LEVEL) is.sound.string (λ e. subst (Typed (entries d)) (sym (eqb-true t SEVERITY_LEVEL e)) is.sound.severity)) h
    given want.AtHand h = tt
    given want.Condition h = tt
    given want.Free h = tt
    given want.Choice h = tt
    given want.Range h = tt
    given want.Index h = tt
    given want.AnyRange h = tt

    index : (g : Form) → EntryGoes d (index_of_array g text place parts at d)
    index form.UnconstrainedIndex = look form.UnconstrainedIndex step.ArrayIndex
    index g = array_index_goes b at d is a g text place parts

    done_goes : (s : Step) → given_ok s ≡ true → EntryGoes d (done whole s f text place parts at d)
    done_goes step.Skip h = skipped_goes b at d is a f text place parts
    done_goes step.Look h = look f step.Look
    done_goes step.Within h = record { same = refl; design = is; here = a }
    done_goes (step.Expression w) h = expression_goes b at d is a f text place parts w (given w h)
    done_goes step.Chosen h =
        entry_if d (is_among expressions f) (Done (expression want.AtHand at d (alone f text place parts))) (looked step.Chosen f place parts at d)
        (expression_goes b at d is a f text place parts want.AtHand tt) (look f step.Chosen)
    done_goes step.Surplus h = surplus_goes b at d is a f text place parts
    done_goes step.Word h = word_goes b at d is a f text place parts
    done_goes step.SimpleName h = simple_name_goes b at d is a f text place parts
    done_goes step.Names h = names_goes b at d is a f text place parts
    done_goes step.Label h = label_goes b at d is a f text place
    done_goes step.LabelName h = label_name_goes b at d is a f text place
    done_goes step.Mark h = mark_goes b at d is a f text place parts
    done_goes step.Result h = result_goes b at d is a f text place parts
    done_goes step.IndexMark h = index_mark_goes b at d is a f text place parts
    done_goes step.Target h = target_goes b at d is a f text place parts
    done_goes step.Selector h = selector_goes b at d is a f text place parts
    done_goes (step.Parameter object) h = parameter_goes b at d is a f text place parts object
    done_goes step.LibraryWord h = library_word_goes b at d is a f text place
    done_goes step.UseName h = use_name_goes b at d is a f text place parts
    done_goes step.ContextName h = context_name_goes b at d is a f text place parts
    done_goes step.EntityWord h = entity_word_goes b at d is a f text place
    done_goes step.ArrayIndex h = index f
    done_goes step.ViewName h = view_name_goes b at d is a f text place parts
    done_goes step.Converse h = converse_goes b at d is a f text place
    done_goes step.ViewSubtype h = look f step.ViewSubtype
    done_goes step.ElementNames h = element_names_goes b at d is a f text place parts
    done_goes step.GenericPackage h = generic_package_goes b at d is a f text place parts
    done_goes step.GenericFunctionName h = generic_function_goes b at d is a f text place parts
    done_goes step.InstanceEntity h = instance_entity_goes b at d is a f text place parts
    done_goes step.InstanceArchitecture h = instance_architecture_goes b at d is a whole f text place
    done_goes step.Generics h = generic_map_goes b at d is a f text place parts
    done_goes step.Ports h = port_map_goes b at d is a f text place parts

  viewed_goes : (d : Design) (f : Form) (place : Place) (at : At) (o : Outcome) → Comes b d o → Comes b d (of_viewed_record f place at o)
  viewed_goes d form.Absent place at o y = y
  viewed_goes d _ place at o y = record { grows = y.grows; design = y.design; at = y.at; tree = y.tree }

  left_goes : (d : Design) (s : Step) (f : Form) (place : Place) (at : At) (o : Outcome) → Comes b d o → Comes b d (left_by s f place at o)
  left_goes d step.ViewSubtype f place at o y = viewed_goes d f place at o y
  left_goes d _ f place at o y = y

  together_goes : (d : Design) (o p : Outcome) → Comes b d o → Comes b o.design p → (b ≡ true → o.at.next ≤ p.at.next) → Comes b d (together o p)
  together_goes d o p x y up = record {
    grows = grows_both x.grows y.grows;
    design = y.design;
    at = y.at;
    tree = λ n h next.
        joined_is b n (entries p.design) o.tree p.tree
        (tree_more b n n y.grows (omega arith) o.tree (x.tree n (let l = longer y.grows in omega (arith, h, l)) (λ t. let u = up t in let m = next t in omega (arith, u, m)))) (y.tree n h next);
  }

-- ---- types alone, and no numbers

free : {A : Type 0} → false ≡ true → A
free t = absurd (false≢true t)

module _ (x : Ended) (is : DesignIs x.inner.design) (outer : AtIs (entries x.inner.design) x.outer) (inner : AtIs (entries x.inner.design) x.inner.at)
    (tree : (n : ℕ) → length (entries x.inner.design) ≤ n → (false ≡ true → x.inner.at.next ≤ n) → TreeIs false n (entries x.inner.design) x.inner.tree) where
  end_free : (whole : Forest Form) (e : Ending) → EndIs false x is outer inner tree whole e
  end_free whole ending.Typed = tt
  end_free whole ending.First = (λ t. free t, λ t. free t)
  end_free whole ending.NewType = (λ t. free t, λ t. free t)
  end_free whole ending.NewArchitecture = (λ t. free t, λ t. free t)
  end_free whole _ = λ t. free t

module _ (whole : Forest Form) (final : Entries) (known : (k : ℕ) → AllByRecursion (Typed final) (types_of (entry_at final k).class)) where
  leave_goes : (k : Kept) (f : Form) (text : List ℕ) (place : Place) (parts : Forest Form) (p : Outcome) → DesignIs p.design → AtIs (entries p.design) k.outer
      → AtIs (entries p.design) p.at → ((n : ℕ) → length (entries p.design) ≤ n → (false ≡ true → p.at.next ≤ n) → TreeIs false n (entries p.design) p.tree)
      → Grows (entries ((naming whole).leave k f text place parts p).design) final → Comes false p.design ((naming whole).leave k f text place parts p)
  leave_goes k f text place parts p is outer inner tree g =
      let x : Ended = record { form = f; text = text; place = place; parts = parts; outer = k.outer; inside = k.inside; inner = p } in
      let o = looked_at whole k f text place parts p in
      let g' : Grows (entries o.design) final = subst (λ es. Grows es final) (ap entries (left_design k.step f place k.outer o)) g in
      let y = ended_goes false x is outer inner tree whole (row_of f).ending g' known (end_free x is outer inner tree whole (row_of f).ending) in
      left_goes false p.design k.step f place k.outer o (record { grows = y.grows; design = y.design; at = y.at; tree = y.tree })

  module _ (f : Form) (text : List ℕ) (place : Place) (parts : Forest Form) (at : At) (d : Design) (is : DesignIs d) (a : AtIs (entries d) at)
      (inner : (inside : At) (e : Design) → DesignIs e → AtIs (entries e) inside → StepsOk inside.steps inside.rest
      → Grows (entries (walked (naming whole) parts inside e).design) final → Comes false e (walked (naming whole) parts inside e)) where
    through_goes : (entry : Entered) → EntryGoes false d entry → EntryKeeps at f entry
        → Grows (entries (through (naming whole) f text place parts (walked (naming whole) parts) entry).design) final
        → Comes false d (through (naming whole) f text place parts (walked (naming whole) parts) entry)
    through_goes (Done o) y k g = y
    through_goes (Inside inside e kept) y k g =
        let p = walked (naming whole) parts inside e in
        let q = (naming whole).leave kept f text place parts p in
        let up = leave_appends whole kept f text place parts p in
        let ok : StepsOk inside.steps inside.rest =
        record { left_ok = ap (λ ss. list_all given_ok ss) k.steps ∙ (row_ok f).left_ok; others_ok = ap given_ok k.rest ∙ (row_ok f).others_ok } in
        let w = inner inside e y.design y.here ok (grows_both up g) in
        let start : Grows (entries d) (entries p.design) = subst (λ es. Grows es (entries p.design)) y.same w.grows in
        let outer : AtIs (entries p.design) kept.outer = subst (AtIs (entries p.design)) (sym k.outer) (at_more start at a) in
        let z = leave_goes kept f text place parts p w.design outer w.at w.tree g in
        record { grows = grows_both start z.grows; design = z.design; at = z.at; tree = z.tree }

    through_keeps : (entry : Entered) → EntryKeeps at f entry → Keeps at (through (naming whole) f text place parts (walked (naming whole) parts) entry).at
    through_keeps (Done o) k = k
    through_keeps (Inside inside e kept) k =
        let x = leave_keeps whole kept f text place parts (walked (naming whole) parts inside e) in
        record { steps = x.steps ∙ ap (λ q. At.steps q) k.outer; rest = x.rest ∙ ap (λ q. At.rest q) k.outer }

  pub walk_goes : (ts : Forest Form) (at : At) (d : Design) → DesignIs d → AtIs (entries d) at → StepsOk at.steps at.rest
      → Grows (entries (walked (naming whole) ts at d).design) final → Comes false d (walked (naming whole) ts at d)
  walk_goes nothing at d is a ok g = record { grows = grows_not (entries d); design = is; at = a; tree = λ n h next. tt }
  walk_goes (more f text place parts next) at d is a ok g =
      let here = stepped at in
      let entry = done whole (step_of at) f text place parts here d in
      let o = through (naming whole) f text place parts (walked (naming whole) parts) entry in
      let p = walked (naming whole) next o.at o.design in
      let keeps = done_keeps whole f text place parts here d (step_of at) in
      let goes = done_goes false whole f text place parts here d is a (step_of at) (first_ok at.steps at.rest ok) in
      let one = through_goes f text place parts here d is a (λ inside e. walk_goes parts inside e) entry goes keeps (grows_both (walk_appends whole next o.at o.design) g) in
      let left = through_keeps f text place parts here d is a (λ inside e. walk_goes parts inside e) entry keeps in
      let behind = behind_ok at.steps at.rest ok in
      let ok' : StepsOk o.at.steps o.at.rest =
      record { left_ok = ap (λ ss. list_all given_ok ss) left.steps ∙ behind.left_ok; others_ok = ap given_ok left.rest ∙ behind.others_ok } in
      together_goes false d o p one (walk_goes next o.at o.design one.design one.at ok' g) (λ t. free t)
