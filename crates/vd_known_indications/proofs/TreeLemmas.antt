-- What trees come to.
use Rattle.std.proofs.Common.{◌≡◌, List, [], ◌∷◌, subst, sym, ℕ}
use Rattle.std.specs.Global.{Global}
use Rattle.std.specs.List.{All}
use Rattle.std.specs.Prelude.{Err, IfOk, Ok, Result, Vec}
use Rattle.vd_walks.specs.Trees.{AreTrees}
use Rattle.vd_bytes.specs.declared.places.Place.{Place}
use Rattle.vd_environments.specs.Environments.{Env}
use Rattle.vd_forest.specs.Forest.{Forest, more, nothing}
use Rattle.vd_value_rules.specs.declared.forms.IndicatedForm.{IndicatedForm}
use Rattle.vd_static_names.specs.Jumps.{AreJumps}
use Rattle.vd_static_names.specs.declared.jumps.Jump.{Jump}
use Rattle.vd_meaning.specs.Facets.{no_meaning}
use Rattle.vd_meaning.specs.Kinds
use Rattle.vd_meaning.specs.Meanings.{meanings}
use Rattle.vd_resolved.specs.declared.node.Resolved.{Resolved}
use Rattle.vd_static_values.specs.Entries.{IsGround, table_of}
use Rattle.vd_static_values.specs.Nodes.{AreNodes, IsNode}
use Rattle.vd_static_values.specs.declared.entries.Ground.{Ground}
use Rattle.vd_static_values.specs.declared.nodes.Node.{Node}
use Rattle.vd_known_indications.specs.Found.{AreKnownNodes, IsKnownNode}
use Rattle.vd_static_parts.specs.Made.{IsMade, IsSound}

module _ (g : Ground) where
  known_at : (f : Forest Resolved) (xs : List Node) (e : Env) → IsGround g e → AreTrees (IsKnownNode g) f xs → AreNodes g.subtypes.now e xs (meanings (table_of g) f)
  known_at nothing [] e ground are = tt
  known_at (more n text place parts next) (x ∷ xs) e ground are = (are.0 e ground, known_at next xs e ground are.1)
  known_at _ _ e ground are = absurd are

  pub known_trees : (f : Forest Resolved) (xs : List Node) → AreTrees (IsKnownNode g) f xs → AreKnownNodes g f xs
  known_trees f xs are = λ e ground. known_at f xs e ground are

  pub known_tree : (n : Resolved) (text : List ℕ) (place : Place) (parts next : Forest Resolved) (xs : List Node) (x : Node) → AreTrees (IsKnownNode g) parts xs
      → IsMade (Kinds.kind n.form) g n text xs x → IsKnownNode g (more n text place parts next) x
  known_tree n text place parts next xs x are made = λ e ground. made e (meanings (table_of g) parts) ground (known_at parts xs e ground are)

  pub each_tree : {E : Type 0} (n : Resolved) (text : List ℕ) (place : Place) (parts next : Forest Resolved) (xs : List Node) (r : Result Node E) → AreTrees (IsKnownNode g) parts xs
      → IfOk r (IsMade (Kinds.kind n.form) g n text xs) → IfOk r (IsKnownNode g (more n text place parts next))
  each_tree n text place parts next xs (Ok x) are made = known_tree n text place parts next xs x are made
  each_tree n text place parts next xs (Err e) are made = tt

  pub all_trees : {E : Type 0} (f : Forest Resolved) (r : Result (Vec Node Global) E) → IfOk r (λ made. AreTrees (IsKnownNode g) f made.items)
      → IfOk r (λ made. AreKnownNodes g f made.items)
  all_trees f (Ok made) are = known_trees f made.items are
  all_trees f (Err e) are = tt

  pub first_tree : {E : Type 0} (f : Forest Resolved) (n : Resolved) (text : List ℕ) (place : Place) (parts next : Forest Resolved) (xs : List Node) (r : Result Node E)
      → f ≡ more n text place parts next → AreKnownNodes g parts xs → IfOk r (IsMade (Kinds.kind n.form) g n text xs) → IfOk r (IsKnownNode g f)
  first_tree f n text place parts next xs (Ok x) is are made =
      subst (λ h. IsKnownNode g h x) (sym is) (λ e ground. made e (meanings (table_of g) parts) ground (are e ground))
  first_tree f n text place parts next xs (Err e) is are made = tt

  pub no_tree : (f : Forest Resolved) (x : Node) → f ≡ nothing → ((subtypes : List (Forest IndicatedForm)) (e : Env) → IsNode subtypes e x no_meaning) → IsKnownNode g f x
  no_tree f x is absent = subst (λ h. IsKnownNode g h x) (sym is) (λ e ground. absent g.subtypes.now e)

-- the same over another ground that is the same
pub sound_over : {E : Type 0} (g h : Ground) (r : Result (Vec Node Global) E) → h ≡ g → IfOk r (λ made. All (IsSound h.subtypes.now) made.items)
    → IfOk r (λ made. All (IsSound g.subtypes.now) made.items)
sound_over g h r same sound = subst (λ k. IfOk r (λ made. All (IsSound k.subtypes.now) made.items)) same sound

pub jumps_over : (g h : Ground) (jumps : List Jump) → h ≡ g → AreJumps jumps h.subtypes.now → AreJumps jumps g.subtypes.now
jumps_over g h jumps same are = subst (λ k. AreJumps jumps k.subtypes.now) same are
