-- Reading a file, step by step.
use Rattle.std.proofs.Common.{◌≡◌, ℕ, true, List, refl, sym, ap, ◌∙◌, subst}
use Rattle.vd_forest.specs.Forest.{Forest}
use Rattle.vd_first_trees.specs.declared.form.Form.{Form}
use Rattle.vd_trees.specs.declared.revision.Revision.{Revision}
use Rattle.vd_bytes.specs.declared.places.Place.{Place}
use Rattle.vd_first_lex.specs.declared.tokens.Token.{Token}
use Rattle.vd_first_grammar.specs.declared.reader_steps.Stop.{Stop}
use Rattle.vd_first_grammar.specs.declared.reader_steps.Stop.TheVariants.{Hopeless, Nesting, Memory}
use Rattle.vd_first_grammar.specs.Derivations.{head_symbols, architecture_symbols}
use Rattle.vd_first_grammar.specs.Refusals.{place_of_token}
use Rattle.vd_first_grammar.specs.Given.{Fails}
use Rattle.vd_first_grammar.specs.Reader.{Outcome, got, ◌>>=◌, spelled_at, Known, no_names, EntityRead, entity_at, architecture_at, file_tree, file_at}

pub bind_fails : {A B : Type 0} (e : Stop) (o : Outcome A) (f : A × List Token → Outcome B) → Fails e o → Fails e (o >>= f)
bind_fails (Hopeless r) o f h = rw h refl
bind_fails (Nesting r) o f h = rw h refl
bind_fails Memory o f h = tt

module _ (r : Revision) (limit : ℕ) (ts : List Token) (e : Stop) where
  pub head_fails : Fails e (spelled_at head_symbols ts) → Fails e (file_at r true limit ts)
  unfolding file_at
  head_fails h = bind_fails e (spelled_at head_symbols ts) _ h

  module _ (head rest : List Token) (at_head : spelled_at head_symbols ts ≡ got (head, rest)) (known : Known) (starts : known ≡ no_names true) where
    pub entity_fails : Fails e (entity_at r known head rest) → Fails e (file_at r true limit ts)
    unfolding file_at
    entity_fails h = rw (file_at, at_head) (bind_fails e (entity_at r (no_names true) head rest) _ (subst (λ (k : Known). Fails e (entity_at r k head rest)) starts h))

    module _ (entity : EntityRead) (rest2 : List Token) (at_entity : entity_at r known head rest ≡ got (entity, rest2)) where
      entity_is : entity_at r (no_names true) head rest ≡ got (entity, rest2)
      entity_is = ap (λ (k : Known). entity_at r k head rest) (sym starts) ∙ at_entity

      pub middle_fails : Fails e (spelled_at architecture_symbols rest2) → Fails e (file_at r true limit ts)
      unfolding file_at
      middle_fails h = rw (file_at, at_head, entity_is) (bind_fails e (spelled_at architecture_symbols rest2) _ h)

      module _ (middle rest3 : List Token) (at_middle : spelled_at architecture_symbols rest2 ≡ got (middle, rest3)) (place : Place) (at_place : place ≡ place_of_token middle 1) where
        pub architecture_fails : Fails e (architecture_at r place entity.entity entity.known limit rest3) → Fails e (file_at r true limit ts)
        unfolding file_at
        architecture_fails h = rw (file_at, at_head, entity_is, at_middle) (bind_fails e (architecture_at r (place_of_token middle 1) entity.entity entity.known limit rest3) _ (subst (λ (p : Place). Fails e (architecture_at r p entity.entity entity.known limit rest3)) at_place h))

pub file_is : (r : Revision) (limit : ℕ) (ts head rest : List Token) → spelled_at head_symbols ts ≡ got (head, rest) → (known : Known) → known ≡ no_names true → (entity : EntityRead) (rest2 : List Token) → entity_at r known head rest ≡ got (entity, rest2)
    → (middle rest3 : List Token) → spelled_at architecture_symbols rest2 ≡ got (middle, rest3) → (place : Place) → place ≡ place_of_token middle 1 → (tree : Forest Form) (rest4 : List Token) → architecture_at r place entity.entity entity.known limit rest3 ≡ got (tree, rest4)
    → file_at r true limit ts ≡ got (file_tree head entity.tree place tree, rest4)
unfolding file_at
file_is r limit ts head rest at_head known starts entity rest2 at_entity middle rest3 at_middle place at_place tree rest4 at_architecture =
    let entity_is' : entity_at r (no_names true) head rest ≡ got (entity, rest2) = ap (λ (k : Known). entity_at r k head rest) (sym starts) ∙ at_entity in
    let architecture_is : architecture_at r (place_of_token middle 1) entity.entity entity.known limit rest3 ≡ got (tree, rest4) = ap (λ (p : Place). architecture_at r p entity.entity entity.known limit rest3) (sym at_place) ∙ at_architecture in
    rw (file_at, at_head, entity_is', at_middle, architecture_is, at_place) refl
