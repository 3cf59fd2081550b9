-- The derived comparisons of states are equality.
use Rattle.std.proofs.Common.{◌≡◌, true, refl, sym, ap, ◌∙◌, true≢false, rules}
use Rattle.std.proofs.lemmas.Bool.{and_parts}
use Rattle.vd_states.specs.declared.states.Prefix.{Prefix}
use Rattle.vd_states.specs.declared.states.Prefix.TheVariants.{Named, Valued, Ranged, Attributed}
use Rattle.vd_states.specs.contracts.states.PrefixPartialEq.TheImpl as prefixes
use Rattle.vd_states.specs.declared.states.State.{State}
use Rattle.vd_states.specs.declared.states.State.TheVariants.{Done, Only, Each, Leaf, ConstrainedMark, PhysicalValue, PhysicalUnit, Arguments, Association, Formal, Elements, ElementAssociation, Fields, FieldAssociation, FieldNames, Head, Suffixes}
use Rattle.vd_states.specs.contracts.states.StatePartialEq.TheImpl as states
use Rattle.vd_states.specs.declared.states.Want.{Want}
use Rattle.vd_states.specs.declared.states.Want.TheVariants.{Value, Range, DiscreteRange, Choice, Mark}
use Rattle.vd_states.specs.contracts.states.WantPartialEq.TheImpl as wants

pub same_want : (a b : Want) → (wants.eq-value).it a b ≡ true → a ≡ b
same_want (Value a) (Value b) h = search rules
same_want (Range a) (Range b) h = search rules
same_want (DiscreteRange a) (DiscreteRange b) h = search rules
same_want (Choice a) (Choice b) h = search rules
same_want (Mark a) (Mark b) h = search rules
same_want a b h = absurd (true≢false (sym h))

pub same_prefix : (a b : Prefix) → (prefixes.eq-value).it a b ≡ true → a ≡ b
same_prefix (Named a) (Named b) h = search rules
same_prefix (Valued a s) (Valued b t) h = search rules
same_prefix (Ranged a) (Ranged b) h = search rules
same_prefix (Attributed a s) (Attributed b t) h = search rules
same_prefix a b h = absurd (true≢false (sym h))

pub same_state : (a b : State) → (states.eq-value).it a b ≡ true → a ≡ b
same_state Done Done h = refl
same_state (Only a) (Only b) h = ap Only (same_want a b h)
same_state (Each a) (Each b) h = ap Each (same_want a b h)
same_state Leaf Leaf h = refl
same_state (ConstrainedMark a) (ConstrainedMark b) h = search rules
same_state PhysicalValue PhysicalValue h = refl
same_state PhysicalUnit PhysicalUnit h = refl
same_state (Arguments a i) (Arguments b j) h = search rules
same_state (Association a) (Association b) h = search rules
same_state (Formal a) (Formal b) h = search rules
same_state (Elements a) (Elements b) h = search rules
same_state (ElementAssociation a) (ElementAssociation b) h = search rules
same_state (Fields a i o) (Fields b j p) h = search rules
same_state (FieldAssociation a v) (FieldAssociation b w) h = search rules
same_state (FieldNames a) (FieldNames b) h = search rules
same_state (Head a) (Head b) h = ap Head (same_want a b h)
same_state (Suffixes p a) (Suffixes q b) h =
    let parts = and_parts ((prefixes.eq-value).it p q) ((wants.eq-value).it a b) h in
    ap (λ r. Suffixes r a) (same_prefix p q parts.0) ∙ ap (Suffixes q) (same_want a b parts.1)
same_state a b h = absurd (true≢false (sym h))
