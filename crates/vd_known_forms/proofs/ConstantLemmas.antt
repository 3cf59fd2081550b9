-- Constants with expressions of their own. No name has a dash, so that a caller can name each in `#[tactic(auto, using(..))]`.
use Rattle.std.proofs.Common.{◌&&◌, ◌≡◌, ◌+◌, ◌++◌, ◌<◌, Bool, Err, List, None, Ok, Option, Some, [], ◌∷◌, ap, false, get_or, length, not, refl, sym, take, true, ℕ, ◌∙◌}
use Rattle.vd_composites.specs.Composites.{Value}
use Rattle.vd_composites.specs.declared.ranges.Bounds.{Bounds}
use Rattle.vd_environments.specs.Environments.{Env, Indicated, Static, all_bounds}
use Rattle.vd_environments.specs.Got.{Got}
use Rattle.vd_known_forms.proofs.ObjectLemmas.{one_more}
use Rattle.vd_known_forms.specs.Objects.{AreFacts, known_of, value_of}
use Rattle.vd_known_designs.proofs.ShapeLemmas.{bounds_of_default}
use Rattle.vd_known_designs.specs.Shapes.{default_shape}
use Rattle.vd_meaning.specs.Declarations.{constant_known, has_bounds}
use Rattle.vd_static_values.specs.Entries.{IsFound}
use Rattle.vd_value_rules.specs.Knowledge.{Known, TwoIndicated, constant_of, constants_of, known_in, object_known}
use Rattle.vd_values.specs.declared.scalar.Scalar.{Scalar}

-- ---- one constant more

constant_is : (n : ℕ) (i : TwoIndicated) (known : Static) (g : Got (Value Scalar)) (k : Known)
    → constant_of n i known g k ≡ object_known n i (value_of i.own g) (known_of known i.own g k.env) k
constant_is n i known (Ok v) k = refl
constant_is n i known (Err halt) k = refl

constants_more : (ns : List ℕ) (n : ℕ) (i : TwoIndicated) (known : Static) (g : Got (Value Scalar)) (k : Known)
    → constants_of (ns ++ n ∷ []) i known g k ≡ constant_of n i known g (constants_of ns i known g k)
constants_more [] n i known g k = refl
constants_more (m ∷ ns) n i known g k = constants_more ns n i known g (constant_of m i known g k)

-- a constant is declared inside of a process or a function where those before it are
inside_still : (n : ℕ) (i : TwoIndicated) (known : Static) (g : Got (Value Scalar)) (k : Known)
    → (constant_of n i known g k).env.is_inside ≡ k.env.is_inside
inside_still n i known (Ok v) k = refl
inside_still n i known (Err halt) k = refl

all_inside : (ns : List ℕ) (i : TwoIndicated) (known : Static) (g : Got (Value Scalar)) (k : Known)
    → (constants_of ns i known g k).env.is_inside ≡ k.env.is_inside
all_inside [] i known g k = refl
all_inside (n ∷ ns) i known g k = all_inside ns i known g (constant_of n i known g k) ∙ inside_still n i known g k

known_inside : (known : Static) (i : Indicated) (g : Got (Value Scalar)) (e f : Env) → f.is_inside ≡ e.is_inside → known_of known i g f ≡ known_of known i g e
known_inside known i (Ok v) e f same = ap (λ b. record { is_local = (constant_known known i e).is_local; is_global = not b }) same
known_inside known i (Err halt) e f same = ap (λ b. record { is_local = false; is_global = not b }) same

pub one_constant : (ns : List ℕ) (j n other : ℕ) (i : TwoIndicated) (known s : Static) (g : Got (Value Scalar)) (k : Known) → j < length ns
    → n ≡ get_or ns j other → s ≡ known_of known i.own g k.env
    → object_known n i (value_of i.own g) s (constants_of (take j ns) i known g k) ≡ constants_of (take (j + 1) ns) i known g k
one_constant ns j n other i known s g k inside is known_is =
    let so_far = constants_of (take j ns) i known g k in
    ap (λ t. object_known n i (value_of i.own g) t so_far)
    (known_is ∙ sym (known_inside known i.own g k.env so_far.env (all_inside (take j ns) i known g k)))
    ∙ sym (constant_is n i known g so_far)
    ∙ sym (one_more (λ ms. constants_of ms i known g k) (λ m. constant_of m i known g) ns j n other (λ ms m. constants_more ms m i known g k) inside is)

-- ---- how static constants are

-- by how static their expression is, their bounds, and whether there are some
pub known_by_parts : (a b h r inside g : Bool) (i : Indicated) (e : Env) → r ≡ (a && b && h) → b ≡ (all_bounds i.make).is_local
    → h ≡ has_bounds i.subtype → inside ≡ e.is_inside
    → let s : Static = record { is_local = r; is_global = not inside } in s ≡ constant_known (record { is_local = a; is_global = g }) i e
known_by_parts a b h r inside g i e parts bounds_is has_is inside_is = λ j. record {
  is_local = (parts ∙ ap (λ x. a && x && h) bounds_is ∙ ap (λ x. a && (all_bounds i.make).is_local && x) has_is) j;
  is_global = not (inside_is j);
}

-- ---- what is known where there is no value

pub facts_of_none : (value : Option (Value Scalar)) (known : Static) (i : Indicated) (g : Got (Value Scalar)) (e : Env) (inside : Bool) (shape : Option Bounds)
    → value ≡ None → IsFound value g → inside ≡ e.is_inside → shape ≡ default_shape i.subtype
    → AreFacts known i g e (record { known = record { is_local = false; is_global = not inside }; shape = shape })
facts_of_none (Some v) known i g e inside shape none found inside_is shape_is = absurd cc
facts_of_none None known i (Ok w) e inside shape none found inside_is shape_is = absurd cc
facts_of_none None known i (Err halt) e inside shape none found inside_is shape_is = record {
  known_is = ap (λ b. record { is_local = false; is_global = not b }) inside_is;
  shape_is = bounds_of_default i.subtype ∙ sym shape_is;
}

-- ---- a constant that is locally static has a value

ok_same : {A : Type 0} (x y : A) → (let g : Got A = Ok x in let h : Got A = Ok y in g ≡ h) → x ≡ y
ok_same x y h = cc

no_value : {P : Type 0} (known : Static) (e : Env) → known ≡ known_in e → known.is_local ≡ true → P
no_value known e is local = absurd (cc (sym (ap (λ s. s.is_local) is), local))

pub local_value : (value : Option (Value Scalar)) (known s : Static) (i : Indicated) (g : Got (Value Scalar)) (e : Env) → IsFound value g
    → s ≡ known_of known i g e → s.is_local ≡ true → value ≡ Some (value_of i g)
local_value (Some v) known s i (Ok w) e found is local = ap Some (sym (ok_same w v found))
local_value (Some v) known s i (Err halt) e found is local = absurd cc
local_value None known s i (Ok w) e found is local = absurd cc
local_value None known s i (Err halt) e found is local = no_value s e is local
