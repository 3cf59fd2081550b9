-- Bytes at which a token in front of them ends: a space, ' ( ) , . and ;
use Rattle.std.proofs.Common.{◌≡◌, ℕ, ◌+◌, Bool, true, false, cond, eqb, not, ◌||◌, List, [], ◌∷◌, get_or, ⊎_elim, Option, Some, None, is_none, refl, sym, ap, ◌∙◌, eq-eqb}
use Rattle.std.specs.List.{list_all, list_any}
use Rattle.std.specs.Str.{bytes_eq}
use Rattle.std.proofs.lemmas.Bool.{and_parts, or_cases, cond_both, cond-false, eqb-true, not-true, true≢false}
use Rattle.std.proofs.lemmas.List.Folds.{list_all_at}
use Rattle.std.proofs.lemmas.List.Quantifiers.{position-Some}
use Rattle.std.proofs.lemmas.Slice.Eq.{bytes_eq-Decides}
use Rattle.vd_trees.specs.declared.revision.Revision.{Revision}
use Rattle.vd_trees.specs.declared.revision.Revision.TheVariants.{V2019, V1993}
use Rattle.vd_trees.specs.Identifiers.{place_among}
use Rattle.vd_tokens.specs.Marks.{marks}
use Rattle.vd_literals.specs.declared.bits.Sign.TheVariants.{Unsigned, Signed}
use Rattle.vd_literals.specs.declared.bits.Base.{Base}
use Rattle.vd_literals.specs.Runs.{is_part, starts_with_part, goes_on, more_length, run_length}
use Rattle.vd_literals.specs.declared.numbers.Exponent.TheVariants.{Absent}
use Rattle.vd_literals.specs.Numbers.{plain, form_behind, exponent_at, signed_exponent}
use Rattle.vd_literals.specs.Quoted.{begins_with}
use Rattle.vd_literals.specs.Bits.{is_either, width_of, base_with, plain_base, signed_base, longer_base, base_at}
use Rattle.vd_literals.proofs.RunLemmas.{more-stop}

abbrev pub stops : List ℕ
stops = 32 ∷ 39 ∷ 40 ∷ 41 ∷ 44 ∷ 46 ∷ 59 ∷ []

abbrev pub is_stop : ℕ → Bool
is_stop b = list_any (λ s. eqb b s) stops

-- nothing, or what begins with such a byte
abbrev pub is_stopped : List ℕ → Bool
is_stopped [] = true
is_stopped (b ∷ bs) = is_stop b

any_of : (p : ℕ → Bool) (xs : List ℕ) (b : ℕ) → list_all p xs ≡ true → list_any (λ s. eqb b s) xs ≡ true → p b ≡ true
any_of p [] b h k = absurd (true≢false (sym k))
any_of p (x ∷ xs) b h k =
    let a = and_parts (p x) (list_all p xs) h in
    ⊎_elim (λ e. ap p (eqb-true b x e) ∙ a.0) (λ e. any_of p xs b a.1 e) (or_cases (eqb b x) (list_any (λ s. eqb b s) xs) k)

-- what holds of each of these bytes
pub stop_is : (p : ℕ → Bool) → list_all p stops ≡ true → (b : ℕ) → is_stop b ≡ true → p b ≡ true
stop_is p h b k = any_of p stops b h k

none_is : (o : Option Base) → is_none o ≡ true → o ≡ None
none_is None e = refl
none_is (Some n) e = absurd (true≢false (sym e))

-- ---- none of them goes on with a token

pub no_begin : (m : ℕ) (after : List ℕ) → list_all (λ b. not (eqb b m)) stops ≡ true → is_stopped after ≡ true → begins_with m after ≡ false
no_begin m [] c h = refl
no_begin m (b ∷ bs) c h = not-true (eqb b m) (stop_is (λ b. not (eqb b m)) c b h)

stop_no_part : (t : Bool) (b : ℕ) → is_stop b ≡ true → is_part t b ≡ false
stop_no_part true b h = not-true (is_part true b) (stop_is (λ b. not (is_part true b)) refl b h)
stop_no_part false b h = not-true (is_part false b) (stop_is (λ b. not (is_part false b)) refl b h)

pub no_part : (t : Bool) (after : List ℕ) → is_stopped after ≡ true → starts_with_part t after ≡ false
no_part t [] h = refl
no_part t (b ∷ bs) h = stop_no_part t b h

no_goes_on : (t : Bool) (after : List ℕ) → is_stopped after ≡ true → goes_on t after ≡ false
no_goes_on t [] h = refl
no_goes_on t (b ∷ bs) h = let u = no_begin 95 (b ∷ bs) refl h in rw (stop_no_part t b h, u) refl

pub no_more : (t : Bool) (after : List ℕ) → is_stopped after ≡ true → more_length t after ≡ 0
no_more t after h = more-stop t after (no_goes_on t after h)

pub no_run : (t : Bool) (after : List ℕ) → is_stopped after ≡ true → run_length t after ≡ 0
no_run t [] h = refl
no_run t (b ∷ bs) h = cond-false (is_part t b) (1 + more_length t bs) 0 (stop_no_part t b h)

pub no_exponent : (after : List ℕ) → is_stopped after ≡ true → exponent_at after ≡ Absent
no_exponent [] h = refl
no_exponent (b ∷ bs) h =
    let test : ℕ → Bool = λ c. not (eqb c 69 || eqb c 101) in
    cond-false (eqb b 69 || eqb b 101) (signed_exponent bs) Absent (not-true (eqb b 69 || eqb b 101) (stop_is test refl b h))

-- behind digits neither a base nor a fraction stands
pub no_fraction : (n : ℕ) (after : List ℕ) → is_stopped after ≡ true → begins_with 46 after ≡ false → form_behind n after ≡ plain n
no_fraction n [] h e = refl
no_fraction n (b ∷ bs) h e =
    let f = no_begin 35 (b ∷ bs) refl h in
    rw (f, e) refl

-- ---- bases of bits

-- two letters, and no mark behind them
pub no_longer_base : (r : Revision) (b c : ℕ) (after : List ℕ) → begins_with 34 after ≡ false → longer_base r b c after ≡ None
no_longer_base V2019 b c [] e = refl
no_longer_base V2019 b c (d ∷ ds) e = cond-false (eqb d 34) (signed_base b c) None e
no_longer_base V1993 b c after e = refl

pub base_skips : (r : Revision) (b c : ℕ) (cs : List ℕ) → eqb c 34 ≡ false → longer_base r b c cs ≡ None → base_at r (b ∷ c ∷ cs) ≡ None
base_skips r b c cs e f = cond-false (eqb c 34) (plain_base b) (longer_base r b c cs) e ∙ f

no_signed : (s b : ℕ) → width_of b ≡ None → signed_base s b ≡ None
no_signed s b e =
    cond_both (is_either 85 117 s) (base_with Unsigned 2 (width_of b)) (cond (is_either 83 115 s) (base_with Signed 2 (width_of b)) None) (λ o. o ≡ None)
    (λ t. ap (base_with Unsigned 2) e)
    (λ t. cond_both (is_either 83 115 s) (base_with Signed 2 (width_of b)) None (λ o. o ≡ None) (λ u. ap (base_with Signed 2) e) (λ u. refl))

longer_if : (r : Revision) (b c : ℕ) (cs : List ℕ) → signed_base b c ≡ None → longer_base r b c cs ≡ None
longer_if V2019 b c [] e = refl
longer_if V2019 b c (d ∷ ds) e = cond_both (eqb d 34) (signed_base b c) None (λ o. o ≡ None) (λ t. e) (λ t. refl)
longer_if V1993 b c cs e = refl

width_none : (o : Option ℕ) → is_none o ≡ true → o ≡ None
width_none None e = refl
width_none (Some n) e = absurd (true≢false (sym e))

-- behind one letter
pub no_base_behind : (r : Revision) (b : ℕ) (after : List ℕ) → is_stopped after ≡ true → base_at r (b ∷ after) ≡ None
no_base_behind r b [] h = refl
no_base_behind r b (c ∷ cs) h =
    let test : ℕ → Bool = λ d. is_none (width_of d) in
    base_skips r b c cs (no_begin 34 (c ∷ cs) refl h) (longer_if r b c cs (no_signed b c (width_none (width_of c) (stop_is test refl c h))))

pub no_base_there : (r : Revision) (after : List ℕ) → is_stopped after ≡ true → base_at r after ≡ None
no_base_there r [] h = refl
no_base_there r (b ∷ []) h = refl
no_base_there r (b ∷ c ∷ cs) h =
    let plainly : ℕ → Bool = λ d. is_none (plain_base d) in
    let signed : ℕ → Bool = λ d. is_none (signed_base d c) in
    cond_both (eqb c 34) (plain_base b) (longer_base r b c cs) (λ o. o ≡ None)
    (λ t. none_is (plain_base b) (stop_is plainly refl b h))
    (λ t. longer_if r b c cs (none_is (signed_base b c) (stop_is signed refl b h)))

-- ---- marks

-- the mark has another byte at a place
abbrev pub differs : ℕ → ℕ → List ℕ → Bool
differs i c mark = not (eqb (get_or mark i 0) c)

-- a text with a byte at a place where no mark has it is none
pub no_mark : (r : Revision) (i c : ℕ) (text : List ℕ) → get_or text i 0 ≡ c → list_all (differs i c) (marks r) ≡ true → place_among (marks r) text ≡ None
no_mark r i c text e all = by (place_among (marks r) text) refl
  where
    by : (o : Option ℕ) → place_among (marks r) text ≡ o → o ≡ None
    by None f = refl
    by (Some n) f =
        let p = position-Some (λ t. bytes_eq text t) (marks r) n [] f in
        let mark = get_or (marks r) n [] in
        let same : text ≡ mark = (bytes_eq-Decides text mark).0 p.1 in
        let there : get_or mark i 0 ≡ c = sym (ap (λ t. get_or t i 0) same) ∙ e in
        absurd (true≢false (sym all ∙ list_all_at (differs i c) (marks r) n [] p.0 (ap not (eq-eqb (get_or mark i 0) c there))))

-- no mark goes on with one of these bytes as its second or third
pub no_second : (r : Revision) (c : ℕ) (text : List ℕ) → is_stop c ≡ true → get_or text 1 0 ≡ c → place_among (marks r) text ≡ None
no_second V2019 c text h e = let test : ℕ → Bool = λ s. list_all (differs 1 s) (marks V2019) in no_mark V2019 1 c text e (stop_is test refl c h)
no_second V1993 c text h e = let test : ℕ → Bool = λ s. list_all (differs 1 s) (marks V1993) in no_mark V1993 1 c text e (stop_is test refl c h)

pub no_third : (r : Revision) (c : ℕ) (text : List ℕ) → is_stop c ≡ true → get_or text 2 0 ≡ c → place_among (marks r) text ≡ None
no_third V2019 c text h e = let test : ℕ → Bool = λ s. list_all (differs 2 s) (marks V2019) in no_mark V2019 2 c text e (stop_is test refl c h)
no_third V1993 c text h e = let test : ℕ → Bool = λ s. list_all (differs 2 s) (marks V1993) in no_mark V1993 2 c text e (stop_is test refl c h)
