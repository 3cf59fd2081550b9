-- The signals and drivers of a top, and those that the code makes.
use Rattle.std.proofs.Common.{◌≡◌, ◌≢◌, ◌⊎◌, inl, inr, ℕ, zero, suc, ◌+◌, ◌<◌, Bool, true, false, List, [], ◌∷◌, ◌++◌, map, length, drop, get_or, set, replicate, Option, Some, None, is_some, refl, sym, ap, ap₂, ◌∙◌, arith, append-nil, append_assoc}
use Rattle.std.specs.Prelude.{if◌then◌else◌, ◌==◌}
use Rattle.std.specs.List.{AllByRecursion}
use Rattle.std.proofs.lemmas.List.{replicate-append-replicate, ext_get_or, get_or-set_same, get_or-set_other, get_or-replicate, length-set, length-replicate, length-map, map-append}
use Rattle.std.proofs.lemmas.Bool.Decides.{eqb_tells}
use Rattle.std.proofs.Math.Seq.{drop-cons}
use Rattle.vd_bytes.specs.declared.places.Place.{Place}
use Rattle.vd_forest.specs.Forest.{Forest, nothing, more, parts_of, next_of, tree_count}
use Rattle.vd_first_trees.specs.declared.form.Form.{Form}
use Rattle.vd_values.specs.declared.scalar.Scalar.TheVariants.{Literal}
use Rattle.vd_kernel.specs.declared.assignments.Source.{Source}
use Rattle.vd_kernel.specs.declared.assignments.Source.TheVariants.{Driver as ByDriver}
use Rattle.vd_kernel.specs.declared.shape.DriverShape.{DriverShape}
use Rattle.vd_kernel.specs.Drivers.{Driver}
use Rattle.vd_kernel.specs.Models.{Signal, no_signal}
use Rattle.vd_kernel.specs.Cycles.{first_driver, first_drivers}
use Rattle.vd_kernel.specs.Traces.{has_two, with_two}
use Rattle.vd_kernel.specs.Equations.{IsInside}
use Rattle.vd_kernel.specs.Orders.{shape_of, IsRingFree}
use Rattle.vd_kernel.specs.Simulated.{idle}
use Rattle.vd_kernel.specs.SignalValues.{nothing_given}
use Rattle.vd_simulation.specs.Designs.{told, IsDesign}
use Rattle.vd_first_elaboration.specs.Ports.{Mode, Port, mode_of, type_mark, ports_named, declared_ports}
use Rattle.vd_first_elaboration.specs.Elaboration.{drivers_of, is_input, kernel_signals, inputs_from}
use Rattle.vd_first_runs.specs.Shapes.{plain_signal, with_driver, with_driver_at, connected, plain_driver, outside_count, kernel_shape}

-- ---- signals with their drivers

connected_long : (driver : ℕ) (driven : List ℕ) (ss : List Signal) → length (connected driver driven ss) ≡ length ss
connected_long driver [] ss = refl
connected_long driver (d ∷ ds) ss =
    connected_long (suc driver) ds (with_driver_at driver ss d) ∙ length-set ss d (with_driver driver (get_or ss d no_signal))

-- a signal with these sources more
abbrev pub with_sources : Signal → List Source → Signal
with_sources s more_sources = record s { sources = s.sources ++ more_sources }

one_more : (b : Bool) (driver : ℕ) (s new : Signal) (rest : List Source) → new ≡ (if b then with_driver driver s else s) → with_sources new rest ≡ with_sources s (if b then ByDriver driver ∷ rest else rest)
one_more true driver s new rest e =
    ap (λ n. with_sources n rest) e ∙ ap (λ xs. record s { sources = xs }) (append_assoc s.sources (ByDriver driver ∷ []) rest)
one_more false driver s new rest e = ap (λ n. with_sources n rest) e

module _ (driver : ℕ) (ss : List Signal) (d i : ℕ) (within : i < length ss) where
  abbrev here : Signal
  here = get_or ss i no_signal

  set_or_not : (((d == i) ≡ true) × (d ≡ i)) ⊎ (((d == i) ≡ false) × (d ≢ i)) → get_or (with_driver_at driver ss d) i no_signal ≡ (if d == i then with_driver driver here else here)
  set_or_not (inl (e, same)) =
      ap (λ k. get_or (set ss k (with_driver driver (get_or ss k no_signal))) i no_signal) same
      ∙ get_or-set_same ss i (with_driver driver here) no_signal within
      ∙ ap (λ (b : Bool). if b then with_driver driver here else here) (sym e)
  set_or_not (inr (e, other)) =
      get_or-set_other ss d i (with_driver driver (get_or ss d no_signal)) no_signal (λ h. other (sym h))
      ∙ ap (λ (b : Bool). if b then with_driver driver here else here) (sym e)

  pub set_at : get_or (with_driver_at driver ss d) i no_signal ≡ (if d == i then with_driver driver here else here)
  set_at = set_or_not (eqb_tells d i)

connected_at : (driver : ℕ) (driven : List ℕ) (ss : List Signal) (i : ℕ) → i < length ss → get_or (connected driver driven ss) i no_signal ≡ with_sources (get_or ss i no_signal) (drivers_of i driver driven)
connected_at driver [] ss i h = let s = get_or ss i no_signal in ap (λ xs. record s { sources = xs }) (sym (append-nil s.sources))
connected_at driver (d ∷ ds) ss i h =
    let long = length-set ss d (with_driver driver (get_or ss d no_signal)) in
    connected_at (suc driver) ds (with_driver_at driver ss d) i (omega (arith, long))
    ∙ one_more (d == i) driver (get_or ss i no_signal) (get_or (with_driver_at driver ss d) i no_signal) (drivers_of i (suc driver) ds) (set_at driver ss d i h)

-- ---- the signals of the design

pub kernel_long : (driven : List ℕ) (number outside : ℕ) (ps : List Port) → length (kernel_signals driven number outside ps) ≡ length ps
kernel_long driven number outside [] = refl
kernel_long driven number outside (p ∷ ps) = ap suc (kernel_long driven (suc number) (if is_input p.mode then suc outside else outside) ps)

pub told_long : (driven : List ℕ) (number outside : ℕ) (ps : List Port) → length (map told (kernel_signals driven number outside ps)) ≡ length ps
told_long driven number outside ps = length-map (kernel_signals driven number outside ps) told ∙ kernel_long driven number outside ps

told_at : (driven : List ℕ) (number outside : ℕ) (ps : List Port) (i : ℕ) → i < length ps → get_or (map told (kernel_signals driven number outside ps)) i no_signal ≡ plain_signal (drivers_of (number + i) 0 driven)
told_at driven number outside [] i h = absurd (omega arith)
told_at driven number outside (p ∷ ps) zero h = let e : number ≡ number + 0 = omega arith in ap (λ n. plain_signal (drivers_of n 0 driven)) e
told_at driven number outside (p ∷ ps) (suc i) h =
    let e : suc number + i ≡ number + suc i = omega arith in
    told_at driven (suc number) (if is_input p.mode then suc outside else outside) ps i (omega arith) ∙ ap (λ n. plain_signal (drivers_of n 0 driven)) e

pub signals_made : (driven : List ℕ) (outside n : ℕ) (ps : List Port) → n ≡ length ps → connected 0 driven (replicate n (plain_signal [])) ≡ map told (kernel_signals driven 0 outside ps)
signals_made driven outside n ps e =
    let plain = replicate n (plain_signal []) in
    let long : length plain ≡ n = length-replicate n (plain_signal []) in
    ext_get_or no_signal _ _ (connected_long 0 driven plain ∙ long ∙ e ∙ sym (told_long driven 0 outside ps)) (λ i h.
    let within : i < n = omega (arith, h, connected_long 0 driven plain, long) in
    connected_at 0 driven plain i (omega (arith, within, long))
    ∙ ap (λ s. with_sources s (drivers_of i 0 driven)) (get_or-replicate n i (plain_signal []) no_signal within)
    ∙ ap (λ k. plain_signal (drivers_of k 0 driven)) (let z : i ≡ 0 + i = omega arith in z)
    ∙ sym (told_at driven 0 outside ps i (omega (arith, within, e))))

-- ---- no ring

inside_or : (b : Bool) (i driver : ℕ) (rest : List Source) → AllByRecursion (IsInside (λ k. k) i) rest → AllByRecursion (IsInside (λ k. k) i) (if b then ByDriver driver ∷ rest else rest)
inside_or true i driver rest h = (tt, h)
inside_or false i driver rest h = h

drivers_inside : (i j driver : ℕ) (driven : List ℕ) → AllByRecursion (IsInside (λ k. k) i) (drivers_of j driver driven)
drivers_inside i j driver [] = tt
drivers_inside i j driver (d ∷ ds) = inside_or (d == j) i driver (drivers_of j (suc driver) ds) (drivers_inside i j (suc driver) ds)

sources_inside : (i : ℕ) (driven : List ℕ) (number outside : ℕ) (ps : List Port) (k : ℕ) → AllByRecursion (IsInside (λ j. j) i) (get_or (map told (kernel_signals driven number outside ps)) k no_signal).sources
sources_inside i driven number outside [] k = tt
sources_inside i driven number outside (p ∷ ps) zero = drivers_inside i number 0 driven
sources_inside i driven number outside (p ∷ ps) (suc k) = sources_inside i driven (suc number) (if is_input p.mode then suc outside else outside) ps k

told_no_actual : (driven : List ℕ) (number outside : ℕ) (ps : List Port) (k : ℕ) → (get_or (map told (kernel_signals driven number outside ps)) k no_signal).actual ≡ None
told_no_actual driven number outside [] k = refl
told_no_actual driven number outside (p ∷ ps) zero = refl
told_no_actual driven number outside (p ∷ ps) (suc k) = told_no_actual driven (suc number) (if is_input p.mode then suc outside else outside) ps k

pub told_ring_free : (driven : List ℕ) (outside : ℕ) (ps : List Port) → IsRingFree (shape_of (map told (kernel_signals driven 0 outside ps)))
told_ring_free driven outside ps =
    record {
      inwards = λ k. k;
      outwards = λ k. k;
      ranked = record {
        sources = λ i. sources_inside i driven 0 outside ps i;
        actual = λ i a e. let none = told_no_actual driven 0 outside ps i in cc;
      };
    }

-- ---- what the design's signals begin with

no_actual : (driven : List ℕ) (number outside : ℕ) (ps : List Port) (k : ℕ) → (get_or (kernel_signals driven number outside ps) k no_signal).actual ≡ None
no_actual driven number outside [] k = refl
no_actual driven number outside (p ∷ ps) zero = refl
no_actual driven number outside (p ∷ ps) (suc k) = no_actual driven (suc number) (if is_input p.mode then suc outside else outside) ps k

initial_is : (driven : List ℕ) (number outside : ℕ) (ps : List Port) (k : ℕ) → (get_or (kernel_signals driven number outside ps) k no_signal).initial ≡ Literal 0
initial_is driven number outside [] k = refl
initial_is driven number outside (p ∷ ps) zero = refl
initial_is driven number outside (p ∷ ps) (suc k) = initial_is driven (suc number) (if is_input p.mode then suc outside else outside) ps k

pub kernel_design : (driven : List ℕ) (ps : List Port) (signals : List Signal) → signals ≡ map told (kernel_signals driven 0 (length driven) ps) → IsDesign (kernel_shape driven ps) signals
kernel_design driven ps signals e = record { signals_are = e; out_has_no_actual = λ i out. no_actual driven 0 (length driven) ps i }

-- ---- drivers

abbrev pub idle_driver : Driver
idle_driver = record { current = Literal 0; waiting = [] }

idle_replicate : (n : ℕ) → map idle (replicate n plain_driver) ≡ replicate n idle_driver
idle_replicate zero = refl
idle_replicate (suc n) = ap (λ ds. idle_driver ∷ ds) (idle_replicate n)

module _ (driven : List ℕ) (ps : List Port) where
  drivers_from : (numbers : List ℕ) → map (first_driver (kernel_shape driven ps) (λ i. [])) numbers ≡ replicate (length numbers) idle_driver
  drivers_from [] = refl
  drivers_from (n ∷ ns) =
      ap₂ (λ d ds. d ∷ ds) (ap (λ v. record { current = v; waiting = [] }) (initial_is driven 0 (length driven) ps n)) (drivers_from ns)

  pub drivers_made : map idle (replicate (length driven) plain_driver ++ replicate (length (inputs_from 0 ps)) plain_driver) ≡ first_drivers (kernel_shape driven ps) nothing_given
  drivers_made =
      map-append idle (replicate (length driven) plain_driver) (replicate (length (inputs_from 0 ps)) plain_driver)
      ∙ ap₂ (λ xs ys. xs ++ ys) (idle_replicate (length driven) ∙ sym (drivers_from driven)) (idle_replicate (length (inputs_from 0 ps)) ∙ sym (drivers_from (inputs_from 0 ps)))

-- ---- two sources

pub two_told : (i : ℕ) (ss : List Signal) → with_two i (map told ss) ≡ with_two i ss
two_told i [] = refl
two_told i (s ∷ ss) = ap (λ rest. if has_two s then Some i else rest) (two_told (suc i) ss)

one_source : (b : Bool) (i : ℕ) (rest : Option ℕ) → (if b then Some i else rest) ≡ None → (b ≡ false) × (rest ≡ None)
one_source true i rest e = cc
one_source false i rest e = (refl, e)

-- the first with two sources behind those with one
pub two_behind : (i : ℕ) (before rest : List Signal) → with_two i before ≡ None → with_two i (before ++ rest) ≡ with_two (i + length before) rest
two_behind i [] rest e = let z : i ≡ i + 0 = omega arith in ap (λ k. with_two k rest) z
two_behind i (s ∷ ss) rest e =
    let one = one_source (has_two s) i (with_two (suc i) ss) e in
    let z : suc i + length ss ≡ i + suc (length ss) = omega arith in
    ap (λ (b : Bool). if b then Some i else with_two (suc i) (ss ++ rest)) one.0 ∙ two_behind (suc i) ss rest one.1 ∙ ap (λ k. with_two k rest) z

-- a signal with two sources is found
pub two_found : (i : ℕ) (before : List Signal) (s : Signal) (rest : List Signal) → with_two i before ≡ None → has_two s ≡ true → is_some (with_two i (before ++ s ∷ rest)) ≡ true
two_found i before s rest e two =
    ap is_some (two_behind i before (s ∷ rest) e ∙ ap (λ (b : Bool). if b then Some (i + length before) else with_two (suc (i + length before)) rest) two)

-- and one with none is passed by
pub two_passed : (i : ℕ) (before : List Signal) (s : Signal) → with_two i before ≡ None → has_two s ≡ false → with_two i (before ++ s ∷ []) ≡ None
two_passed i before s e one =
    two_behind i before (s ∷ []) e ∙ ap (λ (b : Bool). if b then Some (i + length before) else None) one

-- ---- ports from outside

counted : (b : Bool) (n m : ℕ) (xs ys : List ℕ) → length xs ≡ length ys → length (if b then n ∷ xs else xs) ≡ length (if b then m ∷ ys else ys)
counted true n m xs ys e = ap suc e
counted false n m xs ys e = e

none_more : (b : Bool) (x y : ℕ) → x ≡ y → x ≡ (if b then 0 else 0) + y
none_more true x y e = omega (arith, e)
none_more false x y e = omega (arith, e)

one_input : (b : Bool) (n : ℕ) (xs : List ℕ) (k y : ℕ) → length xs ≡ (if b then k else 0) + y → length (if b then n ∷ xs else xs) ≡ (if b then k + 1 else 0) + y
one_input true n xs k y e = omega (arith, e)
one_input false n xs k y e = e

pub inputs_long : (n m : ℕ) (ps : List Port) → length (inputs_from n ps) ≡ length (inputs_from m ps)
inputs_long n m [] = refl
inputs_long n m (p ∷ ps) = counted (is_input p.mode) n m (inputs_from (suc n) ps) (inputs_from (suc m) ps) (inputs_long (suc n) (suc m) ps)

pub inputs_named : (ids : Forest Form) (mode : Mode) (mark : List ℕ) (n : ℕ) (rest : List Port) → length (inputs_from n (ports_named ids mode mark ++ rest)) ≡ (if is_input mode then tree_count ids else 0) + length (inputs_from 0 rest)
inputs_named nothing mode mark n rest = none_more (is_input mode) (length (inputs_from n rest)) (length (inputs_from 0 rest)) (inputs_long n 0 rest)
inputs_named (more f t p parts next) mode mark n rest =
    one_input (is_input mode) n (inputs_from (suc n) (ports_named next mode mark ++ rest)) (tree_count next) (length (inputs_from 0 rest)) (inputs_named next mode mark (suc n) rest)

-- a driver from outside for each port of a declaration more
pub added_outside : (drivers new target : List DriverShape) (left : Forest Form) (f : Form) (t : List ℕ) (p : Place) (parts next : Forest Form) → left ≡ more f t p parts next → new ≡ drivers ++ replicate (outside_count parts) plain_driver
    → drivers ++ replicate (length (inputs_from 0 (declared_ports left))) plain_driver ≡ target → new ++ replicate (length (inputs_from 0 (declared_ports next))) plain_driver ≡ target
added_outside drivers new target left f t p parts next opened added so_far =
    let rest = length (inputs_from 0 (declared_ports next)) in
    ap (λ ds. ds ++ replicate rest plain_driver) added
    ∙ append_assoc drivers (replicate (outside_count parts) plain_driver) (replicate rest plain_driver)
    ∙ ap (λ ds. drivers ++ ds) (replicate-append-replicate (outside_count parts) rest plain_driver)
    ∙ ap (λ n. drivers ++ replicate n plain_driver) (sym (inputs_named (parts_of parts) (mode_of (next_of parts)) (type_mark (next_of (next_of parts))) 0 (declared_ports next)))
    ∙ ap (λ g. drivers ++ replicate (length (inputs_from 0 (declared_ports g))) plain_driver) (sym opened)
    ∙ so_far

-- a signal is connected, if the number is that of one
pub one_connected : (driver : ℕ) (driven : List ℕ) (ss : List Signal) (i : ℕ) → driver < length driven → i ≡ get_or driven driver i → connected driver (drop driver driven) ss ≡ connected (driver + 1) (drop (driver + 1) driven) (with_driver_at driver ss i)
one_connected driver driven ss i within is =
    let e : suc driver ≡ driver + 1 = omega arith in
    ap (λ ds. connected driver ds ss) (drop-cons driven driver i within)
    ∙ ap (λ j. connected (suc driver) (drop (suc driver) driven) (with_driver_at driver ss j)) (sym is)
    ∙ ap (λ n. connected n (drop n driven) (with_driver_at driver ss i)) e

here_or : (b : Bool) (i : ℕ) (rest : Option ℕ) (j n : ℕ) → (if b then Some i else rest) ≡ Some j → (rest ≡ Some j → j < suc i + n) → j < i + suc n
here_or true i rest j n e h = let same : i ≡ j = cc in omega (arith, same)
here_or false i rest j n e h = omega (arith, h e)

-- the first with two sources is one of the signals
pub two_within : (i : ℕ) (ss : List Signal) (j : ℕ) → with_two i ss ≡ Some j → j < i + length ss
two_within i [] j e = cc
two_within i (s ∷ ss) j e = here_or (has_two s) i (with_two (suc i) ss) j (length ss) e (λ h. omega (arith, two_within (suc i) ss j h))
