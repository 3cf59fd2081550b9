-- Functions that are written. (IEEE 1076, subprograms: bodies and calls.) A function means what it gives for arguments, closed over what stands
-- round its declaration, so that no call recurses.
use Rattle.std.specs.Prelude.{ℕ, List, [], ◌∷◌, Ok, Err}
use Rattle.vd_values.specs.declared.scalar.Scalar.{Scalar}
use Rattle.vd_values.specs.declared.scalar.StopKind.TheVariants.{NoReturn}
use Rattle.vd_composites.specs.Stops.{◌>>=◌}
use Rattle.vd_composites.specs.Composites.{Value}
use Rattle.vd_composites.specs.Subtypes.{Subtype, fit}
use Rattle.vd_environments.specs.Got.{Got, got, stop, senseless}
use Rattle.vd_environments.specs.Environments.{never, Argument, Function, Env, with_object, inside, Indicated}
use Rattle.vd_environments.specs.Commands.{Command, End, Ends, Suspends, Leaves, Stops, Return, Exit, Next, run}

-- a parameter: its declaration and its subtype
pub record Parameter : Type 0 where
  pub object : ℕ
  pub indicated : Env → Got Indicated

-- The parameters one after the other: the subtype of each, in which the parameters before it are visible, then its argument, then its
-- conversion to the subtype.
abbrev pub with_arguments : List Parameter → List Argument → Env → Got Env
with_arguments [] [] e = Ok e
with_arguments (p ∷ ps) (a ∷ as') e =
    p.indicated e >>= λ i. a (Ok i.subtype) >>= λ v. got (fit i.subtype v) >>= λ w.
    with_arguments ps as' (with_object p.object i.subtype i.make w never e)
with_arguments _ _ e = senseless

-- what the end of a body gives
abbrev pub returned : End → Got (Value Scalar)
returned (Leaves e (Return v)) = Ok v
returned (Leaves e (Exit l)) = senseless
returned (Leaves e (Next l)) = senseless
returned (Ends e) = stop NoReturn
returned (Suspends e pause rest) = senseless
returned (Stops s) = Err s

-- A call: the parameters, then the function's declarations and statements. (A function reports failures alone, and what it reports is in the stop.)
abbrev pub called : List Parameter → Subtype → Command → Env → Function
called parameters result body e arguments =
    with_arguments parameters arguments (record (inside e) { result = result }) >>= λ f. returned (run body f).end
