-- Which declarations a region takes. (IEEE 1076, declarative parts of packages, package bodies, architectures, generate statements,
-- processes and subprograms)
use Rattle.std.specs.Prelude.{Bool, true, false}
use Rattle.vd_forms.specs.declared.form.Form.{Form}
use Rattle.vd_forms.specs.declared.form.Form.TheVariants as form
use Rattle.vd_text_rules.specs.declared.regions.Region.{Region}
use Rattle.vd_text_rules.specs.declared.regions.Region.TheVariants as region

-- the region of what stands inside a node, which is that around it unless the node has one of its own
abbrev pub inside : Form → Region → Region
inside form.EntityDeclaration around = region.Entity
inside form.PackageDeclaration around = region.Package
inside form.PackageBody around = region.PackageBody
inside form.ArchitectureBody around = region.Concurrent
inside form.GenerateBody around = region.Concurrent
inside form.ProcessStatement around = region.Sequential
inside form.FunctionBody around = region.Sequential
inside _ around = around

-- constants, types, subtypes, functions without body, instances of functions and use clauses stand in each region
abbrev pub takes_views : Region → Bool
takes_views region.Package = true
takes_views _ = false

abbrev pub takes_bodies : Region → Bool
takes_bodies region.PackageBody = true
takes_bodies region.Concurrent = true
takes_bodies region.Sequential = true
takes_bodies _ = false

abbrev pub takes_signals : Region → Bool
takes_signals region.Concurrent = true
takes_signals _ = false

abbrev pub takes_variables : Region → Bool
takes_variables region.Sequential = true
takes_variables _ = false

-- what is no declaration stands wherever the grammar has it
abbrev pub takes : Region → Form → Bool
takes r form.ViewDeclaration = takes_views r
takes r form.FunctionBody = takes_bodies r
takes r form.SignalDeclaration = takes_signals r
takes r form.VariableDeclaration = takes_variables r
takes r _ = true

-- the generics of an entity are constants
abbrev pub takes_generics : Region → Bool
takes_generics region.Entity = false
takes_generics _ = true

abbrev pub takes_generic : Region → Form → Bool
takes_generic r form.GenericType = takes_generics r
takes_generic r form.GenericFunction = takes_generics r
takes_generic r _ = true
