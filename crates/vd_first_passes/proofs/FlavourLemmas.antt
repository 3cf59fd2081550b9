-- Ports, one by one.
use Rattle.std.proofs.Common.{◌≡◌, ◌≤◌, ℕ, List, [], length, sym, ap, ◌∙◌, arith}
use Rattle.vd_bytes.specs.declared.places.Place.{Place}
use Rattle.vd_forest.specs.Forest.{Forest, more, parts_of, next_of, joined, turned}
use Rattle.vd_forest.specs.Store.{at, Holds, Extends}
use Rattle.vd_forest.proofs.StoreLemmas.{turned_grown}
use Rattle.vd_first_trees.specs.declared.form.Form.{Form}
use Rattle.vd_first_passes.specs.Flavour.{each_port, single_ports}

-- a tree whose first part and what is beside it stand in older stores
pub port_made : (fs gs hs is : List (Forest Form)) (name shared list next number : ℕ) (f g : Form) (p q : Place) (a : Forest Form)
    → Extends fs gs → Extends gs hs → shared ≤ length fs → next ≤ length fs
    → Holds gs name a
    → Holds hs list (more f [] p (at gs name) (at gs shared))
    → Holds is number (more g [] q (at hs list) (at hs next))
    → Holds is number (more g [] q (more f [] p a (at fs shared)) (at fs next))
port_made fs gs hs is name shared list next number f g p q a e e2 s n h l m =
    record {
      within = m.within;
      is =
          m.is
          ∙ ap (λ x. more g [] q x (at hs next)) (l.is ∙ ap (λ x. more f [] p x (at gs shared)) h.is ∙ ap (more f [] p a) (e.keeps shared s))
          ∙ ap (more g [] q (more f [] p a (at fs shared))) (e2.keeps next (omega (arith, n, e.grows)) ∙ e.keeps next n);
    }

-- the ports of one declaration were made
pub ports_made : (fs gs hs : List (Forest Form)) (shared made new : ℕ) (left rest ids ms want : Forest Form) (f : Form) (t : List ℕ) (p : Place) (parts : Forest Form)
    → left ≡ more f t p parts rest → ids ≡ parts_of parts → ms ≡ next_of parts
    → Extends fs gs → made ≤ length fs → Holds gs shared ms
    → Holds hs new (turned (each_port ids (at gs shared)) (at gs made))
    → turned (at fs made) (single_ports left) ≡ want → turned (at hs new) (single_ports rest) ≡ want
ports_made fs gs hs shared made new left rest ids ms want f t p parts opened i m e within s held wanted =
    turned_grown gs hs made new (single_ports left) (single_ports rest) (each_port ids (at gs shared)) want
    (ap single_ports opened ∙ ap (λ x. joined x (single_ports rest)) (ap (λ x. each_port x (next_of parts)) (sym i) ∙ ap (each_port ids) (sym (s.is ∙ m))))
    held
    (ap (λ x. turned x (single_ports left)) (e.keeps made within) ∙ wanted)
