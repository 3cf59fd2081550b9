use Rattle.std.proofs.Common.{◌++◌, ◌∷◌, [], cond, Some, length, refl, sym, ap, subst, ◌∙◌}
use Rattle.std.specs.List.{Contains}
use Rattle.std.specs.Map.{lookup}
use Rattle.indexmap.specs.IndexMap.{get}
use Rattle.vd_declarations.specs.Classes.{is_overloadable}
use Rattle.vd_region_tables.specs.Tables.{same_key, first_of, homes_of, AddsFirst}
use Rattle.vd_regions.specs.declared.entries.Link.{Link}
use Rattle.vd_regions.specs.Links.{entered_of}
use Rattle.vd_region_tables.specs.Growth.{grown}
use Rattle.vd_regions.specs.Indexes.{IsIndexed, IsNoteOf}
use Rattle.vd_regions.proofs.IndexLemmas.{still_indexed, now_indexed}
use Rattle.vd_regions.proofs.catalog.Catalog.put.Goals as goal

pub invariant_of-self-in_err-reserve : goal.invariant_of-self-in_err-reserve
invariant_of-self-in_err-reserve c =
    still_indexed _ _ _ _ _ _ _ _ _ c.self.invariant c.reserve.ensures.items (λ key. refl) (λ sort. refl) c.add_where.ensures.kept

pub invariant_of-self-in_err-reserve-2 : goal.invariant_of-self-in_err-reserve-2
invariant_of-self-in_err-reserve-2 c =
    still_indexed _ _ _ _ _ _ _ _ _ c.self.invariant c.reserve.ensures.items (λ key. ap (lookup (same_key key)) c.in_err-reserve-2.ensures.entries) (λ sort. refl)
    c.add_where.ensures.kept

pub invariant_of-self-in_err-add : goal.invariant_of-self-in_err-add
invariant_of-self-in_err-add c =
    still_indexed _ _ _ _ _ _ _ _ _ c.self.invariant c.reserve.ensures.items (λ key. ap (lookup (same_key key)) c.in_ok-reserve-2.ensures.entries)
    c.in_err-add.ensures.unchanged c.add_where.ensures.kept

pub invariant_of-self-2 : goal.invariant_of-self-2
invariant_of-self-2 c =
    let note = c.args.note in
    let link : Link = record { entered = c.args.entered; before = c.args.note.table.newest } in
    let noted : IsNoteOf (entered_of c.self.inside.links.items) c.args.entered c.args.note =
    subst (λ es. IsNoteOf es c.args.entered c.args.note) (sym c.self.view_is) c.requires.noted in
    subst (λ ls. IsIndexed ls (get same_key c.insert.new.self) (first_of c.add.new.self) c.args.note.settled (homes_of c.add_where.new.self))
    (sym (c.in-Ok.ensures.items ∙ ap (λ ls. ls ++ c.new-link.result ∷ []) c.reserve.ensures.items ∙ ap (λ (l : Link). c.self.inside.links.items ++ l ∷ []) c.new-link.ensures))
    (now_indexed c.self.inside.links.items link (get same_key c.self.inside.tables) (get same_key c.insert.new.self)
    (first_of c.self.inside.firsts) (first_of c.add.new.self) c.self.inside.settled c.args.note.settled
    (homes_of c.self.inside.homes) (homes_of c.add_where.new.self) c.args.note.key c.args.note.table c.args.note.sort c.self.invariant
    refl noted.in_region noted.named noted.tabled
    (λ q. c.in-Ok-insert.ensures.updates.0 q
    ∙ ap (λ t. cond (same_key c.args.note.key q) (Some t) (get same_key c.reserve-2.new.self q))
    (noted.grows ∙ ap (λ n. grown c.args.note.table n (is_overloadable c.args.entered.declaration.class)) noted.numbered)
    ∙ ap (λ entries. cond (same_key c.args.note.key q)
    (Some (grown c.args.note.table (length (entered_of c.self.inside.links.items)) (is_overloadable c.args.entered.declaration.class)))
    (lookup (same_key q) entries)) c.in_ok-reserve-2.ensures.entries)
    noted.settles noted.sorted
    (subst (AddsFirst (first_of c.self.inside.firsts) (first_of c.add.new.self) c.args.note.sort) noted.numbered c.in_ok-add.ensures.added)
    c.add_where.ensures.kept
    (λ first name same. subst (Contains (homes_of c.add_where.new.self name)) noted.in_region
    (c.in_ok-add_where.ensures.added first name (same ∙ sym c.requires.named))))
