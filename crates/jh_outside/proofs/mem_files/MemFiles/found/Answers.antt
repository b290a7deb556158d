-- Looking among keys and entries is looking in the set and the map that they are seen as.
use Rattle.std.proofs.Common.{◌≡◌, ℕ, Bool, List, None, if◌then◌else◌, sym, ap, ◌∙◌}
use Rattle.std.specs.FinMap as map
use Rattle.std.specs.FinSet as set
use Rattle.jh_outside.specs.Shelf.{Shelf, next_read_finds}
use Rattle.jh_outside.specs.contracts.mem_files.MemFiles.{the_view}
use Rattle.jh_outside.proofs.ShelfLemmas.{get_seen, contains_kept}
use Rattle.jh_outside.proofs.mem_files.MemFiles.found.Goals as goal

-- where it is known whether the read fails
found_as : (s : Shelf) (name : List ℕ) (b : Bool) → set.contains s.failing s.reads ≡ b → next_read_finds s name ≡ (if b then None else map.get s.files name)
found_as s name b e = ap (λ t. if t then None else map.get s.files name) e

pub returns-then-contains : goal.returns-then-contains
returns-then-contains c =
    sym (ap (λ s. next_read_finds s c.args.name.now) (sym c.self.view_is)
    ∙ found_as (the_view c.self.inside) c.args.name.now _ (contains_kept _ _ ∙ sym c.contains.ensures ∙ c.if-contains.true))

pub returns : goal.returns
returns c =
    c.get.ensures.value ∙ sym (get_seen _ c.args.name.now)
    ∙ sym (ap (λ s. next_read_finds s c.args.name.now) (sym c.self.view_is)
    ∙ found_as (the_view c.self.inside) c.args.name.now _ (contains_kept _ _ ∙ sym c.contains.ensures ∙ c.if-contains.false))
