-- An entry put into the table is put into the map that it is seen as, under its name.
use Rattle.std.proofs.Common.{◌≡◌, ap, ◌∙◌}
use Rattle.std.specs.Ordering.{nat_cmp}
use Rattle.std.specs.Cmp.Lexicographic.{slice_cmp}
use Rattle.std.specs.FinMap as map
use Rattle.jh_outside.specs.Shelf.{Shelf}
use Rattle.jh_outside.specs.contracts.mem_files.MemFiles.{the_view}
use Rattle.jh_outside.proofs.ShelfLemmas.{seen, insert_seen}
use Rattle.jh_outside.proofs.mem_files.MemFiles.add.Goals as goal

pub returns-clause-ok : goal.returns-clause-ok
returns-clause-ok c =
    let before : Shelf = the_view c.self.inside in
    let kept : map.from_entries {R = slice_cmp nat_cmp} (seen c.insert.new.self.entries) ≡ map.insert before.files c.args.name.now c.args.bytes.now =
    ap (λ es. map.from_entries {R = slice_cmp nat_cmp} (seen es)) c.in_ok-insert.ensures.entries
    ∙ insert_seen _ _ _
    ∙ (λ i. map.insert before.files (c.in_ok-name.ensures.ok i) ((c.from_vec.ensures ∙ c.in_ok-bytes.ensures.items) i)) in
    (λ i. record before { files = kept i }) ∙ ap (λ (s : Shelf). record s { files = map.insert s.files c.args.name.now c.args.bytes.now }) c.self.view_is
