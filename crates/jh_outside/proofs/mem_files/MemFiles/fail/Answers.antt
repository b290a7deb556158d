-- A number put among the keys is put into the set that they are seen as.
use Rattle.std.proofs.Common.{◌≡◌, ap, ◌∙◌}
use Rattle.std.specs.Ordering.{nat_cmp}
use Rattle.std.specs.FinSet as set
use Rattle.jh_outside.specs.Shelf.{Shelf}
use Rattle.jh_outside.specs.contracts.mem_files.MemFiles.{the_view}
use Rattle.jh_outside.proofs.ShelfLemmas.{insert_kept}
use Rattle.jh_outside.proofs.mem_files.MemFiles.fail.Goals as goal

pub returns-clause-ok : goal.returns-clause-ok
returns-clause-ok c =
    let before : Shelf = the_view c.self.inside in
    let kept : set.from_list {R = nat_cmp} c.insert.new.self.keys ≡ set.insert before.failing c.args.call =
    ap (λ ks. set.from_list {R = nat_cmp} ks) c.in_ok-insert.ensures.keys ∙ insert_kept _ _ in
    (λ i. record before { failing = kept i }) ∙ ap (λ (s : Shelf). record s { failing = set.insert s.failing c.args.call }) c.self.view_is
