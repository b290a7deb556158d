-- Two pages are free, and a tag that no tables have; the first table is one in which nothing stands.
use Rattle.std.proofs.Common.{◌≡◌, false, refl, sym, ap, ◌∙◌, arith}
use Rattle.jh_shape.specs.Claims.{claims_of}
use Rattle.jh_edit.specs.OneTurn.{with_editing}
use Rattle.jh_edit.specs.Seats.{is_tag_used}
use Rattle.jh_edit.proofs.FoundLemmas.{other_tag}
use Rattle.jh_edit.proofs.OneTurnLemmas.{coming_fresh, two_free, two_taken}
use Rattle.jh_edit.proofs.stage.Stage2.fresh_turn.Goals as goal

pub free_page-comm-requires : goal.free_page-comm-requires
free_page-comm-requires c =
    let u = c.requires.under.1.1 in
    let bound = c.requires.under.1.0 in
    let two = two_free c.requires.under.0 (claims_of c.args.cell.now) (with_editing c.args.self.now (coming_fresh c.args.root c.args.id bound)) c.args.root c.args.id bound u.edit c.requires.behind in omega arith

pub free_page-table-requires : goal.free_page-table-requires
free_page-table-requires c =
    let u = c.requires.under.1.1 in
    let bound = c.requires.under.1.0 in
    let two = two_free c.requires.under.0 (claims_of c.args.cell.now) (with_editing c.args.self.now (coming_fresh c.args.root c.args.id bound)) c.args.root c.args.id bound u.edit c.requires.behind in
    let used = c.free_page-comm.ensures.used in
    let size = c.free_page-comm.ensures.size in omega arith

pub returns : goal.returns
returns c = λ bound.
    let t = two_taken c.free_page-comm.result c.free_page-table.result c.args.self.now.pool c.free_page-comm.new.p c.free_page-table.new.p c.free_page-comm.ensures c.free_page-table.ensures in
    let k = c.clear_table.ensures in
    let n = c.new-edit.ensures in
    let none : is_tag_used c.lowest_tag-tag.result c.args.self.now.seats.items ≡ false = ap (is_tag_used c.lowest_tag-tag.result) (sym c.as_slice.ensures.value) ∙ c.lowest_tag-tag.ensures.unused in (
      c.new-edit.result,
      record {
        comm = c.free_page-comm.result;
        table = c.free_page-table.result;
        tag = c.lowest_tag-tag.result;
        comm_free = t.comm_free;
        table_free = t.table_free;
        apart = t.apart;
        comm_taken = t.comm_taken;
        table_taken = t.table_taken;
        others = t.others;
        used = t.used;
        pool_base = t.base;
        pool_size = t.size;
        outside = k.outside;
        zero = k.zero;
        guests = k.guests;
        base = k.base;
        size = k.size;
        cache = refl;
        new_tag = other_tag c.args.self.now.seats.items c.lowest_tag-tag.result none;
        seats = c.push_reserved.ensures.items;
        capacity = c.push_reserved.ensures.capacity;
        first = n.table;
        aim = n.aim;
        ahead = n.ahead;
        left = n.left;
        plan = n.plan;
        was = refl;
        cell = refl;
        root = refl;
        now = refl;
      },
    )
