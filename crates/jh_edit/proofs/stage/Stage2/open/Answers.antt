-- Root alone has a seat, and its tables are all that is taken.
use Rattle.std.proofs.Common.{◌≡◌, ◌*◌, ◌++◌, ◌∷◌, [], ap, subst, ◌∙◌, sym, arith, refl, length, None}
use Rattle.std.specs.Prelude.{vec_capacity}
use Rattle.jh_num.specs.Pages.{page_at}
use Rattle.jh_frames.specs.Memory.{GuestView}
use Rattle.jh_shape.specs.Claims.{claims_of}
use Rattle.jh_shape.specs.Shapes.{want_of}
use Rattle.jh_walk.specs.Walks.{levels}
use Rattle.jh_edit.specs.declared.stage.Stage2.{Stage2}
use Rattle.jh_edit.specs.Tables.{words}
use Rattle.jh_edit.proofs.LoneLemmas.{lone_forest, lone_seat, out_by}
use Rattle.jh_edit.proofs.stage.Stage2.open.Goals as goal

pub returns-clause-forest : goal.returns-clause-forest
returns-clause-forest c =
    let claims = claims_of c.args.root.now in
    let made = c.root_table-table.ensures in
    let table = c.root_table-table.result in
    let f = c.root_table-table.new.f in
    let stage : Stage2 = record { frames = f; pool = c.root_table-table.new.p; cache = c.root_table-table.new.c; seats = c.push_reserved.new.self; editing = None } in
    let base : f.own.base ≡ c.args.base = made.base ∙ c.in_ok-frames.ensures.base in
    let size : length f.own.bytes ≡ 4096 * c.args.pages = made.size ∙ (c.in_ok-frames.ensures.size ∙ ap (λ n. 4096 * n) c.from.ensures) in
    lone_forest claims stage
    (record {
      id = c.args.id;
      lone = record {
        table = table;
        seats = c.push_reserved.ensures.items ∙ ap (λ items. items ++ lone_seat c.args.id table ∷ []) c.in_ok-seats.ensures.items;
        still = refl;
      };
      inside = made.pool;
      stands = made.stands;
      tables = made.tables;
      taken = made.taken;
      empty = made.empty;
      outside = λ at hit low walk.
          let walked = sym (c.standing_tables_walk_as_wanted.ensures (want_of claims) (words f) levels table 0 at made.stands) ∙ walk in
          let granted = c.walked_tells_grants.ensures.found claims at hit c.requires.sound low walked in
          out_by f.own hit.out (λ above below. c.requires.apart.apart at hit.out hit.rights hit.device low granted (omega arith) (omega arith));
      room = let kept : vec_capacity c.push_reserved.new.self ≡ vec_capacity c.in_ok-seats.seats = c.push_reserved.ensures.capacity in let had = c.in_ok-seats.ensures.capacity in omega arith;
    })

pub returns-clause-cpus : goal.returns-clause-cpus
returns-clause-cpus c = c.root_table-table.ensures.cpus ∙ c.in_ok-cache.ensures.cpus

pub returns-clause-guests : goal.returns-clause-guests
returns-clause-guests c = λ number.
    let P : GuestView → Type 0 = λ guest. page_at guest.pages number ≡ None in
    subst P (sym c.root_table-table.ensures.guests) (c.in_ok-frames.ensures.guest number)
