-- What is found below a slot is found from its table on, and so up to the first table.
use Rattle.std.proofs.Common.{◌+◌, ◌-◌, ◌*◌, ◌/◌, ◌<◌, ◌∙◌, sym, arith, refl, below_more}
use Rattle.std.proofs.lemmas.Bool.{false≢true}
use Rattle.jh_frames.specs.Memory.{byte_at, word_in}
use Rattle.jh_shape.specs.Claims.{claims_of}
use Rattle.jh_shape.specs.Shapes.{want_of}
use Rattle.jh_edit.specs.Private.Finding.{IsFound, IsFoundIn, SlotStands}
use Rattle.jh_edit.proofs.FindingLemmas.{all_before, all_end, before_ends, begun_stands, begun_wants, found_by_slot, found_own, held_begins, lower_done, lower_found, lower_node, lower_stands, node_stands, other_stands, slot_before, slot_of_level, some_more, some_size, starts, tidy_begun, to_make, wanted_there, whole_of_level}
use Rattle.jh_edit.proofs.finding.+find.Goals as goal

-- ---- the table of a slot

pub below_todo-overflow_mul-start : goal.below_todo-overflow_mul-start
below_todo-overflow_mul-start t c = let small = (starts c.args.node c.args.slot c.slot_size.result c.requires.node c.requires.slot c.slot_size.ensures).product in omega arith

pub below_todo-overflow_add-start : goal.below_todo-overflow_add-start
below_todo-overflow_add-start t c = let small = (starts c.args.node c.args.slot c.slot_size.result c.requires.node c.requires.slot c.slot_size.ensures).sum in omega arith

pub below_todo-find-requires : goal.below_todo-find-requires
below_todo-find-requires t c =
    let down = c.decreases in
    let some = c.requires.below in (
      omega arith,
      (
        c.requires.cells,
        (
          c.requires.sound,
          (
            lower_node c.args.node c.args.slot c.args.next c.slot_size.result c.requires.node c.requires.slot c.requires.below c.requires.place c.slot_size.ensures,
            lower_done (want_of (claims_of c.args.t.now)) (word_in (byte_at c.args.f.now)) c.args.cursor c.args.node c.args.slot c.args.next c.slot_size.result c.requires.slot c.requires.below c.requires.wants c.requires.named c.requires.done c.slot_size.ensures,
          ),
        ),
      ),
    )

pub below_todo-returns-clause-stands : goal.below_todo-returns-clause-stands
below_todo-returns-clause-stands t c = λ none.
    lower_stands (want_of (claims_of c.args.t.now)) (word_in (byte_at c.args.f.now)) c.args.node c.args.slot c.args.next c.slot_size.result c.requires.below c.requires.wants c.requires.named c.slot_size.ensures (c.find.ensures.stands none)

pub below_todo-returns-clause-found : goal.below_todo-returns-clause-found
below_todo-returns-clause-found t c =
    let want = want_of (claims_of c.args.t.now) in
    let word = word_in (byte_at c.args.f.now) in
    some_more c.find.result (IsFound want word (record { page = c.args.next; start = c.args.node.start + c.args.slot * c.slot_size.result; below = c.args.node.below - 1 })) (IsFoundIn want word c.args.node c.args.slot)
    (λ todo found. lower_found want word c.args.node c.args.slot c.args.next c.slot_size.result todo c.requires.node c.requires.slot c.requires.below c.requires.wants c.requires.named c.slot_size.ensures found) c.find.ensures.found

-- ---- a slot

pub table_todo-below_todo-requires : goal.table_todo-below_todo-requires
table_todo-below_todo-requires t c =
    let down = c.decreases in
    let above : 3 - c.args.node.below < 3 = c.in-Table.ensures.table.0 in (
      omega arith,
      (
        c.requires.cells,
        (c.requires.sound, (c.requires.node, (c.requires.slot, (omega arith, (c.in-Table.ensures.table.1, (sym c.in-Table.ensures.value, (c.requires.wants, c.requires.done))))))),
      ),
    )

pub table_todo-returns-in-Table-clause-stands : goal.table_todo-returns-in-Table-clause-stands
table_todo-returns-in-Table-clause-stands t c = c.below_todo.ensures.stands

pub table_todo-returns-in-Table-clause-found : goal.table_todo-returns-in-Table-clause-found
table_todo-returns-in-Table-clause-found t c = c.below_todo.ensures.found

pub table_todo-returns-in_default : goal.table_todo-returns-in_default
table_todo-returns-in_default t c = record {
  stands = λ no. absurd (false≢true (sym no));
  found = to_make (want_of (claims_of c.args.t.now)) (word_in (byte_at c.args.f.now)) c.args.node c.args.slot (c.claims_want_pages_at_the_end.ensures (claims_of c.args.t.now)) c.requires.node c.requires.slot c.requires.wants c.requires.tidy
      (λ next leads. c.in_default.not-Table next (c.descriptor.ensures.value ∙ leads));
}

pub begun_todo-below_todo-requires : goal.begun_todo-below_todo-requires
begun_todo-below_todo-requires t c =
    let down = c.decreases in
    let above : 3 - c.args.node.below < 3 = c.in-Table.ensures.table.0 in
    let wants = begun_wants (want_of (claims_of c.args.t.now)) (word_in (byte_at c.args.f.now)) c.args.cursor c.args.node c.args.slot c.in-Table.next c.requires.slot c.requires.begun c.requires.done (sym c.in-Table.ensures.value) in (
      omega arith,
      (
        c.requires.cells,
        (c.requires.sound, (c.requires.node, (c.requires.slot, (omega arith, (c.in-Table.ensures.table.1, (sym c.in-Table.ensures.value, (wants, c.requires.done))))))),
      ),
    )

pub begun_todo-returns-in-Table-clause-stands : goal.begun_todo-returns-in-Table-clause-stands
begun_todo-returns-in-Table-clause-stands t c = c.below_todo.ensures.stands

pub begun_todo-returns-in-Table-clause-found : goal.begun_todo-returns-in-Table-clause-found
begun_todo-returns-in-Table-clause-found t c = c.below_todo.ensures.found

pub begun_todo-returns-in_default : goal.begun_todo-returns-in_default
begun_todo-returns-in_default t c = record {
  stands = λ none.
      begun_stands (want_of (claims_of c.args.t.now)) (word_in (byte_at c.args.f.now)) c.args.cursor c.args.node c.args.slot c.requires.slot c.requires.begun c.requires.done
      (λ next leads. c.in_default.not-Table next (c.descriptor.ensures.value ∙ leads));
  found = tt;
}

pub slot_todo-table_todo-requires : goal.slot_todo-table_todo-requires
slot_todo-table_todo-requires t c =
    let down = c.decreases in (omega arith, (c.requires.cells, (c.requires.sound, (c.requires.node, (c.requires.slot, (c.requires.wants ∙ c.in-Table.is, (c.requires.tidy, c.requires.done)))))))

pub slot_todo-returns-in-Table-clause-stands : goal.slot_todo-returns-in-Table-clause-stands
slot_todo-returns-in-Table-clause-stands t c = c.table_todo.ensures.stands

pub slot_todo-returns-in-Table-clause-found : goal.slot_todo-returns-in-Table-clause-found
slot_todo-returns-in-Table-clause-found t c = c.table_todo.ensures.found

pub slot_todo-returns-in_default : goal.slot_todo-returns-in_default
slot_todo-returns-in_default t c = record {
  stands = λ none. other_stands (want_of (claims_of c.args.t.now)) (word_in (byte_at c.args.f.now)) c.args.node c.args.slot c.args.want c.requires.slot c.requires.wants c.in_default.not-Table c.requires.tidy;
  found = tt;
}

-- ---- all slots

pub tables_todo-loop-slot-init : goal.tables_todo-loop-slot-init
tables_todo-loop-slot-init t c = c.requires.before

pub tables_todo-slot_todo-requires : goal.tables_todo-slot_todo-requires
tables_todo-slot_todo-requires t c =
    let down = c.decreases in
    let lt = c.loop-slot-test.true in (
      omega arith,
      (
        c.requires.cells,
        (c.requires.sound, (c.requires.node, (lt, (sym (wanted_there (want_of (claims_of c.args.t.now)) c.args.node c.args.wants.now c.requires.wants c.loop-slot.slot lt), (c.requires.tidy, c.requires.done))))),
      ),
    )

pub tables_todo-returns-in-Some-clause-stands : goal.tables_todo-returns-in-Some-clause-stands
tables_todo-returns-in-Some-clause-stands t c = λ no. absurd (false≢true (sym no))

pub tables_todo-returns-in-Some-clause-found : goal.tables_todo-returns-in-Some-clause-found
tables_todo-returns-in-Some-clause-found t c =
    found_by_slot (want_of (claims_of c.args.t.now)) (word_in (byte_at c.args.f.now)) c.args.node c.loop-slot.slot c.in-Some.todo c.loop-slot-test.true c.requires.tidy c.loop-slot.invariant c.in-Some.ensures.found

pub tables_todo-loop-slot-preserved : goal.tables_todo-loop-slot-preserved
tables_todo-loop-slot-preserved t c = below_more (SlotStands (want_of (claims_of c.args.t.now)) (word_in (byte_at c.args.f.now)) c.args.node) c.loop-slot.slot c.loop-slot.invariant (c.in_default.ensures.stands refl)

pub tables_todo-returns-clause-stands : goal.tables_todo-returns-clause-stands
tables_todo-returns-clause-stands t c = λ none.
    node_stands (want_of (claims_of c.args.t.now)) (word_in (byte_at c.args.f.now)) c.args.node (λ slot lt.
    let test = c.loop-slot-test.false in c.loop-slot.invariant slot (omega arith))

-- ---- a table that begins below the cursor

pub rest_todo-nonzero_div-slot : goal.rest_todo-nonzero_div-slot
rest_todo-nonzero_div-slot t c =
    let some = some_size c.args.node.below in
    let is = c.slot_size.ensures in omega arith

pub rest_todo-returns-then-slot-clause-stands : goal.rest_todo-returns-then-slot-clause-stands
rest_todo-returns-then-slot-clause-stands t c = λ none.
    all_before (want_of (claims_of c.args.t.now)) (word_in (byte_at c.args.f.now)) c.args.cursor c.args.node (c.claims_want_pages_at_the_end.ensures (claims_of c.args.t.now)) c.requires.node
    (all_end c.args.node c.args.cursor c.slot_size.result c.slot_size.ensures c.requires.begun (omega arith)) c.requires.done

pub rest_todo-begun_todo-requires : goal.rest_todo-begun_todo-requires
rest_todo-begun_todo-requires t c =
    let down = c.decreases in (
      omega arith,
      (
        c.requires.cells,
        (
          c.requires.sound,
          (c.requires.node, (omega arith, (held_begins c.args.node c.args.cursor c.slot_size.result ((c.args.cursor - 1 - c.args.node.start) / c.slot_size.result) c.slot_size.ensures c.requires.begun refl, c.requires.done))),
        ),
      ),
    )

pub rest_todo-returns-in-Some-clause-stands : goal.rest_todo-returns-in-Some-clause-stands
rest_todo-returns-in-Some-clause-stands t c = λ no. absurd (false≢true (sym no))

pub rest_todo-returns-in-Some-clause-found : goal.rest_todo-returns-in-Some-clause-found
rest_todo-returns-in-Some-clause-found t c =
    let want = want_of (claims_of c.args.t.now) in
    let word = word_in (byte_at c.args.f.now) in
    let held = (c.args.cursor - 1 - c.args.node.start) / c.slot_size.result in
    let few : held < 512 = omega arith in
    found_by_slot want word c.args.node held c.in-Some.todo few (tidy_begun want word c.args.cursor c.args.node c.requires.begun c.requires.done)
    (λ i less. slot_before want word c.args.cursor c.args.node i (c.claims_want_pages_at_the_end.ensures (claims_of c.args.t.now)) c.requires.node (omega arith) (before_ends c.args.node c.args.cursor c.slot_size.result held i c.slot_size.ensures c.requires.begun refl less) c.requires.done)
    c.in-Some.ensures.found

pub rest_todo-returns-then-held-eq-SLOTS-clause-stands : goal.rest_todo-returns-then-held-eq-SLOTS-clause-stands
rest_todo-returns-then-held-eq-SLOTS-clause-stands t c = λ none.
    let want = want_of (claims_of c.args.t.now) in
    let word = word_in (byte_at c.args.f.now) in
    let held = (c.args.cursor - 1 - c.args.node.start) / c.slot_size.result in
    node_stands want word c.args.node (λ slot lt.
    below_more (SlotStands want word c.args.node) held
    (λ i less. slot_before want word c.args.cursor c.args.node i (c.claims_want_pages_at_the_end.ensures (claims_of c.args.t.now)) c.requires.node (omega arith) (before_ends c.args.node c.args.cursor c.slot_size.result held i c.slot_size.ensures c.requires.begun refl less) c.requires.done)
    (c.in_default.ensures.stands refl) slot (omega arith))

pub rest_todo-wants-requires-clause-slot : goal.rest_todo-wants-requires-clause-slot
rest_todo-wants-requires-clause-slot t c = slot_of_level c.args.node c.requires.node

pub rest_todo-wants-requires-clause-whole : goal.rest_todo-wants-requires-clause-whole
rest_todo-wants-requires-clause-whole t c = whole_of_level c.args.node c.requires.node

pub rest_todo-tables_todo-requires : goal.rest_todo-tables_todo-requires
rest_todo-tables_todo-requires t c =
    let down = c.decreases in
    let want = want_of (claims_of c.args.t.now) in
    let word = word_in (byte_at c.args.f.now) in
    let held = (c.args.cursor - 1 - c.args.node.start) / c.slot_size.result in
    let few : held < 512 = omega arith in (
      omega arith,
      (
        c.requires.cells,
        (
          c.requires.sound,
          (
            c.requires.node,
            (
              record { are = c.wants.ensures },
              (
                tidy_begun want word c.args.cursor c.args.node c.requires.begun c.requires.done,
                (
                  c.requires.done,
                  (
                    omega arith,
                    below_more (SlotStands want word c.args.node) held
                        (λ i less. slot_before want word c.args.cursor c.args.node i (c.claims_want_pages_at_the_end.ensures (claims_of c.args.t.now)) c.requires.node (omega arith) (before_ends c.args.node c.args.cursor c.slot_size.result held i c.slot_size.ensures c.requires.begun refl less) c.requires.done)
                        (c.in_default.ensures.stands refl),
                  ),
                ),
              ),
            ),
          ),
        ),
      ),
    )

pub rest_todo-returns-clause-stands : goal.rest_todo-returns-clause-stands
rest_todo-returns-clause-stands t c = c.tables_todo.ensures.stands

pub rest_todo-returns-clause-found : goal.rest_todo-returns-clause-found
rest_todo-returns-clause-found t c = c.tables_todo.ensures.found

-- ---- a table

pub find-rest_todo-requires : goal.find-rest_todo-requires
find-rest_todo-requires t c = let down = c.decreases in (omega arith, (c.requires.cells, (c.requires.sound, (c.requires.node, (omega arith, c.requires.done)))))

pub find-returns-then-node-cursor-clause-stands : goal.find-returns-then-node-cursor-clause-stands
find-returns-then-node-cursor-clause-stands t c = c.rest_todo.ensures.stands

pub find-returns-then-node-cursor-clause-found : goal.find-returns-then-node-cursor-clause-found
find-returns-then-node-cursor-clause-found t c = c.rest_todo.ensures.found

pub find-wants-requires-clause-slot : goal.find-wants-requires-clause-slot
find-wants-requires-clause-slot t c = slot_of_level c.args.node c.requires.node

pub find-wants-requires-clause-whole : goal.find-wants-requires-clause-whole
find-wants-requires-clause-whole t c = whole_of_level c.args.node c.requires.node

pub find-returns-in-Some-clause-stands : goal.find-returns-in-Some-clause-stands
find-returns-in-Some-clause-stands t c = λ no. absurd (false≢true (sym no))

pub find-returns-in-Some-clause-found : goal.find-returns-in-Some-clause-found
find-returns-in-Some-clause-found t c =
    let want = want_of (claims_of c.args.t.now) in
    found_own want (word_in (byte_at c.args.f.now)) c.args.node c.in-Some.todo (c.in-Some.ensures.own want (record { are = c.wants.ensures }))

pub find-tables_todo-requires : goal.find-tables_todo-requires
find-tables_todo-requires t c =
    let down = c.decreases in
    let want = want_of (claims_of c.args.t.now) in (
      omega arith,
      (
        c.requires.cells,
        (
          c.requires.sound,
          (
            c.requires.node,
            (record { are = c.wants.ensures }, (c.in_default.ensures.tidy want (record { are = c.wants.ensures }) refl, (c.requires.done, (omega arith, λ slot lt. absurd (let no : ⊥ = omega arith in no))))),
          ),
        ),
      ),
    )

pub find-returns-clause-stands : goal.find-returns-clause-stands
find-returns-clause-stands t c = c.tables_todo.ensures.stands

pub find-returns-clause-found : goal.find-returns-clause-found
find-returns-clause-found t c = c.tables_todo.ensures.found
