-- The tables of all cells stay while the words of each table do.
use Rattle.std.proofs.Common.{◌≡◌, ℕ, ◌+◌, ◌-◌, ◌*◌, ◌%◌, ◌<◌, ◌≤◌, ◌↔◌, ◌⊎◌, zero, suc, ap, ◌∙◌, sym, subst, arith, refl, inl, inr, ◌&&◌, nat_le, nat_lt, List, [], ◌∷◌, length, sum_by, Contains, Option, Some, None}
use Rattle.std.proofs.lemmas.List.Sums.{get_or-le-sum_by, sum_by-cons}
use Rattle.std.proofs.lemmas.Bool.{le-leb, lt-ltb, and_from}
use Rattle.jh_num.specs.declared.level.TheConstants.{LAST_LEVEL}
use Rattle.jh_num.proofs.Public.{Contains_head, Contains_tail}
use Rattle.jh_desc.specs.declared.descriptor.Descriptor.{Descriptor}
use Rattle.jh_desc.specs.declared.descriptor.Descriptor.TheVariants.{Table}
use Rattle.jh_desc.specs.Descriptors.{read_of}
use Rattle.jh_desc.specs.declared.descriptor.Hit.{Hit}
use Rattle.jh_frames.specs.Memory.{FramesView, AreOwnBytes, byte_at, is_own}
use Rattle.jh_pool.specs.Pages.{IsTakenPage}
use Rattle.jh_walk.specs.Counts.{unmoved}
use Rattle.jh_walk.specs.Pages.{HaveSameTables, page_weight, times}
use Rattle.jh_walk.specs.Walks.{levels}
use Rattle.jh_walk.proofs.Public.{counts_same, same_below, same_here, walk_same}
use Rattle.jh_shape.specs.declared.want.Want.{Want}
use Rattle.jh_shape.specs.declared.want.Want.TheVariants.{Nothing, Table as WantTable, Leaf as WantLeaf}
use Rattle.jh_shape.specs.Claims.{Claims}
use Rattle.jh_shape.specs.Shapes.{want_of}
use Rattle.jh_shape.specs.Wanted.{Wants, slot_start}
use Rattle.jh_edit.specs.declared.stage.Seat.{Seat}
use Rattle.jh_edit.specs.declared.stage.Stage2.{Stage2}
use Rattle.jh_edit.specs.declared.stage.Tree.{Tree}
use Rattle.jh_edit.specs.Forest.{HasSeat, IsForest, LeadsOutside, LeadsToComm, IsTrueTranslation, WritesNoTable, ahead_uses, comm_uses, table_uses, tree_times, uses, with_frames}
use Rattle.jh_edit.specs.Tables.{AreTables, words}
use Rattle.jh_edit.specs.Trees.{IsAsWanted, Stands}
use Rattle.jh_edit.proofs.MoveTableLemmas.{taken_own}
use Rattle.jh_edit.proofs.StepLemmas.{word_alike}

-- ---- sums over lists

-- each term is at most the sum
pub sum_up : {X : Type 0} (f : X → ℕ) (xs : List X) (x : X) → Contains xs x → f x ≤ sum_by f xs
sum_up {X} f xs x (k, lt, is) = let P : X → Type 0 = λ y. f y ≤ sum_by f xs in subst P is (get_or-le-sum_by f xs k x lt)

-- the sums are the same where all terms are
pub sum_alike : {X : Type 0} (f g : X → ℕ) (xs : List X) → ((x : X) → Contains xs x → f x ≡ g x) → sum_by f xs ≡ sum_by g xs
sum_alike f g [] same = refl
sum_alike f g (x ∷ xs) same =
    let here : f x ≡ g x = same x (Contains_head x xs) in
    let rest : sum_by f xs ≡ sum_by g xs = sum_alike f g xs (λ y h. same y (Contains_tail x xs y h)) in
    let one : sum_by f (x ∷ xs) ≡ f x + sum_by f xs = sum_by-cons f x xs in
    let other : sum_by g (x ∷ xs) ≡ g x + sum_by g xs = sum_by-cons g x xs in
    omega arith

-- ---- tables that stand

slot_stays : (on on' : ℕ → Type 0) (want : Want) (d d' : Descriptor) → d' ≡ d → ((next : ℕ) → d ≡ Table next → on next → on' next) → IsAsWanted on want d → IsAsWanted on' want d'
slot_stays on on' Nothing d d' e below is = e ∙ is
slot_stays on on' WantTable d d' e below (next, (is, more)) = (next, (e ∙ is, below next is more))
slot_stays on on' (WantLeaf out rights device) d d' e below is = e ∙ is

pub same_stands : (want : Wants) (word word' : ℕ → ℕ) (n table start : ℕ) → HaveSameTables word word' n table → Stands want word n table start → Stands want word' n table start
unfolding Stands
same_stands want word word' zero table start same stands = stands
same_stands want word word' (suc n) table start same stands = λ slot few.
    let S = slot_start (LAST_LEVEL - n) start slot in
    slot_stays (λ next. Stands want word n next S) (λ next. Stands want word' n next S) (want (LAST_LEVEL - n) S) (read_of (word (table + 8 * slot)) (LAST_LEVEL - n)) (read_of (word' (table + 8 * slot)) (LAST_LEVEL - n))
    (ap (λ w. read_of w (LAST_LEVEL - n)) (same_here word word' n table slot same few))
    (λ next leads h. same_stands want word word' n next S (same_below word word' n table slot next same few leads) h) (stands slot few)

pub same_times : (word word' : ℕ → ℕ) (n table page : ℕ) → HaveSameTables word word' n table → times word' n table page ≡ times word n table page
same_times word word' n table page same = counts_same unmoved (λ state. page_weight page) word word' n None table same (λ state m q some. refl)

-- ---- pages that are used

-- what has a use is the hypervisor's, and begins at a page
pub record IsUsedPage (stage : Stage2) (page : ℕ) : Type 0 where
  pub aligned : page % 4096 ≡ 0
  pub own : AreOwnBytes stage.frames.own page 4096

pub used_page : (claims : Seat → Claims) (stage : Stage2) → IsForest claims stage → (page : ℕ) → 0 < uses stage page → IsUsedPage stage page
used_page claims stage forest page some =
    let taken : IsTakenPage stage.pool page = (forest.taken page).1 some in
    record { aligned = taken.in_range.aligned; own = taken_own stage.pool stage.frames page forest.inside taken }

-- a page that a seat's tables reach is a table
reached_is_table : (stage : Stage2) (seat : Seat) (tree : Tree) (page : ℕ) → HasSeat stage seat → seat.tree ≡ Some tree → times (words stage.frames) levels tree.table page ≤ table_uses stage page
reached_is_table stage seat tree page sits has =
    let term : ℕ = tree_times (words stage.frames) page seat.tree in
    let is : tree_times (words stage.frames) page seat.tree ≡ times (words stage.frames) levels tree.table page = ap (tree_times (words stage.frames) page) has in
    let up : tree_times (words stage.frames) page seat.tree ≤ table_uses stage page = sum_up (λ (s : Seat). tree_times (words stage.frames) page s.tree) stage.seats.items seat sits in
    omega arith

-- tables of a seat are the hypervisor's, each reached once
pub tables_of_seat : (claims : Seat → Claims) (stage : Stage2) → IsForest claims stage → (seat : Seat) (tree : Tree) → HasSeat stage seat → seat.tree ≡ Some tree → AreTables stage.frames tree.table
tables_of_seat claims stage forest seat tree sits has = record {
  once = λ page. let le = reached_is_table stage seat tree page sits has in let one : uses stage page ≤ 1 = forest.once page in omega arith;
  aligned = λ page some. let le = reached_is_table stage seat tree page sits has in (used_page claims stage forest page (omega arith)).aligned;
  own = λ page some. let le = reached_is_table stage seat tree page sits has in (used_page claims stage forest page (omega arith)).own;
}

-- ---- a write outside tables

-- the words of a page that isn't a communication page are the same
pub written_apart : (stage : Stage2) (after : FramesView) → WritesNoTable stage after → (page : ℕ) → IsUsedPage stage page → comm_uses stage page ≡ 0 → (slot : ℕ) → slot < 512 → words after (page + 8 * slot) ≡ words stage.frames (page + 8 * slot)
written_apart stage after writes page is none slot few =
    word_alike (byte_at stage.frames) (byte_at after) (page + 8 * slot)
    (λ r from below.
    let begins : page % 4096 ≡ 0 = is.aligned in
    let above : stage.frames.own.base ≤ page = is.own.above in
    let end : page + 4096 ≤ stage.frames.own.base + length stage.frames.own.bytes = is.own.below in
    let low : stage.frames.own.base ≤ r = omega arith in
    let high : r < stage.frames.own.base + length stage.frames.own.bytes = omega arith in
    let at : page ≡ r - r % 4096 = omega arith in
    let P : ℕ → Type 0 = λ q. comm_uses stage q ≡ 0 in
    writes.bytes r (and_from _ _ (le-leb _ _ low) (lt-ltb _ _ high)) (subst P at none))

-- so are those of each table of a seat
pub written_tables : (claims : Seat → Claims) (stage : Stage2) (after : FramesView) → IsForest claims stage → WritesNoTable stage after → (seat : Seat) (tree : Tree) → HasSeat stage seat → seat.tree ≡ Some tree
    → HaveSameTables (words stage.frames) (words after) levels tree.table
written_tables claims stage after forest writes seat tree sits has = record {
  words = λ page slot some few.
      let le : times (words stage.frames) levels tree.table page ≤ table_uses stage page = reached_is_table stage seat tree page sits has in
      let one : uses stage page ≤ 1 = forest.once page in
      written_apart stage after writes page (used_page claims stage forest page (omega arith)) (omega arith) slot few;
}

pub same_tree : (word word' : ℕ → ℕ) (page : ℕ) (tree : Option Tree) → ((t : Tree) → tree ≡ Some t → HaveSameTables word word' levels t.table) → tree_times word' page tree ≡ tree_times word page tree
same_tree word word' page None same = refl
same_tree word word' page (Some tree) same = same_times word word' levels tree.table page (same tree refl)

pub written_uses : (claims : Seat → Claims) (stage : Stage2) (after : FramesView) → IsForest claims stage → WritesNoTable stage after → (page : ℕ) → uses (with_frames stage after) page ≡ uses stage page
written_uses claims stage after forest writes page =
    let tables : table_uses (with_frames stage after) page ≡ table_uses stage page =
    sum_alike (λ (seat : Seat). tree_times (words after) page seat.tree) (λ (seat : Seat). tree_times (words stage.frames) page seat.tree) stage.seats.items
    (λ seat sits. same_tree (words stage.frames) (words after) page seat.tree (λ tree has. written_tables claims stage after forest writes seat tree sits has))
    in
    ap (λ n. n + (comm_uses stage page + ahead_uses stage.editing page)) tables

pub same_own : (stage : Stage2) (after : FramesView) → WritesNoTable stage after → (place : ℕ) → is_own after.own place ≡ is_own stage.frames.own place
same_own stage after writes place =
    ap (λ base. nat_le base place && nat_lt place (base + length after.own.bytes)) writes.base
    ∙ ap (λ size. nat_le stage.frames.own.base place && nat_lt place (stage.frames.own.base + size)) writes.size

kept_out : (stage : Stage2) (after : FramesView) → WritesNoTable stage after → (seat : Seat) (hit : Hit) → LeadsOutside stage.frames hit ⊎ LeadsToComm seat hit → LeadsOutside after hit ⊎ LeadsToComm seat hit
kept_out stage after writes seat hit (inl out) = inl (same_own stage after writes hit.out ∙ out)
kept_out stage after writes seat hit (inr comm) = inr comm

pub written_forest : (claims : Seat → Claims) (stage : Stage2) (after : FramesView) → IsForest claims stage → WritesNoTable stage after → IsForest claims (with_frames stage after)
written_forest claims stage after forest writes =
    let same = written_tables claims stage after forest writes in
    let used = written_uses claims stage after forest writes in
    record {
      inside = record {
        aligned = forest.inside.aligned;
        base = forest.inside.base ∙ sym writes.base;
        size = forest.inside.size ∙ sym writes.size;
        end = forest.inside.end;
      };
      once = λ page. let P : ℕ → Type 0 = λ n. n ≤ 1 in subst P (sym (used page)) (forest.once page);
      taken = λ page. let P : ℕ → Type 0 = λ n. IsTakenPage stage.pool page ↔ (0 < n) in subst P (sym (used page)) (forest.taken page);
      trees = forest.trees;
      stands = λ seat tree sits has still. same_stands (want_of (claims seat)) (words stage.frames) (words after) levels tree.table 0 (same seat tree sits has) (forest.stands seat tree sits has still);
      outside = λ seat tree sits has at hit low found.
          kept_out stage after writes seat hit (forest.outside seat tree sits has at hit low (sym (walk_same (words stage.frames) (words after) levels tree.table at (same seat tree sits has)) ∙ found));
      cached = λ cpu translation held.
          let is : IsTrueTranslation stage translation = forest.cached cpu translation held in
          record {
            seat = is.seat;
            tree = is.tree;
            sits = is.sits;
            has = is.has;
            lives = is.lives;
            tag = is.tag;
            aligned = is.aligned;
            found = walk_same (words stage.frames) (words after) levels is.tree.table translation.page (same is.seat is.tree is.sits is.has) ∙ is.found;
          };
      apart = forest.apart;
      room = forest.room;
    }
