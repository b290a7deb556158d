-- The tables that lack after a turn: one less where one is linked, else as many.
use Rattle.std.proofs.Common.{◌≡◌, ℕ, ◌+◌, ◌-◌, ◌*◌, ◌<◌, suc, ap, ◌∙◌, sym, Bool, false, Option, Some, None, arith, refl}
use Rattle.std.proofs.lemmas.Bool.{false≢true}
use Rattle.jh_num.specs.declared.level.TheConstants.{LAST_LEVEL}
use Rattle.jh_num.specs.Below.{sum_below}
use Rattle.jh_num.proofs.Public.{sum_moves, sum_same}
use Rattle.jh_desc.specs.declared.descriptor.Descriptor.{Descriptor}
use Rattle.jh_desc.specs.declared.descriptor.Descriptor.TheVariants.{Table}
use Rattle.jh_desc.specs.Descriptors.{read_of}
use Rattle.jh_walk.specs.Counts.{by_next, count_from}
use Rattle.jh_walk.specs.Walks.{levels}
use Rattle.jh_walk.proofs.Public.{counts_same, next_same}
use Rattle.jh_shape.specs.declared.want.Want.{Want}
use Rattle.jh_shape.specs.declared.want.Want.TheVariants.{Nothing, Table as WantTable, Leaf as WantLeaf}
use Rattle.jh_shape.specs.Wanted.{Wants, if_table, slot_start, tables_under}
use Rattle.jh_edit.specs.declared.edit.Ahead.{Ahead}
use Rattle.jh_edit.specs.Trees.{lack_at, lack_of, lacking, staying}
use Rattle.jh_edit.specs.Plans.{IsMade, IsMadeTable, begin_of}
use Rattle.jh_edit.specs.Moves.{IsAtTurn, IsEmptied, IsFilled, IsLinked, IsMoved, IsPruned, Move, StayingTable, TableLink, Prune, Empty, Fill, Make, Link, TakeAway, End, tables_linked}
use Rattle.jh_edit.proofs.SumLemmas.{count_more, sum_none, under_more}
use Rattle.jh_edit.proofs.StandLemmas.{stays_at}
use Rattle.jh_edit.proofs.FallLemmas.{emptied_lacking, emptied_next, filled_lacking, filled_next}
use Rattle.jh_edit.proofs.LinkLemmas.{each, none_lacking}
use Rattle.jh_edit.proofs.LackLemmas.{gone_lacks}
use Rattle.jh_edit.proofs.MadeLemmas.{no_next}
use Rattle.jh_edit.proofs.MovePathLemmas.{IsChange, apart_counts, below_same, but_others, change_counts}
use Rattle.jh_edit.proofs.MoveTurnLemmas.{AreApart, cleared_invalid, empty_change, fill_change, link_change, link_links, linked_made, prune_change, unwanted_at}

-- ---- words

pub lack_told : (want : Wants) (word word' : ℕ → ℕ) (n page : ℕ) (state : Option ℕ) → ((i : ℕ) → i < 512 → word' (page + 8 * i) ≡ word (page + 8 * i)) → lack_at want state word' n page ≡ lack_at want state word n page
lack_told want word word' n page None same = refl
lack_told want word word' n page (Some start) same =
    let S = λ (i : ℕ). slot_start (LAST_LEVEL - n) start i in
    let K = λ (w : ℕ → ℕ) (i : ℕ). lacking (tables_under want n (S i)) (want (LAST_LEVEL - n) (S i)) (read_of (w (page + 8 * i)) (LAST_LEVEL - n)) in
    sum_same 512 (K word') (K word) (λ i few. ap (λ w. lacking (tables_under want n (S i)) (want (LAST_LEVEL - n) (S i)) (read_of w (LAST_LEVEL - n))) (same i few))

-- what a table below the page that changes lacks is the same
below_lack : (want : Wants) (word word' : ℕ → ℕ) (table m : ℕ) (there : Option ℕ) (page : ℕ) → IsChange (staying want) word word' levels (Some 0) table m there page
    → (i next : ℕ) → i < 512 → read_of (word (page + 8 * i)) (LAST_LEVEL - m) ≡ Table next → count_from (staying want) (lack_at want) word' m (staying want there m i) next ≡ count_from (staying want) (lack_at want) word m (staying want there m i) next
below_lack want word word' table m there page change i next few leads =
    let same = below_same (staying want) word word' levels (Some 0) table m there page change i next few leads in
    counts_same (staying want) (lack_at want) word word' m (staying want there m i) next same (λ state k other some. lack_told want word word' k other state (λ j small. same.words other j some small))

lack_lifted : (want : Wants) (word word' : ℕ → ℕ) (table m : ℕ) (there : Option ℕ) (page a : ℕ) → IsChange (staying want) word word' levels (Some 0) table m there page
    → count_from (staying want) (lack_at want) word' (suc m) there page + a ≡ count_from (staying want) (lack_at want) word (suc m) there page → lack_of want word' levels table 0 + a ≡ lack_of want word levels table 0
lack_lifted want word word' table m there page a change moved =
    let here : count_from (staying want) (lack_at want) word' (suc m) there page + a ≡ count_from (staying want) (lack_at want) word (suc m) there page + 0 = omega arith in
    let all : lack_of want word' levels table 0 + a ≡ lack_of want word levels table 0 + 0 = change_counts (staying want) (lack_at want) (lack_told want) word word' levels (Some 0) table m there page a 0 change here in
    omega arith

-- ---- a table that is pruned

pruned_weight : (want : Wants) (word word' : ℕ → ℕ) (table : ℕ) (there : Option ℕ) (link : TableLink) → IsPruned want word word' table there link → lack_at want there word' link.below link.parent ≡ lack_at want there word link.below link.parent
pruned_weight want word word' table None link is = refl
pruned_weight want word word' table (Some start) link is =
    let S = λ (i : ℕ). slot_start (LAST_LEVEL - link.below) start i in
    let W = λ (i : ℕ). want (LAST_LEVEL - link.below) (S i) in
    let K = λ (w : ℕ → ℕ) (i : ℕ). lacking (tables_under want link.below (S i)) (W i) (read_of (w (link.parent + 8 * i)) (LAST_LEVEL - link.below)) in
    let unwanted = unwanted_at want link.below start link.slot is.unwanted in
    sum_same 512 (K word') (K word)
    (each (λ i. K word' i ≡ K word i) link.slot
    (none_lacking (tables_under want link.below (S link.slot)) (W link.slot) (read_of (word' (link.parent + 8 * link.slot)) (LAST_LEVEL - link.below)) unwanted
    ∙ sym (none_lacking (tables_under want link.below (S link.slot)) (W link.slot) (read_of (word (link.parent + 8 * link.slot)) (LAST_LEVEL - link.below)) unwanted))
    (λ i few apart. ap (λ w. lacking (tables_under want link.below (S i)) (W i) (read_of w (LAST_LEVEL - link.below))) (but_others word word' link.parent link.slot is.cleared.others i apart)))

pruned_lack : (want : Wants) (word word' : ℕ → ℕ) (table : ℕ) (there : Option ℕ) (link : TableLink) → AreApart word table → IsPruned want word word' table there link → lack_of want word' levels table 0 + 0 ≡ lack_of want word levels table 0
pruned_lack want word word' table there link apart is =
    let change = prune_change want word word' table there link apart is in
    let m = link.below in
    let f = λ (w : ℕ → ℕ) (i : ℕ). count_from (staying want) (lack_at want) w m (staying want there m i) in
    let D = λ (i : ℕ). read_of (word (link.parent + 8 * i)) (LAST_LEVEL - m) in
    let D' = λ (i : ℕ). read_of (word' (link.parent + 8 * i)) (LAST_LEVEL - m) in
    let own = pruned_weight want word word' table there link is in
    let old : by_next (f word link.slot) (D link.slot) ≡ 0 =
    ap (by_next (f word link.slot)) is.cleared.leads ∙ (ap (λ s. count_from (staying want) (lack_at want) word m s link.page) is.unwanted ∙ gone_lacks want word m link.page) in
    let new : by_next (f word' link.slot) (D' link.slot) ≡ 0 = ap (by_next (f word' link.slot)) (cleared_invalid word word' link is.cleared) in
    let deep : sum_below 512 (λ i. by_next (f word' i) (D' i)) ≡ sum_below 512 (λ i. by_next (f word i) (D i)) = sum_same 512 (λ i. by_next (f word' i) (D' i)) (λ i. by_next (f word i) (D i))
    (each (λ i. by_next (f word' i) (D' i) ≡ by_next (f word i) (D i)) link.slot (new ∙ sym old)
    (λ i few other. ap (λ w. by_next (f word' i) (read_of w (LAST_LEVEL - m))) (but_others word word' link.parent link.slot is.cleared.others i other)
    ∙ next_same (f word' i) (f word i) (D i) (λ next leads. below_lack want word word' table m there link.parent change i next few leads))) in
    let before = count_more (staying want) (lack_at want) word m there link.parent in
    let after = count_more (staying want) (lack_at want) word' m there link.parent in
    lack_lifted want word word' table m there link.parent 0 change (omega arith)

-- ---- a table that is emptied, and one that is filled

emptied_lack : (want : Wants) (word word' : ℕ → ℕ) (table : ℕ) (t : StayingTable) → AreApart word table → IsEmptied want word word' table t → lack_of want word' levels table 0 + 0 ≡ lack_of want word levels table 0
emptied_lack want word word' table t apart is =
    let change = empty_change want word word' table t apart is in
    let m = t.below in
    let S = λ (i : ℕ). slot_start (LAST_LEVEL - m) t.start i in
    let W = λ (i : ℕ). want (LAST_LEVEL - m) (S i) in
    let M = λ (i : ℕ). tables_under want m (S i) in
    let f = λ (w : ℕ → ℕ) (i : ℕ). count_from (staying want) (lack_at want) w m (staying want (Some t.start) m i) in
    let D = λ (i : ℕ). read_of (word (t.page + 8 * i)) (LAST_LEVEL - m) in
    let D' = λ (i : ℕ). read_of (word' (t.page + 8 * i)) (LAST_LEVEL - m) in
    let own : sum_below 512 (λ i. lacking (M i) (W i) (D' i)) ≡ sum_below 512 (λ i. lacking (M i) (W i) (D i)) =
    sum_same 512 (λ i. lacking (M i) (W i) (D' i)) (λ i. lacking (M i) (W i) (D i)) (λ i few. ap (lacking (M i) (W i)) (is.empties i few) ∙ emptied_lacking (M i) (W i) (D i)) in
    let deep : sum_below 512 (λ i. by_next (f word' i) (D' i)) ≡ sum_below 512 (λ i. by_next (f word i) (D i)) = sum_same 512 (λ i. by_next (f word' i) (D' i)) (λ i. by_next (f word i) (D i)) (λ i few.
    ap (by_next (f word' i)) (is.empties i few) ∙ emptied_next (f word' i) (f word i) (W i) (D i) (λ next leads. below_lack want word word' table m (Some t.start) t.page change i next few leads)) in
    let before = count_more (staying want) (lack_at want) word m (Some t.start) t.page in
    let after = count_more (staying want) (lack_at want) word' m (Some t.start) t.page in
    lack_lifted want word word' table m (Some t.start) t.page 0 change (omega arith)

filled_lack : (want : Wants) (word word' : ℕ → ℕ) (table : ℕ) (t : StayingTable) → AreApart word table → IsFilled want word word' table t → lack_of want word' levels table 0 + 0 ≡ lack_of want word levels table 0
filled_lack want word word' table t apart is =
    let change = fill_change want word word' table t apart is in
    let m = t.below in
    let S = λ (i : ℕ). slot_start (LAST_LEVEL - m) t.start i in
    let W = λ (i : ℕ). want (LAST_LEVEL - m) (S i) in
    let M = λ (i : ℕ). tables_under want m (S i) in
    let f = λ (w : ℕ → ℕ) (i : ℕ). count_from (staying want) (lack_at want) w m (staying want (Some t.start) m i) in
    let D = λ (i : ℕ). read_of (word (t.page + 8 * i)) (LAST_LEVEL - m) in
    let D' = λ (i : ℕ). read_of (word' (t.page + 8 * i)) (LAST_LEVEL - m) in
    let own : sum_below 512 (λ i. lacking (M i) (W i) (D' i)) ≡ sum_below 512 (λ i. lacking (M i) (W i) (D i)) =
    sum_same 512 (λ i. lacking (M i) (W i) (D' i)) (λ i. lacking (M i) (W i) (D i)) (λ i few. ap (lacking (M i) (W i)) (is.fills i few) ∙ filled_lacking (M i) (W i) (D i)) in
    let deep : sum_below 512 (λ i. by_next (f word' i) (D' i)) ≡ sum_below 512 (λ i. by_next (f word i) (D i)) = sum_same 512 (λ i. by_next (f word' i) (D' i)) (λ i. by_next (f word i) (D i)) (λ i few.
    ap (by_next (f word' i)) (is.fills i few)
    ∙ filled_next (f word' i) (f word i) (W i) (D i) (λ other next leads. is.tables i next few other leads) (λ next leads. below_lack want word word' table m (Some t.start) t.page change i next few leads)) in
    let before = count_more (staying want) (lack_at want) word m (Some t.start) t.page in
    let after = count_more (staying want) (lack_at want) word' m (Some t.start) t.page in
    lack_lifted want word word' table m (Some t.start) t.page 0 change (omega arith)

-- ---- a table that is linked

lacks_once : (tables : ℕ) (want : Want) (d : Descriptor) → IsMade want d → lacking tables want d ≡ if_table tables want
lacks_once tables Nothing d e = refl
lacks_once tables WantTable d e = ap (lacking tables WantTable) e
lacks_once tables (WantLeaf o r v) d e = refl

-- a table that is made lacks all that is wanted below it
made_lack : (want : Wants) (word : ℕ → ℕ) (n table start : ℕ) → IsMadeTable want word n table start → lack_of want word (suc n) table start + 1 ≡ tables_under want (suc n) start
made_lack want word n table start made =
    let W = λ (i : ℕ). want (LAST_LEVEL - n) (slot_start (LAST_LEVEL - n) start i) in
    let D = λ (i : ℕ). read_of (word (table + 8 * i)) (LAST_LEVEL - n) in
    let f = λ (i : ℕ). count_from (staying want) (lack_at want) word n (staying want (Some start) n i) in
    let T = λ (i : ℕ). tables_under want n (slot_start (LAST_LEVEL - n) start i) in
    let deep : sum_below 512 (λ i. by_next (f i) (D i)) ≡ 0 = sum_none (λ i. by_next (f i) (D i)) 512 (λ i few. no_next (f i) (W i) (D i) (made i few)) in
    let own : sum_below 512 (λ i. lacking (T i) (W i) (D i)) ≡ sum_below 512 (λ i. if_table (T i) (W i)) = sum_same 512 (λ i. lacking (T i) (W i) (D i)) (λ i. if_table (T i) (W i)) (λ i few. lacks_once (T i) (W i) (D i) (made i few)) in
    let all = count_more (staying want) (lack_at want) word n (Some start) table in
    let under = under_more want n start in
    omega arith

linked_lack : (want : Wants) (word word' : ℕ → ℕ) (table : ℕ) (ahead : Ahead) → AreApart word table → IsLinked want word word' table ahead → lack_of want word' levels table 0 + 1 ≡ lack_of want word levels table 0
linked_lack want word word' table ahead apart is =
    let slot = is.is.slot in
    let m = suc slot.below in
    let k = slot.slot in
    let change = link_change want word word' table ahead apart is in
    let links = link_links want word word' table ahead is in
    let S = λ (i : ℕ). slot_start (LAST_LEVEL - m) slot.start i in
    let W = λ (i : ℕ). want (LAST_LEVEL - m) (S i) in
    let M = λ (i : ℕ). tables_under want m (S i) in
    let f = λ (w : ℕ → ℕ) (i : ℕ). count_from (staying want) (lack_at want) w m (staying want (Some slot.start) m i) in
    let D = λ (i : ℕ). read_of (word (slot.parent + 8 * i)) (LAST_LEVEL - m) in
    let D' = λ (i : ℕ). read_of (word' (slot.parent + 8 * i)) (LAST_LEVEL - m) in
    let K = λ (i : ℕ). lacking (M i) (W i) (D i) in
    let K' = λ (i : ℕ). lacking (M i) (W i) (D' i) in
    let B = λ (i : ℕ). by_next (f word i) (D i) in
    let B' = λ (i : ℕ). by_next (f word' i) (D' i) in
    let rest : ℕ = lack_of want word' m ahead.page (S k) in
    let made : rest + 1 ≡ M k = made_lack want word' slot.below ahead.page (begin_of slot) (linked_made want word word' table ahead apart is) in
    let k_old : K k ≡ M k = ap (λ w. lacking (M k) w (D k)) links.wanted ∙ ap (lacking (M k) WantTable) links.invalid in
    let k_new : K' k ≡ 0 = ap (λ w. lacking (M k) w (D' k)) links.wanted ∙ ap (lacking (M k) WantTable) links.leads in
    let b_old : B k ≡ 0 = ap (by_next (f word k)) links.invalid in
    let b_new : B' k ≡ rest = ap (by_next (f word' k)) links.leads ∙ ap (λ s. count_from (staying want) (lack_at want) word' m s ahead.page) (stays_at want m slot.start k links.wanted) in
    let k_moves : K' k + M k ≡ K k + 0 = omega arith in
    let b_moves : B' k + 0 ≡ B k + rest = omega arith in
    let tables : sum_below 512 K' + M k ≡ sum_below 512 K + 0 = sum_moves 512 K K' k (M k) 0 links.within k_moves (λ i few other. ap (lacking (M i) (W i)) (links.others i few other)) in
    let deep : sum_below 512 B' + 0 ≡ sum_below 512 B + rest = sum_moves 512 B B' k 0 rest links.within b_moves (λ i few other.
    ap (by_next (f word' i)) (links.others i few other) ∙ next_same (f word' i) (f word i) (D i) (λ next leads. below_lack want word word' table m (Some slot.start) slot.parent change i next few leads)) in
    let before = count_more (staying want) (lack_at want) word m (Some slot.start) slot.parent in
    let after = count_more (staying want) (lack_at want) word' m (Some slot.start) slot.parent in
    lack_lifted want word word' table m (Some slot.start) slot.parent 1 change (omega arith)

-- ---- in all

pub moved_lack : (want : Wants) (word word' : ℕ → ℕ) (table : ℕ) (removing : Bool) (ahead : Option Ahead) (move : Move) → AreApart word table → removing ≡ false → IsAtTurn removing ahead move → IsMoved want word word' table move
    → lack_of want word' levels table 0 + tables_linked move ≡ lack_of want word levels table 0
moved_lack want word word' table removing a (Prune there link) apart aims at is = pruned_lack want word word' table there link apart is
moved_lack want word word' table removing a (Empty t) apart aims at is = emptied_lack want word word' table t apart is
moved_lack want word word' table removing a (Fill t) apart aims at is = filled_lack want word word' table t apart is
moved_lack want word word' table removing a (Make slot page) apart aims at is =
    let same : lack_of want word' levels table 0 ≡ lack_of want word levels table 0 = apart_counts (staying want) (lack_at want) (lack_told want) word word' levels (Some 0) table page is.aligned is.outside apart.aligned is.apart in
    omega arith
moved_lack want word word' table removing a (Link linked) apart aims at is = linked_lack want word word' table linked apart is
moved_lack want word word' table removing a (TakeAway link) apart aims at is = absurd (false≢true (sym aims ∙ at.0))
moved_lack want word word' table removing a End apart aims at is = absurd (false≢true (sym aims ∙ at.0))
