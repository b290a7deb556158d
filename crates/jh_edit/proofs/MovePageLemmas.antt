-- How often each page is reached after a turn, and which pages are the edit's.
use Rattle.std.proofs.Common.{◌≡◌, ℕ, ◌+◌, ◌-◌, ◌*◌, ◌<◌, ◌≤◌, zero, suc, ap, ◌∙◌, subst, Bool, true, false, nat_eq, if◌then◌else◌, Option, Some, None, IfSome, arith, refl, ⊎_elim}
use Rattle.std.proofs.lemmas.Bool.{cases_lt, eqb-true}
use Rattle.jh_num.specs.declared.level.TheConstants.{LAST_LEVEL}
use Rattle.jh_num.specs.Below.{sum_below}
use Rattle.jh_num.proofs.Public.{same_number, sum_le, sum_moves, sum_same}
use Rattle.jh_desc.specs.declared.descriptor.Descriptor.{Descriptor}
use Rattle.jh_desc.specs.declared.descriptor.Descriptor.TheVariants.{Invalid, Table, Leaf}
use Rattle.jh_desc.specs.Descriptors.{read_of}
use Rattle.jh_walk.specs.Counts.{Step, by_next, unmoved}
use Rattle.jh_walk.specs.Pages.{page_weight, pages_reached, times}
use Rattle.jh_walk.specs.Walks.{levels}
use Rattle.jh_walk.proofs.Public.{count_none, counts_same, next_same}
use Rattle.jh_shape.specs.Wanted.{Wants, slot_start}
use Rattle.jh_edit.specs.declared.edit.Ahead.{Ahead}
use Rattle.jh_edit.specs.Trees.{staying}
use Rattle.jh_edit.specs.Plans.{IsMadeTable, begin_of}
use Rattle.jh_edit.specs.Moves.{IsAtTurn, IsCleared, IsEmptied, IsEnded, IsFilled, IsLinked, IsMoved, Move, StayingTable, TableLink, Prune, Empty, Fill, Make, Link, TakeAway, End}
use Rattle.jh_edit.proofs.BoundLemmas.{pages_more, pages_none}
use Rattle.jh_edit.proofs.SumLemmas.{count_more, sum_none}
use Rattle.jh_edit.proofs.FallLemmas.{emptied_next, filled_next}
use Rattle.jh_edit.proofs.MadeLemmas.{no_next}
use Rattle.jh_edit.proofs.MovePathLemmas.{IsChange, apart_counts, below_same, but_others, change_counts, change_plain}
use Rattle.jh_edit.proofs.MoveTurnLemmas.{AreApart, cleared_invalid, empty_change, fill_change, link_change, link_links, linked_made, prune_change, take_change}

-- ---- one page

-- one where the page is that one
abbrev pub is_one : ℕ → ℕ → ℕ
is_one page other = if nat_eq page other then 1 else 0

pub few_if : (b : Bool) → (if b then 1 else 0) ≤ 1
few_if true = omega arith
few_if false = omega arith

pub one_few : (page other : ℕ) → is_one page other ≤ 1
one_few page other = few_if (nat_eq page other)

pub one_self : (page : ℕ) → is_one page page ≡ 1
one_self page = ap (λ b. if b then 1 else 0) (same_number page)

-- where it counts, it is that page
pub if_some : (b : Bool) → 0 < (if b then 1 else 0) → b ≡ true
if_some true some = refl
if_some false some = absurd (let no : ⊥ = omega arith in no)

pub one_is : (page other : ℕ) → 0 < is_one page other → page ≡ other
one_is page other some = eqb-true page other (if_some (nat_eq page other) some)

times_more : (word : ℕ → ℕ) (n table q : ℕ) → times word (suc n) table q ≡ is_one table q + sum_below 512 (λ i. by_next (λ x. times word n x q) (read_of (word (table + 8 * i)) (LAST_LEVEL - n)))
times_more word n table q = count_more unmoved (λ state. page_weight q) word n None table

-- ---- pages that are reached once

next_le : (f g : ℕ → ℕ) → ((next : ℕ) → f next ≤ g next) → (d : Descriptor) → by_next f d ≤ by_next g d
next_le f g le Invalid = omega arith
next_le f g le (Leaf out rights device) = omega arith
next_le f g le (Table next) = le next

times_few : (word : ℕ → ℕ) (n table q : ℕ) → times word n table q ≤ pages_reached word n table
times_few word zero table q = let none : times word zero table q ≡ 0 = count_none unmoved (λ state. page_weight q) word None table in omega arith
times_few word (suc n) table q =
    let T = λ (i : ℕ). by_next (λ x. times word n x q) (read_of (word (table + 8 * i)) (LAST_LEVEL - n)) in
    let P = λ (i : ℕ). by_next (pages_reached word n) (read_of (word (table + 8 * i)) (LAST_LEVEL - n)) in
    let slots : sum_below 512 T ≤ sum_below 512 P = sum_le 512 T P (λ i few. next_le (λ x. times word n x q) (pages_reached word n) (λ next. times_few word n next q) (read_of (word (table + 8 * i)) (LAST_LEVEL - n))) in
    let few : is_one table q ≤ 1 = one_few table q in
    let own : times word (suc n) table q ≡ is_one table q + sum_below 512 T = times_more word n table q in
    let all : pages_reached word (suc n) table ≡ 1 + sum_below 512 P = pages_more word n table in
    omega arith

-- a page that names no table reaches itself alone
pub alone_times : (word : ℕ → ℕ) (n page q : ℕ) → pages_reached word n page ≡ 1 → times word n page q ≡ is_one page q
alone_times word zero page q e = let none : pages_reached word zero page ≡ 0 = pages_none word page in absurd (let no : ⊥ = omega arith in no)
alone_times word (suc n) page q e =
    let T = λ (i : ℕ). by_next (λ x. times word n x q) (read_of (word (page + 8 * i)) (LAST_LEVEL - n)) in
    let P = λ (i : ℕ). by_next (pages_reached word n) (read_of (word (page + 8 * i)) (LAST_LEVEL - n)) in
    let slots : sum_below 512 T ≤ sum_below 512 P = sum_le 512 T P (λ i few. next_le (λ x. times word n x q) (pages_reached word n) (λ next. times_few word n next q) (read_of (word (page + 8 * i)) (LAST_LEVEL - n))) in
    let own : times word (suc n) page q ≡ is_one page q + sum_below 512 T = times_more word n page q in
    let all : pages_reached word (suc n) page ≡ 1 + sum_below 512 P = pages_more word n page in
    omega arith

-- ---- each kind, at the page that it changes

-- what a table below reaches is the same
below_times : (step : Step) (word word' : ℕ → ℕ) (n : ℕ) (s : Option ℕ) (table m : ℕ) (there : Option ℕ) (page : ℕ) → IsChange step word word' n s table m there page
    → (q i next : ℕ) → i < 512 → read_of (word (page + 8 * i)) (LAST_LEVEL - m) ≡ Table next → times word' m next q ≡ times word m next q
below_times step word word' n s table m there page change q i next few leads =
    counts_same unmoved (λ state. page_weight q) word word' m None next (below_same step word word' n s table m there page change i next few leads) (λ state k other some. refl)

-- and lifted from there
times_lifted : (step : Step) (word word' : ℕ → ℕ) (s : Option ℕ) (table m : ℕ) (there : Option ℕ) (page q a b : ℕ) → IsChange step word word' levels s table m there page
    → times word' (suc m) page q + a ≡ times word (suc m) page q + b → times word' levels table q + a ≡ times word levels table q + b
times_lifted step word word' s table m there page q a b change moved =
    change_counts unmoved (λ state. page_weight q) (λ w w' n other state e. refl) word word' levels None table m None page a b (change_plain step word word' levels s table m there page change) moved

cleared_times : (step : Step) (word word' : ℕ → ℕ) (s : Option ℕ) (table : ℕ) (there : Option ℕ) (link : TableLink) (q : ℕ) → IsChange step word word' levels s table link.below there link.parent → IsCleared word word' link
    → times word' levels table q + is_one link.page q ≡ times word levels table q + 0
cleared_times step word word' s table there link q change is =
    let D = λ (i : ℕ). read_of (word (link.parent + 8 * i)) (LAST_LEVEL - link.below) in
    let D' = λ (i : ℕ). read_of (word' (link.parent + 8 * i)) (LAST_LEVEL - link.below) in
    let f = λ (x : ℕ). times word link.below x q in
    let f' = λ (x : ℕ). times word' link.below x q in
    let B = λ (i : ℕ). by_next f (D i) in
    let B' = λ (i : ℕ). by_next f' (D' i) in
    let old : B link.slot ≡ is_one link.page q = ap (by_next f) is.leads ∙ alone_times word link.below link.page q is.last in
    let new : B' link.slot ≡ 0 = ap (by_next f') (cleared_invalid word word' link is) in
    let moved : B' link.slot + is_one link.page q ≡ B link.slot + 0 = omega arith in
    let slots : sum_below 512 B' + is_one link.page q ≡ sum_below 512 B + 0 = sum_moves 512 B B' link.slot (is_one link.page q) 0 is.within moved (λ i few other.
    ap (λ w. by_next f' (read_of w (LAST_LEVEL - link.below))) (but_others word word' link.parent link.slot is.others i other)
    ∙ next_same f' f (D i) (λ next leads. below_times step word word' levels s table link.below there link.parent change q i next few leads)) in
    let x : times word' (suc link.below) link.parent q ≡ is_one link.parent q + sum_below 512 B' = times_more word' link.below link.parent q in
    let y : times word (suc link.below) link.parent q ≡ is_one link.parent q + sum_below 512 B = times_more word link.below link.parent q in
    times_lifted step word word' s table link.below there link.parent q (is_one link.page q) 0 change (omega arith)

emptied_times : (want : Wants) (word word' : ℕ → ℕ) (table : ℕ) (t : StayingTable) (q : ℕ) → AreApart word table → IsEmptied want word word' table t → times word' levels table q + 0 ≡ times word levels table q + 0
emptied_times want word word' table t q apart is =
    let change = empty_change want word word' table t apart is in
    let W = λ (i : ℕ). want (LAST_LEVEL - t.below) (slot_start (LAST_LEVEL - t.below) t.start i) in
    let D = λ (i : ℕ). read_of (word (t.page + 8 * i)) (LAST_LEVEL - t.below) in
    let D' = λ (i : ℕ). read_of (word' (t.page + 8 * i)) (LAST_LEVEL - t.below) in
    let f = λ (x : ℕ). times word t.below x q in
    let f' = λ (x : ℕ). times word' t.below x q in
    let slots : sum_below 512 (λ i. by_next f' (D' i)) ≡ sum_below 512 (λ i. by_next f (D i)) = sum_same 512 (λ i. by_next f' (D' i)) (λ i. by_next f (D i)) (λ i few.
    ap (by_next f') (is.empties i few) ∙ emptied_next f' f (W i) (D i) (λ next leads. below_times (staying want) word word' levels (Some 0) table t.below (Some t.start) t.page change q i next few leads)) in
    let x : times word' (suc t.below) t.page q ≡ is_one t.page q + sum_below 512 (λ i. by_next f' (D' i)) = times_more word' t.below t.page q in
    let y : times word (suc t.below) t.page q ≡ is_one t.page q + sum_below 512 (λ i. by_next f (D i)) = times_more word t.below t.page q in
    times_lifted (staying want) word word' (Some 0) table t.below (Some t.start) t.page q 0 0 change (omega arith)

filled_times : (want : Wants) (word word' : ℕ → ℕ) (table : ℕ) (t : StayingTable) (q : ℕ) → AreApart word table → IsFilled want word word' table t → times word' levels table q + 0 ≡ times word levels table q + 0
filled_times want word word' table t q apart is =
    let change = fill_change want word word' table t apart is in
    let W = λ (i : ℕ). want (LAST_LEVEL - t.below) (slot_start (LAST_LEVEL - t.below) t.start i) in
    let D = λ (i : ℕ). read_of (word (t.page + 8 * i)) (LAST_LEVEL - t.below) in
    let D' = λ (i : ℕ). read_of (word' (t.page + 8 * i)) (LAST_LEVEL - t.below) in
    let f = λ (x : ℕ). times word t.below x q in
    let f' = λ (x : ℕ). times word' t.below x q in
    let slots : sum_below 512 (λ i. by_next f' (D' i)) ≡ sum_below 512 (λ i. by_next f (D i)) = sum_same 512 (λ i. by_next f' (D' i)) (λ i. by_next f (D i)) (λ i few.
    ap (by_next f') (is.fills i few)
    ∙ filled_next f' f (W i) (D i) (λ other next leads. is.tables i next few other leads) (λ next leads. below_times (staying want) word word' levels (Some 0) table t.below (Some t.start) t.page change q i next few leads)) in
    let x : times word' (suc t.below) t.page q ≡ is_one t.page q + sum_below 512 (λ i. by_next f' (D' i)) = times_more word' t.below t.page q in
    let y : times word (suc t.below) t.page q ≡ is_one t.page q + sum_below 512 (λ i. by_next f (D i)) = times_more word t.below t.page q in
    times_lifted (staying want) word word' (Some 0) table t.below (Some t.start) t.page q 0 0 change (omega arith)

made_times : (want : Wants) (word : ℕ → ℕ) (n page start q : ℕ) → IsMadeTable want word n page start → times word (suc n) page q ≡ is_one page q
made_times want word n page start q made =
    let D = λ (i : ℕ). read_of (word (page + 8 * i)) (LAST_LEVEL - n) in
    let none : sum_below 512 (λ i. by_next (λ x. times word n x q) (D i)) ≡ 0 = sum_none (λ i. by_next (λ x. times word n x q) (D i)) 512 (λ i few. no_next (λ x. times word n x q) (want (LAST_LEVEL - n) (slot_start (LAST_LEVEL - n) start i)) (D i) (made i few)) in
    let all : times word (suc n) page q ≡ is_one page q + sum_below 512 (λ i. by_next (λ x. times word n x q) (D i)) = times_more word n page q in
    omega arith

linked_times : (want : Wants) (word word' : ℕ → ℕ) (table : ℕ) (ahead : Ahead) (q : ℕ) → AreApart word table → IsLinked want word word' table ahead → times word' levels table q + 0 ≡ times word levels table q + is_one ahead.page q
linked_times want word word' table ahead q apart is =
    let slot = is.is.slot in
    let n = suc slot.below in
    let change = link_change want word word' table ahead apart is in
    let links = link_links want word word' table ahead is in
    let D = λ (i : ℕ). read_of (word (slot.parent + 8 * i)) (LAST_LEVEL - n) in
    let D' = λ (i : ℕ). read_of (word' (slot.parent + 8 * i)) (LAST_LEVEL - n) in
    let f = λ (x : ℕ). times word n x q in
    let f' = λ (x : ℕ). times word' n x q in
    let B = λ (i : ℕ). by_next f (D i) in
    let B' = λ (i : ℕ). by_next f' (D' i) in
    let old : B slot.slot ≡ 0 = ap (by_next f) links.invalid in
    let new : B' slot.slot ≡ is_one ahead.page q = ap (by_next f') links.leads ∙ made_times want word' slot.below ahead.page (begin_of slot) q (linked_made want word word' table ahead apart is) in
    let moved : B' slot.slot + 0 ≡ B slot.slot + is_one ahead.page q = omega arith in
    let slots : sum_below 512 B' + 0 ≡ sum_below 512 B + is_one ahead.page q = sum_moves 512 B B' slot.slot 0 (is_one ahead.page q) links.within moved (λ i few other.
    ap (by_next f') (links.others i few other) ∙ next_same f' f (D i) (λ next leads. below_times (staying want) word word' levels (Some 0) table n (Some slot.start) slot.parent change q i next few leads)) in
    let x : times word' (suc n) slot.parent q ≡ is_one slot.parent q + sum_below 512 B' = times_more word' n slot.parent q in
    let y : times word (suc n) slot.parent q ≡ is_one slot.parent q + sum_below 512 B = times_more word n slot.parent q in
    times_lifted (staying want) word word' (Some 0) table n (Some slot.start) slot.parent q 0 (is_one ahead.page q) change (omega arith)

-- ---- each kind, in all

-- how often the page goes from the tables, and how often it comes to them
abbrev pub gone_from : Move → ℕ → ℕ
gone_from (Prune there link) q = is_one link.page q
gone_from (Empty t) q = 0
gone_from (Fill t) q = 0
gone_from (Make slot page) q = 0
gone_from (Link ahead) q = 0
gone_from (TakeAway link) q = is_one link.page q
gone_from End q = 0

abbrev pub come_to : Move → ℕ → ℕ
come_to (Prune there link) q = 0
come_to (Empty t) q = 0
come_to (Fill t) q = 0
come_to (Make slot page) q = 0
come_to (Link ahead) q = is_one ahead.page q
come_to (TakeAway link) q = 0
come_to End q = 0

ended_times : (word word' : ℕ → ℕ) (table q : ℕ) → IsEnded word word' table → times word' levels table q ≡ times word levels table q
ended_times word word' table q is = counts_same unmoved (λ state. page_weight q) word word' levels None table (record { words = λ page slot some few. is.same (page + 8 * slot) }) (λ state k other some. refl)

pub moved_times : (want : Wants) (word word' : ℕ → ℕ) (table : ℕ) (move : Move) → AreApart word table → IsMoved want word word' table move → (q : ℕ) → times word' levels table q + gone_from move q ≡ times word levels table q + come_to move q
moved_times want word word' table (Prune there link) apart is q = cleared_times (staying want) word word' (Some 0) table there link q (prune_change want word word' table there link apart is) is.cleared
moved_times want word word' table (Empty t) apart is q = emptied_times want word word' table t q apart is
moved_times want word word' table (Fill t) apart is q = filled_times want word word' table t q apart is
moved_times want word word' table (Make slot page) apart is q =
    ap (λ x. x + 0) (apart_counts unmoved (λ state. page_weight q) (λ w w' n other state e. refl) word word' levels None table page is.aligned is.outside apart.aligned is.apart)
moved_times want word word' table (Link ahead) apart is q = linked_times want word word' table ahead q apart is
moved_times want word word' table (TakeAway link) apart is q = cleared_times unmoved word word' None table None link q (take_change word word' table link apart is) is.cleared
moved_times want word word' table End apart is q = ap (λ x. x + 0) (ended_times word word' table q is)

-- ---- tables after

-- each page is reached once
pub moved_once : (want : Wants) (word word' : ℕ → ℕ) (table : ℕ) (move : Move) → AreApart word table → IsMoved want word word' table move → (q : ℕ) → times word' levels table q ≤ 1
moved_once want word word' table (Prune there link) apart is q =
    let once : times word levels table q ≤ 1 = apart.once q in
    let e : times word' levels table q + is_one link.page q ≡ times word levels table q + 0 = moved_times want word word' table (Prune there link) apart is q in omega arith
moved_once want word word' table (Empty t) apart is q =
    let once : times word levels table q ≤ 1 = apart.once q in
    let e : times word' levels table q + 0 ≡ times word levels table q + 0 = moved_times want word word' table (Empty t) apart is q in omega arith
moved_once want word word' table (Fill t) apart is q =
    let once : times word levels table q ≤ 1 = apart.once q in
    let e : times word' levels table q + 0 ≡ times word levels table q + 0 = moved_times want word word' table (Fill t) apart is q in omega arith
moved_once want word word' table (Make slot page) apart is q =
    let once : times word levels table q ≤ 1 = apart.once q in
    let e : times word' levels table q + 0 ≡ times word levels table q + 0 = moved_times want word word' table (Make slot page) apart is q in omega arith
moved_once want word word' table (Link ahead) apart is q =
    let once : times word levels table q ≤ 1 = apart.once q in
    let few : is_one ahead.page q ≤ 1 = one_few ahead.page q in
    let e : times word' levels table q + 0 ≡ times word levels table q + is_one ahead.page q = moved_times want word word' table (Link ahead) apart is q in
    let new : 0 < is_one ahead.page q → times word levels table q ≡ 0 = λ some. subst (λ z. times word levels table z ≡ 0) (one_is ahead.page q some) is.is.apart in
    ⊎_elim (λ some. let old : times word levels table q ≡ 0 = new some in omega arith) (λ none. omega arith) (cases_lt 0 (is_one ahead.page q))
moved_once want word word' table (TakeAway link) apart is q =
    let once : times word levels table q ≤ 1 = apart.once q in
    let e : times word' levels table q + is_one link.page q ≡ times word levels table q + 0 = moved_times want word word' table (TakeAway link) apart is q in omega arith
moved_once want word word' table End apart is q =
    let once : times word levels table q ≤ 1 = apart.once q in
    let e : times word' levels table q + 0 ≡ times word levels table q + 0 = moved_times want word word' table End apart is q in omega arith

-- what holds of each page that is reached, and of the page ahead, holds of each that is reached after
pub moved_each : (P : ℕ → Type 0) (want : Wants) (word word' : ℕ → ℕ) (table : ℕ) (removing : Bool) (ahead : Option Ahead) (move : Move) → AreApart word table → IsAtTurn removing ahead move → IsMoved want word word' table move
    → ((q : ℕ) → 0 < times word levels table q → P q) → IfSome ahead (λ (a : Ahead). P a.page) → (q : ℕ) → 0 < times word' levels table q → P q
moved_each P want word word' table removing a (Prune there link) apart at is old new q some =
    let e : times word' levels table q + is_one link.page q ≡ times word levels table q + 0 = moved_times want word word' table (Prune there link) apart is q in old q (omega arith)
moved_each P want word word' table removing a (Empty t) apart at is old new q some =
    let e : times word' levels table q + 0 ≡ times word levels table q + 0 = moved_times want word word' table (Empty t) apart is q in old q (omega arith)
moved_each P want word word' table removing a (Fill t) apart at is old new q some =
    let e : times word' levels table q + 0 ≡ times word levels table q + 0 = moved_times want word word' table (Fill t) apart is q in old q (omega arith)
moved_each P want word word' table removing a (Make slot page) apart at is old new q some =
    let e : times word' levels table q + 0 ≡ times word levels table q + 0 = moved_times want word word' table (Make slot page) apart is q in old q (omega arith)
moved_each P want word word' table removing a (Link ahead) apart at is old new q some =
    let e : times word' levels table q + 0 ≡ times word levels table q + is_one ahead.page q = moved_times want word word' table (Link ahead) apart is q in
    let is_ahead : P ahead.page = subst (λ x. IfSome x (λ (b : Ahead). P b.page)) at.1 new in
    ⊎_elim (λ one. subst P (one_is ahead.page q one) is_ahead) (λ none. old q (omega arith)) (cases_lt 0 (is_one ahead.page q))
moved_each P want word word' table removing a (TakeAway link) apart at is old new q some =
    let e : times word' levels table q + is_one link.page q ≡ times word levels table q + 0 = moved_times want word word' table (TakeAway link) apart is q in old q (omega arith)
moved_each P want word word' table removing a End apart at is old new q some =
    let e : times word' levels table q + 0 ≡ times word levels table q + 0 = moved_times want word word' table End apart is q in old q (omega arith)
