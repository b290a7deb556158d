-- What a search finds, carried from a table to the one above it.
use Rattle.std.proofs.Common.{◌≡◌, ℕ, ◌+◌, ◌-◌, ◌*◌, ◌/◌, ◌%◌, ◌<◌, ◌≤◌, ◌⊎◌, inl, inr, zero, suc, ap, ◌∙◌, sym, subst, ⊎_elim, arith, refl, Bool, true, false, if◌then◌else◌, Option, Some, None, IfSome, List}
use Rattle.std.proofs.lemmas.Bool.{false≢true, cases_lt, cases_eq}
use Rattle.std.proofs.lemmas.Nat.{pow_pos}
use Rattle.std.proofs.Math.Nat.{mul-le-mul_left}
use Rattle.jh_num.specs.declared.level.TheConstants.{LAST_LEVEL}
use Rattle.jh_num.specs.Levels.{slot_size}
use Rattle.jh_num.specs.Below.{any_below, sum_below}
use Rattle.jh_desc.specs.declared.descriptor.Descriptor.{Descriptor}
use Rattle.jh_desc.specs.declared.descriptor.Descriptor.TheVariants.{Invalid, Table, Leaf}
use Rattle.jh_desc.specs.Descriptors.{read_of}
use Rattle.jh_walk.specs.Counts.{IsReachedAs, NamesTable, Step, by_next}
use Rattle.jh_walk.specs.Pages.{pages_reached}
use Rattle.jh_shape.specs.declared.want.Want.{Want}
use Rattle.jh_shape.specs.declared.want.Want.TheVariants.{Nothing, Table as WantTable, Leaf as WantLeaf}
use Rattle.jh_shape.specs.Laws.{is_to_table}
use Rattle.jh_shape.specs.SoundClaims.{IsSlot}
use Rattle.jh_shape.specs.Wanted.{Wants, slot_start}
use Rattle.jh_edit.specs.declared.finding.Link.{Link}
use Rattle.jh_edit.specs.declared.finding.Node.{Node}
use Rattle.jh_edit.specs.declared.finding.Todo.{Todo}
use Rattle.jh_edit.specs.declared.finding.Todo.TheVariants.{Prune, Empty, Fill, Make}
use Rattle.jh_edit.specs.Trees.{IsAsWanted, Stands, WantsPagesAtTheEnd, staying}
use Rattle.jh_edit.specs.Turns.{has_lacking_leaf, has_wrong_leaf, is_wrong_leaf, lacks_leaf, HasNoTableTooMany}
use Rattle.jh_edit.specs.Plans.{IsDoneBelow, IsDoneSlot}
use Rattle.jh_edit.specs.Private.Slots.{IsTablePlace, IsTableStart, lacks_at, want_at, wrong_at}
use Rattle.jh_edit.specs.Private.Finding.{begin_in, cursor_of, read_in, want_in, AreWantsOf, HasNoLink, IsDeepest, IsDone, IsFound, IsFoundIn, IsLink, IsLinkOf, IsNode, IsOwnTodo, IsTidy, IsTidySlot, IsTodo, IsToPrune, IsToTakeAway, KeepsNone, NodeStands, Reaches, SlotStands}
use Rattle.jh_edit.proofs.SumLemmas.{any_down, any_same, sum_none}
use Rattle.jh_edit.proofs.BoundLemmas.{pages_more}
use Rattle.jh_edit.proofs.StandLemmas.{leaf_stands, stand_down, stand_more}
use Rattle.jh_edit.proofs.DescriptorLemmas.{slot_aligned}
use Rattle.jh_edit.proofs.MovePlanLemmas.{done_at, done_from, done_linked, done_none}
use Rattle.jh_edit.proofs.CountingLemmas.{IsFirstSlot, IsNextStart, first_slot, next_start, want_there}

-- ---- links

next_none : (f : ℕ → ℕ) (d : Descriptor) → ((next : ℕ) → d ≡ Table next → ⊥) → by_next f d ≡ 0
next_none f Invalid none = refl
next_none f (Leaf out rights device) none = refl
next_none f (Table next) none = absurd (none next refl)

-- a table that names no other reaches itself alone
pub reaches_itself : (word : ℕ → ℕ) (below page : ℕ) → HasNoLink word below page → pages_reached word (suc below) page ≡ 1
reaches_itself word below page none =
    let F = λ (i : ℕ). by_next (pages_reached word below) (read_of (word (page + 8 * i)) (LAST_LEVEL - below)) in
    let zeros : sum_below 512 F ≡ 0 = sum_none F 512 (λ i lt. next_none (pages_reached word below) (read_of (word (page + 8 * i)) (LAST_LEVEL - below)) (λ next leads. none i next lt leads)) in
    let all = pages_more word below page in
    omega arith

pub link_is_last : (word : ℕ → ℕ) (link : Link) → IsLink word link → HasNoLink word (link.below - 1) link.page → IsDeepest word link link
link_is_last word link is none =
    let some = is.some in
    let one : suc (link.below - 1) ≡ link.below = omega arith in
    record { is = is; last = subst (λ n. pages_reached word n link.page ≡ 1) one (reaches_itself word (link.below - 1) link.page none); reached = inl refl }

reached_from : (step : Step) (word : ℕ → ℕ) (n page : ℕ) (link deep : Link) → KeepsNone step → IsLink word link → link.parent ≡ page → link.below ≡ n
    → (deep ≡ link) ⊎ (IsReachedAs step word link.below None link.page (suc deep.below) None deep.parent) → IsReachedAs step word (suc n) None page (suc deep.below) None deep.parent
reached_from step word n page link deep keeps is parent below (inl same) =
    let levels : deep.below ≡ link.below = ap (λ (l : Link). l.below) same in
    inl (omega arith, (sym parent ∙ sym (ap (λ (l : Link). l.parent) same), refl))
reached_from step word n page link deep keeps is parent below (inr reached) =
    let names : NamesTable word (LAST_LEVEL - n) page link.slot link.page =
    subst (λ k. NamesTable word (LAST_LEVEL - k) page link.slot link.page) below (subst (λ p. NamesTable word (LAST_LEVEL - link.below) p link.slot link.page) parent is.names) in
    inr (
      link.slot,
      link.page,
      (
        names,
        subst (λ (s : Option ℕ). IsReachedAs step word n s link.page (suc deep.below) None deep.parent) (sym (keeps n link.slot))
            (subst (λ k. IsReachedAs step word k None link.page (suc deep.below) None deep.parent) below reached),
      ),
    )

link_or_below : (step : Step) (word : ℕ → ℕ) (link deep : Link) → KeepsNone step
    → (deep ≡ link) ⊎ ((other : Step) → KeepsNone other → IsReachedAs other word link.below None link.page (suc deep.below) None deep.parent)
    → (deep ≡ link) ⊎ (IsReachedAs step word link.below None link.page (suc deep.below) None deep.parent)
link_or_below step word link deep keeps (inl same) = inl same
link_or_below step word link deep keeps (inr reached) = inr (reached step keeps)

pub deeper : (word : ℕ → ℕ) (link below deep : Link) → IsLink word link → IsLinkOf word (link.below - 1) link.page below → IsDeepest word below deep → IsDeepest word link deep
deeper word link below deep is of deepest = record {
  is = deepest.is;
  last = deepest.last;
  reached = inr (λ step keeps.
      let some = is.some in
      let one : suc (link.below - 1) ≡ link.below = omega arith in
      subst (λ n. IsReachedAs step word n None link.page (suc deep.below) None deep.parent) one
      (reached_from step word (link.below - 1) link.page below deep keeps of.is of.parent of.below (link_or_below step word below deep keeps deepest.reached)));
}

pub to_take_away : (word : ℕ → ℕ) (below page : ℕ) (link deep : Link) → IsLinkOf word below page link → IsDeepest word link deep → IsToTakeAway word below page deep
to_take_away word below page link deep of deepest = record {
  is = deepest.is;
  last = deepest.last;
  reached = λ step keeps. reached_from step word below page link deep keeps of.is of.parent of.below (link_or_below step word link deep keeps deepest.reached);
}

-- ---- what a table itself wants

goes : (want : Wants) (start below slot : ℕ) → is_to_table (want (LAST_LEVEL - below) (slot_start (LAST_LEVEL - below) start slot)) ≡ false → staying want (Some start) below slot ≡ None
goes want start below slot other = ap (λ b. if b then Some (slot_start (LAST_LEVEL - below) start slot) else None) other

prune_by : (want : Wants) (word : ℕ → ℕ) (node : Node) (link deep : Link) → IsLinkOf word node.below node.page link → is_to_table (want_in want node link.slot) ≡ false → IsDeepest word link deep
    → (deep ≡ link) ⊎ (IsReachedAs (staying want) word link.below None link.page (suc deep.below) None deep.parent) → IsToPrune want word node deep
prune_by want word node link deep of other deepest (inl same) =
    let levels : deep.below ≡ link.below = ap (λ (l : Link). l.below) same in
    let below : link.below ≡ node.below = of.below in
    let there : staying want (Some node.start) link.below link.slot ≡ None = subst (λ b. staying want (Some node.start) b link.slot ≡ None) (sym below) (goes want node.start node.below link.slot other) in
    record {
      there = Some node.start;
      reached = inl (omega arith, (sym of.parent ∙ sym (ap (λ (l : Link). l.parent) same), refl));
      unwanted = subst (λ (l : Link). staying want (Some node.start) l.below l.slot ≡ None) (sym same) there;
      is = deepest.is;
      last = deepest.last;
    }
prune_by want word node link deep of other deepest (inr reached) =
    let names : NamesTable word (LAST_LEVEL - node.below) node.page link.slot link.page =
    subst (λ k. NamesTable word (LAST_LEVEL - k) node.page link.slot link.page) of.below (subst (λ p. NamesTable word (LAST_LEVEL - link.below) p link.slot link.page) of.parent of.is.names) in
    record {
      there = None;
      reached = inr (
        link.slot,
        link.page,
        (
          names,
          subst (λ (s : Option ℕ). IsReachedAs (staying want) word node.below s link.page (suc deep.below) None deep.parent) (sym (goes want node.start node.below link.slot other))
              (subst (λ k. IsReachedAs (staying want) word k None link.page (suc deep.below) None deep.parent) of.below reached),
        ),
      );
      unwanted = refl;
      is = deepest.is;
      last = deepest.last;
    }

pub wanted_there : (want : Wants) (node : Node) (wants : List Want) → AreWantsOf want node wants → (slot : ℕ) → slot < 512 → want_at wants slot ≡ want_in want node slot
wanted_there want node wants are slot lt = want_there wants slot (want_in want node slot) (are.are slot lt)

pub to_prune : (want : Wants) (word : ℕ → ℕ) (node : Node) (wants : List Want) (link deep : Link) → AreWantsOf want node wants → IsLinkOf word node.below node.page link → is_to_table (want_at wants link.slot) ≡ false → IsDeepest word link deep
    → IsOwnTodo want word node (Prune deep node.start)
to_prune want word node wants link deep are of other deepest =
    let there = wanted_there want node wants are link.slot of.is.names.within in
    record {
      is = prune_by want word node link deep of (sym (ap is_to_table there) ∙ other) deepest (link_or_below (staying want) word link deep (λ n slot. refl) deepest.reached);
      begins = refl;
    }

wrong_is : (want : Wants) (word : ℕ → ℕ) (node : Node) (wants : List Want) → AreWantsOf want node wants → any_below (wrong_at wants word (LAST_LEVEL - node.below) node.page) 512 ≡ has_wrong_leaf want word node.below node.page node.start
wrong_is want word node wants are =
    any_same (wrong_at wants word (LAST_LEVEL - node.below) node.page) (λ i. is_wrong_leaf (want_in want node i) (read_in word node i)) 512
    (λ i lt. ap (λ w. is_wrong_leaf w (read_in word node i)) (wanted_there want node wants are i lt))

lacks_is : (want : Wants) (word : ℕ → ℕ) (node : Node) (wants : List Want) → AreWantsOf want node wants → any_below (lacks_at wants word (LAST_LEVEL - node.below) node.page) 512 ≡ has_lacking_leaf want word node.below node.page node.start
lacks_is want word node wants are =
    any_same (lacks_at wants word (LAST_LEVEL - node.below) node.page) (λ i. lacks_leaf (want_in want node i) (read_in word node i)) 512
    (λ i lt. ap (λ w. lacks_leaf w (read_in word node i)) (wanted_there want node wants are i lt))

-- what is told of the slots of a table by the list of its wants
pub record AreSlotsTold (word : ℕ → ℕ) (node : Node) (wants : List Want) (any_wrong any_lacking : Bool) : Type 0 where
  pub wrong : any_wrong ≡ any_below (wrong_at wants word (LAST_LEVEL - node.below) node.page) 512
  pub lacks : any_lacking ≡ any_below (lacks_at wants word (LAST_LEVEL - node.below) node.page) 512
  pub tables : (slot next : ℕ) → slot < 512 → is_to_table (want_at wants slot) ≡ false → read_in word node slot ≡ Table next → ⊥

none_too_many : (want : Wants) (word : ℕ → ℕ) (node : Node) (wants : List Want) → AreWantsOf want node wants → ((slot next : ℕ) → slot < 512 → is_to_table (want_at wants slot) ≡ false → read_in word node slot ≡ Table next → ⊥)
    → HasNoTableTooMany want word node.below node.page node.start
none_too_many want word node wants are tables = λ slot next lt other leads. tables slot next lt (ap is_to_table (wanted_there want node wants are slot lt) ∙ other) leads

itself : (want : Wants) (word : ℕ → ℕ) (node : Node) → Reaches want word node node
itself want word node = inl (refl, (refl, refl))

pub to_empty : (want : Wants) (word : ℕ → ℕ) (node : Node) (wants : List Want) → AreWantsOf want node wants → IsNode node → true ≡ any_below (wrong_at wants word (LAST_LEVEL - node.below) node.page) 512 → IsOwnTodo want word node (Empty node)
to_empty want word node wants are is wrong =
    record { is = record { reached = itself want word node; is = is; wrong = sym (wrong_is want word node wants are) ∙ sym wrong }; begins = refl }

pub to_fill : (want : Wants) (word : ℕ → ℕ) (node : Node) (wants : List Want) → AreWantsOf want node wants → IsNode node → AreSlotsTold word node wants false true → IsOwnTodo want word node (Fill node)
to_fill want word node wants are is told = record {
  is = record {
    reached = itself want word node;
    is = is;
    right = sym (wrong_is want word node wants are) ∙ sym told.wrong;
    tables = none_too_many want word node wants are told.tables;
    lacking = sym (lacks_is want word node wants are) ∙ sym told.lacks;
  };
  begins = refl;
}

tidy_slot : (w : Want) (d : Descriptor) → is_wrong_leaf w d ≡ false → lacks_leaf w d ≡ false → ((next : ℕ) → is_to_table w ≡ false → d ≡ Table next → ⊥) → IsTidySlot w d
tidy_slot Nothing Invalid wrong lack none = refl
tidy_slot Nothing (Table next) wrong lack none = absurd (none next refl refl)
tidy_slot Nothing (Leaf o r v) wrong lack none = absurd (false≢true (sym wrong))
tidy_slot WantTable Invalid wrong lack none = inr refl
tidy_slot WantTable (Table next) wrong lack none = inl (next, refl)
tidy_slot WantTable (Leaf o r v) wrong lack none = absurd (false≢true (sym wrong))
tidy_slot (WantLeaf o r v) d wrong lack none = leaf_stands o r v d lack

pub tidy_by : (want : Wants) (word : ℕ → ℕ) (node : Node) (wants : List Want) → AreWantsOf want node wants → AreSlotsTold word node wants false false → IsTidy want word node
tidy_by want word node wants are told = λ slot lt.
    tidy_slot (want_in want node slot) (read_in word node slot)
    (any_down (λ i. is_wrong_leaf (want_in want node i) (read_in word node i)) 512 (sym (wrong_is want word node wants are) ∙ sym told.wrong) slot lt)
    (any_down (λ i. lacks_leaf (want_in want node i) (read_in word node i)) 512 (sym (lacks_is want word node wants are) ∙ sym told.lacks) slot lt)
    (λ next other leads. none_too_many want word node wants are told.tables slot next lt other leads)

-- ---- where slots begin

pub first_of : (node : Node) → IsNode node → IsFirstSlot (suc node.below) node.start
first_of node is = let few = is.few in first_slot (suc node.below) node.start (omega arith) (omega arith) is.begins

pub slot_of_level : (node : Node) → IsNode node → IsSlot (LAST_LEVEL - node.below) node.start
slot_of_level node is =
    let level : LAST_LEVEL + 1 - suc node.below ≡ LAST_LEVEL - node.below = omega arith in
    subst (λ l. IsSlot l node.start) level (first_of node is).slot

pub whole_of_level : (node : Node) → IsNode node → node.start % (512 * slot_size (LAST_LEVEL - node.below)) ≡ 0
whole_of_level node is =
    let level : LAST_LEVEL + 1 - suc node.below ≡ LAST_LEVEL - node.below = omega arith in
    subst (λ l. node.start % (512 * slot_size l) ≡ 0) level (first_of node is).whole

pub some_size : (n : ℕ) → 0 < slot_size (LAST_LEVEL - n)
some_size n = pow_pos (39 - 9 * (LAST_LEVEL - n))

-- a slot of one level is as large as all slots of a table of the next
size_more : (n : ℕ) → n < 3 → slot_size (LAST_LEVEL - suc n) ≡ 512 * slot_size (LAST_LEVEL - n)
size_more zero few = refl
size_more (suc zero) few = refl
size_more (suc (suc zero)) few = refl
size_more (suc (suc (suc n))) few = absurd (let no : ⊥ = omega arith in no)

-- slots follow one another
in_order : (level start i j : ℕ) → i < j → slot_start level start i + slot_size level ≤ slot_start level start j
in_order level start i j lt =
    let le : i + 1 ≤ j = omega arith in
    omega (arith, mul-le-mul_left (slot_size level) le)

not_below : (level start i : ℕ) → start ≤ slot_start level start i
not_below level start i = omega arith

within_table : (level start i : ℕ) → i < 512 → slot_start level start i + slot_size level ≤ start + 512 * slot_size level
within_table level start i lt = in_order level start i 512 lt

by_levels : (n start : ℕ) → n < 4 → IsTableStart (suc n) start → start % 4096 ≡ 0
by_levels zero start few is = let a = is.begins in omega arith
by_levels (suc zero) start few is = let a = is.begins in omega arith
by_levels (suc (suc zero)) start few is = let a = is.begins in omega arith
by_levels (suc (suc (suc zero))) start few is = let a = is.begins in omega arith
by_levels (suc (suc (suc (suc n)))) start few is = absurd (let no : ⊥ = omega arith in no)

pub begins_page : (node : Node) → IsNode node → node.start % 4096 ≡ 0
begins_page node is = by_levels node.below node.start is.few is.begins

-- ---- what is done

not_begun : (want : Wants) (word : ℕ → ℕ) (cursor n page start : ℕ) → cursor ≤ start → IsDoneBelow want word cursor n page start
unfolding IsDoneBelow
not_begun want word cursor zero page start le = tt
not_begun want word cursor (suc n) page start le = λ begins. absurd (let no : ⊥ = omega arith in no)

pub node_stands : (want : Wants) (word : ℕ → ℕ) (node : Node) → ((slot : ℕ) → slot < 512 → SlotStands want word node slot) → NodeStands want word node
node_stands want word node each = stand_more want word node.below node.page node.start each

-- what stands is done, wherever the cursor is
slot_done : (Before : Type 0) (on on' : ℕ → Type 0) (w : Want) (d : Descriptor) → ((next : ℕ) → on next → on' next) → IsAsWanted on w d → IsDoneSlot Before on' w d
slot_done Before on on' Nothing d more is = is
slot_done Before on on' (WantLeaf o r v) d more is = is
slot_done Before on on' WantTable d more (next, (leads, h)) = inl (next, (leads, more next h))

stands_done : (want : Wants) (word : ℕ → ℕ) (cursor n page start : ℕ) → Stands want word n page start → IsDoneBelow want word cursor n page start
stands_done want word cursor zero page start stands = done_none want word cursor page start
stands_done want word cursor (suc n) page start stands =
    done_from want word cursor n page start (λ begins slot lt.
    let S = slot_start (LAST_LEVEL - n) start slot in
    slot_done (S < cursor) (λ next. Stands want word n next S) (λ next. IsDoneBelow want word cursor n next S) (want (LAST_LEVEL - n) S) (read_of (word (page + 8 * slot)) (LAST_LEVEL - n))
    (λ next h. stands_done want word cursor n next S h) (stand_down want word n page start stands slot lt))

-- a slot that begins below the cursor is done as far as what goes on is
done_stands : (Before : Type 0) (on on' : ℕ → Type 0) (w : Want) (d : Descriptor) → Before → ((next : ℕ) → w ≡ WantTable → on next → on' next) → IsDoneSlot Before on w d → IsAsWanted on' w d
done_stands Before on on' Nothing d before more is = is
done_stands Before on on' (WantLeaf o r v) d before more is = is
done_stands Before on on' WantTable d before more (inl (next, (leads, h))) = (next, (leads, more next refl h))
done_stands Before on on' WantTable d before more (inr (behind, is)) = absurd (behind before)

-- a table that ends at the cursor or below it stands
ends_stands : (want : Wants) (word : ℕ → ℕ) (cursor n page start : ℕ) → WantsPagesAtTheEnd want → n < 4 → start % 4096 ≡ 0 → start + 512 * slot_size (LAST_LEVEL - n) ≤ cursor → IsDoneBelow want word cursor (suc n) page start
    → Stands want word (suc n) page start
ends_stands want word cursor zero page start pages few aligned ends done =
    let size = some_size 0 in
    stand_more want word 0 page start (λ slot lt.
    let S = slot_start (LAST_LEVEL - 0) start slot in
    let end = within_table (LAST_LEVEL - 0) start slot lt in
    done_stands (S < cursor) (λ next. IsDoneBelow want word cursor 0 next S) (λ next. Stands want word 0 next S) (want (LAST_LEVEL - 0) S) (read_of (word (page + 8 * slot)) (LAST_LEVEL - 0)) (omega arith)
    (λ next is h. absurd (pages S (slot_aligned (LAST_LEVEL - 0) start slot (omega arith) aligned) is)) (done_at want word cursor 0 page start done (omega arith) slot lt))
ends_stands want word cursor (suc n) page start pages few aligned ends done =
    let size = some_size (suc n) in
    let same = size_more n (omega arith) in
    stand_more want word (suc n) page start (λ slot lt.
    let S = slot_start (LAST_LEVEL - suc n) start slot in
    let end = within_table (LAST_LEVEL - suc n) start slot lt in
    let deep : S + 512 * slot_size (LAST_LEVEL - n) ≤ cursor = omega arith in
    done_stands (S < cursor) (λ next. IsDoneBelow want word cursor (suc n) next S) (λ next. Stands want word (suc n) next S) (want (LAST_LEVEL - suc n) S) (read_of (word (page + 8 * slot)) (LAST_LEVEL - suc n)) (omega arith)
    (λ next is h. ends_stands want word cursor n next S pages (omega arith) (slot_aligned (LAST_LEVEL - suc n) start slot (omega arith) aligned) deep h) (done_at want word cursor (suc n) page start done (omega arith) slot lt))

-- a slot that ends at the cursor or below it stands
slot_ends : (want : Wants) (word : ℕ → ℕ) (cursor n page start slot : ℕ) → WantsPagesAtTheEnd want → n < 4 → start % 4096 ≡ 0 → slot < 512 → slot_start (LAST_LEVEL - n) start slot + slot_size (LAST_LEVEL - n) ≤ cursor → IsDoneBelow want word cursor (suc n) page start
    → IsAsWanted (λ next. Stands want word n next (slot_start (LAST_LEVEL - n) start slot)) (want (LAST_LEVEL - n) (slot_start (LAST_LEVEL - n) start slot)) (read_of (word (page + 8 * slot)) (LAST_LEVEL - n))
slot_ends want word cursor zero page start slot pages few aligned lt ends done =
    let size = some_size 0 in
    let S = slot_start (LAST_LEVEL - 0) start slot in
    let begin = not_below (LAST_LEVEL - 0) start slot in
    done_stands (S < cursor) (λ next. IsDoneBelow want word cursor 0 next S) (λ next. Stands want word 0 next S) (want (LAST_LEVEL - 0) S) (read_of (word (page + 8 * slot)) (LAST_LEVEL - 0)) (omega arith)
    (λ next is h. absurd (pages S (slot_aligned (LAST_LEVEL - 0) start slot (omega arith) aligned) is)) (done_at want word cursor 0 page start done (omega arith) slot lt)
slot_ends want word cursor (suc n) page start slot pages few aligned lt ends done =
    let size = some_size (suc n) in
    let same = size_more n (omega arith) in
    let S = slot_start (LAST_LEVEL - suc n) start slot in
    let begin = not_below (LAST_LEVEL - suc n) start slot in
    let deep : S + 512 * slot_size (LAST_LEVEL - n) ≤ cursor = omega arith in
    done_stands (S < cursor) (λ next. IsDoneBelow want word cursor (suc n) next S) (λ next. Stands want word (suc n) next S) (want (LAST_LEVEL - suc n) S) (read_of (word (page + 8 * slot)) (LAST_LEVEL - suc n)) (omega arith)
    (λ next is h. ends_stands want word cursor n next S pages (omega arith) (slot_aligned (LAST_LEVEL - suc n) start slot (omega arith) aligned) deep h) (done_at want word cursor (suc n) page start done (omega arith) slot lt)

pub slot_before : (want : Wants) (word : ℕ → ℕ) (cursor : ℕ) (node : Node) (slot : ℕ) → WantsPagesAtTheEnd want → IsNode node → slot < 512 → begin_in node slot + slot_size (LAST_LEVEL - node.below) ≤ cursor → IsDone want word cursor node → SlotStands want word node slot
slot_before want word cursor node slot pages is lt ends done = slot_ends want word cursor node.below node.page node.start slot pages is.few (begins_page node is) lt ends done

pub all_before : (want : Wants) (word : ℕ → ℕ) (cursor : ℕ) (node : Node) → WantsPagesAtTheEnd want → IsNode node → node.start + 512 * slot_size (LAST_LEVEL - node.below) ≤ cursor → IsDone want word cursor node → NodeStands want word node
all_before want word cursor node pages is ends done = ends_stands want word cursor node.below node.page node.start pages is.few (begins_page node is) ends done

-- a table that begins below the cursor is tidy
tidy_done : (Before : Type 0) (on : ℕ → Type 0) (w : Want) (d : Descriptor) → IsDoneSlot Before on w d → IsTidySlot w d
tidy_done Before on Nothing d is = is
tidy_done Before on (WantLeaf o r v) d is = is
tidy_done Before on WantTable d (inl (next, (leads, h))) = inl (next, leads)
tidy_done Before on WantTable d (inr (behind, is)) = inr is

pub tidy_begun : (want : Wants) (word : ℕ → ℕ) (cursor : ℕ) (node : Node) → node.start < cursor → IsDone want word cursor node → IsTidy want word node
tidy_begun want word cursor node begins done = λ slot lt.
    tidy_done (begin_in node slot < cursor) (λ next. IsDoneBelow want word cursor node.below next (begin_in node slot)) (want_in want node slot) (read_in word node slot) (done_at want word cursor node.below node.page node.start done begins slot lt)

-- ---- one slot

slot_is : (Before : Type 0) (on : ℕ → Type 0) (w : Want) (d : Descriptor) (next : ℕ) → d ≡ Table next → IsDoneSlot Before on w d → w ≡ WantTable
slot_is Before on Nothing d next leads is = absurd (let no : Invalid ≡ Table next = sym is ∙ leads in let w : ⊥ = cc in w)
slot_is Before on (WantLeaf o r v) d next leads is = absurd (let no : Leaf o r v ≡ Table next = sym is ∙ leads in let w : ⊥ = cc in w)
slot_is Before on WantTable d next leads is = refl

pub begun_wants : (want : Wants) (word : ℕ → ℕ) (cursor : ℕ) (node : Node) (slot next : ℕ) → slot < 512 → begin_in node slot < cursor → IsDone want word cursor node → read_in word node slot ≡ Table next → want_in want node slot ≡ WantTable
begun_wants want word cursor node slot next lt begun done leads =
    let begin = not_below (LAST_LEVEL - node.below) node.start slot in
    slot_is (begin_in node slot < cursor) (λ n. IsDoneBelow want word cursor node.below n (begin_in node slot)) (want_in want node slot) (read_in word node slot) next leads (done_at want word cursor node.below node.page node.start done (omega arith) slot lt)

no_table_stands : (Before : Type 0) (on on' : ℕ → Type 0) (w : Want) (d : Descriptor) → Before → ((next : ℕ) → d ≡ Table next → ⊥) → IsDoneSlot Before on w d → IsAsWanted on' w d
no_table_stands Before on on' Nothing d before none is = is
no_table_stands Before on on' (WantLeaf o r v) d before none is = is
no_table_stands Before on on' WantTable d before none (inl (next, (leads, h))) = absurd (none next leads)
no_table_stands Before on on' WantTable d before none (inr (behind, is)) = absurd (behind before)

pub begun_stands : (want : Wants) (word : ℕ → ℕ) (cursor : ℕ) (node : Node) (slot : ℕ) → slot < 512 → begin_in node slot < cursor → IsDone want word cursor node → ((next : ℕ) → read_in word node slot ≡ Table next → ⊥) → SlotStands want word node slot
begun_stands want word cursor node slot lt begun done none =
    let begin = not_below (LAST_LEVEL - node.below) node.start slot in
    no_table_stands (begin_in node slot < cursor) (λ next. IsDoneBelow want word cursor node.below next (begin_in node slot)) (λ next. Stands want word node.below next (begin_in node slot)) (want_in want node slot) (read_in word node slot) begun none
    (done_at want word cursor node.below node.page node.start done (omega arith) slot lt)

tidy_stands : (on : ℕ → Type 0) (w : Want) (d : Descriptor) → (w ≡ WantTable → ⊥) → IsTidySlot w d → IsAsWanted on w d
tidy_stands on Nothing d other is = is
tidy_stands on (WantLeaf o r v) d other is = is
tidy_stands on WantTable d other is = absurd (other refl)

pub other_stands : (want : Wants) (word : ℕ → ℕ) (node : Node) (slot : ℕ) (w : Want) → slot < 512 → want_in want node slot ≡ w → (w ≡ WantTable → ⊥) → IsTidy want word node → SlotStands want word node slot
other_stands want word node slot w lt is other tidy = tidy_stands (λ next. Stands want word node.below next (begin_in node slot)) (want_in want node slot) (read_in word node slot) (λ e. other (sym is ∙ e)) (tidy slot lt)

lacks_table : (w : Want) (d : Descriptor) → w ≡ WantTable → ((next : ℕ) → d ≡ Table next → ⊥) → IsTidySlot w d → d ≡ Invalid
lacks_table Nothing d is none tidy = tidy
lacks_table (WantLeaf o r v) d is none tidy = absurd (let no : ⊥ = cc in no)
lacks_table WantTable d is none (inl (next, leads)) = absurd (none next leads)
lacks_table WantTable d is none (inr invalid) = invalid

invalid_done : (Before : Type 0) (on : ℕ → Type 0) (w : Want) (d : Descriptor) → w ≡ WantTable → d ≡ Invalid → (Before → ⊥) → IsDoneSlot Before on w d
invalid_done Before on Nothing d is invalid behind = invalid
invalid_done Before on (WantLeaf o r v) d is invalid behind = absurd (let no : ⊥ = cc in no)
invalid_done Before on WantTable d is invalid behind = inr (behind, invalid)

some_below : (want : Wants) (n start slot : ℕ) → WantsPagesAtTheEnd want → start % 4096 ≡ 0 → want (LAST_LEVEL - n) (slot_start (LAST_LEVEL - n) start slot) ≡ WantTable → 0 < n
some_below want zero start slot pages aligned is = absurd (pages (slot_start (LAST_LEVEL - 0) start slot) (slot_aligned (LAST_LEVEL - 0) start slot (omega arith) aligned) is)
some_below want (suc n) start slot pages aligned is = omega arith

pub to_make : (want : Wants) (word : ℕ → ℕ) (node : Node) (slot : ℕ) → WantsPagesAtTheEnd want → IsNode node → slot < 512 → want_in want node slot ≡ WantTable → IsTidy want word node → ((next : ℕ) → read_in word node slot ≡ Table next → ⊥)
    → IsFoundIn want word node slot (Make node slot)
to_make want word node slot pages is lt wants tidy none =
    let invalid : read_in word node slot ≡ Invalid = lacks_table (want_in want node slot) (read_in word node slot) wants none (tidy slot lt) in
    let size = some_size node.below in
    record {
      is = record { reached = itself want word node; is = is; within = lt; some = some_below want node.below node.start slot pages (begins_page node is) wants; wants = wants; invalid = invalid };
      first = omega arith;
      last = omega arith;
      done = invalid_done (begin_in node slot < begin_in node slot) (λ next. IsDoneBelow want word (begin_in node slot) node.below next (begin_in node slot)) (want_in want node slot) (read_in word node slot) wants invalid (λ no. let w : ⊥ = omega arith in w);
    }

-- ---- from the table of a slot to the slot's table

-- the table of a slot
abbrev pub node_in : Node → ℕ → ℕ → Node
node_in node slot next = record { page = next; start = begin_in node slot; below = node.below - 1 }

stays_in : (want : Wants) (n start slot : ℕ) → want (LAST_LEVEL - n) (slot_start (LAST_LEVEL - n) start slot) ≡ WantTable → Some (slot_start (LAST_LEVEL - n) start slot) ≡ staying want (Some start) n slot
stays_in want n start slot is = sym (ap (λ w. if is_to_table w then Some (slot_start (LAST_LEVEL - n) start slot) else None) is)

reach_up : (want : Wants) (word : ℕ → ℕ) (node : Node) (slot next left : ℕ) (there : Option ℕ) (page : ℕ) → slot < 512 → 0 < node.below → want_in want node slot ≡ WantTable → read_in word node slot ≡ Table next
    → IsReachedAs (staying want) word (suc (node.below - 1)) (Some (begin_in node slot)) next left there page → IsReachedAs (staying want) word (suc node.below) (Some node.start) node.page left there page
reach_up want word node slot next left there page lt some wants leads reached =
    let one : suc (node.below - 1) ≡ node.below = omega arith in
    inr (
      slot,
      next,
      (
        record { within = lt; descriptor = leads },
        subst (λ (s : Option ℕ). IsReachedAs (staying want) word node.below s next left there page) (stays_in want node.below node.start slot wants)
            (subst (λ n. IsReachedAs (staying want) word n (Some (begin_in node slot)) next left there page) one reached),
      ),
    )

todo_up : (want : Wants) (word : ℕ → ℕ) (node : Node) (slot next : ℕ) (todo : Todo) → slot < 512 → 0 < node.below → want_in want node slot ≡ WantTable → read_in word node slot ≡ Table next → IsTodo want word (node_in node slot next) todo → IsTodo want word node todo
todo_up want word node slot next (Prune link start) lt some wants leads is = record {
  there = is.there;
  reached = reach_up want word node slot next (suc link.below) is.there link.parent lt some wants leads is.reached;
  unwanted = is.unwanted;
  is = is.is;
  last = is.last;
}
todo_up want word node slot next (Empty at) lt some wants leads is = record {
  reached = reach_up want word node slot next (suc at.below) (Some at.start) at.page lt some wants leads is.reached;
  is = is.is;
  wrong = is.wrong;
}
todo_up want word node slot next (Fill at) lt some wants leads is = record {
  reached = reach_up want word node slot next (suc at.below) (Some at.start) at.page lt some wants leads is.reached;
  is = is.is;
  right = is.right;
  tables = is.tables;
  lacking = is.lacking;
}
todo_up want word node slot next (Make at gap) lt some wants leads is = record {
  reached = reach_up want word node slot next (suc at.below) (Some at.start) at.page lt some wants leads is.reached;
  is = is.is;
  within = is.within;
  some = is.some;
  wants = is.wants;
  invalid = is.invalid;
}

table_stands : (on : ℕ → Type 0) (w : Want) (d : Descriptor) (next : ℕ) → w ≡ WantTable → d ≡ Table next → on next → IsAsWanted on w d
table_stands on Nothing d next is leads h = absurd (let no : ⊥ = cc in no)
table_stands on (WantLeaf o r v) d next is leads h = absurd (let no : ⊥ = cc in no)
table_stands on WantTable d next is leads h = (next, (leads, h))

same_size : (n : ℕ) → 0 < n → n < 4 → slot_size (LAST_LEVEL - n) ≡ 512 * slot_size (LAST_LEVEL - (n - 1))
same_size zero some few = absurd (let no : ⊥ = omega arith in no)
same_size (suc n) some few =
    let one : suc n - 1 ≡ n = omega arith in
    size_more n (omega arith) ∙ ap (λ m. 512 * slot_size (LAST_LEVEL - m)) (sym one)

pub found_up : (want : Wants) (word : ℕ → ℕ) (node : Node) (slot next : ℕ) (todo : Todo) → IsNode node → slot < 512 → 0 < node.below → want_in want node slot ≡ WantTable → read_in word node slot ≡ Table next → IsFound want word (node_in node slot next) todo → IsFoundIn want word node slot todo
found_up want word node slot next todo is lt some wants leads found =
    let one : suc (node.below - 1) ≡ node.below = omega arith in
    let size = same_size node.below some is.few in
    let end : cursor_of todo < begin_in node slot + 512 * slot_size (LAST_LEVEL - (node.below - 1)) = found.last in
    record {
      is = todo_up want word node slot next todo lt some wants leads found.is;
      first = found.first;
      last = omega arith;
      done = done_linked (begin_in node slot < cursor_of todo) (λ n. IsDoneBelow want word (cursor_of todo) node.below n (begin_in node slot)) (want_in want node slot) (read_in word node slot) next wants leads
          (subst (λ n. IsDoneBelow want word (cursor_of todo) n next (begin_in node slot)) one found.done);
    }

pub stands_up : (want : Wants) (word : ℕ → ℕ) (node : Node) (slot next : ℕ) → 0 < node.below → want_in want node slot ≡ WantTable → read_in word node slot ≡ Table next → NodeStands want word (node_in node slot next) → SlotStands want word node slot
stands_up want word node slot next some wants leads stands =
    let one : suc (node.below - 1) ≡ node.below = omega arith in
    table_stands (λ n. Stands want word node.below n (begin_in node slot)) (want_in want node slot) (read_in word node slot) next wants leads (subst (λ n. Stands want word n next (begin_in node slot)) one stands)

done_next : (Before : Type 0) (on : ℕ → Type 0) (w : Want) (d : Descriptor) (next : ℕ) → w ≡ WantTable → d ≡ Table next → IsDoneSlot Before on w d → on next
done_next Before on Nothing d next is leads done = absurd (let no : ⊥ = cc in no)
done_next Before on (WantLeaf o r v) d next is leads done = absurd (let no : ⊥ = cc in no)
done_next Before on WantTable d next is leads (inl (other, (names, h))) =
    let same : Table other ≡ Table next = sym names ∙ leads in
    let e : other ≡ next = cc in
    subst on e h
done_next Before on WantTable d next is leads (inr (behind, invalid)) = absurd (let no : Invalid ≡ Table next = sym invalid ∙ leads in let w : ⊥ = cc in w)

-- what is done from a table on is done from each of its slots on
pub done_in : (want : Wants) (word : ℕ → ℕ) (cursor : ℕ) (node : Node) (slot next : ℕ) → slot < 512 → 0 < node.below → want_in want node slot ≡ WantTable → read_in word node slot ≡ Table next → IsDone want word cursor node → IsDone want word cursor (node_in node slot next)
done_in want word cursor node slot next lt some wants leads done =
    let one : node.below ≡ suc (node.below - 1) = omega arith in
    let S = begin_in node slot in
    subst (λ n. IsDoneBelow want word cursor n next S) one (⊎_elim
    (λ begins. done_next (S < cursor) (λ n. IsDoneBelow want word cursor node.below n S) (want_in want node slot) (read_in word node slot) next wants leads (done_at want word cursor node.below node.page node.start done begins slot lt))
    (λ behind. let begin = not_below (LAST_LEVEL - node.below) node.start slot in not_begun want word cursor node.below next S (omega arith))
    (cases_lt node.start cursor))

-- ---- all slots

tidy_behind : (Before : Type 0) (on : ℕ → Type 0) (w : Want) (d : Descriptor) → (Before → ⊥) → ((next : ℕ) → on next) → IsTidySlot w d → IsDoneSlot Before on w d
tidy_behind Before on Nothing d behind more is = is
tidy_behind Before on (WantLeaf o r v) d behind more is = is
tidy_behind Before on WantTable d behind more (inl (next, leads)) = inl (next, (leads, more next))
tidy_behind Before on WantTable d behind more (inr invalid) = inr (behind, invalid)

-- where the slots before one stand, and it is done, and the cursor is at its end at most, the table is done
done_by_slot : (want : Wants) (word : ℕ → ℕ) (cursor : ℕ) (node : Node) (slot : ℕ) → IsTidy want word node → ((i : ℕ) → i < slot → SlotStands want word node i)
    → IsDoneSlot (begin_in node slot < cursor) (λ next. IsDoneBelow want word cursor node.below next (begin_in node slot)) (want_in want node slot) (read_in word node slot)
    → cursor ≤ begin_in node slot + slot_size (LAST_LEVEL - node.below) → IsDone want word cursor node
done_by_slot want word cursor node slot tidy before here end =
    let on = λ (i next : ℕ). IsDoneBelow want word cursor node.below next (begin_in node i) in
    done_from want word cursor node.below node.page node.start (λ begins i lt.
    ⊎_elim
    (λ less. slot_done (begin_in node i < cursor) (λ next. Stands want word node.below next (begin_in node i)) (on i) (want_in want node i) (read_in word node i) (λ next h. stands_done want word cursor node.below next (begin_in node i) h) (before i less))
    (λ more. ⊎_elim
    (λ is. subst (λ k. IsDoneSlot (begin_in node k < cursor) (on k) (want_in want node k) (read_in word node k)) (sym is) here)
    (λ apart.
    let order = in_order (LAST_LEVEL - node.below) node.start slot i (omega arith) in
    let behind : cursor ≤ begin_in node i = omega arith in
    tidy_behind (begin_in node i < cursor) (on i) (want_in want node i) (read_in word node i) (λ no. let w : ⊥ = omega arith in w) (λ next. not_begun want word cursor node.below next (begin_in node i) behind) (tidy i lt))
    (cases_eq i slot))
    (cases_lt i slot))

pub found_by_slot : (want : Wants) (word : ℕ → ℕ) (node : Node) (slot : ℕ) (todo : Todo) → slot < 512 → IsTidy want word node → ((i : ℕ) → i < slot → SlotStands want word node i) → IsFoundIn want word node slot todo → IsFound want word node todo
found_by_slot want word node slot todo lt tidy before found =
    let begin = not_below (LAST_LEVEL - node.below) node.start slot in
    let end = within_table (LAST_LEVEL - node.below) node.start slot lt in
    let first = found.first in
    let last = found.last in
    record { is = found.is; first = omega arith; last = omega arith; done = done_by_slot want word (cursor_of todo) node slot tidy before found.done (omega arith) }

pub found_own : (want : Wants) (word : ℕ → ℕ) (node : Node) (todo : Todo) → IsOwnTodo want word node todo → IsFound want word node todo
found_own want word node todo own =
    let e = own.begins in
    let size = some_size node.below in
    record { is = own.is; first = omega arith; last = omega arith; done = not_begun want word (cursor_of todo) (suc node.below) node.page node.start (omega arith) }

-- ---- as the code reckons

-- what is found holds in another form
pub some_more : (o : Option Todo) (P Q : Todo → Type 0) → ((todo : Todo) → P todo → Q todo) → IfSome o P → IfSome o Q
some_more None P Q more is = tt
some_more (Some todo) P Q more is = more todo is

pub starts : (node : Node) (slot size : ℕ) → IsNode node → slot < 512 → size ≡ slot_size (LAST_LEVEL - node.below) → IsNextStart (suc node.below) node.start slot size
starts node slot size is lt e =
    let few = is.few in
    let level : LAST_LEVEL - node.below ≡ LAST_LEVEL + 1 - suc node.below = omega arith in
    next_start (suc node.below) node.start slot size (omega arith) (omega arith) is.begins lt (e ∙ ap slot_size level)

pub lower_node : (node : Node) (slot next size : ℕ) → IsNode node → slot < 512 → 0 < node.below → IsTablePlace next → size ≡ slot_size (LAST_LEVEL - node.below) → IsNode (record { page = next; start = node.start + slot * size; below = node.below - 1 })
lower_node node slot next size is lt some place e =
    let few = is.few in
    let one : suc node.below - 1 ≡ suc (node.below - 1) = omega arith in
    record { few = omega arith; place = place; begins = subst (λ n. IsTableStart n (node.start + slot * size)) one (starts node slot size is lt e).next }

pub lower_done : (want : Wants) (word : ℕ → ℕ) (cursor : ℕ) (node : Node) (slot next size : ℕ) → slot < 512 → 0 < node.below → want_in want node slot ≡ WantTable → read_in word node slot ≡ Table next → IsDone want word cursor node → size ≡ slot_size (LAST_LEVEL - node.below)
    → IsDone want word cursor (record { page = next; start = node.start + slot * size; below = node.below - 1 })
lower_done want word cursor node slot next size lt some wants leads done e =
    let P : ℕ → Type 0 = λ z. IsDone want word cursor (record { page = next; start = node.start + slot * z; below = node.below - 1 }) in
    subst P (sym e) (done_in want word cursor node slot next lt some wants leads done)

pub lower_stands : (want : Wants) (word : ℕ → ℕ) (node : Node) (slot next size : ℕ) → 0 < node.below → want_in want node slot ≡ WantTable → read_in word node slot ≡ Table next → size ≡ slot_size (LAST_LEVEL - node.below)
    → NodeStands want word (record { page = next; start = node.start + slot * size; below = node.below - 1 }) → SlotStands want word node slot
lower_stands want word node slot next size some wants leads e stands =
    let P : ℕ → Type 0 = λ z. NodeStands want word (record { page = next; start = node.start + slot * z; below = node.below - 1 }) in
    stands_up want word node slot next some wants leads (subst P e stands)

pub lower_found : (want : Wants) (word : ℕ → ℕ) (node : Node) (slot next size : ℕ) (todo : Todo) → IsNode node → slot < 512 → 0 < node.below → want_in want node slot ≡ WantTable → read_in word node slot ≡ Table next → size ≡ slot_size (LAST_LEVEL - node.below)
    → IsFound want word (record { page = next; start = node.start + slot * size; below = node.below - 1 }) todo → IsFoundIn want word node slot todo
lower_found want word node slot next size todo is lt some wants leads e found =
    let P : ℕ → Type 0 = λ z. IsFound want word (record { page = next; start = node.start + slot * z; below = node.below - 1 }) todo in
    found_up want word node slot next todo is lt some wants leads (subst P e found)

-- whole slots lie below
pub whole_slots : (much size slots : ℕ) → 0 < size → slots ≤ much / size → slots * size ≤ much
whole_slots much size slots some le = omega (arith, mul-le-mul_left size le)

pub held_begins : (node : Node) (cursor size held : ℕ) → size ≡ slot_size (LAST_LEVEL - node.below) → node.start < cursor → held ≡ (cursor - 1 - node.start) / size → begin_in node held < cursor
held_begins node cursor size held e begun is =
    let some = some_size node.below in
    let whole : held * size ≤ cursor - 1 - node.start = whole_slots (cursor - 1 - node.start) size held (omega arith) (omega arith) in
    let here : node.start + held * size < cursor = omega arith in
    subst (λ z. node.start + held * z < cursor) e here

pub before_ends : (node : Node) (cursor size held slot : ℕ) → size ≡ slot_size (LAST_LEVEL - node.below) → node.start < cursor → held ≡ (cursor - 1 - node.start) / size → slot < held → begin_in node slot + slot_size (LAST_LEVEL - node.below) ≤ cursor
before_ends node cursor size held slot e begun is lt =
    let begins = held_begins node cursor size held e begun is in
    let order = in_order (LAST_LEVEL - node.below) node.start slot held lt in omega arith

pub all_end : (node : Node) (cursor size : ℕ) → size ≡ slot_size (LAST_LEVEL - node.below) → node.start < cursor → 512 ≤ (cursor - 1 - node.start) / size → node.start + 512 * slot_size (LAST_LEVEL - node.below) ≤ cursor
all_end node cursor size e begun past =
    let some = some_size node.below in
    let whole : 512 * size ≤ cursor - 1 - node.start = whole_slots (cursor - 1 - node.start) size 512 (omega arith) past in
    subst (λ z. node.start + 512 * z ≤ cursor) e (omega arith)
