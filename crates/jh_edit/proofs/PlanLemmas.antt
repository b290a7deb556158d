-- A plan stays where the words of the tables, and of the page that is ahead, are the same.
use Rattle.std.proofs.Common.{◌≡◌, ℕ, ◌+◌, ◌-◌, ◌*◌, ◌<◌, inl, inr, zero, suc, ap, ◌∙◌, sym, subst, arith, refl, Option, Some, None, IfSome}
use Rattle.jh_num.specs.declared.level.TheConstants.{LAST_LEVEL}
use Rattle.jh_num.specs.Below.{any_below, sum_below}
use Rattle.jh_num.proofs.Public.{sum_same}
use Rattle.jh_desc.specs.declared.descriptor.Descriptor.{Descriptor}
use Rattle.jh_desc.specs.declared.descriptor.Descriptor.TheVariants.{Table}
use Rattle.jh_desc.specs.Descriptors.{read_of}
use Rattle.jh_walk.specs.Counts.{Step, StateWeight, IsReachedAs, count_from, unmoved}
use Rattle.jh_walk.specs.Pages.{HaveSameTables, HaveSameWeights, page_weight, times}
use Rattle.jh_walk.specs.Walks.{levels}
use Rattle.jh_shape.specs.declared.want.Want.{Want}
use Rattle.jh_shape.specs.declared.want.Want.TheVariants.{Nothing, Table as WantTable, Leaf as WantLeaf}
use Rattle.jh_shape.specs.Wanted.{Wants, slot_start, tables_under}
use Rattle.jh_walk.proofs.Public.{on_times, same_below, same_here}
use Rattle.jh_edit.specs.declared.edit.Ahead.{Ahead}
use Rattle.jh_edit.specs.Trees.{lacking, staying}
use Rattle.jh_edit.specs.Turns.{is_wrong_leaf, lacks_leaf, turn_if, turns_at}
use Rattle.jh_edit.specs.Plans.{EditView, HasSameWords, IsAhead, IsDoneBelow, IsDoneSlot, IsMade, Plans, begin_of, word_place}
use Rattle.jh_edit.proofs.SumLemmas.{any_same}

-- ---- pages that are reached

-- ---- turns

pub same_turns_at : (want : Wants) (word word' : ℕ → ℕ) (n page : ℕ) (state : Option ℕ) → ((i : ℕ) → i < 512 → word' (page + 8 * i) ≡ word (page + 8 * i)) → turns_at want state word' n page ≡ turns_at want state word n page
same_turns_at want word word' n page None e = refl
same_turns_at want word word' n page (Some start) e =
    let W = λ (i : ℕ). want (LAST_LEVEL - n) (slot_start (LAST_LEVEL - n) start i) in
    let wrong : turn_if (any_below (λ i. is_wrong_leaf (W i) (read_of (word' (page + 8 * i)) (LAST_LEVEL - n))) 512) ≡ turn_if (any_below (λ i. is_wrong_leaf (W i) (read_of (word (page + 8 * i)) (LAST_LEVEL - n))) 512) =
    ap turn_if (any_same (λ i. is_wrong_leaf (W i) (read_of (word' (page + 8 * i)) (LAST_LEVEL - n))) (λ i. is_wrong_leaf (W i) (read_of (word (page + 8 * i)) (LAST_LEVEL - n))) 512 (λ i lt. ap (λ w. is_wrong_leaf (W i) (read_of w (LAST_LEVEL - n))) (e i lt))) in
    let lacks : turn_if (any_below (λ i. lacks_leaf (W i) (read_of (word' (page + 8 * i)) (LAST_LEVEL - n))) 512) ≡ turn_if (any_below (λ i. lacks_leaf (W i) (read_of (word (page + 8 * i)) (LAST_LEVEL - n))) 512) =
    ap turn_if (any_same (λ i. lacks_leaf (W i) (read_of (word' (page + 8 * i)) (LAST_LEVEL - n))) (λ i. lacks_leaf (W i) (read_of (word (page + 8 * i)) (LAST_LEVEL - n))) 512 (λ i lt. ap (λ w. lacks_leaf (W i) (read_of w (LAST_LEVEL - n))) (e i lt))) in
    let K = λ (w : ℕ → ℕ) (i : ℕ). lacking (2 * tables_under want n (slot_start (LAST_LEVEL - n) start i)) (W i) (read_of (w (page + 8 * i)) (LAST_LEVEL - n)) in
    let tables : sum_below 512 (K word') ≡ sum_below 512 (K word) = sum_same 512 (K word') (K word) (λ i lt. ap (λ w. lacking (2 * tables_under want n (slot_start (LAST_LEVEL - n) start i)) (W i) (read_of w (LAST_LEVEL - n))) (e i lt)) in
    omega arith

pub same_weights : (want : Wants) (word word' : ℕ → ℕ) (n table : ℕ) → HaveSameTables word word' n table → HaveSameWeights (turns_at want) word word' n table
same_weights want word word' n table same = λ state m page some. same_turns_at want word word' m page state (λ i lt. same.words page i some lt)

-- ---- the page that is ahead

pub same_reached : (step : Step) (word word' : ℕ → ℕ) (n : ℕ) (s : Option ℕ) (table left : ℕ) (there : Option ℕ) (page : ℕ) → HaveSameTables word word' n table → IsReachedAs step word n s table left there page → IsReachedAs step word' n s table left there page
same_reached step word word' zero s table left there page same reached = reached
same_reached step word word' (suc n) s table left there page same (inl is) = inl is
same_reached step word word' (suc n) s table left there page same (inr (i, next, (names, reached))) =
    inr (
      i,
      next,
      (
        record { within = names.within; descriptor = ap (λ w. read_of w (LAST_LEVEL - n)) (same_here word word' n table i same names.within) ∙ names.descriptor },
        same_reached step word word' n (step s n i) next left there page (same_below word word' n table i next same names.within names.descriptor) reached,
      ),
    )

pub same_ahead : (want : Wants) (word word' : ℕ → ℕ) (table : ℕ) (ahead : Ahead) → HaveSameTables word word' levels table → times word' levels table ahead.page ≡ times word levels table ahead.page → HasSameWords word word' ahead.page → IsAhead want word table ahead → IsAhead want word' table ahead
same_ahead want word word' table ahead same times_same words is =
    let slot = is.slot in
    let parent : word' (word_place slot) ≡ word (word_place slot) =
    same.words slot.parent slot.slot (on_times (staying want) word levels (Some 0) table (suc (suc slot.below)) (Some slot.start) slot.parent is.empty.stays) is.empty.within in
    record {
      slot = slot;
      empty = record {
        within = is.empty.within;
        stays = same_reached (staying want) word word' levels (Some 0) table (suc (suc slot.below)) (Some slot.start) slot.parent same is.empty.stays;
        wants = is.empty.wants;
        invalid = ap (λ w. read_of w (LAST_LEVEL - suc slot.below)) parent ∙ is.empty.invalid;
      };
      at = is.at;
      aligned = is.aligned;
      apart = times_same ∙ is.apart;
      made = λ i lt. subst (λ w. IsMade (want (LAST_LEVEL - slot.below) (slot_start (LAST_LEVEL - slot.below) (begin_of slot) i)) (read_of w (LAST_LEVEL - slot.below))) (sym (words i lt)) (is.made i lt);
    }

-- ---- the cursor

pub done_on : (Before : Type 0) (on on' : ℕ → Type 0) (want : Want) (d d' : Descriptor) → d' ≡ d → ((next : ℕ) → want ≡ WantTable → d ≡ Table next → on next → on' next) → IsDoneSlot Before on want d → IsDoneSlot Before on' want d'
done_on Before on on' Nothing d d' e more done = e ∙ done
done_on Before on on' (WantLeaf out rights device) d d' e more done = e ∙ done
done_on Before on on' WantTable d d' e more (inl (next, (leads, h))) = inl (next, (e ∙ leads, more next refl leads h))
done_on Before on on' WantTable d d' e more (inr (behind, is)) = inr (behind, e ∙ is)

pub same_done : (want : Wants) (word word' : ℕ → ℕ) (cursor n table start : ℕ) → HaveSameTables word word' n table → IsDoneBelow want word cursor n table start → IsDoneBelow want word' cursor n table start
unfolding IsDoneBelow
same_done want word word' cursor zero table start same done = tt
same_done want word word' cursor (suc n) table start same done = λ begins i lt.
    let S = slot_start (LAST_LEVEL - n) start i in
    done_on (S < cursor) (λ next. IsDoneBelow want word cursor n next S) (λ next. IsDoneBelow want word' cursor n next S) (want (LAST_LEVEL - n) S) (read_of (word (table + 8 * i)) (LAST_LEVEL - n)) (read_of (word' (table + 8 * i)) (LAST_LEVEL - n))
    (ap (λ w. read_of w (LAST_LEVEL - n)) (same_here word word' n table i same lt))
    (λ next wanted leads h. same_done want word word' cursor n next S (same_below word word' n table i next same lt leads) h) (done begins i lt)

-- ---- the plan

-- what the law of walks says of what is counted
abbrev pub CountsStay : Type 0
CountsStay = (step : Step) (weight : StateWeight) (word word' : ℕ → ℕ) (n : ℕ) (state : Option ℕ) (table : ℕ) → HaveSameTables word word' n table → HaveSameWeights weight word word' n table → count_from step weight word' n state table ≡ count_from step weight word n state table

ahead_stays : (want : Wants) (word word' : ℕ → ℕ) (table : ℕ) (ahead : Option Ahead) → HaveSameTables word word' levels table → ((q : ℕ) → times word' levels table q ≡ times word levels table q) → IfSome ahead (λ (a : Ahead). HasSameWords word word' a.page) → IfSome ahead (IsAhead want word table) → IfSome ahead (IsAhead want word' table)
ahead_stays want word word' table None same pages words is = tt
ahead_stays want word word' table (Some ahead) same pages words is = same_ahead want word word' table ahead same (pages ahead.page) words is

pub plan_stays : CountsStay → (edit : EditView) (want : Wants) (word word' : ℕ → ℕ) → HaveSameTables word word' levels edit.table → IfSome edit.ahead (λ (a : Ahead). HasSameWords word word' a.page) → Plans edit want word → Plans edit want word'
plan_stays stay edit want word word' same words plans = record {
  target = λ is.
      let old = plans.target is in
      record {
        turns = old.turns ∙ sym (stay (staying want) (turns_at want) word word' levels (Some 0) edit.table same (same_weights want word word' levels edit.table same));
        ahead = ahead_stays want word word' edit.table edit.ahead same (λ q. stay unmoved (λ state. page_weight q) word word' levels None edit.table same (λ state m page some. refl)) words old.ahead;
        cursor = same_done want word word' edit.cursor levels edit.table 0 same old.cursor;
      };
  removal = λ is.
      let old = plans.removal is in
      record {
        turns = old.turns ∙ sym (stay unmoved (λ state word n page. 1) word word' levels None edit.table same (λ state m page some. refl));
        ahead = old.ahead;
      };
}

-- ---- a new plan

pub nothing_done : (want : Wants) (word : ℕ → ℕ) (n table start : ℕ) → IsDoneBelow want word 0 n table start
unfolding IsDoneBelow
nothing_done want word zero table start = tt
nothing_done want word (suc n) table start = λ begins. absurd (let wrong : ⊥ = omega arith in wrong)
