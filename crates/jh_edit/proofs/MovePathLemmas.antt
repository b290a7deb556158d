-- A change within one page that is reached once: the tables below it and beside the way to it stay, and what holds of it and
-- passes up from table to table holds from the first table on.
use Rattle.std.proofs.Common.{◌≡◌, ◌≢◌, ℕ, ◌+◌, ◌-◌, ◌*◌, ◌%◌, ◌<◌, ◌≤◌, inl, inr, zero, suc, ap, ◌∙◌, sym, subst, nat_eq, if◌then◌else◌, Option, None, arith, refl, ⊎_elim}
use Rattle.std.proofs.lemmas.Bool.{cases_eq, cases_lt}
use Rattle.jh_num.specs.declared.level.TheConstants.{LAST_LEVEL}
use Rattle.jh_num.specs.Below.{sum_below}
use Rattle.jh_num.proofs.Public.{others_none, same_number}
use Rattle.jh_desc.specs.declared.descriptor.Descriptor.TheVariants.{Table}
use Rattle.jh_desc.specs.Descriptors.{read_of}
use Rattle.jh_walk.specs.Counts.{IsReachedAs, Step, StateWeight, by_next, count_from}
use Rattle.jh_walk.specs.Pages.{AreAligned, AreAlikeBut, HaveSameTables, IsReached, page_weight, times}
use Rattle.jh_walk.proofs.Public.{aligned_below, count_moves, count_same, on_times, self_times, slot_times_is, slot_times_le, times_below}
use Rattle.jh_edit.specs.Moves.{IsSameBut, IsSameOutside}
use Rattle.jh_edit.proofs.SumLemmas.{count_more}

-- ---- words

pub same_words : (word word' : ℕ → ℕ) (inner : ℕ) → inner % 4096 ≡ 0 → IsSameOutside word word' inner → (page slot : ℕ) → page % 4096 ≡ 0 → page ≢ inner → slot < 512 → word' (page + 8 * slot) ≡ word (page + 8 * slot)
same_words word word' inner begins same page slot is apart few =
    same (page + 8 * slot) (⊎_elim (λ less. inl (omega arith)) (λ more. inr (omega arith)) (cases_lt page inner))

-- one word changes within its page
pub but_outside : (word word' : ℕ → ℕ) (page slot : ℕ) → slot < 512 → IsSameBut word word' (page + 8 * slot) → IsSameOutside word word' page
but_outside word word' page slot few same q (inl less) = same q (inl (omega arith))
but_outside word word' page slot few same q (inr more) = same q (inr (omega arith))

pub but_others : (word word' : ℕ → ℕ) (page slot : ℕ) → IsSameBut word word' (page + 8 * slot) → (i : ℕ) → i ≢ slot → word' (page + 8 * i) ≡ word (page + 8 * i)
but_others word word' page slot same i apart =
    same (page + 8 * i) (⊎_elim (λ less. inl (omega arith)) (λ more. inr (omega arith)) (cases_lt i slot))

-- ---- ways

-- what a page that is reached reaches, the first table reaches
pub reached_le : (step : Step) (word : ℕ → ℕ) (n : ℕ) (s : Option ℕ) (table m : ℕ) (there : Option ℕ) (page q : ℕ) → IsReachedAs step word n s table m there page → times word m page q ≤ times word n table q
reached_le step word zero s table m there page q on = elim on [ ]
reached_le step word (suc n) s table m there page q (inl (e, (is, st))) =
    subst (λ z. times word z page q ≤ times word (suc n) table q) e (subst (λ z. times word (suc n) z q ≤ times word (suc n) table q) is (omega arith))
reached_le step word (suc n) s table m there page q (inr (i, next, (names, on))) =
    let below : times word m page q ≤ times word n next q = reached_le step word n (step s n i) next m there page q on in
    let le : times word n next q ≤ times word (suc n) table q = times_below word n table q i next names.within names.descriptor in omega arith

-- whatever the states are on the way
pub reached_plain : (step : Step) (word : ℕ → ℕ) (n : ℕ) (s : Option ℕ) (table m : ℕ) (there : Option ℕ) (page : ℕ) → IsReachedAs step word n s table m there page → IsReached word n table m page
reached_plain step word zero s table m there page on = on
reached_plain step word (suc n) s table m there page (inl (e, (is, st))) = inl (e, (is, refl))
reached_plain step word (suc n) s table m there page (inr (i, next, (names, on))) = inr (i, next, (names, reached_plain step word n (step s n i) next m there page on))

-- ---- a change

-- words change within one page alone, which the first table reaches once, in that state and with so many levels below it
pub record IsChange (step : Step) (word word' : ℕ → ℕ) (n : ℕ) (s : Option ℕ) (table below : ℕ) (there : Option ℕ) (page : ℕ) : Type 0 where
  pub reached : IsReachedAs step word n s table (suc below) there page
  pub once : times word n table page ≤ 1
  pub aligned : AreAligned word n table
  pub outside : IsSameOutside word word' page

-- the page of a change begins at a page
pub change_begins : (step : Step) (word word' : ℕ → ℕ) (n : ℕ) (s : Option ℕ) (table below : ℕ) (there : Option ℕ) (page : ℕ) → IsChange step word word' n s table below there page → page % 4096 ≡ 0
change_begins step word word' n s table below there page change = change.aligned page (on_times step word n s table (suc below) there page change.reached)

-- the same change whatever the states are
pub change_plain : (step : Step) (word word' : ℕ → ℕ) (n : ℕ) (s : Option ℕ) (table below : ℕ) (there : Option ℕ) (page : ℕ) → IsChange step word word' n s table below there page
    → IsChange (λ s n i. s) word word' n None table below None page
change_plain step word word' n s table below there page change = record {
  reached = reached_plain step word n s table (suc below) there page change.reached;
  once = change.once;
  aligned = change.aligned;
  outside = change.outside;
}

-- no table that the page names reaches it again
none_again : (step : Step) (word word' : ℕ → ℕ) (n : ℕ) (s : Option ℕ) (table m : ℕ) (there : Option ℕ) (page : ℕ) → IsChange step word word' n s table m there page
    → (i next : ℕ) → i < 512 → read_of (word (page + 8 * i)) (LAST_LEVEL - m) ≡ Table next → times word m next page ≡ 0
none_again step word word' n s table m there page change i next few leads =
    let once : times word n table page ≤ 1 = change.once in
    let le : times word (suc m) page page ≤ times word n table page = reached_le step word n s table (suc m) there page page change.reached in
    let slot : page_weight page word m page + by_next (λ x. times word m x page) (read_of (word (page + 8 * i)) (LAST_LEVEL - m)) ≤ times word (suc m) page page = slot_times_le word m page page i few in
    let is : by_next (λ x. times word m x page) (read_of (word (page + 8 * i)) (LAST_LEVEL - m)) ≡ times word m next page = slot_times_is word m page page i next leads in
    let own : page_weight page word m page ≡ 1 = ap (λ b. if b then 1 else 0) (same_number page) in omega arith

-- what doesn't reach the page has the same words
pub same_tables : (word word' : ℕ → ℕ) (page n table : ℕ) → page % 4096 ≡ 0 → IsSameOutside word word' page → AreAligned word n table → times word n table page ≡ 0 → HaveSameTables word word' n table
same_tables word word' page n table begins same all none = record {
  words = λ q slot some few.
      same_words word word' page begins same q slot (all q some) (λ e. let here : 0 < times word n table page = subst (λ z. 0 < times word n table z) e some in absurd (omega arith)) few;
}

-- what the page reaches begins at pages
aligned_in : (step : Step) (word word' : ℕ → ℕ) (n : ℕ) (s : Option ℕ) (table m : ℕ) (there : Option ℕ) (page : ℕ) → IsChange step word word' n s table m there page → AreAligned word (suc m) page
aligned_in step word word' n s table m there page change q some =
    let le : times word (suc m) page q ≤ times word n table q = reached_le step word n s table (suc m) there page q change.reached in change.aligned q (omega arith)

-- the tables below the page are the same
pub below_same : (step : Step) (word word' : ℕ → ℕ) (n : ℕ) (s : Option ℕ) (table m : ℕ) (there : Option ℕ) (page : ℕ) → IsChange step word word' n s table m there page
    → (i next : ℕ) → i < 512 → read_of (word (page + 8 * i)) (LAST_LEVEL - m) ≡ Table next → HaveSameTables word word' m next
below_same step word word' n s table m there page change i next few leads =
    same_tables word word' page m next (change_begins step word word' n s table m there page change) change.outside
    (aligned_below word m page i next few leads (aligned_in step word word' n s table m there page change))
    (none_again step word word' n s table m there page change i next few leads)

-- ---- what is counted

-- what a page weighs is told by its words
abbrev pub IsTold : StateWeight → Type 0
IsTold weight = (word word' : ℕ → ℕ) (n page : ℕ) (state : Option ℕ) → ((i : ℕ) → i < 512 → word' (page + 8 * i) ≡ word (page + 8 * i)) → weight state word' n page ≡ weight state word n page

pub alike : (weight : StateWeight) → IsTold weight → (word word' : ℕ → ℕ) (page : ℕ) → page % 4096 ≡ 0 → IsSameOutside word word' page → AreAlikeBut page weight word word'
alike weight told word word' page begins same = record {
  words = same_words word word' page begins same;
  weights = λ state n other is apart. told word word' n other state (λ i few. same_words word word' page begins same other i is apart few);
}

-- what moves at the page moves as much in all
pub change_counts : (step : Step) (weight : StateWeight) → IsTold weight → (word word' : ℕ → ℕ) (n : ℕ) (s : Option ℕ) (table m : ℕ) (there : Option ℕ) (page a b : ℕ) → IsChange step word word' n s table m there page
    → count_from step weight word' (suc m) there page + a ≡ count_from step weight word (suc m) there page + b → count_from step weight word' n s table + a ≡ count_from step weight word n s table + b
change_counts step weight told word word' n s table m there page a b change moved =
    count_moves step weight word word' page (suc m) a b there (alike weight told word word' page (change_begins step word word' n s table m there page change) change.outside) moved n s table change.aligned change.once change.reached

-- where the page isn't reached, all is counted as before
pub apart_counts : (step : Step) (weight : StateWeight) → IsTold weight → (word word' : ℕ → ℕ) (n : ℕ) (s : Option ℕ) (table page : ℕ) → page % 4096 ≡ 0 → IsSameOutside word word' page → AreAligned word n table → times word n table page ≡ 0
    → count_from step weight word' n s table ≡ count_from step weight word n s table
apart_counts step weight told word word' n s table page begins same all none = count_same step weight word word' page (alike weight told word word' page begins same) n s table all none

-- ---- what passes up

-- of tables, by the levels left, the state and the table: what holds where no level is left, and of each table with the same
-- words of whose slots' tables it holds
pub record PassesUp (step : Step) (word word' : ℕ → ℕ) (Holds : ℕ → Option ℕ → ℕ → Type 0) : Type 0 where
  pub none : (s : Option ℕ) (table : ℕ) → Holds zero s table
  pub up : (n : ℕ) (s : Option ℕ) (table : ℕ) → ((i : ℕ) → i < 512 → word' (table + 8 * i) ≡ word (table + 8 * i))
      → ((i next : ℕ) → i < 512 → read_of (word (table + 8 * i)) (LAST_LEVEL - n) ≡ Table next → Holds n (step s n i) next) → Holds (suc n) s table

-- it holds of tables with the same words
pub holds_same : (step : Step) (word word' : ℕ → ℕ) (Holds : ℕ → Option ℕ → ℕ → Type 0) → PassesUp step word word' Holds → (n : ℕ) (s : Option ℕ) (table : ℕ) → HaveSameTables word word' n table → Holds n s table
holds_same step word word' Holds passes zero s table same = passes.none s table
holds_same step word word' Holds passes (suc n) s table same =
    passes.up n s table (λ i few. same.words table i (self_times word n table table refl) few)
    (λ i next few leads. holds_same step word word' Holds passes n (step s n i) next
    (record { words = λ q j some small. let le : times word n next q ≤ times word (suc n) table q = times_below word n table q i next few leads in same.words q j (omega arith) small }))

-- two tables that one slot names are one
pub same_next : (word : ℕ → ℕ) (at level next other : ℕ) → read_of (word at) level ≡ Table next → read_of (word at) level ≡ Table other → next ≡ other
same_next word at level next other leads leads' = ap (by_next (λ x. x)) (sym leads ∙ leads')

-- and where it holds of the page of a change, it holds of the first table
pub holds_changed : (step : Step) (word word' : ℕ → ℕ) (Holds : ℕ → Option ℕ → ℕ → Type 0) → PassesUp step word word' Holds → (m : ℕ) (there : Option ℕ) (page : ℕ) → Holds (suc m) there page → page % 4096 ≡ 0 → IsSameOutside word word' page
    → (n : ℕ) (s : Option ℕ) (table : ℕ) → AreAligned word n table → times word n table page ≤ 1 → IsReachedAs step word n s table (suc m) there page → Holds n s table
holds_changed step word word' Holds passes m there page here begins outside zero s table all once on = elim on [ ]
holds_changed step word word' Holds passes m there page here begins outside (suc n) s table all once (inl (e, (is, st))) =
    subst (λ z. Holds z s table) (sym e) (subst (λ z. Holds (suc m) s z) (sym is) (subst (λ z. Holds (suc m) z page) (sym st) here))
holds_changed step word word' Holds passes m there page here begins outside (suc n) s table all once (inr (i, next, (names, on))) =
    let lt : i < 512 = names.within in
    let leads : read_of (word (table + 8 * i)) (LAST_LEVEL - n) ≡ Table next = names.descriptor in
    let slots = λ (j : ℕ). by_next (λ x. times word n x page) (read_of (word (table + 8 * j)) (LAST_LEVEL - n)) in
    let some : 0 < times word n next page = on_times step word n (step s n i) next (suc m) there page on in
    let at : slots i ≡ times word n next page = slot_times_is word n table page i next leads in
    let le : page_weight page word n table + slots i ≤ times word (suc n) table page = slot_times_le word n table page i lt in
    let more : times word (suc n) table page ≡ page_weight page word n table + sum_below 512 slots = count_more (λ s n i. s) (λ state. page_weight page) word n None table in
    let apart : table ≢ page = λ is. let own : page_weight page word n table ≡ 1 = ap (λ b. if b then 1 else 0) (subst (λ z. nat_eq z page ≡ nat_eq page page) (sym is) refl ∙ same_number page) in absurd (omega arith) in
    let below : Holds n (step s n i) next =
    holds_changed step word word' Holds passes m there page here begins outside n (step s n i) next (aligned_below word n table i next lt leads all) (omega arith) on in
    passes.up n s table (λ j few. same_words word word' page begins outside table j (all table (self_times word n table table refl)) apart few)
    (λ j next' few leads'. ⊎_elim
    (λ is. subst (λ k. Holds n (step s n k) next') (sym is) (subst (λ z. Holds n (step s n i) z)
    (same_next word (table + 8 * i) (LAST_LEVEL - n) next next' leads (subst (λ k. read_of (word (table + 8 * k)) (LAST_LEVEL - n) ≡ Table next') is leads')) below))
    (λ other. holds_same step word word' Holds passes n (step s n j) next'
    (same_tables word word' page n next' begins outside (aligned_below word n table j next' few leads' all)
    (sym (slot_times_is word n table page j next' leads') ∙ others_none 512 slots i j lt few other (omega arith) (omega arith))))
    (cases_eq j i))

pub change_holds : (step : Step) (word word' : ℕ → ℕ) (Holds : ℕ → Option ℕ → ℕ → Type 0) → PassesUp step word word' Holds → (n : ℕ) (s : Option ℕ) (table m : ℕ) (there : Option ℕ) (page : ℕ) → IsChange step word word' n s table m there page → Holds (suc m) there page → Holds n s table
change_holds step word word' Holds passes n s table m there page change here =
    holds_changed step word word' Holds passes m there page here (change_begins step word word' n s table m there page change) change.outside n s table change.aligned change.once change.reached
