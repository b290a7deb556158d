-- What is left at each way out of a look: its runs, its looks and its reads.
use Rattle.std.proofs.Common.{◌≡◌, ℕ, ◌≤◌, true, false, List, [], ◌++◌, length, Option, Some, None, refl, sym, ap, subst, ◌∙◌}
use Rattle.std.specs.Option.{option_to_list}
use Rattle.std.proofs.lemmas.List.Sums.{fold-append}
use Rattle.jh_num.specs.Counted.{Counted}
use Rattle.jh_num.specs.declared.steps.Probe.{Probe}
use Rattle.jh_walk.specs.Walks.{all_counted, counted, levels, probes_of}
use Rattle.jh_reach.specs.declared.access.Access.{Access}
use Rattle.jh_reach.specs.declared.access.Run.{Run}
use Rattle.jh_reach.specs.declared.looks.Look.{Look}
use Rattle.jh_reach.specs.Places.{Sight, place_given, places_from, places_given, places_in, places_in_both}
use Rattle.jh_reach.specs.Looks.{looks_at, reads_of}
use Rattle.jh_reach.specs.Private.Parts.{are_given, low_of, high_of, IsSplit}
use Rattle.jh_reach.proofs.PartLemmas.{given_not_low, given_not_high, given_runs, looks_both, reads_low, reads_both}
use Rattle.jh_reach.proofs.ReadLemmas.{few_kept, eight_at_most, kept}

-- each walk reads one descriptor a level at most
abbrev pub WalksReadFew : Sight → Type 0
WalksReadFew s = (page : ℕ) → length (probes_of s.word levels s.base.table page) ≤ levels

-- ---- reads

pub start_kept : (before : Counted) → before.probes ≡ [] → before.count ≡ length before.probes → before ≡ kept []
start_kept before none count = ap (λ (n : ℕ). record { count = n; probes = before.probes }) (count ∙ ap length none) ∙ ap (λ (l : List Probe). record { count = 0; probes = l }) none

pub low_kept : (s : Sight) (access low : Access) (before after : Counted) → WalksReadFew s → low ≡ low_of access low.width → IsSplit access low.width → false ≡ are_given s low → before ≡ kept [] → after ≡ all_counted before (reads_of s low) → after ≡ kept (reads_of s access)
low_kept s access low before after few is split not start reads =
    let none : are_given s (low_of access low.width) ≡ false = subst (λ l. are_given s l ≡ false) is (sym not) in
    let same : reads_of s access ≡ reads_of s low = reads_low s access low.width split none ∙ ap (reads_of s) (sym is) in
    reads ∙ ap (λ (b : Counted). all_counted b (reads_of s low)) start ∙ ap (all_counted (kept [])) (sym same) ∙ few_kept (reads_of s access) (eight_at_most s access few)

pub both_kept : (s : Sight) (access low high : Access) (before between after : Counted) → WalksReadFew s → low ≡ low_of access low.width → high ≡ high_of access low.width → IsSplit access low.width → true ≡ are_given s low → before ≡ kept [] → between ≡ all_counted before (reads_of s low) → after ≡ all_counted between (reads_of s high) → after ≡ kept (reads_of s access)
both_kept s access low high before between after few is rest split may start reads more =
    let given : are_given s (low_of access low.width) ≡ true = subst (λ l. are_given s l ≡ true) is (sym may) in
    let same : reads_of s access ≡ reads_of s low ++ reads_of s high =
    reads_both s access low.width split given ∙ ap (λ (l : Access). reads_of s l ++ reads_of s (high_of access low.width)) (sym is) ∙ ap (λ (h : Access). reads_of s low ++ reads_of s h) (sym rest) in
    more ∙ ap (λ (b : Counted). all_counted b (reads_of s high)) (reads ∙ ap (λ (b : Counted). all_counted b (reads_of s low)) start)
    ∙ sym (fold-append counted (kept []) (reads_of s low) (reads_of s high))
    ∙ ap (all_counted (kept [])) (sym same) ∙ few_kept (reads_of s access) (eight_at_most s access few)

pub kept_counts : (after : Counted) (probes : List Probe) → after ≡ kept probes → after.count ≡ length after.probes
kept_counts after probes is = subst (λ (c : Counted). c.count ≡ length c.probes) (sym is) refl

-- ---- looks

pub both_looks : (s : Sight) (access low high : Access) (first second : Option Look) → low ≡ low_of access low.width → high ≡ high_of access low.width → IsSplit access low.width → true ≡ are_given s low → option_to_list first ≡ looks_at s low → option_to_list second ≡ looks_at s high → option_to_list first ++ option_to_list second ≡ looks_at s access
both_looks s access low high first second is rest split may one other =
    let given : are_given s (low_of access low.width) ≡ true = subst (λ l. are_given s l ≡ true) is (sym may) in
    ap (λ (l : List Look). l ++ option_to_list second) (one ∙ ap (looks_at s) is)
    ∙ ap (λ (l : List Look). looks_at s (low_of access low.width) ++ l) (other ∙ ap (looks_at s) rest)
    ∙ sym (looks_both s access low.width split given)

-- ---- runs

pub low_none : (s : Sight) (access low : Access) → low ≡ low_of access low.width → IsSplit access low.width → None ≡ places_from (place_given s low.needs) low.at low.width → None ≡ places_given s access
low_none s access low is split none =
    sym (given_not_low s access low.width split (sym (none ∙ ap (λ (l : Access). places_from (place_given s l.needs) l.at l.width) is)))

pub high_none : (s : Sight) (access high : Access) (here : ℕ) → high ≡ high_of access here → IsSplit access here → None ≡ places_from (place_given s high.needs) high.at high.width → None ≡ places_given s access
high_none s access high here rest split none =
    sym (given_not_high s access here split (sym (none ∙ ap (λ (h : Access). places_from (place_given s h.needs) h.at h.width) rest)))

pub both_runs : (s : Sight) (access low high : Access) (one other : Run) → low ≡ low_of access low.width → high ≡ high_of access low.width → IsSplit access low.width → Some (places_in one) ≡ places_from (place_given s low.needs) low.at low.width → Some (places_in other) ≡ places_from (place_given s high.needs) high.at high.width → Some (places_in_both (one, other)) ≡ places_given s access
both_runs s access low high one other is rest split first second =
    sym (given_runs s access low.width (places_in one) (places_in other) split
    (sym (first ∙ ap (λ (l : Access). places_from (place_given s l.needs) l.at l.width) is))
    (sym (second ∙ ap (λ (h : Access). places_from (place_given s h.needs) h.at h.width) rest)))
