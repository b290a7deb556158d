-- Few reads are all kept, and an access reads few.
use Rattle.std.proofs.Common.{◌≡◌, ℕ, ◌+◌, ◌-◌, ◌*◌, ◌%◌, ◌<◌, ◌≤◌, suc, Bool, true, false, not, cond, eqb, leb, is_some, if◌then◌else◌, List, [], ◌∷◌, ◌++◌, length, drop, filter, sym, ap, ◌∙◌, arith, append_assoc, length-append}
use Rattle.std.specs.List.{flat_map}
use Rattle.std.proofs.lemmas.List.{append-nil, length_push}
use Rattle.jh_num.specs.Counted.{Counted, last_eight}
use Rattle.jh_num.specs.Numbers.{counted_up}
use Rattle.jh_num.specs.declared.steps.Probe.{Probe}
use Rattle.jh_walk.specs.Walks.{all_counted, counted, levels, probes_of}
use Rattle.jh_reach.specs.declared.access.Access.{Access}
use Rattle.jh_reach.specs.Places.{Sight, ends_within, given}
use Rattle.jh_reach.specs.Looks.{is_cached, page_of, pages_in, reads_at, reads_of, up_to_refused}

-- counted reads of which all are kept
abbrev pub kept : List Probe → Counted
kept probes = record { count = length probes; probes = probes }

one_kept : (probes : List Probe) (p : Probe) → length probes < 8 → counted (kept probes) p ≡ kept (probes ++ p ∷ [])
one_kept probes p few =
    let count : counted_up (length probes) ≡ length (probes ++ p ∷ []) = omega (arith, length_push probes p) in
    let first : length (probes ++ p ∷ []) - 8 ≡ 0 = omega (arith, length_push probes p) in
    let all : last_eight (probes ++ p ∷ []) ≡ probes ++ p ∷ [] = ap (λ n. drop n (probes ++ p ∷ [])) first in
    ap (λ (n : ℕ). record { count = n; probes = last_eight (probes ++ p ∷ []) }) count
    ∙ ap (λ (l : List Probe). record { count = length (probes ++ p ∷ []); probes = l }) all

all_kept : (probes more : List Probe) → length probes + length more ≤ 8 → all_counted (kept probes) more ≡ kept (probes ++ more)
all_kept probes [] few = ap kept (sym (append-nil probes))
all_kept probes (p ∷ more) few =
    ap (λ (c : Counted). all_counted c more) (one_kept probes p (omega arith))
    ∙ all_kept (probes ++ p ∷ []) more (omega (arith, length_push probes p))
    ∙ ap kept (append_assoc probes (p ∷ []) more)

pub few_kept : (probes : List Probe) → length probes ≤ 8 → all_counted (kept []) probes ≡ kept probes
few_kept probes few = all_kept [] probes (omega arith)

few_more : (s : Sight) (given cached : Bool) (probes : List Probe) (x : ℕ) (next ys : List ℕ) → length probes ≤ levels → length (flat_map (reads_at s) next) ≤ levels * length ys
    → length ((if cached then [] else probes) ++ flat_map (reads_at s) (if given then next else [])) ≤ levels * length (cond (not cached) (x ∷ ys) ys)
few_more s true true probes x next ys few rest = rest
few_more s false true probes x next ys few rest = omega arith
few_more s true false probes x next ys few rest = omega (arith, length-append probes (flat_map (reads_at s) next))
few_more s false false probes x next ys few rest = omega (arith, length-append probes [])

pub reads_few : (s : Sight) → ((page : ℕ) → length (probes_of s.word levels s.base.table page) ≤ levels) → (g : ℕ → Bool) (xs : List ℕ) → length (flat_map (reads_at s) (up_to_refused g xs)) ≤ levels * length (filter (λ page. not (is_cached s page)) xs)
reads_few s few g [] = omega arith
reads_few s few g (x ∷ xs) =
    few_more s (g x) (is_cached s x) (probes_of s.word levels s.base.table x) x (up_to_refused g xs) (filter (λ page. not (is_cached s page)) xs) (few x) (reads_few s few g xs)

fewer_by : (b : Bool) (x : ℕ) (ys : List ℕ) (n : ℕ) → length ys ≤ n → length (cond b (x ∷ ys) ys) ≤ suc n
fewer_by true x ys n few = omega arith
fewer_by false x ys n few = omega arith

fewer : (p : ℕ → Bool) (xs : List ℕ) → length (filter p xs) ≤ length xs
fewer p [] = omega arith
fewer p (x ∷ xs) = fewer_by (p x) x (filter p xs) (length xs) (fewer p xs)

two_at_most : (b none one : Bool) (p q : ℕ) → length (if b then (if none then [] else (if one then p ∷ [] else p ∷ q ∷ [])) else []) ≤ 2
two_at_most false none one p q = omega arith
two_at_most true true one p q = omega arith
two_at_most true false true p q = omega arith
two_at_most true false false p q = omega arith

-- an access reads eight descriptors at most
pub eight_at_most : (s : Sight) (access : Access) → ((page : ℕ) → length (probes_of s.word levels s.base.table page) ≤ levels) → length (reads_of s access) ≤ 8
eight_at_most s access few =
    let all : length (reads_of s access) ≤ levels * length (filter (λ page. not (is_cached s page)) (pages_in access)) = reads_few s few (λ page. is_some (given s access.needs page)) (pages_in access) in
    let part : length (filter (λ page. not (is_cached s page)) (pages_in access)) ≤ length (pages_in access) = fewer (λ page. not (is_cached s page)) (pages_in access) in
    let two : length (pages_in access) ≤ 2 = two_at_most (ends_within access) (eqb access.width 0) (leb (access.at % 4096 + access.width) 4096) (page_of access.at) (page_of access.at + 4096) in
    omega arith
