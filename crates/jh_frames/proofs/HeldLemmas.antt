-- Which pages are held, and how many aren't.
use Rattle.std.proofs.Common.{◌≡◌, ℕ, zero, suc, ◌+◌, ◌-◌, ◌*◌, ◌/◌, ◌%◌, ◌<◌, ◌≤◌, ◌⊎◌, inl, inr, Bool, true, false, not, ◌||◌, cond, Result, Ok, Err, is_some, refl, sym, ap, ◌∙◌, arith}
use Rattle.std.specs.Prelude.{IsOk, OnOk}
use Rattle.std.specs.List.{range_with_len}
use Rattle.std.proofs.lemmas.Bool.{cases_eq, cases_lt, ne_eqb, false≢true}
use Rattle.std.proofs.lemmas.List.Sums.{sum_by-cons}
use Rattle.jh_frames.specs.Memory.{FramesView, is_own, holds, missing, missing_from, pages_in}
use Rattle.jh_num.specs.Pages.{page_at}
use Rattle.jh_num.proofs.Public.{count_few}
use Rattle.jh_frames.specs.Kept.{IsWholePages}
use Rattle.jh_frames.proofs.MemoryLemmas.{own_page}

or_same : (a a' b b' : Bool) → a' ≡ a → b' ≡ b → (a' || b') ≡ (a || b)
or_same a a' b b' p q = cc

-- places of one page are both held, or neither
pub holds_page : (v : FramesView) (x y : ℕ) → IsWholePages v.own → x / 4096 ≡ y / 4096 → holds v x ≡ holds v y
holds_page v x y whole same =
    or_same (is_own v.own y) (is_own v.own x) (is_some (page_at v.guest.pages (y / 4096))) (is_some (page_at v.guest.pages (x / 4096))) (own_page v.own x y whole same) (ap (λ n. is_some (page_at v.guest.pages n)) same)

-- a place whose page is as it was
pub holds_same : (v v' : FramesView) (q : ℕ) → v'.own ≡ v.own → is_some (page_at v'.guest.pages (q / 4096)) ≡ is_some (page_at v.guest.pages (q / 4096)) → holds v' q ≡ holds v q
holds_same v v' q o p = or_same (is_own v.own q) (is_own v'.own q) (is_some (page_at v.guest.pages (q / 4096))) (is_some (page_at v'.guest.pages (q / 4096))) (ap (λ z. is_own z q) o) p

-- 1 where the page isn't held
abbrev pub lacking : FramesView → ℕ → ℕ
lacking v n = cond (not (holds v (4096 * n))) 1 0

pub missing_more : (v : FramesView) (first count : ℕ) → missing_from v first (suc count) ≡ lacking v first + missing_from v (first + 1) count
missing_more v first count = sum_by-cons (lacking v) first (range_with_len (first + 1) count)

pub missing_last : (v : FramesView) (first count : ℕ) → missing_from v first (suc count) ≡ missing_from v first count + lacking v (first + count)
missing_last v first zero =
    let same : first ≡ first + 0 = omega arith in
    missing_more v first 0 ∙ ap (λ n. lacking v n + 0) same ∙ omega arith
missing_last v first (suc count) =
    let all : missing_from v first (suc (suc count)) ≡ lacking v first + missing_from v (first + 1) (suc count) = missing_more v first (suc count) in
    let some : missing_from v first (suc count) ≡ lacking v first + missing_from v (first + 1) count = missing_more v first count in
    let rest : missing_from v (first + 1) (suc count) ≡ missing_from v (first + 1) count + lacking v (first + 1 + count) = missing_last v (first + 1) count in
    let same : first + 1 + count ≡ first + suc count = omega arith in
    let last : lacking v (first + 1 + count) ≡ lacking v (first + suc count) = ap (lacking v) same in
    omega arith

pub missing_few : (v : FramesView) (first count : ℕ) → missing_from v first count ≤ count
missing_few v first zero = omega arith
missing_few v first (suc count) =
    let all : missing_from v first (suc count) ≡ lacking v first + missing_from v (first + 1) count = missing_more v first count in
    let one : lacking v first ≤ 1 = count_few (holds v (4096 * first)) in
    let rest : missing_from v (first + 1) count ≤ count = missing_few v (first + 1) count in
    omega arith

-- one page more was looked at
pub missing_held : (v : FramesView) (first n missing : ℕ) → first ≤ n → missing ≡ missing_from v first (n - first) → holds v (4096 * n) ≡ true → missing ≡ missing_from v first (n + 1 - first)
missing_held v first n missing le e held =
    let next : n + 1 - first ≡ suc (n - first) = omega arith in
    let at : first + (n - first) ≡ n = omega arith in
    let none : lacking v (first + (n - first)) ≡ 0 = ap (lacking v) at ∙ ap (λ b. cond (not b) 1 0) held in
    let last : missing_from v first (suc (n - first)) ≡ missing_from v first (n - first) + lacking v (first + (n - first)) = missing_last v first (n - first) in
    let goal : missing ≡ missing_from v first (suc (n - first)) = omega arith in
    goal ∙ ap (missing_from v first) (sym next)

pub missing_lacks : (v : FramesView) (first n missing : ℕ) → first ≤ n → missing ≡ missing_from v first (n - first) → holds v (4096 * n) ≡ false → missing + 1 ≡ missing_from v first (n + 1 - first)
missing_lacks v first n missing le e lacks =
    let next : n + 1 - first ≡ suc (n - first) = omega arith in
    let at : first + (n - first) ≡ n = omega arith in
    let one : lacking v (first + (n - first)) ≡ 1 = ap (lacking v) at ∙ ap (λ b. cond (not b) 1 0) lacks in
    let last : missing_from v first (suc (n - first)) ≡ missing_from v first (n - first) + lacking v (first + (n - first)) = missing_last v first (n - first) in
    let goal : missing + 1 ≡ missing_from v first (suc (n - first)) = omega arith in
    goal ∙ ap (missing_from v first) (sym next)

-- pages that are held alike
pub missing_alike : (v v' : FramesView) (first count : ℕ) → ((n : ℕ) → first ≤ n → holds v' (4096 * n) ≡ holds v (4096 * n)) → missing_from v' first count ≡ missing_from v first count
missing_alike v v' first zero same = refl
missing_alike v v' first (suc count) same =
    let a : missing_from v' first (suc count) ≡ lacking v' first + missing_from v' (first + 1) count = missing_more v' first count in
    let b : missing_from v first (suc count) ≡ lacking v first + missing_from v (first + 1) count = missing_more v first count in
    let one : lacking v' first ≡ lacking v first = ap (λ b. cond (not b) 1 0) (same first (omega arith)) in
    let rest : missing_from v' (first + 1) count ≡ missing_from v (first + 1) count = missing_alike v v' (first + 1) count (λ n le. same n (omega arith)) in
    omega arith

pub lacking_is : (b : Bool) (one none : ℕ) → cond (not b) one none ≡ cond b none one
lacking_is true one none = refl
lacking_is false one none = refl

-- as much is missing where the same pages are held
pub missing_kept : (v v' : FramesView) (first count : ℕ) → v'.own ≡ v.own → v'.guest.pages ≡ v.guest.pages → missing_from v' first count ≡ missing_from v first count
missing_kept v v' first count o p = missing_alike v v' first count (λ n le. holds_same v v' (4096 * n) o (ap (λ pages. is_some (page_at pages (4096 * n / 4096))) p))

pages_some : (at count : ℕ) → 0 < count → pages_in at count ≡ (at + count - 1) / 4096 + 1 - at / 4096
pages_some at count some = rw (ne_eqb count 0 (λ none. omega arith)) refl

pub within_pages : (at count q : ℕ) → at ≤ q → q < at + count → q / 4096 < at / 4096 + pages_in at count
within_pages at count q above below =
    let some : pages_in at count ≡ (at + count - 1) / 4096 + 1 - at / 4096 = pages_some at count (omega arith) in
    omega arith

-- what holds where a call succeeds, of one that does
pub on_ok : {T E P : Type 0} (r : Result T E) → IsOk r → OnOk r P → P
on_ok (Ok x) ok is = is
on_ok (Err e) ok is = absurd (false≢true ok)

-- what the page of a place wants
pub lacking_at : (v : FramesView) (at : ℕ) → IsWholePages v.own → lacking v (at / 4096) ≡ cond (holds v at) 0 1
lacking_at v at whole =
    let number : 4096 * (at / 4096) / 4096 ≡ at / 4096 = omega arith in
    ap (λ b. cond (not b) 1 0) (holds_page v (4096 * (at / 4096)) at whole number) ∙ lacking_is (holds v at) 1 0

last_page : (v v' : FramesView) (at n k : ℕ) → k ≡ n → 0 < k → at % 4096 + k ≤ 4096 → missing v at n ≡ lacking v (at / 4096) + missing v' (at + k) (n - k)
last_page v v' at n k all some within =
    let pages : pages_in at n ≡ (at + n - 1) / 4096 + 1 - at / 4096 = pages_some at n (omega arith) in
    let one : pages_in at n ≡ 1 = omega (arith, pages) in
    let rest : n - k ≡ 0 = omega arith in
    let here : missing v at n ≡ lacking v (at / 4096) + 0 = ap (missing_from v (at / 4096)) one ∙ missing_more v (at / 4096) 0 in
    let none : missing v' (at + k) (n - k) ≡ 0 = ap (missing v' (at + k)) rest in
    omega arith

further_page : (v v' : FramesView) (at n k : ℕ) → k < n → at % 4096 + k ≡ 4096 → ((q : ℕ) → (q / 4096 ≡ at / 4096 → ⊥) → holds v' q ≡ holds v q) → missing v at n ≡ lacking v (at / 4096) + missing v' (at + k) (n - k)
further_page v v' at n k more border others =
    let number : (at + k) / 4096 ≡ at / 4096 + 1 = omega arith in
    let same : at + k + (n - k) ≡ at + n = omega arith in
    let pages : pages_in at n ≡ (at + n - 1) / 4096 + 1 - at / 4096 = pages_some at n (omega arith) in
    let behind : pages_in (at + k) (n - k) ≡ (at + k + (n - k) - 1) / 4096 + 1 - (at + k) / 4096 = pages_some (at + k) (n - k) (omega arith) in
    let end : (at + k + (n - k) - 1) / 4096 ≡ (at + n - 1) / 4096 = ap (λ x. (x - 1) / 4096) same in
    let past : at / 4096 + 1 ≤ (at + n - 1) / 4096 = omega arith in
    let one : pages_in at n ≡ suc (pages_in (at + k) (n - k)) = omega (arith, pages, behind, end, number, past) in
    let here : missing v at n ≡ lacking v (at / 4096) + missing_from v (at / 4096 + 1) (pages_in (at + k) (n - k)) = ap (missing_from v (at / 4096)) one ∙ missing_more v (at / 4096) (pages_in (at + k) (n - k)) in
    let alike : missing_from v' (at / 4096 + 1) (pages_in (at + k) (n - k)) ≡ missing_from v (at / 4096 + 1) (pages_in (at + k) (n - k)) = missing_alike v v' (at / 4096 + 1) (pages_in (at + k) (n - k)) (λ m le. others (4096 * m) (λ e. omega arith)) in
    let rest : missing v' (at + k) (n - k) ≡ missing_from v' (at / 4096 + 1) (pages_in (at + k) (n - k)) = ap (λ m. missing_from v' m (pages_in (at + k) (n - k))) number in
    omega (arith, here, alike, rest)

split_by_cases : (v v' : FramesView) (at n k : ℕ) → 0 < k → k ≤ n → at % 4096 + k ≤ 4096 → ((k ≡ n → ⊥) → at % 4096 + k ≡ 4096) → ((q : ℕ) → (q / 4096 ≡ at / 4096 → ⊥) → holds v' q ≡ holds v q) → (k ≡ n) ⊎ (k ≡ n → ⊥) → missing v at n ≡ lacking v (at / 4096) + missing v' (at + k) (n - k)
split_by_cases v v' at n k some within one border others (inl all) = last_page v v' at n k all some one
split_by_cases v v' at n k some within one border others (inr more) = further_page v v' at n k (omega arith) (border more) others

-- what is missing of some bytes, by the page that the first of them lie in
pub missing_split : (v v' : FramesView) (at n k : ℕ) → 0 < k → k ≤ n → at % 4096 + k ≤ 4096 → ((k ≡ n → ⊥) → at % 4096 + k ≡ 4096) → ((q : ℕ) → (q / 4096 ≡ at / 4096 → ⊥) → holds v' q ≡ holds v q) → missing v at n ≡ lacking v (at / 4096) + missing v' (at + k) (n - k)
missing_split v v' at n k some within one border others = split_by_cases v v' at n k some within one border others (cases_eq k n)

held_by_cases : (v v' : FramesView) (from q : ℕ) → IsWholePages v'.own → ((x : ℕ) → holds v x ≡ true → holds v' x ≡ true) → holds v' from ≡ true → (q < from → holds v q ≡ true) → (from ≤ q → q / 4096 ≡ from / 4096) → (q < from) ⊎ (from ≤ q) → holds v' q ≡ true
held_by_cases v v' from q whole kept there before same (inl low) = kept q (before low)
held_by_cases v v' from q whole kept there before same (inr high) = holds_page v' q from whole (same high) ∙ there

-- the places so far are held, and those of one page more
pub held_more : (v v' : FramesView) (from q : ℕ) → IsWholePages v'.own → ((x : ℕ) → holds v x ≡ true → holds v' x ≡ true) → holds v' from ≡ true → (q < from → holds v q ≡ true) → (from ≤ q → q / 4096 ≡ from / 4096) → holds v' q ≡ true
held_more v v' from q whole kept there before same = held_by_cases v v' from q whole kept there before same (cases_lt q from)
