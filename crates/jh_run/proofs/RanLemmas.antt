-- Items on a board, one after another.
use Rattle.std.proofs.Common.{◌≡◌, ℕ, zero, suc, ◌+◌, ◌-◌, ◌<◌, ◌≤◌, List, [], ◌∷◌, ◌++◌, Bool, true, false, refl, subst, get_or, take, drop, length, arith, add-zero, add-suc, add-one}
use Rattle.std.proofs.lemmas.List.{take_more, take-append-drop}
use Rattle.jh_history.specs.declared.entry.Entry.{Entry}
use Rattle.jh_history.specs.Due.{IsQuiet}
use Rattle.jh_history.specs.Items.{rounds}
use Rattle.jh_laws.specs.Items.{ItemsLead}
use Rattle.jh_board.specs.BoardView.{BoardView}
use Rattle.jh_run.specs.Private.Ran.{Ran}
use Rattle.jh_run.proofs.RunLemmas.{lead_append, cut_behind, cut_before, lead_quiet}

-- no items
pub Ran_nil : (old : BoardView) → Ran old [] false old
Ran_nil old = (refl, refl)

-- items after others, on the board where those have led
joined : (old : BoardView) (between : List Entry) (new : BoardView) (xs ys : List ℕ) (full : Bool) → ItemsLead old.image old.form old.limit xs old.entries between
    → Ran (record { image = old.image; limit = old.limit; form = old.form; entries = between }) ys full new → Ran old (xs ++ ys) full new
joined old between new xs ys false h k = (lead_append old.image old.form old.limit xs ys old.entries between new.entries h k.0, k.1)
joined old between new xs ys true h k = (cut_behind old.image old.form old.limit xs ys old.entries between new.entries h k.0, k.1)

pub Ran_append : (old mid new : BoardView) (xs ys : List ℕ) (full : Bool) → Ran old xs false mid → Ran mid ys full new → Ran old (xs ++ ys) full new
Ran_append old mid new xs ys full h k = let P : BoardView → Type 0 = λ v. Ran v ys full new in joined old mid.entries new xs ys full h.0 (subst P h.1 k)

-- items after a stop
pub Ran_stopped : (old new : BoardView) (xs ys : List ℕ) → Ran old xs true new → Ran old (xs ++ ys) true new
Ran_stopped old new xs ys h = (cut_before old.image old.form old.limit xs ys old.entries new.entries h.0, h.1)

-- the item of the CPU at a place of the list
pub Ran_next : (old mid new : BoardView) (xs : List ℕ) (i d : ℕ) (full : Bool) → i < length xs → Ran old (take i xs) false mid → Ran mid (get_or xs i d ∷ []) full new → Ran old (take (i + 1) xs) full new
Ran_next old mid new xs i d full lt h k = rw (take_more xs i d lt) (Ran_append old mid new (take i xs) (get_or xs i d ∷ []) full h k)

-- a stop at that item
pub Ran_stop : (old mid new : BoardView) (xs : List ℕ) (i d : ℕ) → i < length xs → Ran old (take i xs) false mid → Ran mid (get_or xs i d ∷ []) true new → Ran old xs true new
Ran_stop old mid new xs i d lt h k =
    let P : List ℕ → Type 0 = λ zs. Ran old zs true new in
    subst P (take-append-drop (i + 1) xs) (Ran_stopped old new (take (i + 1) xs) (drop (i + 1) xs) (Ran_next old mid new xs i d true lt h k))

-- one round more
pub Ran_round : (old mid new : BoardView) (n : ℕ) (cpus : List ℕ) (full : Bool) → Ran old (rounds n cpus) false mid → Ran mid cpus full new → Ran old (rounds (n + 1) cpus) full new
Ran_round old mid new n cpus full h k = rw add-one (Ran_append old mid new (rounds n cpus) cpus full h k)

-- the rounds that are left at a quiet board, and at a stop
quiet_rounds : (old mid : BoardView) (n k : ℕ) (cpus : List ℕ) → Ran old (rounds n cpus) false mid → IsQuiet mid.image mid.form mid.entries → Ran old (rounds (n + k) cpus) false mid
quiet_rounds old mid n zero cpus h quiet = rw add-zero h
quiet_rounds old mid n (suc k) cpus h quiet = rw add-suc (Ran_append old mid mid (rounds (n + k) cpus) cpus false (quiet_rounds old mid n k cpus h quiet) (lead_quiet mid.image mid.form mid.limit cpus mid.entries quiet, refl))

stopped_rounds : (old new : BoardView) (n k : ℕ) (cpus : List ℕ) → Ran old (rounds n cpus) true new → Ran old (rounds (n + k) cpus) true new
stopped_rounds old new n zero cpus h = rw add-zero h
stopped_rounds old new n (suc k) cpus h = rw add-suc (Ran_stopped old new (rounds (n + k) cpus) cpus (stopped_rounds old new n k cpus h))

pub Ran_rounds_quiet : (old mid : BoardView) (n m : ℕ) (cpus : List ℕ) → n ≤ m → Ran old (rounds n cpus) false mid → IsQuiet mid.image mid.form mid.entries → Ran old (rounds m cpus) false mid
Ran_rounds_quiet old mid n m cpus le h quiet =
    let P : ℕ → Type 0 = λ k. Ran old (rounds k cpus) false mid in
    let all : n + (m - n) ≡ m = omega arith in
    subst P all (quiet_rounds old mid n (m - n) cpus h quiet)

pub Ran_rounds_full : (old mid new : BoardView) (n m : ℕ) (cpus : List ℕ) → n + 1 ≤ m → Ran old (rounds n cpus) false mid → Ran mid cpus true new → Ran old (rounds m cpus) true new
Ran_rounds_full old mid new n m cpus le h k =
    let P : ℕ → Type 0 = λ j. Ran old (rounds j cpus) true new in
    let all : (n + 1) + (m - (n + 1)) ≡ m = omega arith in
    subst P all (stopped_rounds old new (n + 1) (m - (n + 1)) cpus (Ran_round old mid new n cpus true h k))
