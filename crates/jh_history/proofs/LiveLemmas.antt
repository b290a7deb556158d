-- Live cells by their configurations, and lists that loops change an element at a time.
use Rattle.std.proofs.Common.{◌≡◌, ℕ, zero, suc, ◌+◌, ◌-◌, ◌<◌, ◌≤◌, Bool, true, false, cond, ◌||◌, ◌&&◌, not, eqb, List, [], ◌∷◌, length, get_or, drop, set, remove, Option, Some, None, refl, sym, ap, ◌∙◌, arith}
use Rattle.std.specs.Prelude.{find, map, filter, option_map}
use Rattle.std.proofs.lemmas.List.{drop_more, drop_all}
use Rattle.std.proofs.lemmas.List.Edits.{length-remove}
use Rattle.jh_num.proofs.Public.{find_map}
use Rattle.jh_cellcfg.specs.declared.config.CellConfig.{CellConfig}
use Rattle.jh_cellcfg.specs.declared.live.Live.{Live}
use Rattle.jh_cellcfg.specs.Lives.{has_id, id_of}
use Rattle.jh_history.specs.Lives.{live_in}
use Rattle.jh_shape.specs.Lives.{configs_of, with_marks, marked}
use Rattle.jh_shape.proofs.Public.{length_joined, joined_remove, live_of}
use Rattle.jh_history.specs.Calls.{is_recipient, is_recipient_by, first_recipient, listed_behind}
use Rattle.jh_history.specs.Commits.{is_other}

abbrev config : Live → CellConfig
config live = live.config

abbrev pub has_number : ℕ → CellConfig → Bool
has_number id c = eqb c.id id

abbrev pub number : CellConfig → ℕ
number c = c.id

-- the cell with the id
pub live_in_is : (lives : List Live) (cells : List CellConfig) (id : ℕ) → configs_of lives ≡ cells → find (has_number id) cells ≡ live_in lives id
live_in_is lives cells id e = ap (find (has_number id)) (sym e) ∙ find_map config (has_number id) lives

-- the first cell that is told
abbrev pub told_of : ℕ → List CellConfig → Option ℕ
told_of about cells = option_map number (find (is_recipient_by about) cells)

both_maps : (o : Option Live) → option_map number (option_map config o) ≡ option_map id_of o
both_maps (Some live) = refl
both_maps None = refl

told_of_is : (about : ℕ) (lives : List Live) → told_of about (configs_of lives) ≡ first_recipient about lives
told_of_is about lives = ap (option_map number) (find_map config (is_recipient_by about) lives) ∙ both_maps (find (is_recipient about) lives)

pub first_told_is : (about : ℕ) (lives : List Live) (cells : List CellConfig) → configs_of lives ≡ cells → told_of about cells ≡ first_recipient about lives
first_told_is about lives cells e = ap (told_of about) (sym e) ∙ told_of_is about lives

-- those behind the one with the id
abbrev pub behind_of : ℕ → List CellConfig → List CellConfig
behind_of id [] = []
behind_of id (c ∷ cs) = cond (has_number id c) cs (behind_of id cs)

behind_by : (id : ℕ) (b : Bool) (lives rest : List Live) → behind_of id (configs_of lives) ≡ configs_of rest → cond b (configs_of lives) (behind_of id (configs_of lives)) ≡ configs_of (cond b lives rest)
behind_by id true lives rest e = refl
behind_by id false lives rest e = e

behind_of_is : (id : ℕ) (lives : List Live) → behind_of id (configs_of lives) ≡ configs_of (listed_behind id lives)
behind_of_is id [] = refl
behind_of_is id (live ∷ lives) = behind_by id (has_id id live) lives (listed_behind id lives) (behind_of_is id lives)

-- that of them, or of all of what is left where the one with the id was passed
abbrev pub told_from : Bool → ℕ → ℕ → List CellConfig → Option ℕ
told_from true about id cells = told_of about cells
told_from false about id cells = told_of about (behind_of id cells)

pub next_told_is : (about id : ℕ) (lives : List Live) (cells : List CellConfig) → configs_of lives ≡ cells → told_from false about id cells ≡ first_recipient about (listed_behind id lives)
next_told_is about id lives cells e =
    ap (λ (cs : List CellConfig). told_of about (behind_of id cs)) (sym e)
    ∙ ap (told_of about) (behind_of_is id lives)
    ∙ told_of_is about (listed_behind id lives)

pub told_from_end : (b : Bool) (about id : ℕ) → told_from b about id [] ≡ None
told_from_end true about id = refl
told_from_end false about id = refl

pub told_from_here : (b : Bool) (about id : ℕ) (c : CellConfig) (cs : List CellConfig) → b ≡ true → is_recipient_by about c ≡ true → told_from b about id (c ∷ cs) ≡ Some c.id
told_from_here b about id c cs e told = rw (e, told) refl

told_from_pass : (about id : ℕ) (c : CellConfig) (cs : List CellConfig) (b : Bool) → told_of about (cond b cs (behind_of id cs)) ≡ told_from b about id cs
told_from_pass about id c cs true = refl
told_from_pass about id c cs false = refl

pub told_from_skip : (b : Bool) (about id : ℕ) (c : CellConfig) (cs : List CellConfig) → (b && is_recipient_by about c) ≡ false → told_from b about id (c ∷ cs) ≡ told_from (b || has_number id c) about id cs
told_from_skip true about id c cs fails = rw fails refl
told_from_skip false about id c cs fails = told_from_pass about id c cs (has_number id c)

-- a loop over the cells, one further
pub found_here : (p : CellConfig → Bool) (cells : List CellConfig) (k : ℕ) (c : CellConfig) → k < length cells → c ≡ get_or cells k c → p c ≡ true → find p (drop k cells) ≡ Some c
found_here p cells k c lt is passes = ap (find p) (drop_more cells k c lt) ∙ rw (← is, passes) refl

pub nothing_left : {X : Type 0} (xs : List X) (k : ℕ) → length xs ≤ k → drop k xs ≡ []
nothing_left xs k le = drop_all k xs le

pub told_from_found : (b : Bool) (about id : ℕ) (cells : List CellConfig) (k : ℕ) (c : CellConfig) → k < length cells → c ≡ get_or cells k c → b ≡ true → is_recipient_by about c ≡ true
    → told_from b about id (drop k cells) ≡ Some c.id
told_from_found b about id cells k c lt is behind told =
    ap (told_from b about id) (drop_more cells k c lt)
    ∙ ap (λ (d : CellConfig). told_from b about id (d ∷ drop (k + 1) cells)) (sym is)
    ∙ told_from_here b about id c (drop (k + 1) cells) behind told

pub told_from_next : (b after : Bool) (about id : ℕ) (cells : List CellConfig) (k : ℕ) (c : CellConfig) → k < length cells → c ≡ get_or cells k c → (b && is_recipient_by about c) ≡ false → after ≡ (b || has_number id c)
    → told_from after about id (drop (k + 1) cells) ≡ told_from b about id (drop k cells)
told_from_next b after about id cells k c lt is fails passed =
    sym
    (ap (told_from b about id) (drop_more cells k c lt)
    ∙ ap (λ (d : CellConfig). told_from b about id (d ∷ drop (k + 1) cells)) (sym is)
    ∙ told_from_skip b about id c (drop (k + 1) cells) fails
    ∙ ap (λ (p : Bool). told_from p about id (drop (k + 1) cells)) (sym passed))

-- the marks where those of the first so many cells are put
abbrev pub marks_to : ℕ → ℕ → Bool → List CellConfig → List Bool → List Bool
marks_to zero id loadable cells marks = marks
marks_to (suc n) id loadable [] marks = marks
marks_to (suc n) id loadable (c ∷ cs) [] = []
marks_to (suc n) id loadable (c ∷ cs) (m ∷ ms) = cond (has_number id c) loadable m ∷ marks_to n id loadable cs ms

marked_by : (id : ℕ) (loadable : Bool) (c : CellConfig) (m b : Bool) → live_of c (cond b loadable m) ≡ cond b (live_of c loadable) (live_of c m)
marked_by id loadable c m true = refl
marked_by id loadable c m false = refl

pub marks_to_all : (id : ℕ) (loadable : Bool) (cells : List CellConfig) (marks : List Bool) → length marks ≡ length cells → with_marks cells (marks_to (length cells) id loadable cells marks) ≡ map (marked id loadable) (with_marks cells marks)
marks_to_all id loadable [] marks e = refl
marks_to_all id loadable (c ∷ cs) [] e = absurd (omega arith)
marks_to_all id loadable (c ∷ cs) (m ∷ ms) e =
    ap (λ (live : Live). live ∷ with_marks cs (marks_to (length cs) id loadable cs ms)) (marked_by id loadable c m (has_number id c))
    ∙ ap (λ (rest : List Live). marked id loadable (live_of c m) ∷ rest) (marks_to_all id loadable cs ms (omega arith))

pub marks_to_put : (i id : ℕ) (loadable : Bool) (cells : List CellConfig) (marks : List Bool) (d : CellConfig) → length marks ≡ length cells → i < length cells → has_number id (get_or cells i d) ≡ true
    → set (marks_to i id loadable cells marks) i loadable ≡ marks_to (suc i) id loadable cells marks
marks_to_put i id loadable [] marks d e lt is = absurd (omega arith)
marks_to_put i id loadable (c ∷ cs) [] d e lt is = absurd (omega arith)
marks_to_put zero id loadable (c ∷ cs) (m ∷ ms) d e lt is = ap (λ b. cond b loadable m ∷ ms) (sym is)
marks_to_put (suc i) id loadable (c ∷ cs) (m ∷ ms) d e lt is = ap (λ (rest : List Bool). cond (has_number id c) loadable m ∷ rest) (marks_to_put i id loadable cs ms d (omega arith) (omega arith) is)

pub marks_to_skip : (i id : ℕ) (loadable : Bool) (cells : List CellConfig) (marks : List Bool) (d : CellConfig) → length marks ≡ length cells → i < length cells → has_number id (get_or cells i d) ≡ false
    → marks_to i id loadable cells marks ≡ marks_to (suc i) id loadable cells marks
marks_to_skip i id loadable [] marks d e lt is = absurd (omega arith)
marks_to_skip i id loadable (c ∷ cs) [] d e lt is = absurd (omega arith)
marks_to_skip zero id loadable (c ∷ cs) (m ∷ ms) d e lt is = ap (λ b. cond b loadable m ∷ ms) (sym is)
marks_to_skip (suc i) id loadable (c ∷ cs) (m ∷ ms) d e lt is = ap (λ (rest : List Bool). cond (has_number id c) loadable m ∷ rest) (marks_to_skip i id loadable cs ms d (omega arith) (omega arith) is)

-- the list without those elements from the place on that fail
abbrev pub left_from : {X : Type 0} → ℕ → (X → Bool) → List X → List X
left_from zero p xs = filter p xs
left_from (suc n) p [] = []
left_from (suc n) p (x ∷ xs) = x ∷ left_from n p xs

pub left_from_all : {X : Type 0} (p : X → Bool) (xs : List X) → left_from (length xs) p xs ≡ xs
left_from_all p [] = refl
left_from_all p (x ∷ xs) = ap (λ rest. x ∷ rest) (left_from_all p xs)

pub left_from_long : {X : Type 0} (i : ℕ) (p : X → Bool) (xs : List X) → i < length xs → i < length (left_from (suc i) p xs)
left_from_long i p [] lt = absurd (omega arith)
left_from_long zero p (x ∷ xs) lt = omega arith
left_from_long (suc i) p (x ∷ xs) lt = let h = left_from_long i p xs (omega arith) in omega arith

pub left_from_at : {X : Type 0} (i : ℕ) (p : X → Bool) (xs : List X) (d : X) → i < length xs → get_or (left_from (suc i) p xs) i d ≡ get_or xs i d
left_from_at i p [] d lt = absurd (omega arith)
left_from_at zero p (x ∷ xs) d lt = refl
left_from_at (suc i) p (x ∷ xs) d lt = left_from_at i p xs d (omega arith)

pub left_from_keep : {X : Type 0} (i : ℕ) (p : X → Bool) (xs : List X) (d : X) → i < length xs → p (get_or xs i d) ≡ true → left_from (suc i) p xs ≡ left_from i p xs
left_from_keep i p [] d lt is = absurd (omega arith)
left_from_keep zero p (x ∷ xs) d lt is = ap (λ b. cond b (x ∷ filter p xs) (filter p xs)) (sym is)
left_from_keep (suc i) p (x ∷ xs) d lt is = ap (λ rest. x ∷ rest) (left_from_keep i p xs d (omega arith) is)

pub left_from_drop : {X : Type 0} (i : ℕ) (p : X → Bool) (xs : List X) (d : X) → i < length xs → p (get_or xs i d) ≡ false → remove (left_from (suc i) p xs) i ≡ left_from i p xs
left_from_drop i p [] d lt is = absurd (omega arith)
left_from_drop zero p (x ∷ xs) d lt is = ap (λ b. cond b (x ∷ filter p xs) (filter p xs)) (sym is)
left_from_drop (suc i) p (x ∷ xs) d lt is = ap (λ rest. x ∷ rest) (left_from_drop i p xs d (omega arith) is)

-- the configuration at a place
pub joined_at : (i : ℕ) (cells : List CellConfig) (marks : List Bool) (d : Live) (c : CellConfig) → length marks ≡ length cells → i < length cells → config (get_or (with_marks cells marks) i d) ≡ get_or cells i c
joined_at i [] marks d c e lt = absurd (omega arith)
joined_at i (x ∷ cs) [] d c e lt = absurd (omega arith)
joined_at zero (x ∷ cs) (m ∷ ms) d c e lt = refl
joined_at (suc i) (x ∷ cs) (m ∷ ms) d c e lt = joined_at i cs ms d c (omega arith) (omega arith)

-- a loop that takes cells away, from the last one on
leave_at : (k id : ℕ) (first cells : List CellConfig) (first_marks marks : List Bool) (c : CellConfig) → length first_marks ≡ length first → length marks ≡ length cells → k < length first
    → k < length cells → c ≡ get_or cells k c → with_marks cells marks ≡ left_from (suc k) (is_other id) (with_marks first first_marks)
    → is_other id (get_or (with_marks first first_marks) k (live_of c false)) ≡ not (has_number id c)
leave_at k id first cells first_marks marks c even_first even lt within is left =
    let d = live_of c false in
    let long : k < length (with_marks first first_marks) = (let e = length_joined first first_marks even_first in omega arith) in
    let same : get_or (with_marks cells marks) k d ≡ get_or (with_marks first first_marks) k d =
    ap (λ (lives : List Live). get_or lives k d) left ∙ left_from_at k (is_other id) (with_marks first first_marks) d long in
    let at : config (get_or (with_marks first first_marks) k d) ≡ c = ap config (sym same) ∙ joined_at k cells marks d c even within ∙ sym is in
    ap (λ (x : CellConfig). not (has_number id x)) at

pub leave_within : (k id : ℕ) (first cells : List CellConfig) (first_marks marks : List Bool) → length first_marks ≡ length first → length marks ≡ length cells → k < length first
    → with_marks cells marks ≡ left_from (suc k) (is_other id) (with_marks first first_marks) → k < length cells
leave_within k id first cells first_marks marks even_first even lt left =
    let long : k < length (with_marks first first_marks) = (let e = length_joined first first_marks even_first in omega arith) in
    let h = left_from_long k (is_other id) (with_marks first first_marks) long in
    let e : length (with_marks cells marks) ≡ length (left_from (suc k) (is_other id) (with_marks first first_marks)) = ap (λ (lives : List Live). length lives) left in
    let f = length_joined cells marks even in
    omega arith

pub leave_keep : (k id : ℕ) (first cells : List CellConfig) (first_marks marks : List Bool) (c : CellConfig) → length first_marks ≡ length first → length marks ≡ length cells → k < length first
    → c ≡ get_or cells k c → with_marks cells marks ≡ left_from (suc k) (is_other id) (with_marks first first_marks) → has_number id c ≡ false
    → with_marks cells marks ≡ left_from k (is_other id) (with_marks first first_marks)
leave_keep k id first cells first_marks marks c even_first even lt is left other =
    let within = leave_within k id first cells first_marks marks even_first even lt left in
    let long : k < length (with_marks first first_marks) = (let e = length_joined first first_marks even_first in omega arith) in
    left
    ∙ left_from_keep k (is_other id) (with_marks first first_marks) (live_of c false) long
    (leave_at k id first cells first_marks marks c even_first even lt within is left ∙ ap not other)

pub leave_drop : (k id : ℕ) (first cells : List CellConfig) (first_marks marks : List Bool) (c : CellConfig) → length first_marks ≡ length first → length marks ≡ length cells → k < length first
    → c ≡ get_or cells k c → with_marks cells marks ≡ left_from (suc k) (is_other id) (with_marks first first_marks) → has_number id c ≡ true
    → with_marks (remove cells k) (remove marks k) ≡ left_from k (is_other id) (with_marks first first_marks)
leave_drop k id first cells first_marks marks c even_first even lt is left other =
    let within = leave_within k id first cells first_marks marks even_first even lt left in
    let long : k < length (with_marks first first_marks) = (let e = length_joined first first_marks even_first in omega arith) in
    joined_remove k cells marks even within
    ∙ ap (λ (lives : List Live). remove lives k) left
    ∙ left_from_drop k (is_other id) (with_marks first first_marks) (live_of c false) long
    (leave_at k id first cells first_marks marks c even_first even lt within is left ∙ ap not other)

pub leave_even : (k : ℕ) (cells : List CellConfig) (marks : List Bool) → length marks ≡ length cells → k < length cells → length (remove marks k) ≡ length (remove cells k)
leave_even k cells marks even lt =
    let a = length-remove cells k lt in
    let b = length-remove marks k (omega arith) in
    omega arith

pub leave_so_far : (i id : ℕ) (lives rest : List Live) → 0 < i → lives ≡ left_from i (is_other id) rest → lives ≡ left_from (suc (i - 1)) (is_other id) rest
leave_so_far i id lives rest some is = is ∙ (let e : i ≡ suc (i - 1) = omega arith in ap (λ (n : ℕ). left_from n (is_other id) rest) e)

pub leave_begin : (n id : ℕ) (cells : List CellConfig) (marks : List Bool) → length marks ≡ length cells → n ≡ length cells → with_marks cells marks ≡ left_from n (is_other id) (with_marks cells marks)
leave_begin n id cells marks even is =
    sym (ap (λ (k : ℕ). left_from k (is_other id) (with_marks cells marks)) (is ∙ sym (length_joined cells marks even)) ∙ left_from_all (is_other id) (with_marks cells marks))
