-- Loops that seek an element that passes a test.
use Rattle.std.proofs.Common.{◌≡◌, ℕ, zero, suc, ◌+◌, ◌<◌, ◌≤◌, ◌||◌, Bool, true, false, List, [], ◌∷◌, length, get_or, take, map, refl, sym, ap, ◌∙◌, arith}
use Rattle.std.specs.List.{list_any}
use Rattle.std.proofs.Math.Bool.{or_assoc, or-false}
use Rattle.std.proofs.lemmas.Bool.{or_left, or_right}
use Rattle.std.proofs.lemmas.List.{take_all}
use Rattle.std.proofs.lemmas.List.Folds.{list_any_more, list_any_at}
use Rattle.jh_num.proofs.Public.{list_any_map, read_again}
use Rattle.jh_cellcfg.specs.declared.config.CellConfig.{CellConfig}
use Rattle.jh_cellcfg.specs.declared.live.Live.{Live}
use Rattle.jh_cellcfg.specs.declared.region.Region.{Region}
use Rattle.jh_shape.specs.Claims.{Holder}
use Rattle.jh_shape.specs.Shapes.{takes, is_closed, holder_of_live}
use Rattle.jh_history.specs.declared.place.Place.{Place}
use Rattle.jh_history.specs.Places.{further, places_in_row}
use Rattle.jh_shape.specs.Lives.{configs_of, with_marks}
use Rattle.jh_shape.proofs.Public.{live_of}
use Rattle.jh_history.proofs.PlaceLemmas.{further_none, further_next}

pub any_found : {X : Type 0} (p : X → Bool) (xs : List X) (i : ℕ) (x : X) → i < length xs → x ≡ get_or xs i x → p x ≡ true → list_any p xs ≡ true
any_found p xs i x lt is passes = list_any_at p xs i x lt (ap p (sym is) ∙ passes)

pub any_next : {X : Type 0} (p : X → Bool) (xs : List X) (i : ℕ) (x : X) → i < length xs → x ≡ get_or xs i x → list_any p (take i xs) ≡ false → p x ≡ false → list_any p (take (i + 1) xs) ≡ false
any_next p xs i x lt is so_far fails = list_any_more p xs i x lt ∙ ap (λ b. b || p (get_or xs i x)) so_far ∙ ap p (sym is) ∙ fails

pub any_end : {X : Type 0} (p : X → Bool) (xs : List X) (i : ℕ) → length xs ≤ i → list_any p (take i xs) ≡ false → list_any p xs ≡ false
any_end p xs i le so_far = ap (λ ys. list_any p ys) (sym (take_all i xs le)) ∙ so_far

-- a test of configurations, asked of live cells
pub any_live : (p : CellConfig → Bool) (lives : List Live) (cells : List CellConfig) → configs_of lives ≡ cells → list_any p cells ≡ list_any (λ (live : Live). p live.config) lives
any_live p lives cells e = ap (λ (cs : List CellConfig). list_any p cs) (sym e) ∙ list_any_map (λ (live : Live). live.config) p lives

-- a cell takes the place from root
abbrev pub closing : ℕ → Live → Bool
closing place live = list_any (λ (region : Region). takes live.loadable region place) live.config.memory_regions

pub closed_by : (lives : List Live) (place : ℕ) → is_closed (map holder_of_live lives) place ≡ list_any (closing place) lives
closed_by lives place = list_any_map holder_of_live (λ (holder : Holder). list_any (λ (region : Region). takes holder.loadable region place) holder.regions) lives

pub joined_get : (i : ℕ) (cells : List CellConfig) (marks : List Bool) (c : CellConfig) (m : Bool) → length marks ≡ length cells → i < length cells → get_or (with_marks cells marks) i (live_of c m) ≡ live_of (get_or cells i c) (get_or marks i m)
joined_get i [] marks c m e lt = absurd (omega arith)
joined_get i (x ∷ cs) [] c m e lt = absurd (omega arith)
joined_get zero (x ∷ cs) (y ∷ ms) c m e lt = refl
joined_get (suc i) (x ∷ cs) (y ∷ ms) c m e lt = joined_get i cs ms c m (omega arith) (omega arith)

pub joined_read : (i : ℕ) (cells : List CellConfig) (marks : List Bool) (c : CellConfig) (m : Bool) → length marks ≡ length cells → i < length cells → c ≡ get_or cells i c
    → live_of c (get_or marks i m) ≡ get_or (with_marks cells marks) i (live_of c (get_or marks i m))
joined_read i cells marks c m even lt is =
    sym
    (joined_get i cells marks c (get_or marks i m) even lt
    ∙ ap (λ (x : CellConfig). live_of x (get_or marks i (get_or marks i m))) (sym is)
    ∙ ap (λ (b : Bool). live_of c b) (sym (read_again marks i m (omega arith))))

row_more : (p : Place → Bool) (first : Place) (k : ℕ) → list_any p (places_in_row first (suc k)) ≡ (list_any p (places_in_row first k) || p (further first k))
row_more p first zero = or-false (p first) ∙ ap p (sym (further_none first))
row_more p first (suc k) =
    ap (λ b. p first || b) (row_more p (further first 1) k)
    ∙ sym (or_assoc (p first) (list_any p (places_in_row (further first 1) k)) (p (further (further first 1) k)))
    ∙ ap (λ (q : Place). (p first || list_any p (places_in_row (further first 1) k)) || p q) (further_next first k ∙ (let e : k + 1 ≡ suc k = omega arith in ap (further first) e))

pub row_found : (p : Place → Bool) (first : Place) (k n : ℕ) → k < n → p (further first k) ≡ true → list_any p (places_in_row first n) ≡ true
row_found p first k zero lt passes = absurd (omega arith)
row_found p first zero (suc n) lt passes = or_left (p first) (list_any p (places_in_row (further first 1) n)) (ap p (sym (further_none first)) ∙ passes)
row_found p first (suc k) (suc n) lt passes =
    or_right (p first) (list_any p (places_in_row (further first 1) n))
    (row_found p (further first 1) k n (omega arith) (ap p (further_next first k ∙ (let e : k + 1 ≡ suc k = omega arith in ap (further first) e)) ∙ passes))

pub row_next_fails : (p : Place → Bool) (first : Place) (k : ℕ) → list_any p (places_in_row first k) ≡ false → p (further first k) ≡ false → list_any p (places_in_row first (k + 1)) ≡ false
row_next_fails p first k so_far fails =
    (let e : k + 1 ≡ suc k = omega arith in ap (λ (n : ℕ). list_any p (places_in_row first n)) e)
    ∙ row_more p first k
    ∙ ap (λ b. b || p (further first k)) so_far
    ∙ fails
