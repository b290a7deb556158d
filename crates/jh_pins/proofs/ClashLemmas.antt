-- Clashes of one cell after another.
use Rattle.std.proofs.Common.{◌≡◌, ℕ, suc, ◌+◌, ◌-◌, ◌<◌, List, [], ◌∷◌, ◌++◌, length, get_or, take, drop, refl, sym, ap, subst, ◌∙◌, append_assoc, arith}
use Rattle.std.proofs.lemmas.List.{append-nil, length-drop}
use Rattle.jh_pins.specs.declared.pin.Clash.{Clash}
use Rattle.jh_pins.specs.Claims.{Claim}
use Rattle.jh_pins.proofs.HolderLemmas.{split_by}
use Rattle.jh_pins.specs.Clashes.{AreClashesOf, AreClashesWith, AreClashes}

-- the clashes with the cells from a place on, behind those so far, are the clashes with all cells
abbrev pub Continues : Claim → List Claim → ℕ → List Clash → List Clash → Type 0
Continues one others i start clashes = (rest : List Clash) → AreClashesWith one (drop i others) rest → (more : List Clash) × AreClashesWith one others more × (clashes ++ rest ≡ start ++ more)

pub begins : (one : Claim) (others : List Claim) (start : List Clash) → Continues one others 0 start start
begins one others start rest are = (rest, are, refl)

split_at : {X : Type 0} (xs : List X) (i : ℕ) (d : X) → i < length xs → drop i xs ≡ get_or xs i d ∷ drop (i + 1) xs
split_at {X} xs i d lt =
    let next : suc i ≡ i + 1 = omega arith in
    split_by xs i d lt ∙ ap (λ n. get_or xs i d ∷ drop n xs) next

pub one_more : (one : Claim) (others : List Claim) (i : ℕ) (d : Claim) (start clashes now : List Clash) → i < length others → Continues one others i start clashes → AreClashesOf one (get_or others i d) now → Continues one others (i + 1) start (clashes ++ now)
one_more one others i d start clashes now lt so_far are rest rest_are =
    let P : List Claim → Type 0 = λ xs. AreClashesWith one xs (now ++ rest) in
    let all = so_far (now ++ rest) (subst P (sym (split_at others i d lt)) (now, rest, are, rest_are, refl)) in
    (all.0, all.1, append_assoc clashes now rest ∙ all.2)

drop_all : {X : Type 0} (xs : List X) → drop (length xs) xs ≡ []
drop_all {X} [] = refl
drop_all {X} (x ∷ xs) = drop_all xs

pub ends : (one : Claim) (others : List Claim) (start clashes : List Clash) → Continues one others (length others) start clashes → (more : List Clash) × AreClashesWith one others more × (clashes ≡ start ++ more)
ends one others start clashes so_far =
    let P : List Claim → Type 0 = λ xs. AreClashesWith one xs [] in
    let all = so_far [] (subst P (sym (drop_all others)) refl) in
    (all.0, all.1, sym (append-nil clashes) ∙ all.2)

-- so of each cell with each later one
abbrev pub ContinuesAll : List Claim → ℕ → List Clash → Type 0
ContinuesAll cells i clashes = (rest : List Clash) → AreClashes (drop i cells) rest → AreClashes cells (clashes ++ rest)

pub begins_all : (cells : List Claim) → ContinuesAll cells 0 []
begins_all cells rest are = are

pub one_cell_more : (cells : List Claim) (i : ℕ) (d : Claim) (clashes now : List Clash) → i < length cells → ContinuesAll cells i clashes → AreClashesWith (get_or cells i d) (drop (i + 1) cells) now → ContinuesAll cells (i + 1) (clashes ++ now)
one_cell_more cells i d clashes now lt so_far are rest rest_are =
    let P : List Claim → Type 0 = λ xs. AreClashes xs (now ++ rest) in
    let Q : List Clash → Type 0 = λ cs. AreClashes cells cs in
    subst Q (sym (append_assoc clashes now rest)) (so_far (now ++ rest) (subst P (sym (split_at cells i d lt)) (now, rest, are, rest_are, refl)))

pub all_ends : (cells : List Claim) (clashes : List Clash) → ContinuesAll cells (length cells) clashes → AreClashes cells clashes
all_ends cells clashes so_far =
    let P : List Claim → Type 0 = λ xs. AreClashes xs [] in
    let Q : List Clash → Type 0 = λ cs. AreClashes cells cs in
    subst Q (append-nil clashes) (so_far [] (subst P (sym (drop_all cells)) refl))

-- the rest of a list, up to its end
pub take_whole : {X : Type 0} (xs : List X) → take (length xs) xs ≡ xs
take_whole {X} [] = refl
take_whole {X} (x ∷ xs) = ap (λ (l : List X). x ∷ l) (take_whole xs)

pub rest_whole : (cells : List Claim) (i : ℕ) → take (length cells - i) (drop i cells) ≡ drop i cells
rest_whole cells i = ap (λ n. take n (drop i cells)) (sym (length-drop i cells)) ∙ take_whole (drop i cells)
