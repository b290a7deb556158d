-- Places in a row, and writes over places.
use Rattle.std.proofs.Common.{◌≡◌, ℕ, suc, ◌+◌, ◌-◌, ◌/◌, ◌%◌, ◌<◌, List, [], ◌∷◌, refl, ap, ◌∙◌, arith}
use Rattle.jh_history.specs.declared.place.Place.{Place}
use Rattle.jh_history.specs.declared.place.Place.TheVariants.{Physical, Page}
use Rattle.jh_history.specs.Places.{further, places_in_row, written, with_byte, overlaid}

-- no further is the place itself
pub further_none : (p : Place) → further p 0 ≡ p
further_none (Physical p) = let e : p + 0 ≡ p = omega arith in ap Physical e
further_none (Page cell offset) = let e : offset + 0 ≡ offset = omega arith in ap (Page cell) e

-- one further and then some more
pub further_next : (p : Place) (n : ℕ) → further (further p 1) n ≡ further p (n + 1)
further_next (Physical p) n = let e : p + 1 + n ≡ p + (n + 1) = omega arith in ap Physical e
further_next (Page cell offset) n = let e : offset + 1 + n ≡ offset + (n + 1) = omega arith in ap (Page cell) e

pub further_more : (p : Place) (n : ℕ) → further (further p n) 1 ≡ further p (n + 1)
further_more (Physical p) n = let e : p + n + 1 ≡ p + (n + 1) = omega arith in ap Physical e
further_more (Page cell offset) n = let e : offset + n + 1 ≡ offset + (n + 1) = omega arith in ap (Page cell) e

-- the places of a row from its k-th on, where there is one
pub row_next : (p : Place) (k n : ℕ) → k < n → places_in_row (further p k) (n - k) ≡ further p k ∷ places_in_row (further p (k + 1)) (n - (k + 1))
row_next p k n lt =
    let e : n - k ≡ suc (n - (k + 1)) = omega arith in
    ap (places_in_row (further p k)) e ∙ ap (λ (q : Place). further p k ∷ places_in_row q (n - (k + 1))) (further_more p k)

-- a write at one place depends on the byte that was there alone
pub written_over : (f : Place → ℕ) (places : List Place) (value : ℕ) (q : Place) → written f places value q ≡ overlaid places value q (f q)
written_over f [] value q = refl
written_over f (place ∷ places) value q = written_over (with_byte f place (value % 256)) places (value / 256) q
