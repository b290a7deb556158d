-- What demands are answered is one: one cell fits after the same earlier ones, so one plan meets demands, and demands
-- that are met have no first that isn't.
use Rattle.std.proofs.Common.{◌≡◌, ℕ, ◌+◌, ◌*◌, ◌/◌, ◌%◌, ◌^◌, ◌<◌, ◌≤◌, ◌==◌, true, false, List, [], ◌∷◌, ◌++◌, length, get_or, drop, refl, sym, ap, subst, ◌∙◌, inl, inr, arith, append_assoc}
use Rattle.std.specs.Int.{bit_at}
use Rattle.std.specs.List.{All}
use Rattle.std.proofs.lemmas.Bool.{cases_lt, both_ways}
use Rattle.std.proofs.lemmas.List.{append-nil}
use Rattle.std.proofs.lemmas.Grind.{same_number_lists}
use Rattle.std.proofs.lemmas.Nat.Bits.{bit_at-lt, same_from_bits_below}
use Rattle.jh_num.specs.Bits.{has_bit}
use Rattle.jh_cellcfg.specs.declared.config.CellConfig.{CellConfig}
use Rattle.jh_cellcfg.specs.declared.config.SystemConfig.{SystemConfig}
use Rattle.jh_cellcfg.specs.Cells.{is_cpu_set}
use Rattle.jh_history.specs.Admitted.{pool_pages}
use Rattle.jh_plan.specs.declared.demand.Demand.{Demand}
use Rattle.jh_plan.specs.declared.fault.Why.{Why}
use Rattle.jh_plan.specs.declared.fault.Why.TheVariants.{Taken, Cpus, Place, Pages}
use Rattle.jh_plan.specs.declared.planning.Planned.{Planned}
use Rattle.jh_plan.specs.Fits.{cell_of, is_taken, Fits}
use Rattle.jh_plan.specs.Plans.{pages_with, ArePlanned, IsFirstUnmet, IsPlan, Plans, WhyNot}
use Rattle.jh_plan.proofs.CpuLemmas.{named_bit}

-- ---- one CPU set

zero_bit : (a i : ℕ) → bit_at a i < 1 → has_bit a i ≡ false
zero_bit a i small =
    let none : bit_at a i ≡ 0 = omega (arith, small) in
    ap (λ n. n == 1) none

one_bit : (a i : ℕ) → 1 ≤ bit_at a i → has_bit a i ≡ true
one_bit a i some =
    let one : bit_at a i ≡ 1 = omega (arith, some, bit_at-lt a i) in
    ap (λ n. n == 1) one

pub same_bit : (a b i : ℕ) → has_bit a i ≡ has_bit b i → bit_at a i ≡ bit_at b i
same_bit a b i same =
    elim (cases_lt (bit_at a i) 1) [
      | inl none ↦ elim (cases_lt (bit_at b i) 1) [
        | inl other ↦ omega (arith, none, other)
        | inr some ↦ absurd (both_ways (has_bit b i) (sym same ∙ zero_bit a i none) (one_bit b i some))
      ]
      | inr some ↦ elim (cases_lt (bit_at b i) 1) [
        | inl none ↦ absurd (both_ways (has_bit b i) (zero_bit b i none) (sym same ∙ one_bit a i some))
        | inr other ↦ omega (arith, some, other, bit_at-lt a i, bit_at-lt b i)
      ]
    ]

-- the bit of a byte tells of a CPU
pub bit_told : (set : List ℕ) (k i : ℕ) → i < 8 → is_cpu_set set (k * 8 + i) ≡ has_bit (get_or set k 0) i
bit_told set k i small =
    let byte : (k * 8 + i) / 8 ≡ k = omega (arith, small) in
    let bit : (k * 8 + i) % 8 ≡ i = omega (arith, small) in
    named_bit set (k * 8 + i) ∙ ap (λ n. has_bit (get_or set n 0) ((k * 8 + i) % 8)) byte ∙ ap (λ n. has_bit (get_or set k 0) n) bit

same_set : (one other : List ℕ) → length one ≡ 8 → length other ≡ 8 → All (λ byte. byte < 2 ^ 8) one → All (λ byte. byte < 2 ^ 8) other → ((cpu : ℕ) → is_cpu_set one cpu ≡ is_cpu_set other cpu) → one ≡ other
same_set one other long other_long small other_small same =
    same_number_lists one other (long ∙ sym other_long) (λ k below.
    same_from_bits_below 8 (get_or one k 0) (get_or other k 0) (small k 0 below) (other_small k 0 (omega (arith, below, long, other_long))) (λ i in_byte.
    same_bit (get_or one k 0) (get_or other k 0) i (sym (bit_told one k i in_byte) ∙ same (k * 8 + i) ∙ bit_told other k i in_byte)))

-- ---- one cell, one plan

same_fit : (root : CellConfig) (earlier : List CellConfig) (demand : Demand) (one other : CellConfig) → Fits root earlier demand one → Fits root earlier demand other → one ≡ other
same_fit root earlier demand one other fits also =
    let set : fits.set ≡ also.set = same_set fits.set also.set fits.cpus.bytes also.cpus.bytes fits.cpus.each also.cpus.each (λ cpu. fits.cpus.names cpu ∙ sym (also.cpus.names cpu)) in
    let place : fits.place ≡ also.place = omega (arith, fits.highest.highest also.place also.highest.free, also.highest.highest fits.place fits.highest.free) in
    fits.is ∙ ap (λ s. cell_of demand s fits.place) set ∙ ap (λ p. cell_of demand also.set p) place ∙ sym also.is

same_cells : (system : SystemConfig) (earlier : List CellConfig) (demands : List Demand) (one other : List CellConfig) → ArePlanned system earlier demands one → ArePlanned system earlier demands other → one ≡ other
same_cells system earlier [] [] [] planned also = refl
same_cells system earlier [] [] (c ∷ cs) planned also = absurd also
same_cells system earlier [] (c ∷ cs) other planned also = absurd planned
same_cells system earlier (d ∷ ds) [] other planned also = absurd planned
same_cells system earlier (d ∷ ds) (c ∷ cs) [] planned also = absurd also
same_cells system earlier (d ∷ ds) (a ∷ xs) (b ∷ ys) planned also =
    let first : a ≡ b = same_fit system.root earlier d a b planned.0.fits also.0.fits in
    let After : CellConfig → Type 0 = λ c. ArePlanned system (earlier ++ c ∷ []) ds xs in
    ap (λ c. c ∷ xs) first ∙ ap (λ cs. b ∷ cs) (same_cells system (earlier ++ b ∷ []) ds xs ys (subst After first planned.1) also.1)

pub one_plan : (system : SystemConfig) (demands : List Demand) (one other : Planned) → IsPlan system demands one → IsPlan system demands other → one ≡ other
one_plan system demands one other plan also =
    let with : List CellConfig → Planned = λ cells. record { cells = cells; pages = pages_with system cells } in
    let told : one ≡ with one.cells = ap (λ n. record { cells = one.cells; pages = n }) plan.pages in
    let also_told : other ≡ with other.cells = ap (λ n. record { cells = other.cells; pages = n }) also.pages in
    told ∙ ap with (same_cells system [] demands one.cells other.cells plan.are also.are) ∙ sym also_told

-- ---- a demand that is met, and one that isn't

no_place_fits : (system : SystemConfig) (earlier : List CellConfig) (demand : Demand) (cell : CellConfig) → WhyNot system earlier demand Place → Fits system.root earlier demand cell → ⊥
no_place_fits system earlier demand cell unmet fits = elim unmet.1 [
  | inl none ↦ none fits.place fits.highest.free
  | inr past ↦ omega (arith, past, fits.room)
]

unmet_not_met : (system : SystemConfig) (earlier : List CellConfig) (demand : Demand) (cell : CellConfig) (why : Why) → WhyNot system earlier demand why → Plans system earlier demand cell → ⊥
unmet_not_met system earlier demand cell Taken unmet met = both_ways (is_taken system.root earlier demand) met.fits.unknown unmet
unmet_not_met system earlier demand cell Cpus unmet met = omega (arith, unmet.1, met.fits.cpus.enough)
unmet_not_met system earlier demand cell Place unmet met = no_place_fits system earlier demand cell unmet met.fits
unmet_not_met system earlier demand cell Pages unmet met =
    let same : unmet.0 ≡ cell = same_fit system.root earlier demand unmet.0 cell unmet.1 met.fits in
    let over : pool_pages system < pages_with system (earlier ++ cell ∷ []) = subst (λ (c : CellConfig). pool_pages system < pages_with system (earlier ++ c ∷ [])) same unmet.2 in
    omega (arith, over, met.pages)

-- the cells before one of the demands, and the cell of that one
record Parted (system : SystemConfig) (earlier : List CellConfig) (before : List Demand) (demand : Demand) : Type 0 where
  front : List CellConfig
  cell : CellConfig
  planned : ArePlanned system earlier before front
  met : Plans system (earlier ++ front) demand cell

parted : (system : SystemConfig) (earlier : List CellConfig) (before : List Demand) (demand : Demand) (rest : List Demand) (cells : List CellConfig) → ArePlanned system earlier (before ++ demand ∷ rest) cells → Parted system earlier before demand
parted system earlier [] demand rest [] planned = absurd planned
parted system earlier [] demand rest (c ∷ cs) planned =
    let After : List CellConfig → Type 0 = λ e. Plans system e demand c in
    record { front = []; cell = c; planned = tt; met = subst After (sym (append-nil earlier)) planned.0 }
parted system earlier (d ∷ ds) demand rest [] planned = absurd planned
parted system earlier (d ∷ ds) demand rest (c ∷ cs) planned =
    let p = parted system (earlier ++ c ∷ []) ds demand rest cs planned.1 in
    let After : List CellConfig → Type 0 = λ e. Plans system e demand p.cell in
    record { front = c ∷ p.front; cell = p.cell; planned = (planned.0, p.planned); met = subst After (append_assoc earlier (c ∷ []) p.front) p.met }

pub no_fault : (system : SystemConfig) (demands : List Demand) (planned : Planned) (number : ℕ) (why : Why) → IsPlan system demands planned → IsFirstUnmet system demands number why → ⊥
no_fault system demands planned number why plan first =
    let Are : List Demand → Type 0 = λ ds. ArePlanned system [] ds planned.cells in
    let p = parted system [] first.before first.demand first.rest planned.cells (subst Are first.demands_are plan.are) in
    let same : p.front ≡ first.cells = same_cells system [] first.before p.front first.cells p.planned first.planned in
    let After : List CellConfig → Type 0 = λ e. Plans system e first.demand p.cell in
    unmet_not_met system first.cells first.demand p.cell why first.unmet (subst After same p.met)

-- ---- the first that isn't met

one_cause : (system : SystemConfig) (earlier : List CellConfig) (demand : Demand) (why also : Why) → WhyNot system earlier demand why → WhyNot system earlier demand also → why ≡ also
one_cause system earlier demand Taken Taken one other = refl
one_cause system earlier demand Taken Cpus one other = absurd (both_ways (is_taken system.root earlier demand) other.0 one)
one_cause system earlier demand Taken Place one other = absurd (both_ways (is_taken system.root earlier demand) other.0.unknown one)
one_cause system earlier demand Taken Pages one other = absurd (both_ways (is_taken system.root earlier demand) other.1.unknown one)
one_cause system earlier demand Cpus Taken one other = absurd (both_ways (is_taken system.root earlier demand) one.0 other)
one_cause system earlier demand Cpus Cpus one other = refl
one_cause system earlier demand Cpus Place one other = absurd (omega (arith, one.1, other.0.enough))
one_cause system earlier demand Cpus Pages one other = absurd (omega (arith, one.1, other.1.cpus.enough))
one_cause system earlier demand Place Taken one other = absurd (both_ways (is_taken system.root earlier demand) one.0.unknown other)
one_cause system earlier demand Place Cpus one other = absurd (omega (arith, other.1, one.0.enough))
one_cause system earlier demand Place Place one other = refl
one_cause system earlier demand Place Pages one other = absurd (no_place_fits system earlier demand other.0 one other.1)
one_cause system earlier demand Pages Taken one other = absurd (both_ways (is_taken system.root earlier demand) one.1.unknown other)
one_cause system earlier demand Pages Cpus one other = absurd (omega (arith, other.1, one.1.cpus.enough))
one_cause system earlier demand Pages Place one other = absurd (no_place_fits system earlier demand one.0 other one.1)
one_cause system earlier demand Pages Pages one other = refl

-- two places in one list of demands: they are the same, or the one stands before the other
data Places (a : List Demand) (x : Demand) (b : List Demand) (y : Demand) : Type 0 where
  same : a ≡ b → x ≡ y → Places a x b y
  earlier : (between : List Demand) → b ≡ a ++ x ∷ between → Places a x b y
  later : (between : List Demand) → a ≡ b ++ y ∷ between → Places a x b y

abbrev first_of : Demand → List Demand → Demand
first_of d xs = get_or xs 0 d

behind_first : (c d : Demand) (a b : List Demand) (x y : Demand) → c ≡ d → Places a x b y → Places (c ∷ a) x (d ∷ b) y
behind_first c d a b x y is (same lists demands) = same (ap (λ z. z ∷ a) is ∙ ap (λ zs. d ∷ zs) lists) demands
behind_first c d a b x y is (earlier between at) = earlier between (ap (λ zs. d ∷ zs) at ∙ ap (λ z. z ∷ (a ++ x ∷ between)) (sym is))
behind_first c d a b x y is (later between at) = later between (ap (λ zs. c ∷ zs) at ∙ ap (λ z. z ∷ (b ++ y ∷ between)) is)

places_of : (a b : List Demand) (x y : Demand) (r s : List Demand) → a ++ x ∷ r ≡ b ++ y ∷ s → Places a x b y
places_of [] [] x y r s is = same refl (ap (first_of x) is)
places_of [] (d ∷ b) x y r s is = earlier b (ap (λ z. z ∷ b) (sym (ap (first_of x) is)))
places_of (c ∷ a) [] x y r s is = later a (ap (λ z. z ∷ a) (ap (first_of c) is))
places_of (c ∷ a) (d ∷ b) x y r s is = behind_first c d a b x y (ap (first_of c) is) (places_of a b x y r s (ap (drop 1) is))

-- a demand that is met isn't the first that isn't
not_before : (system : SystemConfig) (demands : List Demand) (before : List Demand) (cells : List CellConfig) (between : List Demand) (number : ℕ) (why : Why) (first : IsFirstUnmet system demands number why) → before ≡ first.before ++ first.demand ∷ between → ArePlanned system [] before cells → ⊥
not_before system demands before cells between number why first at planned =
    let Are : List Demand → Type 0 = λ ds. ArePlanned system [] ds cells in
    let p = parted system [] first.before first.demand between cells (subst Are at planned) in
    let same : p.front ≡ first.cells = same_cells system [] first.before p.front first.cells p.planned first.planned in
    let After : List CellConfig → Type 0 = λ e. Plans system e first.demand p.cell in
    unmet_not_met system first.cells first.demand p.cell why first.unmet (subst After same p.met)

-- the number and the cause of a first demand that isn't met
record SameFault (number other : ℕ) (why also : Why) : Type 0 where
  numbers : number ≡ other
  causes : why ≡ also

fault_by : (system : SystemConfig) (demands : List Demand) (number other : ℕ) (why also : Why) (first : IsFirstUnmet system demands number why) (second : IsFirstUnmet system demands other also)
    → Places first.before first.demand second.before second.demand → SameFault number other why also
fault_by system demands number other why also first second (same lists demand) =
    let Are : List Demand → Type 0 = λ ds. ArePlanned system [] ds first.cells in
    let cells : first.cells ≡ second.cells = same_cells system [] second.before first.cells second.cells (subst Are lists first.planned) second.planned in
    let Unmet : List CellConfig → Demand → Type 0 = λ e d. WhyNot system e d why in
    record {
      numbers = first.number_is ∙ ap (λ ds. length ds + 1) lists ∙ sym second.number_is;
      causes = one_cause system second.cells second.demand why also (subst (Unmet second.cells) demand (subst (λ e. Unmet e first.demand) cells first.unmet)) second.unmet;
    }
fault_by system demands number other why also first second (earlier between at) = absurd (not_before system demands second.before second.cells between number why first at second.planned)
fault_by system demands number other why also first second (later between at) = absurd (not_before system demands first.before first.cells between other also second at first.planned)

pub one_fault : (system : SystemConfig) (demands : List Demand) (number other : ℕ) (why also : Why) → IsFirstUnmet system demands number why → IsFirstUnmet system demands other also → (number ≡ other) × (why ≡ also)
one_fault system demands number other why also first second =
    let f = fault_by system demands number other why also first second
    (places_of first.before second.before first.demand second.demand first.rest second.rest (sym first.demands_are ∙ second.demands_are)) in
    (f.numbers, f.causes)
