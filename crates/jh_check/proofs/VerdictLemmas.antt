-- Which findings name a new cell.
use Rattle.std.proofs.Common.{◌≡◌, ℕ, ◌+◌, ◌<◌, ◌≤◌, suc, ◌⊎◌, inl, inr, Bool, true, false, ◌||◌, not, ◌==◌, nat_lt, List, [], ◌∷◌, ◌++◌, length, take, drop, get_or, refl, sym, ap, subst, ◌∙◌, append_assoc, length-append, arith}
use Rattle.std.specs.List.{list_any}
use Rattle.std.proofs.lemmas.Bool.{ltb-true, eqb-true, ne_eqb, and_parts, and_from, and_left, and_right, or_from, or_right}
use Rattle.std.proofs.lemmas.List.Folds.{list_any-append}
use Rattle.std.proofs.Math.Seq.{take-append_seam, take-length}
use Rattle.std.proofs.lemmas.List.{get_or_append_left, append-nil}
use Rattle.std.proofs.Math.Bool.{or-false}
use Rattle.jh_num.proofs.Public.{same_number}
use Rattle.jh_cellcfg.specs.declared.region.Region.{Region}
use Rattle.jh_cellcfg.specs.declared.config.CellConfig.{CellConfig}
use Rattle.jh_check.specs.declared.finding.Finding.{Finding}
use Rattle.jh_check.specs.declared.rule.Rule.{Rule}
use Rattle.jh_check.specs.declared.rule.Rule.TheVariants.{VirtOverlap, PhysOverlap, Hypervisor, OutOfRange, RootNotIdentity, CommInRoot, CommShape, ExecuteWithoutRead, SubpageTaken, CellsOverlap, Shmem, NoCpu, PhysAlign}
use Rattle.jh_check.specs.Regions.{pair_breaks, region_breaks, hypervisor_breaks}
use Rattle.jh_check.specs.Devices.{device_breaks, cpus_break}
use Rattle.jh_check.specs.Private.Spans.{is_within, joins}
use Rattle.jh_check.specs.Lists.{found_from, only_if, is_any}
use Rattle.jh_check.specs.Findings.{rule_number, finding_of, spot, beside, beside_at, between, between_at, from_cell, in_pairs, in_cell, in_cell_at, in_regions, in_regions_at, in_hypervisor, in_devices_of, device_at, in_devices, in_devices_at, in_cpus, in_cpus_at, found_by, found_at, rules_in_order, findings}
use Rattle.jh_check.specs.Verdicts.{makes_invalid, makes_busy, verdict_by, verdict_of}
use Rattle.jh_check.specs.declared.verdict.NewCell.TheVariants.{Invalid}
use Rattle.jh_cellcfg.specs.declared.config.SystemConfig.{SystemConfig}
use Rattle.jh_check.proofs.ListLemmas.{is_any_append, any_only, found_drop, found_end}
use Rattle.jh_check.proofs.BreakLemmas.{between_apart, joins_same}

only_false : (p : Finding → Bool) (test : Bool) (finding : Finding) → p finding ≡ false → list_any p (only_if test finding) ≡ false
unfolding only_if
only_false p true finding h = or_from (p finding) false h refl
only_false p false finding h = refl

only_true : (p : Finding → Bool) (test : Bool) (finding : Finding) → p finding ≡ true → list_any p (only_if test finding) ≡ is_any (only_if test finding)
unfolding only_if
only_true p true finding h = ap (λ b. b || false) h
only_true p false finding h = refl

skip : (p : Finding → Bool) (xs ys : List Finding) → list_any p xs ≡ false → list_any p (xs ++ ys) ≡ list_any p ys
skip p xs ys h = list_any-append p xs ys ∙ ap (λ b. b || list_any p ys) h

keep : (p : Finding → Bool) (xs ys : List Finding) → list_any p ys ≡ false → list_any p (xs ++ ys) ≡ list_any p xs
keep p xs ys h = list_any-append p xs ys ∙ ap (λ b. list_any p xs || b) h ∙ or-false (list_any p xs)

-- no item gives such a finding
any_none : {X : Type 0} (p : Finding → Bool) (found : ℕ → X → List Finding) (n : ℕ) (xs : List X) → ((i : ℕ) (d : X) → i < length xs → list_any p (found (n + i) (get_or xs i d)) ≡ false) → list_any p (found_from found n xs) ≡ false
unfolding found_from
any_none p found n [] h = refl
any_none p found n (x ∷ xs) h =
    let here : list_any p (found n x) ≡ false = subst (λ m. list_any p (found m x) ≡ false) (let e : n + 0 ≡ n = omega arith in e) (h 0 x (omega arith)) in
    let later = any_none p found (n + 1) xs (λ i d k. subst (λ m. list_any p (found m (get_or xs i d)) ≡ false) (let e : n + suc i ≡ (n + 1) + i = omega arith in e) (h (suc i) d (omega arith))) in
    skip p (found n x) (found_from found (n + 1) xs) here ∙ later

any_none0 : {X : Type 0} (p : Finding → Bool) (found : ℕ → X → List Finding) (xs : List X) → ((i : ℕ) (d : X) → i < length xs → list_any p (found i (get_or xs i d)) ≡ false) → list_any p (found_from found 0 xs) ≡ false
any_none0 p found xs h = any_none p found 0 xs (λ i d k. subst (λ m. list_any p (found m (get_or xs i d)) ≡ false) (let e : i ≡ 0 + i = omega arith in e) (h i d k))

-- each finding of each item is such a one
any_all : {X : Type 0} (p : Finding → Bool) (found : ℕ → X → List Finding) (n : ℕ) (xs : List X) → ((i : ℕ) (x : X) → list_any p (found i x) ≡ is_any (found i x)) → list_any p (found_from found n xs) ≡ is_any (found_from found n xs)
unfolding found_from
any_all p found n [] h = refl
any_all p found n (x ∷ xs) h =
    let rest = found_from found (n + 1) xs in
    list_any-append p (found n x) rest
    ∙ ap (λ b. b || list_any p rest) (h n x)
    ∙ ap (λ b. is_any (found n x) || b) (any_all p found (n + 1) xs h)
    ∙ sym (is_any_append (found n x) rest)

found_last : {X : Type 0} (found : ℕ → X → List Finding) (n : ℕ) (xs : List X) (x : X) → found_from found n (xs ++ x ∷ []) ≡ found_from found n xs ++ found (n + length xs) x
unfolding found_from
found_last found n [] x = append-nil (found n x) ∙ ap (λ m. found m x) (let e : n ≡ n + 0 = omega arith in e)
found_last found n (y ∷ ys) x =
    ap (λ rest. found n y ++ rest) (found_last found (n + 1) ys x)
    ∙ sym (append_assoc (found n y) (found_from found (n + 1) ys) (found ((n + 1) + length ys) x))
    ∙ ap (λ m. (found n y ++ found_from found (n + 1) ys) ++ found m x) (let e : (n + 1) + length ys ≡ n + suc (length ys) = omega arith in e)

-- only the last item gives such findings
any_last : {X : Type 0} (p : Finding → Bool) (found : ℕ → X → List Finding) (xs : List X) (x : X) → ((i : ℕ) (d : X) → i < length xs → list_any p (found i (get_or xs i d)) ≡ false) → list_any p (found_from found 0 (xs ++ x ∷ [])) ≡ list_any p (found (length xs) x)
any_last p found xs x h =
    ap (list_any p) (found_last found 0 xs x)
    ∙ skip p (found_from found 0 xs) (found (0 + length xs) x) (any_none0 p found xs h)
    ∙ ap (λ m. list_any p (found m x)) (let e : 0 + length xs ≡ length xs = omega arith in e)

-- only the first does
any_first : {X : Type 0} (p : Finding → Bool) (found : ℕ → X → List Finding) (x : X) (xs : List X) → ((i : ℕ) (d : X) → i < length xs → list_any p (found (1 + i) (get_or xs i d)) ≡ false) → list_any p (found_from found 0 (x ∷ xs)) ≡ list_any p (found 0 x)
unfolding found_from
any_first p found x xs h = keep p (found 0 x) (found_from found 1 xs) (any_none p found 1 xs h)

-- findings that name a cell, or don't
invalid_own : (rule : Rule) (n r b s : ℕ) → (rule_number rule == 10) ≡ false → makes_invalid n (finding_of rule n r b s) ≡ true
unfolding finding_of
invalid_own rule n r b s e = and_from ((n == n) || (b == n)) (not (rule_number rule == 10)) (ap (λ t. t || (b == n)) (same_number n)) (ap not e)

invalid_other : (rule : Rule) (n a r b s : ℕ) → (a ≡ n → ⊥) → (b ≡ n → ⊥) → makes_invalid n (finding_of rule a r b s) ≡ false
unfolding finding_of
invalid_other rule n a r b s h k = and_left ((a == n) || (b == n)) (not (rule_number rule == 10)) (or_from (a == n) (b == n) (ne_eqb a n h) (ne_eqb b n k))

invalid_overlap : (n a r b s : ℕ) → makes_invalid n (finding_of CellsOverlap a r b s) ≡ false
unfolding finding_of
invalid_overlap n a r b s = and_right ((a == n) || (b == n)) false refl

busy_own : (n a r s : ℕ) → makes_busy n (finding_of CellsOverlap a r n s) ≡ true
unfolding finding_of
busy_own n a r s = and_from ((a == n) || (n == n)) true (or_right (a == n) (n == n) (same_number n)) refl

busy_other : (n a r b s : ℕ) → (a ≡ n → ⊥) → (b ≡ n → ⊥) → makes_busy n (finding_of CellsOverlap a r b s) ≡ false
unfolding finding_of
busy_other n a r b s h k = and_left ((a == n) || (b == n)) true (or_from (a == n) (b == n) (ne_eqb a n h) (ne_eqb b n k))

busy_rule : (rule : Rule) (n : ℕ) → (rule_number rule == 10) ≡ false → (a r b s : ℕ) → makes_busy n (finding_of rule a r b s) ≡ false
unfolding finding_of
busy_rule rule n e a r b s = and_right ((a == n) || (b == n)) (rule_number rule == 10) e

-- the pairs of two cells
between_false_by : (p : Finding → Bool) (rule : Rule) (a : ℕ) (one : CellConfig) (b : ℕ) (other : CellConfig) (t : Bool) → joins rule a b ≡ t → (joins rule a b ≡ true → (r s : ℕ) → p (finding_of rule a r b s) ≡ false) → list_any p (between rule a one b other) ≡ false
unfolding between beside
between_false_by p rule a one b other true e h =
    any_none0 p (between_at rule a one b other) one.memory_regions (λ r d i.
    any_none0 p (beside_at rule (spot a one r (get_or one.memory_regions r d)) b other) other.memory_regions (λ s f j.
    only_false p (pair_breaks rule (spot a one r (get_or one.memory_regions r d)) (spot b other s (get_or other.memory_regions s f))) (finding_of rule a r b s) (h e r s)))
between_false_by p rule a one b other false e h = ap (list_any p) (between_apart rule a one b other e)

between_false : (p : Finding → Bool) (rule : Rule) (a : ℕ) (one : CellConfig) (b : ℕ) (other : CellConfig) → (joins rule a b ≡ true → (r s : ℕ) → p (finding_of rule a r b s) ≡ false) → list_any p (between rule a one b other) ≡ false
between_false p rule a one b other h = between_false_by p rule a one b other (joins rule a b) refl h

between_true : (p : Finding → Bool) (rule : Rule) (a : ℕ) (one : CellConfig) (b : ℕ) (other : CellConfig) → ((r s : ℕ) → p (finding_of rule a r b s) ≡ true) → list_any p (between rule a one b other) ≡ is_any (between rule a one b other)
unfolding between beside
between_true p rule a one b other h =
    any_all p (between_at rule a one b other) 0 one.memory_regions (λ r x.
    any_all p (beside_at rule (spot a one r x) b other) 0 other.memory_regions (λ s y.
    only_true p (pair_breaks rule (spot a one r x) (spot b other s y)) (finding_of rule a r b s) (h r s)))

-- a rule about two regions of one cell
pub invalid_within : (rule : Rule) (xs : List CellConfig) (new : CellConfig) → is_within rule ≡ true → (rule_number rule == 10) ≡ false → list_any (makes_invalid (length xs)) (in_pairs rule (xs ++ new ∷ [])) ≡ is_any (between rule (length xs) new (length xs) new)
unfolding in_pairs from_cell
invalid_within rule xs new w e =
    let n = length xs in
    let p = makes_invalid n in
    let all = xs ++ new ∷ [] in
    any_last p (from_cell rule all) xs new (λ i d k.
    any_none0 p (between rule i (get_or xs i d)) all (λ b f l.
    between_false p rule i (get_or xs i d) b (get_or all b f) (λ j r s.
    let same = joins_same rule i b w j in
    invalid_other rule n i r b s (λ q. omega arith) (λ q. omega arith))))
    ∙ any_last p (between rule n new) xs new (λ b f l.
    between_false p rule n new b (get_or xs b f) (λ j r s.
    let same = joins_same rule n b w j in
    absurd (omega arith)))
    ∙ between_true p rule n new n new (λ r s. invalid_own rule n r n s e)

joins_root : (a b : ℕ) → joins SubpageTaken a b ≡ true → b ≡ 0
joins_root a b h = eqb-true b 0 ((and_parts (not (a == 0)) (b == 0) h).1)

-- the rule about root's pages
pub invalid_taken : (root : CellConfig) (live : List CellConfig) (new : CellConfig) → list_any (makes_invalid (length (root ∷ live))) (in_pairs SubpageTaken ((root ∷ live) ++ new ∷ [])) ≡ is_any (between SubpageTaken (length (root ∷ live)) new 0 root)
unfolding in_pairs from_cell
invalid_taken root live new =
    let xs = root ∷ live in
    let n = length xs in
    let p = makes_invalid n in
    let all = xs ++ new ∷ [] in
    any_last p (from_cell SubpageTaken all) xs new (λ i d k.
    any_none0 p (between SubpageTaken i (get_or xs i d)) all (λ b f l.
    between_false p SubpageTaken i (get_or xs i d) b (get_or all b f) (λ j r s.
    let first = joins_root i b j in
    invalid_other SubpageTaken n i r b s (λ q. omega arith) (λ q. omega arith))))
    ∙ any_first p (between SubpageTaken n new) root (live ++ new ∷ []) (λ i d k.
    between_false p SubpageTaken n new (1 + i) (get_or (live ++ new ∷ []) i d) (λ j r s.
    let first = joins_root n (1 + i) j in
    absurd (omega arith)))
    ∙ between_true p SubpageTaken n new 0 root (λ r s. invalid_own SubpageTaken n r 0 s refl)

-- a rule about one region
pub invalid_regions : (rule : Rule) (h : Region) (xs : List CellConfig) (new : CellConfig) → 0 < length xs → (rule_number rule == 10) ≡ false → list_any (makes_invalid (length xs)) (in_regions rule h (xs ++ new ∷ [])) ≡ is_any (in_cell rule h (length xs) new.memory_regions)
unfolding in_regions in_cell
invalid_regions rule h xs new some e =
    let n = length xs in
    let p = makes_invalid n in
    any_last p (in_regions_at rule h) xs new (λ i d k.
    let regions = (get_or xs i d).memory_regions in
    any_none0 p (in_cell_at rule h i regions) regions (λ r f j.
    only_false p (region_breaks rule h i (take r regions) (get_or regions r f)) (finding_of rule i r 0 0) (invalid_other rule n i r 0 0 (λ q. omega arith) (λ q. omega arith))))
    ∙ any_all p (in_cell_at rule h n new.memory_regions) 0 new.memory_regions (λ r x.
    only_true p (region_breaks rule h n (take r new.memory_regions) x) (finding_of rule n r 0 0) (invalid_own rule n r 0 0 e))

-- or about the hypervisor's memory too
pub invalid_both : (rule : Rule) (h : Region) (xs : List CellConfig) (new : CellConfig) → 0 < length xs → length xs < 16 → (rule_number rule == 10) ≡ false → list_any (makes_invalid (length xs)) (in_regions rule h (xs ++ new ∷ []) ++ in_hypervisor rule h) ≡ is_any (in_cell rule h (length xs) new.memory_regions)
unfolding in_hypervisor
invalid_both rule h xs new some few e =
    let n = length xs in
    keep (makes_invalid n) (in_regions rule h (xs ++ new ∷ [])) (in_hypervisor rule h) (only_false (makes_invalid n) (hypervisor_breaks rule h) (finding_of rule 16 0 0 0) (invalid_other rule n 16 0 0 0 (λ q. omega arith) (λ q. omega arith)))
    ∙ invalid_regions rule h xs new some e

-- the rule about devices
pub invalid_devices : (xs : List CellConfig) (new : CellConfig) → 0 < length xs → list_any (makes_invalid (length xs)) (in_devices (xs ++ new ∷ [])) ≡ is_any (in_devices_of xs (length xs) new)
unfolding in_devices in_devices_of
invalid_devices xs new some =
    let n = length xs in
    let p = makes_invalid n in
    let all = xs ++ new ∷ [] in
    any_last p (in_devices_at all) xs new (λ i d k.
    let cell = get_or xs i d in
    any_none0 p (device_at (take i all) i cell) cell.pci_devices (λ m f j.
    only_false p (device_breaks (take i all) cell (take m cell.pci_devices) (get_or cell.pci_devices m f)) (finding_of Shmem i m 0 0) (invalid_other Shmem n i m 0 0 (λ q. omega arith) (λ q. omega arith))))
    ∙ any_all p (device_at (take n all) n new) 0 new.pci_devices (λ m x.
    only_true p (device_breaks (take n all) new (take m new.pci_devices) x) (finding_of Shmem n m 0 0) (invalid_own Shmem n m 0 0 refl))
    ∙ ap (λ lower. is_any (found_from (device_at lower n new) 0 new.pci_devices)) (take-append_seam xs (new ∷ []))

-- the rule about CPUs
pub invalid_cpus : (xs : List CellConfig) (new : CellConfig) → 0 < length xs → list_any (makes_invalid (length xs)) (in_cpus (xs ++ new ∷ [])) ≡ cpus_break new.cpu_set
unfolding in_cpus
invalid_cpus xs new some =
    let n = length xs in
    let p = makes_invalid n in
    any_last p in_cpus_at xs new (λ i d k.
    only_false p (cpus_break (get_or xs i d).cpu_set) (finding_of NoCpu i 0 0 0) (invalid_other NoCpu n i 0 0 0 (λ q. omega arith) (λ q. omega arith)))
    ∙ only_true p (cpus_break new.cpu_set) (finding_of NoCpu n 0 0 0) (invalid_own NoCpu n 0 0 0 refl)
    ∙ any_only (cpus_break new.cpu_set) (finding_of NoCpu n 0 0 0)

-- a rule none of whose findings is such a one
pairs_false : (p : Finding → Bool) (rule : Rule) (all : List CellConfig) → ((a r b s : ℕ) → p (finding_of rule a r b s) ≡ false) → list_any p (in_pairs rule all) ≡ false
unfolding in_pairs from_cell
pairs_false p rule all f =
    any_none0 p (from_cell rule all) all (λ a d k.
    any_none0 p (between rule a (get_or all a d)) all (λ b e l.
    between_false p rule a (get_or all a d) b (get_or all b e) (λ j r s. f a r b s)))

pub invalid_crossing : (n : ℕ) (all : List CellConfig) → list_any (makes_invalid n) (in_pairs CellsOverlap all) ≡ false
invalid_crossing n all = pairs_false (makes_invalid n) CellsOverlap all (invalid_overlap n)

regions_false : (p : Finding → Bool) (rule : Rule) (h : Region) (all : List CellConfig) → ((a r b s : ℕ) → p (finding_of rule a r b s) ≡ false) → list_any p (in_regions rule h all) ≡ false
unfolding in_regions in_cell
regions_false p rule h all f =
    any_none0 p (in_regions_at rule h) all (λ a d k.
    let regions = (get_or all a d).memory_regions in
    any_none0 p (in_cell_at rule h a regions) regions (λ r e j.
    only_false p (region_breaks rule h a (take r regions) (get_or regions r e)) (finding_of rule a r 0 0) (f a r 0 0)))

both_false : (p : Finding → Bool) (rule : Rule) (h : Region) (all : List CellConfig) → ((a r b s : ℕ) → p (finding_of rule a r b s) ≡ false) → list_any p (in_regions rule h all ++ in_hypervisor rule h) ≡ false
unfolding in_hypervisor
both_false p rule h all f =
    skip p (in_regions rule h all) (in_hypervisor rule h) (regions_false p rule h all f)
    ∙ only_false p (hypervisor_breaks rule h) (finding_of rule 16 0 0 0) (f 16 0 0 0)

devices_false : (p : Finding → Bool) (all : List CellConfig) → ((a r b s : ℕ) → p (finding_of Shmem a r b s) ≡ false) → list_any p (in_devices all) ≡ false
unfolding in_devices in_devices_of
devices_false p all f =
    any_none0 p (in_devices_at all) all (λ a d k.
    let cell = get_or all a d in
    any_none0 p (device_at (take a all) a cell) cell.pci_devices (λ m e j.
    only_false p (device_breaks (take a all) cell (take m cell.pci_devices) (get_or cell.pci_devices m e)) (finding_of Shmem a m 0 0) (f a m 0 0)))

cpus_false : (p : Finding → Bool) (all : List CellConfig) → ((a r b s : ℕ) → p (finding_of NoCpu a r b s) ≡ false) → list_any p (in_cpus all) ≡ false
unfolding in_cpus
cpus_false p all f =
    any_none0 p in_cpus_at all (λ a d k. only_false p (cpus_break (get_or all a d).cpu_set) (finding_of NoCpu a 0 0 0) (f a 0 0 0))

-- only the rule about two cells makes a cell busy
pub busy_rules : (n : ℕ) (h : Region) (all : List CellConfig) → list_any (makes_busy n) (found_from (found_at h all) 0 rules_in_order) ≡ list_any (makes_busy n) (in_pairs CellsOverlap all)
unfolding found_from found_by
busy_rules n h all =
    let p = makes_busy n in
    let f13 = both_false p PhysAlign h all (busy_rule PhysAlign n refl) in
    let r13 = (in_regions PhysAlign h all ++ in_hypervisor PhysAlign h) ++ [] in
    let r12 = in_cpus all ++ r13 in
    let r11 = in_devices all ++ r12 in
    let r10 = in_pairs CellsOverlap all ++ r11 in
    let r9 = in_pairs SubpageTaken all ++ r10 in
    let r8 = in_regions ExecuteWithoutRead h all ++ r9 in
    let r7 = in_regions CommShape h all ++ r8 in
    let r6 = in_regions CommInRoot h all ++ r7 in
    let r5 = in_regions RootNotIdentity h all ++ r6 in
    let r4 = (in_regions OutOfRange h all ++ in_hypervisor OutOfRange h) ++ r5 in
    let r3 = in_regions Hypervisor h all ++ r4 in
    let r2 = in_pairs PhysOverlap all ++ r3 in
    skip p (in_pairs VirtOverlap all) r2 (pairs_false p VirtOverlap all (busy_rule VirtOverlap n refl))
    ∙ skip p (in_pairs PhysOverlap all) r3 (pairs_false p PhysOverlap all (busy_rule PhysOverlap n refl))
    ∙ skip p (in_regions Hypervisor h all) r4 (regions_false p Hypervisor h all (busy_rule Hypervisor n refl))
    ∙ skip p (in_regions OutOfRange h all ++ in_hypervisor OutOfRange h) r5 (both_false p OutOfRange h all (busy_rule OutOfRange n refl))
    ∙ skip p (in_regions RootNotIdentity h all) r6 (regions_false p RootNotIdentity h all (busy_rule RootNotIdentity n refl))
    ∙ skip p (in_regions CommInRoot h all) r7 (regions_false p CommInRoot h all (busy_rule CommInRoot n refl))
    ∙ skip p (in_regions CommShape h all) r8 (regions_false p CommShape h all (busy_rule CommShape n refl))
    ∙ skip p (in_regions ExecuteWithoutRead h all) r9 (regions_false p ExecuteWithoutRead h all (busy_rule ExecuteWithoutRead n refl))
    ∙ skip p (in_pairs SubpageTaken all) r10 (pairs_false p SubpageTaken all (busy_rule SubpageTaken n refl))
    ∙ keep p (in_pairs CellsOverlap all) r11 (
    skip p (in_devices all) r12 (devices_false p all (busy_rule Shmem n refl))
    ∙ skip p (in_cpus all) r13 (cpus_false p all (busy_rule NoCpu n refl))
    ∙ keep p (in_regions PhysAlign h all ++ in_hypervisor PhysAlign h) [] refl
    ∙ f13)

-- the overlaps of one live cell with the new one
pub busy_at : (xs : List CellConfig) (new : CellConfig) (a : ℕ) (one : CellConfig) → a < length xs → list_any (makes_busy (length xs)) (from_cell CellsOverlap (xs ++ new ∷ []) a one) ≡ is_any (between CellsOverlap a one (length xs) new)
unfolding from_cell
busy_at xs new a one k =
    let n = length xs in
    let p = makes_busy n in
    any_last p (between CellsOverlap a one) xs new (λ b d l.
    between_false p CellsOverlap a one b (get_or xs b d) (λ j r s. busy_other n a r b s (λ q. omega arith) (λ q. omega arith)))
    ∙ between_true p CellsOverlap a one n new (λ r s. busy_own n a r s)

-- the new cell is the last, so it is the other of each pair
pub busy_last : (xs : List CellConfig) (new one : CellConfig) → list_any (makes_busy (length xs)) (from_cell CellsOverlap (xs ++ new ∷ []) (length xs) one) ≡ false
unfolding from_cell
busy_last xs new one =
    let n = length xs in
    let p = makes_busy n in
    let all = xs ++ new ∷ [] in
    any_none0 p (between CellsOverlap n one) all (λ b d l.
    between_false p CellsOverlap n one b (get_or all b d) (λ j r s.
    let above = ltb-true n b ((and_parts (nat_lt 0 n) (nat_lt n b) j).1) in
    let size = length-append xs (new ∷ []) in
    absurd (omega arith)))

-- such findings, one item on
pub list_step : {X : Type 0} (p : Finding → Bool) (found : ℕ → X → List Finding) (xs : List X) (i : ℕ) (d : X) (goal : Bool) → i < length xs → list_any p (found i (get_or xs i d)) ≡ false → list_any p (found_from found i (drop i xs)) ≡ goal → list_any p (found_from found (i + 1) (drop (i + 1) xs)) ≡ goal
list_step p found xs i d goal h e g =
    let rest = found_from found (i + 1) (drop (i + 1) xs) in
    sym (ap (list_any p) (found_drop found xs i d h) ∙ skip p (found i (get_or xs i d)) rest e) ∙ g

pub list_hit : {X : Type 0} (p : Finding → Bool) (found : ℕ → X → List Finding) (xs : List X) (i : ℕ) (d : X) (goal : Bool) → i < length xs → list_any p (found i (get_or xs i d)) ≡ true → list_any p (found_from found i (drop i xs)) ≡ goal → true ≡ goal
list_hit p found xs i d goal h e g =
    let rest = found_from found (i + 1) (drop (i + 1) xs) in
    sym (ap (list_any p) (found_drop found xs i d h) ∙ list_any-append p (found i (get_or xs i d)) rest ∙ ap (λ b. b || list_any p rest) e) ∙ g

pub list_done : {X : Type 0} (p : Finding → Bool) (found : ℕ → X → List Finding) (xs : List X) (i : ℕ) (goal : Bool) → length xs ≤ i → list_any p (found_from found i (drop i xs)) ≡ goal → false ≡ goal
list_done p found xs i goal h g = sym (ap (list_any p) (found_end found xs i h)) ∙ g

-- the same by the new cell's number
pub busy_one : (xs : List CellConfig) (new : CellConfig) (n a : ℕ) (one : CellConfig) → n ≡ length xs → a < n → one ≡ get_or xs a one → list_any (makes_busy n) (from_cell CellsOverlap (xs ++ new ∷ []) a (get_or (xs ++ new ∷ []) a one)) ≡ is_any (between CellsOverlap a one n new)
busy_one xs new n a one e h i =
    let all = xs ++ new ∷ [] in
    let within : a < length xs = omega arith in
    let same : get_or all a one ≡ one = get_or_append_left xs (new ∷ []) one a within ∙ sym i in
    ap (λ cell. list_any (makes_busy n) (from_cell CellsOverlap all a cell)) same
    ∙ subst (λ m. list_any (makes_busy m) (from_cell CellsOverlap all a one) ≡ is_any (between CellsOverlap a one m new)) (sym e) (busy_at xs new a one within)

pub busy_end : (xs : List CellConfig) (new : CellConfig) (n a : ℕ) (goal : Bool) → n ≡ length xs → a ≡ n → list_any (makes_busy n) (found_from (from_cell CellsOverlap (xs ++ new ∷ [])) a (drop a (xs ++ new ∷ []))) ≡ goal → false ≡ goal
busy_end xs new n a goal e f g =
    let all = xs ++ new ∷ [] in
    let found = from_cell CellsOverlap all in
    let size = length-append xs (new ∷ []) in
    let P : ℕ → ℕ → Type 0 = λ m k. list_any (makes_busy m) (found k (get_or all a new)) ≡ false in
    let last : P n a = subst (λ m. P m a) (sym e) (subst (P (length xs)) (sym (f ∙ e)) (busy_last xs new (get_or all a new))) in
    list_done (makes_busy n) found all (a + 1) goal (omega arith) (list_step (makes_busy n) found all a new goal (omega arith) last g)

-- what is told of the new cell
pub verdict_from : (system : SystemConfig) (live : List CellConfig) (new : CellConfig) (n : ℕ) (invalid busy : Bool) → n ≡ length live + 1 → invalid ≡ list_any (makes_invalid n) (found_from (found_at system.platform.hypervisor_memory ((system.root ∷ live) ++ new ∷ [])) 0 rules_in_order) → busy ≡ list_any (makes_busy n) (in_pairs CellsOverlap ((system.root ∷ live) ++ new ∷ [])) → verdict_by invalid busy ≡ verdict_of system live new
unfolding verdict_of findings
verdict_from system live new n invalid busy e i b =
    let h = system.platform.hypervisor_memory in
    let all = (system.root ∷ live) ++ new ∷ [] in
    let found = found_from (found_at h all) 0 rules_in_order in
    let i' : invalid ≡ list_any (makes_invalid (length live + 1)) found = subst (λ m. invalid ≡ list_any (makes_invalid m) found) e i in
    let b' : busy ≡ list_any (makes_busy (length live + 1)) found = subst (λ m. busy ≡ list_any (makes_busy m) found) e (b ∙ sym (busy_rules n h all)) in
    ap (λ t. verdict_by t busy) i' ∙ ap (λ t. verdict_by (list_any (makes_invalid (length live + 1)) found) t) b'

pub verdict_invalid : (system : SystemConfig) (live : List CellConfig) (new : CellConfig) (n : ℕ) → n ≡ length live + 1 → true ≡ list_any (makes_invalid n) (found_from (found_at system.platform.hypervisor_memory ((system.root ∷ live) ++ new ∷ [])) 0 rules_in_order) → Invalid ≡ verdict_of system live new
verdict_invalid system live new n e i = verdict_from system live new n true (list_any (makes_busy n) (in_pairs CellsOverlap ((system.root ∷ live) ++ new ∷ []))) e i refl

-- what is found of the new cell by each rule, by its number
pub own_within : (rule : Rule) (h : Region) (xs : List CellConfig) (new : CellConfig) (n : ℕ) → n ≡ length xs → (rule ≡ VirtOverlap) ⊎ (rule ≡ PhysOverlap) → is_any (between rule n new n new) ≡ list_any (makes_invalid n) (found_by rule h (xs ++ new ∷ []))
unfolding found_by
own_within rule h xs new n e is =
    let P : ℕ → Rule → Type 0 = λ m rule. is_any (between rule m new m new) ≡ list_any (makes_invalid m) (found_by rule h (xs ++ new ∷ [])) in
    let base : P (length xs) rule = elim is [
      | inl r ↦ subst (P (length xs)) (sym r) (sym (invalid_within VirtOverlap xs new refl refl))
      | inr r ↦ subst (P (length xs)) (sym r) (sym (invalid_within PhysOverlap xs new refl refl))
    ] in
    subst (λ m. P m rule) (sym e) base

pub own_taken : (rule : Rule) (h : Region) (root : CellConfig) (live : List CellConfig) (new : CellConfig) (n : ℕ) → n ≡ length (root ∷ live) → rule ≡ SubpageTaken → is_any (between rule n new 0 root) ≡ list_any (makes_invalid n) (found_by rule h ((root ∷ live) ++ new ∷ []))
unfolding found_by
own_taken rule h root live new n e r =
    let P : ℕ → Rule → Type 0 = λ m rule. is_any (between rule m new 0 root) ≡ list_any (makes_invalid m) (found_by rule h ((root ∷ live) ++ new ∷ [])) in
    let base : P (length (root ∷ live)) SubpageTaken = sym (invalid_taken root live new) in
    subst (λ m. P m rule) (sym e) (subst (P (length (root ∷ live))) (sym r) base)

pub own_crossing : (rule : Rule) (h : Region) (all : List CellConfig) (n : ℕ) → rule ≡ CellsOverlap → false ≡ list_any (makes_invalid n) (found_by rule h all)
unfolding found_by
own_crossing rule h all n r =
    let P : Rule → Type 0 = λ rule. false ≡ list_any (makes_invalid n) (found_by rule h all) in
    let base : P CellsOverlap = sym (invalid_crossing n all) in
    subst P (sym r) base

pub own_devices : (rule : Rule) (h : Region) (xs : List CellConfig) (new : CellConfig) (n : ℕ) → 0 < n → n ≡ length xs → rule ≡ Shmem → is_any (in_devices_of (take n xs) n new) ≡ list_any (makes_invalid n) (found_by rule h (xs ++ new ∷ []))
unfolding found_by
own_devices rule h xs new n some e r =
    let P : ℕ → Rule → Type 0 = λ m rule. is_any (in_devices_of (take m xs) m new) ≡ list_any (makes_invalid m) (found_by rule h (xs ++ new ∷ [])) in
    let base : P (length xs) Shmem = ap (λ lower. is_any (in_devices_of lower (length xs) new)) (take-length xs) ∙ sym (invalid_devices xs new (omega arith)) in
    subst (λ m. P m rule) (sym e) (subst (P (length xs)) (sym r) base)

pub own_cpus : (rule : Rule) (h : Region) (xs : List CellConfig) (new : CellConfig) (n : ℕ) → 0 < n → n ≡ length xs → rule ≡ NoCpu → cpus_break new.cpu_set ≡ list_any (makes_invalid n) (found_by rule h (xs ++ new ∷ []))
unfolding found_by
own_cpus rule h xs new n some e r =
    let P : ℕ → Rule → Type 0 = λ m rule. cpus_break new.cpu_set ≡ list_any (makes_invalid m) (found_by rule h (xs ++ new ∷ [])) in
    let base : P (length xs) NoCpu = sym (invalid_cpus xs new (omega arith)) in
    subst (λ m. P m rule) (sym e) (subst (P (length xs)) (sym r) base)

own_region_at : (rule : Rule) (h : Region) (xs : List CellConfig) (new : CellConfig) → 0 < length xs → length xs < 16 → (rule ≡ VirtOverlap → ⊥) → (rule ≡ PhysOverlap → ⊥) → (rule ≡ SubpageTaken → ⊥) → (rule ≡ CellsOverlap → ⊥) → (rule ≡ Shmem → ⊥) → (rule ≡ NoCpu → ⊥) → list_any (makes_invalid (length xs)) (found_by rule h (xs ++ new ∷ [])) ≡ is_any (in_cell rule h (length xs) new.memory_regions)
unfolding found_by
own_region_at VirtOverlap h xs new some few a b c d e f = absurd (a refl)
own_region_at PhysOverlap h xs new some few a b c d e f = absurd (b refl)
own_region_at Hypervisor h xs new some few a b c d e f = invalid_regions Hypervisor h xs new some refl
own_region_at OutOfRange h xs new some few a b c d e f = invalid_both OutOfRange h xs new some few refl
own_region_at RootNotIdentity h xs new some few a b c d e f = invalid_regions RootNotIdentity h xs new some refl
own_region_at CommInRoot h xs new some few a b c d e f = invalid_regions CommInRoot h xs new some refl
own_region_at CommShape h xs new some few a b c d e f = invalid_regions CommShape h xs new some refl
own_region_at ExecuteWithoutRead h xs new some few a b c d e f = invalid_regions ExecuteWithoutRead h xs new some refl
own_region_at SubpageTaken h xs new some few a b c d e f = absurd (c refl)
own_region_at CellsOverlap h xs new some few a b c d e f = absurd (d refl)
own_region_at Shmem h xs new some few a b c d e f = absurd (e refl)
own_region_at NoCpu h xs new some few a b c d e f = absurd (f refl)
own_region_at PhysAlign h xs new some few a b c d e f = invalid_both PhysAlign h xs new some few refl

pub own_region : (rule : Rule) (h : Region) (xs : List CellConfig) (new : CellConfig) (n : ℕ) → 0 < n → n < 16 → n ≡ length xs → (rule ≡ VirtOverlap → ⊥) → (rule ≡ PhysOverlap → ⊥) → (rule ≡ SubpageTaken → ⊥) → (rule ≡ CellsOverlap → ⊥) → (rule ≡ Shmem → ⊥) → (rule ≡ NoCpu → ⊥) → is_any (in_cell rule h n new.memory_regions) ≡ list_any (makes_invalid n) (found_by rule h (xs ++ new ∷ []))
own_region rule h xs new n some few q a b c d e f =
    let P : ℕ → Type 0 = λ m. is_any (in_cell rule h m new.memory_regions) ≡ list_any (makes_invalid m) (found_by rule h (xs ++ new ∷ [])) in
    subst P (sym q) (sym (own_region_at rule h xs new (omega arith) (omega arith) a b c d e f))
