-- What a new cell is refused for where no CPU may be given away: a cell without a CPU is invalid, whatever others
-- there are.
use Rattle.std.proofs.Common.{◌≡◌, ℕ, suc, ◌+◌, Bool, true, false, List, [], ◌∷◌, ◌++◌, length, Some, refl, sym, subst, inl, inr, ◌∙◌, arith}
use Rattle.std.specs.List.{list_any}
use Rattle.std.proofs.lemmas.Bool.{false≢true, cases_Bool, both_ways, eq-eqb, or_left, or_right}
use Rattle.std.proofs.lemmas.List.Folds.{list_any-append}
use Rattle.jh_num.specs.declared.error.TheConstants.{EBUSY, EEXIST, EINVAL}
use Rattle.jh_cellcfg.specs.declared.config.CellConfig.{CellConfig}
use Rattle.jh_cellcfg.specs.declared.config.SystemConfig.{SystemConfig}
use Rattle.jh_cellcfg.specs.Cells.{is_cpu_set}
use Rattle.jh_check.specs.declared.finding.Finding.{Finding}
use Rattle.jh_check.specs.declared.rule.Rule.{Rule}
use Rattle.jh_check.specs.declared.rule.Rule.TheVariants.{VirtOverlap, PhysOverlap, Hypervisor, OutOfRange, RootNotIdentity, CommInRoot, CommShape, ExecuteWithoutRead, SubpageTaken, CellsOverlap, Shmem, NoCpu, PhysAlign}
use Rattle.jh_check.specs.declared.verdict.NewCell.TheVariants.{Invalid}
use Rattle.jh_check.specs.Clean.{IsSoundBitmap, IsSoundCpuSet}
use Rattle.jh_check.specs.Devices.{cpus_break}
use Rattle.jh_check.specs.Lists.{found_from, only_if}
use Rattle.jh_check.specs.Findings.{finding_of, in_cpus, in_cpus_at, found_by, found_at, findings}
use Rattle.jh_check.specs.Verdicts.{makes_invalid, verdict_of}
use Rattle.jh_check.specs.Refusals.{is_known, names_beyond, nobody, refusal_of}
use Rattle.jh_check.proofs.DeviceLemmas.{bitmap_from}

-- a set that names none breaks a rule
pub idle_breaks : (set : List ℕ) → (IsSoundBitmap set → IsSoundCpuSet set) → ((cpu : ℕ) × (is_cpu_set set cpu ≡ true) × (nobody cpu ≡ false) → names_beyond nobody set ≡ true) → names_beyond nobody set ≡ false → cpus_break set ≡ true
idle_breaks set gives beyond idle =
    elim (cases_Bool (cpus_break set)) [
      | inl breaks ↦ breaks
      | inr sound ↦
          let some = (gives (bitmap_from set (λ breaks. false≢true (sym sound ∙ breaks)))).some in
          absurd (both_ways (names_beyond nobody set) idle (beyond (some.0, some.1, refl)))
    ]

-- an item by which something is found
found_here : {X : Type 0} (found : ℕ → X → List Finding) (p : Finding → Bool) (n : ℕ) (xs : List X) (x : X) (ys : List X) → list_any p (found (n + length xs) x) ≡ true → list_any p (found_from found n (xs ++ x ∷ ys)) ≡ true
unfolding found_from
found_here found p n [] x ys h =
    let e : n + 0 ≡ n = omega arith in
    let rest = found_from found (n + 1) ys in
    list_any-append p (found n x) rest ∙ or_left (list_any p (found n x)) (list_any p rest) (subst (λ m. list_any p (found m x) ≡ true) e h)
found_here found p n (z ∷ zs) x ys h =
    let e : n + suc (length zs) ≡ (n + 1) + length zs = omega arith in
    let rest = found_from found (n + 1) (zs ++ x ∷ ys) in
    list_any-append p (found n z) rest
    ∙ or_right (list_any p (found n z)) (list_any p rest) (found_here found p (n + 1) zs x ys (subst (λ m. list_any p (found m x) ≡ true) e h))

cpus_told : (a n : ℕ) (set : List ℕ) → a ≡ n → cpus_break set ≡ true → list_any (makes_invalid n) (only_if (cpus_break set) (finding_of NoCpu a 0 0 0)) ≡ true
unfolding only_if finding_of
cpus_told a n set same breaks = rw (breaks, eq-eqb a n same) refl

cpus_found : (system : SystemConfig) (live : List CellConfig) (new : CellConfig) → cpus_break new.cpu_set ≡ true → list_any (makes_invalid (length live + 1)) (in_cpus (system.root ∷ (live ++ new ∷ []))) ≡ true
unfolding in_cpus
cpus_found system live new breaks =
    found_here in_cpus_at (makes_invalid (length live + 1)) 0 (system.root ∷ live) new []
    (cpus_told (0 + length (system.root ∷ live)) (length live + 1) new.cpu_set (omega arith) breaks)

any_found : (system : SystemConfig) (live : List CellConfig) (new : CellConfig) → cpus_break new.cpu_set ≡ true → list_any (makes_invalid (length live + 1)) (findings system (live ++ new ∷ [])) ≡ true
unfolding findings found_by
any_found system live new breaks =
    let rules : List Rule = VirtOverlap ∷ PhysOverlap ∷ Hypervisor ∷ OutOfRange ∷ RootNotIdentity ∷ CommInRoot ∷ CommShape ∷ ExecuteWithoutRead ∷ SubpageTaken ∷ CellsOverlap ∷ Shmem ∷ [] in
    found_here (found_at system.platform.hypervisor_memory (system.root ∷ (live ++ new ∷ []))) (makes_invalid (length live + 1)) 0 rules NoCpu (PhysAlign ∷ [])
    (cpus_found system live new breaks)

idle_invalid : (system : SystemConfig) (live : List CellConfig) (new : CellConfig) → cpus_break new.cpu_set ≡ true → verdict_of system live new ≡ Invalid
unfolding verdict_of
idle_invalid system live new breaks = rw (any_found system live new breaks) refl

pub refused_known : (system : SystemConfig) (live : List CellConfig) (new : CellConfig) (pages pool : ℕ) → is_known (system.root ∷ live) new ≡ true → Some EEXIST ≡ refusal_of system live new nobody pages pool
unfolding refusal_of
refused_known system live new pages pool known = rw known refl

pub refused_busy : (system : SystemConfig) (live : List CellConfig) (new : CellConfig) (pages pool : ℕ) → is_known (system.root ∷ live) new ≡ false → names_beyond nobody new.cpu_set ≡ true → Some EBUSY ≡ refusal_of system live new nobody pages pool
unfolding refusal_of
refused_busy system live new pages pool known busy = rw (known, busy) refl

pub refused_idle : (system : SystemConfig) (live : List CellConfig) (new : CellConfig) (pages pool : ℕ) → is_known (system.root ∷ live) new ≡ false → names_beyond nobody new.cpu_set ≡ false → cpus_break new.cpu_set ≡ true → Some EINVAL ≡ refusal_of system live new nobody pages pool
unfolding refusal_of
refused_idle system live new pages pool known idle breaks = rw (known, idle, idle_invalid system live new breaks) refl
