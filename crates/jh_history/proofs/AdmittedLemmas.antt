-- What an admitted image gives its readers.
use Rattle.std.proofs.Common.{◌≤◌, ℕ, List, [], ◌∷◌, Bool, true, false, cond, Option, Some, length, arith}
use Rattle.std.specs.Prelude.{IsTrue, find, All}
use Rattle.std.specs.List.{AllByRecursion}
use Rattle.std.specs.Option.{option_map_or}
use Rattle.std.proofs.lemmas.List.Elements.{recursion_from_All, All-from_recursion}
use Rattle.jh_cellcfg.specs.Regions.{AreInRange}
use Rattle.jh_script.specs.declared.image.Image.{Image}
use Rattle.jh_script.specs.declared.image.Program.{Program}
use Rattle.jh_script.specs.declared.op.Op.{Op}
use Rattle.jh_script.specs.Operations.{IsWellFormed, is_width}
use Rattle.jh_history.specs.Lives.{program_ops, is_program_of}
use Rattle.jh_check.specs.Clean.{IsSoundRoot}
use Rattle.jh_check.proofs.Public.{sound_root_holds, clean_from_nothing}
use Rattle.jh_history.specs.Admitted.{IsAdmitted, IsSoundProgram}

-- root's regions are sound, and the hypervisor's memory
pub sound_root : (image : Image) → IsAdmitted image → IsSoundRoot image.system
sound_root image admitted = sound_root_holds image.system [] (clean_from_nothing image.system [] admitted.system.clean)

-- its regions lie within the addresses and the places
pub within : (image : Image) → IsAdmitted image → AreInRange image.system.root.memory_regions
within image admitted = λ i d lt some. let h = ((sound_root image admitted).regions i d lt some).within in record { virt = h.virt; phys = λ _. h.phys }

found_at : (P : Op → Type 0) (b : Bool) (x : Program) (o : Option Program) → All P x.ops → AllByRecursion P (option_map_or (λ (p : Program). p.ops) o []) → AllByRecursion P (option_map_or (λ (p : Program). p.ops) (cond b (Some x) o) [])
found_at P true x o fine rest = recursion_from_All P x.ops fine
found_at P false x o fine rest = rest

-- what holds of each program's operations holds of those of the one that is found
found : (P : Op → Type 0) (p : Program → Bool) (xs : List Program) → AllByRecursion (λ (x : Program). All P x.ops) xs → AllByRecursion P (option_map_or (λ (x : Program). x.ops) (find p xs) [])
found P p [] all = tt
found P p (x ∷ xs) all = found_at P (p x) x (find p xs) all.0 (found P p xs all.1)

-- what holds of all operations of an image holds of each CPU's
pub program_ops_all : (P : Op → Type 0) (image : Image) (name : List ℕ) (cpu : ℕ) → All (λ (p : Program). All P p.ops) image.programs → All P (program_ops image name cpu)
unfolding program_ops
program_ops_all P image name cpu all = All-from_recursion P (program_ops image name cpu) (found P (is_program_of name cpu) image.programs (recursion_from_All (λ (x : Program). All P x.ops) image.programs all))

-- the operations of each CPU are plain
pub program_ops_well_formed : (image : Image) (name : List ℕ) (cpu : ℕ) → IsAdmitted image → All IsWellFormed (program_ops image name cpu)
program_ops_well_formed image name cpu admitted = program_ops_all IsWellFormed image name cpu (λ i d lt. (admitted.programs i d lt).well_formed)

few_at : (b : Bool) (x : Program) (o : Option Program) → IsSoundProgram x → length (option_map_or (λ (p : Program). p.ops) o []) ≤ 4096 → length (option_map_or (λ (p : Program). p.ops) (cond b (Some x) o) []) ≤ 4096
few_at true x o fine rest = fine.few
few_at false x o fine rest = rest

few_found : (p : Program → Bool) (xs : List Program) → AllByRecursion IsSoundProgram xs → length (option_map_or (λ (x : Program). x.ops) (find p xs) []) ≤ 4096
few_found p [] all = omega arith
few_found p (x ∷ xs) all = few_at (p x) x (find p xs) all.0 (few_found p xs all.1)

-- and they are few
pub few_operations : (image : Image) (name : List ℕ) (cpu : ℕ) → IsAdmitted image → length (program_ops image name cpu) ≤ 4096
unfolding program_ops
few_operations image name cpu admitted = few_found (is_program_of name cpu) image.programs (recursion_from_All IsSoundProgram image.programs admitted.programs)

-- a width is that of a register at most
pub width_le : (w : ℕ) → IsTrue (is_width w) → w ≤ 8
width_le w h = grind arith
