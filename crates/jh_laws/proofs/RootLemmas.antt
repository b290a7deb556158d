-- What an admitted image gives of root: its regions, programs and preloads.
use Rattle.std.proofs.Common.{inl, inr, ◌≡◌, ℕ, ◌/◌, ◌<◌, ◌≤◌, List, [], length, get_or, true, false, Option, Some, None, refl, ap, subst, ◌∙◌, eqb, arith}
use Rattle.std.specs.Prelude.{IsTrue, Contains, All, find, slice_get, nat_eq}
use Rattle.std.specs.Cmp.Lexicographic.{pointwise}
use Rattle.std.specs.Option.{option_map_or}
use Rattle.std.proofs.lemmas.Bool.{and_parts, and_from, eqb-true, false_from_ne_true, cases_lt, both_ways}
use Rattle.std.proofs.lemmas.Slice.Eq.{bytes_eq-Decides}
use Rattle.std.proofs.lemmas.Option.{slice_get_within, get_or_from_slice_get}
use Rattle.jh_num.specs.declared.address.TheConstants.{ADDRESS_END}
use Rattle.jh_num.proofs.Public.{find_nothing, same_number}
use Rattle.jh_cellcfg.specs.declared.region.Region.{Region}
use Rattle.jh_cellcfg.specs.Regions.{has_address, is_comm, virt_end}
use Rattle.jh_cellcfg.proofs.Public.{has_address_first, has_address_last}
use Rattle.jh_check.proofs.Public.{clean_from_nothing, zero_names}
use Rattle.jh_script.specs.declared.image.Image.{Image}
use Rattle.jh_script.specs.declared.image.Program.{Program}
use Rattle.jh_script.specs.declared.op.Op.{Op}
use Rattle.jh_script.specs.Operations.{IsWellFormed}
use Rattle.jh_history.specs.Admitted.{IsAdmitted}
use Rattle.jh_history.specs.Lives.{is_program_of, program_ops, is_on_board}
use Rattle.jh_history.proofs.Public.{sound_root, program_ops_well_formed}
use Rattle.jh_laws.proofs.FindLemmas.{IsOnly, find_only}

abbrev pub regions : Image → List Region
regions image = image.system.root.memory_regions

-- a region of root that has an address: it ends within the addresses, lies at its own place, and is
-- no communication region
pub record IsRootRegion (r : Region) : Type 0 where
  pub within : virt_end r ≤ ADDRESS_END
  pub identity : r.phys_start ≡ r.virt_start
  pub memory : is_comm r ≡ false

pub root_region : (image : Image) (r : Region) (at : ℕ) → IsAdmitted image → Contains (regions image) r → has_address r at ≡ true → IsRootRegion r
root_region image r at admitted held has =
    let first : r.virt_start ≤ at = has_address_first r at has in
    let last : at < virt_end r = has_address_last r at has in
    let some : 0 < r.size = omega arith in
    let P : Region → Type 0 = λ s. 0 < s.size → IsRootRegion s in
    subst P held.2
    (λ lt. let sound = (sound_root image admitted).regions held.0 r held.1 lt in record { within = sound.within.virt; identity = sound.identity; memory = sound.no_comm })
    some

-- a board has at most the CPUs below 16
pub few_cpus : (image : Image) → IsAdmitted image → (cpu : ℕ) → IsTrue (is_on_board image cpu) → cpu < 16
few_cpus image admitted cpu on =
    let bitmap = (clean_from_nothing image.system [] admitted.system.clean).cpus 0 image.system.root refl in
    elim (cases_lt cpu 16) [
      | inl lt ↦ lt
      | inr le ↦ absurd (both_ways (is_on_board image cpu) (zero_names image.system.root.cpu_set cpu (bitmap.few (cpu / 8) (omega arith))) on)
    ]

at_op : (ops : List Op) (i : ℕ) (op : Op) → All IsWellFormed ops → slice_get ops i ≡ Some op → IsWellFormed op
at_op ops i op all e =
    let within : i < length ops = slice_get_within ops i op e in
    let P : Op → Type 0 = IsWellFormed in
    subst P (get_or_from_slice_get ops i op op e) (all i op within)

pub op_well_formed : (image : Image) (name : List ℕ) (cpu i : ℕ) (op : Op) → IsAdmitted image → slice_get (program_ops image name cpu) i ≡ Some op → IsWellFormed op
op_well_formed image name cpu i op admitted e = at_op (program_ops image name cpu) i op (program_ops_well_formed image name cpu admitted) e

-- the program is that of the name and CPU which it has
named : (name : List ℕ) (cpu : ℕ) (p : Program) → is_program_of name cpu p ≡ true → (p.cell ≡ name) × (p.cpu ≡ cpu)
named name cpu p h =
    let parts = and_parts (pointwise nat_eq p.cell name) (eqb p.cpu cpu) h in
    ((bytes_eq-Decides p.cell name).0 parts.0, eqb-true p.cpu cpu parts.1)

own_name : (p : Program) → is_program_of p.cell p.cpu p ≡ true
own_name p = and_from (pointwise nat_eq p.cell p.cell) (eqb p.cpu p.cpu) ((bytes_eq-Decides p.cell p.cell).1 refl) (same_number p.cpu)

only_program : (image : Image) (name : List ℕ) (cpu : ℕ) → IsAdmitted image → IsOnly (is_program_of name cpu) image.programs
only_program image name cpu admitted j k d lt within at_j at_k =
    let one = get_or image.programs j d in
    let other = get_or image.programs k d in
    let is = named name cpu one at_j in
    let by_name : is_program_of one.cell cpu other ≡ true = ap (λ (n : List ℕ). is_program_of n cpu other) is.0 ∙ at_k in
    admitted.owned j k d lt within (ap (λ (c : ℕ). is_program_of one.cell c other) is.1 ∙ by_name)

pub program_ops_found : (image : Image) (p : Program) → IsAdmitted image → Contains image.programs p → program_ops image p.cell p.cpu ≡ p.ops
unfolding program_ops
program_ops_found image p admitted held =
    let same : get_or image.programs held.0 p ≡ p = held.2 in
    let passes : is_program_of p.cell p.cpu (get_or image.programs held.0 p) ≡ true = ap (is_program_of p.cell p.cpu) same ∙ own_name p in
    let found : find (is_program_of p.cell p.cpu) image.programs ≡ Some p = find_only (is_program_of p.cell p.cpu) image.programs held.0 p held.1 passes (only_program image p.cell p.cpu admitted) ∙ ap Some same in
    ap (λ (o : Option Program). option_map_or (λ (q : Program). q.ops) o []) found

pub program_ops_none : (image : Image) (name : List ℕ) (cpu : ℕ) → ((p : Program) → Contains image.programs p → p.cell ≡ name → p.cpu ≡ cpu → ⊥) → program_ops image name cpu ≡ []
unfolding program_ops
program_ops_none image name cpu none =
    let found : find (is_program_of name cpu) image.programs ≡ None = find_nothing (is_program_of name cpu) image.programs
    (λ p held. false_from_ne_true (is_program_of name cpu p) (λ yes. let is = named name cpu p yes in none p held is.0 is.1)) in
    ap (λ (o : Option Program). option_map_or (λ (q : Program). q.ops) o []) found
