-- Regions and programs by an index.
use Rattle.std.proofs.Common.{◌≡◌, ◌≢◌, eqb, ℕ, ◌<◌, List, [], true, false, cond, Option, Some, None, refl, sym, ◌∙◌, ap, subst, get_or, length, arith, Bool, drop}
use Rattle.std.specs.Prelude.{slice_get, Contains, IfSome, IsTrue, All, find}
use Rattle.std.specs.Option.{option_map_or}
use Rattle.std.proofs.lemmas.Bool.{eq-eqb, ne_eqb}
use Rattle.std.proofs.lemmas.Option.{none-some, same_Some, slice_get_past, slice_get_within, slice_get-get_or, get_or_from_slice_get}
use Rattle.jh_num.proofs.Public.{IsFound_from_find, find_None}
use Rattle.jh_cellcfg.specs.Cells.{name_of}
use Rattle.jh_cellcfg.specs.declared.region.Region.{Region}
use Rattle.jh_mmio.specs.Index.{IsRegionAt}
use Rattle.jh_script.specs.declared.image.Image.{Image}
use Rattle.jh_script.specs.declared.image.Program.{Program}
use Rattle.jh_history.specs.declared.access.Access.{Access}
use Rattle.jh_history.specs.Access.{gives, region_of}
use Rattle.jh_history.specs.Lives.{program_ops, is_program_of, live_in, ops_in}
use Rattle.jh_cellcfg.specs.declared.config.CellConfig.{CellConfig}
use Rattle.jh_cellcfg.specs.declared.live.Live.{Live}
use Rattle.jh_script.specs.Operations.{IsWellFormed}
use Rattle.jh_cellcfg.specs.Regions.{has_address, IsInRange, IsEmptyOrInRange}
use Rattle.jh_cellcfg.proofs.Public.{has_some}
use Rattle.std.proofs.lemmas.List.Elements.{All-contains}
use Rattle.std.proofs.lemmas.List.{drop_more, drop_all}
use Rattle.jh_history.specs.Admitted.{IsAdmitted}
use Rattle.jh_history.proofs.Public.{within, gives_has}
use Rattle.jh_board.specs.declared.indexed.ProgramIndex.{ProgramIndex}
use Rattle.jh_board.specs.Indexed.{ops_at, AreProgramIndices}
use Rattle.jh_board.specs.Private.RootPrograms.{AreRootPrograms}

-- the first element that passes, where a search has come to it
pub find_here : {X : Type 0} (p : X → Bool) (xs : List X) (k : ℕ) (x : X) → k < length xs → x ≡ get_or xs k x → p x ≡ true → find p (drop k xs) ≡ find p xs → find p xs ≡ slice_get xs k
find_here p xs k x lt is passes rest =
    let here : find p (drop k xs) ≡ Some x = ap (find p) (drop_more xs k x lt) ∙ rw (← is, passes) refl in
    sym rest ∙ here ∙ ap Some is ∙ sym (slice_get-get_or xs k x lt)

-- and none, where it has come to the end
pub find_nowhere : {X : Type 0} (p : X → Bool) (xs : List X) → find p (drop (length xs) xs) ≡ find p xs → find p xs ≡ slice_get xs (length xs)
find_nowhere p xs rest = sym rest ∙ ap (find p) (drop_all (length xs) xs (omega arith)) ∙ sym (slice_get_past xs (length xs) (omega arith))

giving_by : (regions : List Region) (access : Access) (at : ℕ) (c : Region) (o : Option Region) → region_of regions access at ≡ o → IsRegionAt regions at (Some c) → cond (gives access at c) (Some c) None ≡ o
giving_by regions access at c None e is = let no : gives access at c ≡ false = find_None (gives access at) regions c e is.own in rw no refl
giving_by regions access at c (Some r) e is =
    let found = IsFound_from_find (gives access at) regions r e in
    let same : c ≡ r = same_Some c r (is.only r found.among (gives_has access at r found.passes)) in
    let yes : gives access at c ≡ true = ap (gives access at) same ∙ found.passes in
    rw yes (ap (λ (x : Region). Some x) same)

-- the one region that may have the address decides
pub region_of_giving : (regions : List Region) (access : Access) (at : ℕ) (c : Region) → IsRegionAt regions at (Some c) → cond (gives access at c) (Some c) None ≡ region_of regions access at
region_of_giving regions access at c is = giving_by regions access at c (region_of regions access at) refl is

pub giving_true : (regions : List Region) (access : Access) (at : ℕ) (c : Region) → IsRegionAt regions at (Some c) → gives access at c ≡ true → Some c ≡ region_of regions access at
giving_true regions access at c is does = let e : Some c ≡ cond (gives access at c) (Some c) None = rw does refl in e ∙ region_of_giving regions access at c is

pub giving_false : (regions : List Region) (access : Access) (at : ℕ) (c : Region) → IsRegionAt regions at (Some c) → gives access at c ≡ false → None ≡ region_of regions access at
giving_false regions access at c is fails = let e : None ≡ cond (gives access at c) (Some c) None = rw fails refl in e ∙ region_of_giving regions access at c is

none_by : (regions : List Region) (access : Access) (at : ℕ) (o : Option Region) → region_of regions access at ≡ o → IsRegionAt regions at None → None ≡ o
none_by regions access at None e is = refl
none_by regions access at (Some r) e is =
    let found = IsFound_from_find (gives access at) regions r e in absurd (none-some r (is.only r found.among (gives_has access at r found.passes)))

pub region_of_none : (regions : List Region) (access : Access) (at : ℕ) → IsRegionAt regions at None → None ≡ region_of regions access at
region_of_none regions access at is = none_by regions access at (region_of regions access at) refl is

-- the operations at a place are those of root's program
pub root_found : (image : Image) (lives : List Live) (places : List ℕ) (id cpu : ℕ) → AreRootPrograms image places → cpu < 16 → id ≡ image.system.root.id → ops_at image (get_or places cpu 0) ≡ ops_in image lives id cpu
unfolding program_ops
root_found image lives places id cpu are lt is =
    let root : eqb id image.system.root.id ≡ true = eq-eqb id image.system.root.id is in
    rw root (ap (λ (o : Option Program). option_map_or (λ (p : Program). p.ops) o []) (sym (are cpu lt)))

-- those of another cell's program
pub cell_found : (image : Image) (lives : List Live) (id cpu at : ℕ) (config : CellConfig) → id ≢ image.system.root.id → live_in lives id ≡ Some config → find (is_program_of (name_of config) cpu) image.programs ≡ slice_get image.programs at
    → ops_at image at ≡ ops_in image lives id cpu
unfolding program_ops
cell_found image lives id cpu at config other is found =
    let root : eqb id image.system.root.id ≡ false = ne_eqb id image.system.root.id other in
    rw (root, is) (ap (λ (o : Option Program). option_map_or (λ (p : Program). p.ops) o []) (sym found))

-- and none where no cell has the id
pub none_found : (image : Image) (lives : List Live) (id cpu at : ℕ) → id ≢ image.system.root.id → live_in lives id ≡ None → at ≡ length image.programs → ops_at image at ≡ ops_in image lives id cpu
none_found image lives id cpu at other is end =
    let root : eqb id image.system.root.id ≡ false = ne_eqb id image.system.root.id other in
    rw (root, is, slice_get_past image.programs at (omega arith)) refl

-- each of 16 programs is found
pub all_found : (image : Image) (lives : List Live) (found : List ProgramIndex) → length found ≡ 16 → ((k : ℕ) (d : ProgramIndex) → k < 16 → ops_at image (get_or found k d).index ≡ ops_in image lives (get_or found k d).owner k) → AreProgramIndices image lives found
all_found image lives found all told = λ cpu p is.
    let P : ProgramIndex → Type 0 = λ x. ops_at image x.index ≡ ops_in image lives x.owner cpu in
    let within = slice_get_within found cpu p is in
    subst P (get_or_from_slice_get found cpu p p is) (told cpu p (omega arith))

-- the program that was found for the cell is the cell's
pub found_at : (image : Image) (lives : List Live) (found : List ProgramIndex) (at cpu id : ℕ) (d : ProgramIndex) → length found ≡ 16 → cpu < 16 → at ≡ cpu → (get_or found at d).owner ≡ id → AreProgramIndices image lives found
    → ops_at image (get_or found at d).index ≡ ops_in image lives id cpu
found_at image lives found at cpu id d all few same owner are =
    let P : ℕ → Type 0 = λ k. slice_get found k ≡ Some (get_or found at d) in
    let Q : ℕ → Type 0 = λ i. ops_at image (get_or found at d).index ≡ ops_in image lives i cpu in
    subst Q owner (are cpu (get_or found at d) (subst P same (slice_get-get_or found at d (omega arith))))

-- the operations of the program at a place are plain
pub well_formed_at : (image : Image) (at : ℕ) (p : Program) → IsAdmitted image → slice_get image.programs at ≡ Some p → All IsWellFormed p.ops
well_formed_at image at p admitted is =
    let P : Program → Type 0 = λ program. All IsWellFormed program.ops in
    subst P (get_or_from_slice_get image.programs at p p is) (admitted.programs at p (slice_get_within image.programs at p is)).well_formed

-- a region of root that is found is in range
found_in_range : (image : Image) (access : Access) (at : ℕ) (o : Option Region) → IsAdmitted image → region_of image.system.root.memory_regions access at ≡ o → IfSome o IsInRange
found_in_range image access at None admitted e = tt
found_in_range image access at (Some r) admitted e =
    let found = IsFound_from_find (gives access at) image.system.root.memory_regions r e in
    All-contains IsEmptyOrInRange image.system.root.memory_regions r (within image admitted) found.among (has_some r at (gives_has access at r found.passes))

pub region_of_in_range : (image : Image) (access : Access) (at : ℕ) (o : Option Region) → IsAdmitted image → o ≡ region_of image.system.root.memory_regions access at → IfSome o IsInRange
region_of_in_range image access at o admitted e = found_in_range image access at o admitted (sym e)

-- a region that has an address has a size, and so lies in range
pub sized_in_range : (at : ℕ) (o : Option Region) → IfSome o IsEmptyOrInRange → IfSome o (λ r. IsTrue (has_address r at)) → IfSome o IsInRange
sized_in_range at None within has = tt
sized_in_range at (Some r) within has = within (has_some r at has)

pub own_in_range : (image : Image) (o : Option Region) → IsAdmitted image → IfSome o (Contains image.system.root.memory_regions) → IfSome o IsEmptyOrInRange
own_in_range image None admitted own = tt
own_in_range image (Some r) admitted own = All-contains IsEmptyOrInRange image.system.root.memory_regions r (within image admitted) own
