-- What the loops over a board's preloads and programs have read.
use Rattle.std.proofs.Common.{◌≡◌, ℕ, zero, suc, ◌+◌, ◌<◌, ◌≤◌, true, not, ◌==◌, nat_eq, List, [], ◌∷◌, ◌++◌, length, get_or, take, map, Some, refl, sym, ap, subst, ◌∙◌, arith}
use Rattle.std.specs.Prelude.{All, AllPairs, slice_get, IsTrue}
use Rattle.std.specs.List.{list_any}
use Rattle.std.specs.Cmp.Lexicographic.{pointwise}
use Rattle.std.proofs.lemmas.Bool.{false≢true, and_parts, and_from}
use Rattle.std.proofs.lemmas.Bool.Decides.{nat_tests}
use Rattle.std.proofs.lemmas.List.{take_all, take_more, map_push}
use Rattle.std.proofs.lemmas.List.Elements.{All-push}
use Rattle.std.proofs.lemmas.List.Quantifiers.{all_pairs_push}
use Rattle.std.proofs.lemmas.List.Folds.{list_any_at}
use Rattle.std.proofs.lemmas.Option.{slice_get_read}
use Rattle.jh_cellcfg.specs.declared.config.SystemConfig.{SystemConfig}
use Rattle.jh_script.specs.declared.image.Preload.{Preload}
use Rattle.jh_script.specs.declared.image.Program.{Program}
use Rattle.jh_history.specs.Lives.{is_program_of}
use Rattle.jh_history.specs.Admitted.{IsSoundPreload, IsOtherPreload, IsSoundProgram, IsOtherProgram}
use Rattle.jh_image.specs.declared.board.Listing.{Listing}
use Rattle.jh_image.specs.declared.board.PreloadFile.{PreloadFile}
use Rattle.jh_image.specs.declared.board.ProgramFile.{ProgramFile}
use Rattle.jh_image.specs.Boards.{NamedCpu, named_cpu_of, is_same_cpu, are_distinct}
use Rattle.jh_image.specs.Preloads.{IsFaultless}
use Rattle.jh_image.specs.Files.{Contents, IsPreloadOf, IsProgramOf}
use Rattle.jh_image.specs.Images.{with_system, so_far_of, with_preload, with_program, IsNextPreload, IsComplete, IsNextProgram, reads_preload, reads_program, ReadsTo, one_more_read}

-- the front of a list with one item more
front_more : {X : Type 0} (xs : List X) (i : ℕ) (x : X) → i < length xs → x ≡ get_or xs i x → take i xs ++ x ∷ [] ≡ take (i + 1) xs
front_more xs i x lt is = ap (λ y. take i xs ++ y ∷ []) is ∙ sym (take_more xs i x lt)

-- ---- preloads

pub record LoadedSoFar (contents : Contents) (board : List ℕ) (listing : Listing) (system : SystemConfig) (count : ℕ) (preloads : List Preload) : Type 0 where
  pub count_is : length preloads ≡ count
  pub within : count ≤ length listing.preloads
  pub read : ReadsTo contents board (with_system (so_far_of listing system preloads []))
  pub sound : All (IsSoundPreload system.platform.hypervisor_memory) preloads
  pub apart : AllPairs IsOtherPreload preloads

pub loaded_start : (contents : Contents) (board : List ℕ) (listing : Listing) (system : SystemConfig) → ReadsTo contents board (with_system (so_far_of listing system [] [])) → LoadedSoFar contents board listing system 0 []
loaded_start contents board listing system read = record {
  count_is = refl;
  within = omega arith;
  read = read;
  sound = λ k d lt. absurd (omega arith);
  apart = λ i j d lt within. absurd (omega arith);
}

length_more : {X : Type 0} (xs : List X) (x : X) (n : ℕ) → length xs ≡ n → length (xs ++ x ∷ []) ≡ n + 1
length_more [] x n e = omega arith
length_more (y ∷ ys) x n e = let rest = length_more ys x (length ys) refl in omega arith

-- the file behind those that are read
file_next : {X : Type 0} (files : List X) (i n : ℕ) (file : X) → n ≡ i → i < length files → file ≡ get_or files i file → slice_get files n ≡ Some file
file_next files i n file count lt is = subst (λ k. slice_get files k ≡ Some file) (sym count) (slice_get_read files (length files) i file refl lt is)

pub loaded_next : (contents : Contents) (board : List ℕ) (listing : Listing) (system : SystemConfig) (i : ℕ) (file : PreloadFile) (preloads : List Preload) → i < length listing.preloads → file ≡ get_or listing.preloads i file
    → LoadedSoFar contents board listing system i preloads → IsNextPreload (so_far_of listing system preloads []) file
loaded_next contents board listing system i file preloads lt is so_far = file_next listing.preloads i (length preloads) file so_far.count_is lt is

pub loaded_more : (contents : Contents) (board : List ℕ) (listing : Listing) (system : SystemConfig) (i : ℕ) (file : PreloadFile) (preloads : List Preload) (preload : Preload) → i < length listing.preloads → file ≡ get_or listing.preloads i file
    → IsPreloadOf contents file preload → IsFaultless system.platform.hypervisor_memory preloads preload → LoadedSoFar contents board listing system i preloads → LoadedSoFar contents board listing system (i + 1) (preloads ++ preload ∷ [])
loaded_more contents board listing system i file preloads preload lt is of fit so_far =
    let before = so_far_of listing system preloads [] in
    record {
      count_is = length_more preloads preload i so_far.count_is;
      within = omega arith;
      read = one_more_read (with_system before) (with_system (with_preload before preload)) so_far.read (reads_preload before file preload (loaded_next contents board listing system i file preloads lt is so_far) of fit);
      sound = All-push (IsSoundPreload system.platform.hypervisor_memory) preloads preload so_far.sound fit.sound;
      apart = all_pairs_push IsOtherPreload preloads preload so_far.apart (λ k d within. fit.apart k d within);
    }

pub loaded_all : (contents : Contents) (board : List ℕ) (listing : Listing) (system : SystemConfig) (i : ℕ) (preloads : List Preload) → length listing.preloads ≤ i → LoadedSoFar contents board listing system i preloads → length preloads ≡ length listing.preloads
loaded_all contents board listing system i preloads le so_far =
    let count : length preloads ≡ i = so_far.count_is in
    let within : i ≤ length listing.preloads = so_far.within in
    omega arith

-- ---- programs

abbrev pub program_cpu : Program → NamedCpu
program_cpu program = record { cell = program.cell; cpu = program.cpu }

pub record ProgramsSoFar (contents : Contents) (board : List ℕ) (listing : Listing) (system : SystemConfig) (preloads : List Preload) (count : ℕ) (programs : List Program) : Type 0 where
  pub count_is : length programs ≡ count
  pub within : count ≤ length listing.programs
  pub read : ReadsTo contents board (with_system (so_far_of listing system preloads programs))
  pub sound : All IsSoundProgram programs
  pub cpus : map program_cpu programs ≡ map named_cpu_of (take count listing.programs)

pub programs_start : (contents : Contents) (board : List ℕ) (listing : Listing) (system : SystemConfig) (preloads : List Preload) → ReadsTo contents board (with_system (so_far_of listing system preloads []))
    → ProgramsSoFar contents board listing system preloads 0 []
programs_start contents board listing system preloads read = record {
  count_is = refl;
  within = omega arith;
  read = read;
  sound = λ k d lt. absurd (omega arith);
  cpus = refl;
}

program_cpu_is : (contents : Contents) (file : ProgramFile) (program : Program) → IsProgramOf contents file program → program_cpu program ≡ named_cpu_of file
program_cpu_is contents file program of = λ i. record { cell = of.cell i; cpu = of.cpu i }

pub programs_next : (contents : Contents) (board : List ℕ) (listing : Listing) (system : SystemConfig) (preloads : List Preload) (i : ℕ) (file : ProgramFile) (programs : List Program) → length preloads ≡ length listing.preloads
    → i < length listing.programs → file ≡ get_or listing.programs i file → ProgramsSoFar contents board listing system preloads i programs → IsNextProgram (so_far_of listing system preloads programs) file
programs_next contents board listing system preloads i file programs all lt is so_far = record {
  preloads = all;
  next = file_next listing.programs i (length programs) file so_far.count_is lt is;
}

pub programs_more : (contents : Contents) (board : List ℕ) (listing : Listing) (system : SystemConfig) (preloads : List Preload) (i : ℕ) (file : ProgramFile) (programs : List Program) (program : Program) → length preloads ≡ length listing.preloads
    → i < length listing.programs → file ≡ get_or listing.programs i file → IsProgramOf contents file program → IsSoundProgram program
    → ProgramsSoFar contents board listing system preloads i programs → ProgramsSoFar contents board listing system preloads (i + 1) (programs ++ program ∷ [])
programs_more contents board listing system preloads i file programs program all lt is of sound so_far =
    let files = listing.programs in
    let before = so_far_of listing system preloads programs in
    record {
      count_is = length_more programs program i so_far.count_is;
      within = omega arith;
      read = one_more_read (with_system before) (with_system (with_program before program)) so_far.read (reads_program before file program (programs_next contents board listing system preloads i file programs all lt is so_far) of);
      sound = All-push IsSoundProgram programs program so_far.sound sound;
      cpus = map_push program_cpu programs program ∙ ap (λ ss. ss ++ program_cpu program ∷ []) so_far.cpus ∙ ap (λ s. map named_cpu_of (take i files) ++ s ∷ []) (program_cpu_is contents file program of)
          ∙ sym (map_push named_cpu_of (take i files) file) ∙ ap (map named_cpu_of) (front_more files i file lt is);
    }

pub programs_all : (contents : Contents) (board : List ℕ) (listing : Listing) (system : SystemConfig) (preloads : List Preload) (i : ℕ) (programs : List Program) → length preloads ≡ length listing.preloads → length listing.programs ≤ i
    → ProgramsSoFar contents board listing system preloads i programs → IsComplete (so_far_of listing system preloads programs)
programs_all contents board listing system preloads i programs all le so_far =
    let count : length programs ≡ i = so_far.count_is in
    let within : i ≤ length listing.programs = so_far.within in
    let programs_all : length programs ≡ length listing.programs = omega arith in
    record { preloads = all; programs = programs_all }

-- ---- programs of different CPUs

eq_swap : (a b : ℕ) → (a == b) ≡ true → (b == a) ≡ true
eq_swap a b h = grind (arith, nat_tests)

pointwise_swap : (a b : List ℕ) → pointwise nat_eq a b ≡ true → pointwise nat_eq b a ≡ true
pointwise_swap [] [] h = refl
pointwise_swap [] (y ∷ ys) h = absurd (false≢true h)
pointwise_swap (x ∷ xs) [] h = absurd (false≢true h)
pointwise_swap (x ∷ xs) (y ∷ ys) h =
    and_from (nat_eq y x) (pointwise nat_eq ys xs) (eq_swap x y ((and_parts (nat_eq x y) (pointwise nat_eq xs ys) h).0)) (pointwise_swap xs ys ((and_parts (nat_eq x y) (pointwise nat_eq xs ys) h).1))

-- a program of the CPU and cell of another is of the same CPU of the same cell
program_cpus_agree : (p q : Program) → IsTrue (is_program_of p.cell p.cpu q) → is_same_cpu (program_cpu p) (program_cpu q) ≡ true
program_cpus_agree p q h =
    and_from (pointwise nat_eq p.cell q.cell) (p.cpu == q.cpu)
    (pointwise_swap q.cell p.cell ((and_parts (pointwise nat_eq q.cell p.cell) (q.cpu == p.cpu) h).0))
    (eq_swap q.cpu p.cpu ((and_parts (pointwise nat_eq q.cell p.cell) (q.cpu == p.cpu) h).1))

-- no CPU of a cell stands again behind itself
cpu_once : (cpus : List NamedCpu) → are_distinct cpus ≡ true → (i j : ℕ) (d : NamedCpu) → i < j → j < length cpus → is_same_cpu (get_or cpus i d) (get_or cpus j d) ≡ true → ⊥
unfolding are_distinct
cpu_once [] h i j d lt within same = omega arith
cpu_once (cpu ∷ cpus) h zero zero d lt within same = omega arith
cpu_once (cpu ∷ cpus) h zero (suc j) d lt within same =
    let found : list_any (is_same_cpu cpu) cpus ≡ true = list_any_at (is_same_cpu cpu) cpus j d (omega arith) same in
    false≢true (sym (ap not found) ∙ (and_parts (not (list_any (is_same_cpu cpu) cpus)) (are_distinct cpus) h).0)
cpu_once (cpu ∷ cpus) h (suc i) zero d lt within same = omega arith
cpu_once (cpu ∷ cpus) h (suc i) (suc j) d lt within same = cpu_once cpus ((and_parts (not (list_any (is_same_cpu cpu) cpus)) (are_distinct cpus) h).1) i j d (omega arith) (omega arith) same

get_program_cpu : (programs : List Program) (i : ℕ) (d : Program) → get_or (map program_cpu programs) i (program_cpu d) ≡ program_cpu (get_or programs i d)
get_program_cpu [] i d = refl
get_program_cpu (p ∷ ps) zero d = refl
get_program_cpu (p ∷ ps) (suc i) d = get_program_cpu ps i d

length_program_cpus : (programs : List Program) → length (map program_cpu programs) ≡ length programs
length_program_cpus [] = refl
length_program_cpus (p ∷ ps) = ap suc (length_program_cpus ps)

pub cpus_owned : (programs : List Program) → are_distinct (map program_cpu programs) ≡ true → AllPairs IsOtherProgram programs
cpus_owned programs h i j d lt within taken =
    let same = program_cpus_agree (get_or programs i d) (get_or programs j d) taken in
    let first : is_same_cpu (get_or (map program_cpu programs) i (program_cpu d)) (program_cpu (get_or programs j d)) ≡ true = subst (λ s. is_same_cpu s (program_cpu (get_or programs j d)) ≡ true) (sym (get_program_cpu programs i d)) same in
    let both : is_same_cpu (get_or (map program_cpu programs) i (program_cpu d)) (get_or (map program_cpu programs) j (program_cpu d)) ≡ true = subst (λ s. is_same_cpu (get_or (map program_cpu programs) i (program_cpu d)) s ≡ true) (sym (get_program_cpu programs j d)) first in
    let inside : j < length (map program_cpu programs) = subst (λ n. j < n) (sym (length_program_cpus programs)) within in
    cpu_once (map program_cpu programs) h i j (program_cpu d) lt inside both

pub programs_owned : (contents : Contents) (board : List ℕ) (listing : Listing) (system : SystemConfig) (preloads : List Preload) (i : ℕ) (programs : List Program) → length listing.programs ≤ i → are_distinct (map named_cpu_of listing.programs) ≡ true
    → ProgramsSoFar contents board listing system preloads i programs → AllPairs IsOtherProgram programs
programs_owned contents board listing system preloads i programs le h so_far =
    let same : map program_cpu programs ≡ map named_cpu_of listing.programs = so_far.cpus ∙ ap (map named_cpu_of) (take_all i listing.programs le) in
    cpus_owned programs (ap are_distinct same ∙ h)
