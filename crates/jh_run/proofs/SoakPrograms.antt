-- The programs of the board of `soak` are within their limits, and of four CPUs.
use Rattle.std.proofs.Common.{◌≡◌, ℕ, zero, suc, ◌+◌, ◌*◌, ◌≤◌, [], ◌∷◌, ◌++◌, length, refl, arith}
use Rattle.std.specs.Prelude.{All, AllPairs, codes}
use Rattle.std.proofs.lemmas.List.{length-append}
use Rattle.std.proofs.lemmas.List.Elements.{All-nil, All-cons, All-append, All-from_recursion}
use Rattle.std.proofs.lemmas.List.Kept.{AllPairs-cons}
use Rattle.std.proofs.lemmas.Bool.{false≢true}
use Rattle.jh_script.specs.declared.op.Op.{Op}
use Rattle.jh_script.specs.declared.op.Op.TheVariants.{Read, Write}
use Rattle.jh_script.specs.Operations.{IsWellFormed}
use Rattle.jh_history.specs.Admitted.{IsSoundProgram, IsOtherProgram}
use Rattle.jh_run.specs.Soak.{number_writes, number_reads, round_ops, rounds_ops, beside_ops, answer_ops, ops_a, ops_b, program, programs_of}

-- ---- each operation is plain

one : (op : Op) → IsWellFormed op → All IsWellFormed (op ∷ [])
one op is = All-cons IsWellFormed op [] is (All-nil IsWellFormed)

writes_well_formed : (base first n : ℕ) → first + n ≤ 512 → All IsWellFormed (number_writes base first n)
unfolding number_writes
writes_well_formed base first zero h = All-nil IsWellFormed
writes_well_formed base first (suc n) h =
    All-append IsWellFormed (number_writes base first n) (Write 8 (base + 8 * (first + n)) (first + n) ∷ []) (writes_well_formed base first n (omega arith))
    (one (Write 8 (base + 8 * (first + n)) (first + n)) (refl, omega arith))

reads_well_formed : (base n : ℕ) → All IsWellFormed (number_reads base n)
unfolding number_reads
reads_well_formed base zero = All-nil IsWellFormed
reads_well_formed base (suc n) = All-append IsWellFormed (number_reads base n) (Read 8 (base + 8 * n) ∷ []) (reads_well_formed base n) (one (Read 8 (base + 8 * n)) refl)

round_well_formed : (r : ℕ) → r ≤ 400 → All IsWellFormed (round_ops r)
round_well_formed r h = All-from_recursion IsWellFormed (round_ops r) (tt, (tt, (tt, ((refl, omega arith), (tt, (tt, (tt, (tt, (refl, tt)))))))))

rounds_well_formed : (n : ℕ) → n ≤ 400 → All IsWellFormed (rounds_ops n)
unfolding rounds_ops
rounds_well_formed zero h = All-nil IsWellFormed
rounds_well_formed (suc n) h = All-append IsWellFormed (rounds_ops n) (round_ops (n + 1)) (rounds_well_formed n (omega arith)) (round_well_formed (n + 1) (omega arith))

answer_well_formed : (message reply : ℕ) → message ≤ 16 → reply ≤ 16 → All IsWellFormed (answer_ops message reply)
answer_well_formed message reply h k = All-from_recursion IsWellFormed (answer_ops message reply) ((refl, omega arith), ((refl, omega arith), tt))

-- ---- they are few

writes_few : (base first n : ℕ) → length (number_writes base first n) ≡ n
unfolding number_writes
writes_few base first zero = refl
writes_few base first (suc n) =
    let rest = length-append (number_writes base first n) (Write 8 (base + 8 * (first + n)) (first + n) ∷ []) in
    let before = writes_few base first n in
    omega arith

reads_few : (base n : ℕ) → length (number_reads base n) ≡ n
unfolding number_reads
reads_few base zero = refl
reads_few base (suc n) =
    let rest = length-append (number_reads base n) (Read 8 (base + 8 * n) ∷ []) in
    let before = reads_few base n in
    omega arith

rounds_few : (n : ℕ) → length (rounds_ops n) ≡ 9 * n
unfolding rounds_ops
rounds_few zero = refl
rounds_few (suc n) =
    let rest = length-append (rounds_ops n) (round_ops (n + 1)) in
    let before = rounds_few n in
    omega arith

-- ---- the four programs

first_sound : (n : ℕ) → n ≤ 400 → IsSoundProgram (program (codes "soak") 0 (rounds_ops n))
first_sound n h =
    let few = rounds_few n in
    record { few = omega arith; well_formed = rounds_well_formed n h }

beside_sound : IsSoundProgram (program (codes "soak") 1 beside_ops)
unfolding beside_ops
beside_sound =
    let whole = length-append (number_writes 0x40000000 0 256) (number_reads 0x40000000 256) in
    let writes = writes_few 0x40000000 0 256 in
    let reads = reads_few 0x40000000 256 in
    record {
      few = omega arith;
      well_formed = All-append IsWellFormed (number_writes 0x40000000 0 256) (number_reads 0x40000000 256) (writes_well_formed 0x40000000 0 256 (omega arith)) (reads_well_formed 0x40000000 256);
    }

a_sound : IsSoundProgram (program (codes "a") 2 ops_a)
unfolding ops_a
a_sound =
    let front = Read 8 0 ∷ [] ++ number_writes 0 1 16 in
    let whole = length-append front (answer_ops 1 3) in
    let part = length-append (Read 8 0 ∷ []) (number_writes 0 1 16) in
    let writes = writes_few 0 1 16 in
    record {
      few = omega arith;
      well_formed = All-append IsWellFormed front (answer_ops 1 3)
          (All-append IsWellFormed (Read 8 0 ∷ []) (number_writes 0 1 16) (one (Read 8 0) refl) (writes_well_formed 0 1 16 (omega arith))) (answer_well_formed 1 3 (omega arith) (omega arith));
    }

b_sound : IsSoundProgram (program (codes "b") 3 ops_b)
unfolding ops_b
b_sound =
    let front = number_writes 0 1 16 ++ answer_ops 2 4 in
    let whole = length-append front (answer_ops 1 3) in
    let part = length-append (number_writes 0 1 16) (answer_ops 2 4) in
    let writes = writes_few 0 1 16 in
    record {
      few = omega arith;
      well_formed = All-append IsWellFormed front (answer_ops 1 3)
          (All-append IsWellFormed (number_writes 0 1 16) (answer_ops 2 4) (writes_well_formed 0 1 16 (omega arith)) (answer_well_formed 2 4 (omega arith) (omega arith))) (answer_well_formed 1 3 (omega arith) (omega arith));
    }

pub programs_sound : (n : ℕ) → n ≤ 400 → All IsSoundProgram (programs_of n)
unfolding programs_of
programs_sound n h = All-from_recursion IsSoundProgram (programs_of n) (first_sound n h, (beside_sound, (a_sound, (b_sound, tt))))

-- ---- of four CPUs

no_pairs : AllPairs IsOtherProgram []
no_pairs i j d lt within = absurd (omega arith)

pub programs_owned : (n : ℕ) → AllPairs IsOtherProgram (programs_of n)
unfolding programs_of
programs_owned n =
    let rounds = program (codes "soak") 0 (rounds_ops n) in
    let beside = program (codes "soak") 1 beside_ops in
    let a = program (codes "a") 2 ops_a in
    let b = program (codes "b") 3 ops_b in
    AllPairs-cons IsOtherProgram rounds (beside ∷ a ∷ b ∷ []) (All-from_recursion (IsOtherProgram rounds) (beside ∷ a ∷ b ∷ []) (false≢true, (false≢true, (false≢true, tt))))
    (AllPairs-cons IsOtherProgram beside (a ∷ b ∷ []) (All-from_recursion (IsOtherProgram beside) (a ∷ b ∷ []) (false≢true, (false≢true, tt)))
    (AllPairs-cons IsOtherProgram a (b ∷ []) (All-from_recursion (IsOtherProgram a) (b ∷ []) (false≢true, tt))
    (AllPairs-cons IsOtherProgram b [] (All-nil (IsOtherProgram b)) no_pairs)))
