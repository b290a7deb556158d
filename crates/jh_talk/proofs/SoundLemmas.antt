-- The programs of a talk are within their limits.
use Rattle.std.proofs.Common.{◌≡◌, ℕ, zero, suc, ◌+◌, ◌*◌, ◌^◌, ◌<◌, ◌≤◌, List, [], ◌∷◌, ◌++◌, Option, Some, None, slice_get, length, refl, subst, inl, inr, arith, length-append}
use Rattle.std.specs.List.{All}
use Rattle.std.proofs.lemmas.Bool.{cases_lt, lt-ltb, le-ltb}
use Rattle.std.proofs.lemmas.List.Elements.{All-nil, All-append, All-from_recursion}
use Rattle.std.proofs.lemmas.Option.{get_or_from_slice_get, slice_get_within}
use Rattle.jh_script.specs.declared.op.Op.{Op}
use Rattle.jh_script.specs.declared.op.Op.TheVariants.{Read, Write, Await, Irq, Hvc}
use Rattle.jh_script.specs.Operations.{IsWellFormed}
use Rattle.jh_talk.specs.declared.messages.Messages.{Messages}
use Rattle.jh_talk.specs.declared.side.Side.{Side}
use Rattle.jh_talk.specs.Programs.{setup_ops, tell_ops, hear_ops, ring_op, leader_round, follower_round, rounds_from, round_count, leader_start, follower_start, leader_ops, follower_ops}
use Rattle.jh_talk.specs.Private.Sides.{AreNumbers, HasRoom}

-- ---- each operation is within its limits

-- a message of the list is a number of 64 bits
message_small : (numbers : List ℕ) (i n : ℕ) → AreNumbers numbers → slice_get numbers i ≡ Some n → n < 2 ^ 64
message_small numbers i n small at =
    let below = slice_get_within numbers i n at in
    let Small : ℕ → Type 0 = λ m. m < 2 ^ 64 in
    subst Small (get_or_from_slice_get numbers i n 0 at) (small i 0 below)

tell_sound : (side : Side) (o : Option ℕ) → ((n : ℕ) → o ≡ Some n → n < 2 ^ 64) → All IsWellFormed (tell_ops side o)
tell_sound side None small = All-nil IsWellFormed
tell_sound side (Some n) small = let below = small n refl in All-from_recursion IsWellFormed (Write 8 side.out n ∷ []) ((refl, omega arith), tt)

hear_sound : (side : Side) (o : Option ℕ) → All IsWellFormed (hear_ops side o)
hear_sound side None = All-nil IsWellFormed
hear_sound side (Some n) = All-from_recursion IsWellFormed (Read 8 side.peer ∷ []) (refl, tt)

setup_sound : (side : Side) → HasRoom side → All IsWellFormed (setup_ops side)
setup_sound side room =
    let window = room.window in
    All-from_recursion IsWellFormed (setup_ops side)
    ((refl, omega arith), ((refl, omega arith), ((refl, omega arith), ((refl, omega arith), ((refl, omega arith), ((refl, omega arith), tt))))))

leader_round_sound : (side : Side) (messages : Messages) → HasRoom side → AreNumbers messages.sends → (i : ℕ) → All IsWellFormed (leader_round side messages i)
leader_round_sound side messages room sends i =
    let ring = room.ring in
    let told = slice_get messages.sends i in
    let heard = slice_get messages.replies i in
    let ends : All IsWellFormed (ring_op side ∷ Irq ∷ []) = All-from_recursion IsWellFormed (ring_op side ∷ Irq ∷ []) ((refl, omega arith), (tt, tt)) in
    All-append IsWellFormed (tell_ops side told) (ring_op side ∷ Irq ∷ hear_ops side heard) (tell_sound side told (λ n. message_small messages.sends i n sends))
    (All-append IsWellFormed (ring_op side ∷ Irq ∷ []) (hear_ops side heard) ends (hear_sound side heard))

follower_round_sound : (side : Side) (messages : Messages) → HasRoom side → AreNumbers messages.replies → (i : ℕ) → All IsWellFormed (follower_round side messages i)
follower_round_sound side messages room replies i =
    let ring = room.ring in
    let heard = slice_get messages.sends i in
    let told = slice_get messages.replies i in
    let begins : All IsWellFormed (Irq ∷ []) = All-from_recursion IsWellFormed (Irq ∷ []) (tt, tt) in
    let ends : All IsWellFormed (ring_op side ∷ []) = All-from_recursion IsWellFormed (ring_op side ∷ []) ((refl, omega arith), tt) in
    All-append IsWellFormed (Irq ∷ hear_ops side heard) (tell_ops side told ++ ring_op side ∷ [])
    (All-append IsWellFormed (Irq ∷ []) (hear_ops side heard) begins (hear_sound side heard))
    (All-append IsWellFormed (tell_ops side told) (ring_op side ∷ []) (tell_sound side told (λ n. message_small messages.replies i n replies)) ends)

rounds_sound : (round : ℕ → List Op) → ((i : ℕ) → All IsWellFormed (round i)) → (i count : ℕ) → All IsWellFormed (rounds_from round i count)
unfolding rounds_from
rounds_sound round each i zero = All-nil IsWellFormed
rounds_sound round each i (suc count) = All-append IsWellFormed (round i) (rounds_from round (i + 1) count) (each i) (rounds_sound round each (i + 1) count)

leader_start_sound : (side : Side) (place id state : ℕ) → HasRoom side → All IsWellFormed (leader_start side place id state)
leader_start_sound side place id state room =
    let calls : List Op = Hvc 1 place 0 ∷ Hvc 2 id 0 ∷ [] in
    let wait : List Op = Await 4 state 1 ∷ [] in
    All-append IsWellFormed (calls ++ setup_ops side) wait
    (All-append IsWellFormed calls (setup_ops side) (All-from_recursion IsWellFormed calls (tt, (tt, tt))) (setup_sound side room))
    (All-from_recursion IsWellFormed wait ((refl, omega arith), tt))

follower_start_sound : (side : Side) → HasRoom side → All IsWellFormed (follower_start side)
follower_start_sound side room =
    let state : List Op = Write 4 (side.window + 0x10) 0x1 ∷ [] in
    All-append IsWellFormed (setup_ops side) state (setup_sound side room) (All-from_recursion IsWellFormed state ((refl, omega arith), tt))

pub leader_sound : (side : Side) (place id state : ℕ) (messages : Messages) → HasRoom side → AreNumbers messages.sends → All IsWellFormed (leader_ops side place id state messages)
unfolding leader_ops
leader_sound side place id state messages room sends =
    All-append IsWellFormed (leader_start side place id state) (rounds_from (leader_round side messages) 0 (round_count messages)) (leader_start_sound side place id state room)
    (rounds_sound (leader_round side messages) (leader_round_sound side messages room sends) 0 (round_count messages))

pub follower_sound : (side : Side) (messages : Messages) → HasRoom side → AreNumbers messages.replies → All IsWellFormed (follower_ops side messages)
unfolding follower_ops
follower_sound side messages room replies =
    All-append IsWellFormed (follower_start side) (rounds_from (follower_round side messages) 0 (round_count messages)) (follower_start_sound side room)
    (rounds_sound (follower_round side messages) (follower_round_sound side messages room replies) 0 (round_count messages))

-- ---- they are few

tell_few : (side : Side) (o : Option ℕ) → length (tell_ops side o) ≤ 1
tell_few side None = omega arith
tell_few side (Some n) = omega arith

hear_few : (side : Side) (o : Option ℕ) → length (hear_ops side o) ≤ 1
hear_few side None = omega arith
hear_few side (Some n) = omega arith

leader_round_few : (side : Side) (messages : Messages) (i : ℕ) → length (leader_round side messages i) ≤ 4
leader_round_few side messages i =
    let told = slice_get messages.sends i in
    let heard = slice_get messages.replies i in
    let whole = length-append (tell_ops side told) (ring_op side ∷ Irq ∷ hear_ops side heard) in
    let tell = tell_few side told in
    let hear = hear_few side heard in
    omega arith

follower_round_few : (side : Side) (messages : Messages) (i : ℕ) → length (follower_round side messages i) ≤ 4
follower_round_few side messages i =
    let heard = slice_get messages.sends i in
    let told = slice_get messages.replies i in
    let whole = length-append (Irq ∷ hear_ops side heard) (tell_ops side told ++ ring_op side ∷ []) in
    let part = length-append (tell_ops side told) (ring_op side ∷ []) in
    let tell = tell_few side told in
    let hear = hear_few side heard in
    omega arith

rounds_few : (round : ℕ → List Op) → ((i : ℕ) → length (round i) ≤ 4) → (i count : ℕ) → length (rounds_from round i count) ≤ 4 * count
unfolding rounds_from
rounds_few round each i zero = omega arith
rounds_few round each i (suc count) =
    let whole = length-append (round i) (rounds_from round (i + 1) count) in
    let rest = rounds_few round each (i + 1) count in
    let one = each i in
    omega arith

count_few : (messages : Messages) → length messages.sends ≤ 1000 → length messages.replies ≤ 1000 → round_count messages ≤ 1000
count_few messages sends replies = elim (cases_lt (length messages.sends) (length messages.replies)) [
  | inl l ↦ rw (lt-ltb (length messages.sends) (length messages.replies) l) replies
  | inr g ↦ rw (le-ltb (length messages.sends) (length messages.replies) g) sends
]

pub leader_few : (side : Side) (place id state : ℕ) (messages : Messages) → length messages.sends ≤ 1000 → length messages.replies ≤ 1000 → length (leader_ops side place id state messages) ≤ 4096
unfolding leader_ops
leader_few side place id state messages sends replies =
    let rounds = rounds_from (leader_round side messages) 0 (round_count messages) in
    let whole = length-append (leader_start side place id state) rounds in
    let start : length (leader_start side place id state) ≡ 9 = refl in
    let each = rounds_few (leader_round side messages) (leader_round_few side messages) 0 (round_count messages) in
    let few = count_few messages sends replies in
    omega arith

pub follower_few : (side : Side) (messages : Messages) → length messages.sends ≤ 1000 → length messages.replies ≤ 1000 → length (follower_ops side messages) ≤ 4096
unfolding follower_ops
follower_few side messages sends replies =
    let rounds = rounds_from (follower_round side messages) 0 (round_count messages) in
    let whole = length-append (follower_start side) rounds in
    let start : length (follower_start side) ≡ 7 = refl in
    let each = rounds_few (follower_round side messages) (follower_round_few side messages) 0 (round_count messages) in
    let few = count_few messages sends replies in
    omega arith
