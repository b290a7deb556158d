-- The configurations that are loaded on the board of `soak` lie apart, and outside the hypervisor's memory.
use Rattle.std.proofs.Common.{◌≡◌, ℕ, ◌+◌, ◌≤◌, [], ◌∷◌, length, refl, arith}
use Rattle.std.specs.Prelude.{All, AllPairs, IsTrue, ◌&&◌, nat_le, nat_lt}
use Rattle.std.proofs.lemmas.Bool.Decides.{nat_tests}
use Rattle.std.proofs.lemmas.List.Elements.{All-nil, All-from_recursion}
use Rattle.std.proofs.lemmas.List.Kept.{AllPairs-cons}
use Rattle.jh_cellcfg.specs.Spelling.{spelling}
use Rattle.jh_history.specs.Admitted.{IsSoundPreload, IsOtherPreload}
use Rattle.jh_run.specs.Soak.{soak_system, cell_a, cell_b, preload}

size_a : length (spelling cell_a) ≡ 204
unfolding cell_a
size_a = refl

size_b : length (spelling cell_b) ≡ 204
unfolding cell_b
size_b = refl

-- no place lies both above one number and below a lower one
apart : (low top other place : ℕ) → top ≤ other → IsTrue (nat_le low place && nat_lt place top) → (end : ℕ) → IsTrue (nat_le other place && nat_lt place end) → ⊥
apart low top other place h one end more = grind (arith, nat_tests)

a_sound : IsSoundPreload soak_system.platform.hypervisor_memory (preload 0x48000000 cell_a)
unfolding soak_system
a_sound = record {
  within = rw size_a (omega arith);
  clear = λ place hyper mine. apart 0x48000000 (0x48000000 + length (spelling cell_a)) 0x7fc00000 place (rw size_a (omega arith)) mine 0x80000000 hyper;
}

b_sound : IsSoundPreload soak_system.platform.hypervisor_memory (preload 0x48010000 cell_b)
unfolding soak_system
b_sound = record {
  within = rw size_b (omega arith);
  clear = λ place hyper mine. apart 0x48010000 (0x48010000 + length (spelling cell_b)) 0x7fc00000 place (rw size_b (omega arith)) mine 0x80000000 hyper;
}

pub preloads_sound : All (IsSoundPreload soak_system.platform.hypervisor_memory) (preload 0x48000000 cell_a ∷ preload 0x48010000 cell_b ∷ [])
preloads_sound = All-from_recursion (IsSoundPreload soak_system.platform.hypervisor_memory) (preload 0x48000000 cell_a ∷ preload 0x48010000 cell_b ∷ []) (a_sound, (b_sound, tt))

no_pairs : AllPairs IsOtherPreload []
no_pairs i j d lt within = absurd (omega arith)

pub preloads_apart : AllPairs IsOtherPreload (preload 0x48000000 cell_a ∷ preload 0x48010000 cell_b ∷ [])
preloads_apart =
    let a = preload 0x48000000 cell_a in
    let b = preload 0x48010000 cell_b in
    AllPairs-cons IsOtherPreload a (b ∷ [])
    (All-from_recursion (IsOtherPreload a) (b ∷ []) ((λ place one more. apart 0x48000000 (0x48000000 + length (spelling cell_a)) 0x48010000 place (rw size_a (omega arith)) one (0x48010000 + length (spelling cell_b)) more), tt))
    (AllPairs-cons IsOtherPreload b [] (All-nil (IsOtherPreload b)) no_pairs)
