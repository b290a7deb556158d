-- One CPU more.
use Rattle.std.proofs.Common.{◌≡◌, ◌==◌, ◌&&◌, ◌||◌, ℕ, Bool, false, get_or, ap, sym, subst, refl, ◌∙◌, inl, inr, arith}
use Rattle.std.proofs.lemmas.Bool.{cases_lt, cases_Bool}
use Rattle.std.proofs.lemmas.Nat.Bits.{bit_at-zero}
use Rattle.std.proofs.lemmas.Option.{get_or_from_slice_get}
use Rattle.jh_cpu.specs.declared.cpu.Cpu.{Cpu}
use Rattle.jh_cpu.specs.Changes.{opened}
use Rattle.jh_num.specs.Bits.{has_bit}
use Rattle.jh_history.specs.Facts.{Facts}
use Rattle.jh_history.specs.Lives.{is_on_board}
use Rattle.jh_history.proofs.creation.cpus_of_root.Goals as goal

pub loop-cpu-init : goal.loop-cpu-init
loop-cpu-init c = record {
  done = λ f h k lt. absurd (omega arith);
  rest = λ k l. rw (bit_at-zero k) refl;
}

pub loop-cpu-preserved : goal.loop-cpu-preserved
loop-cpu-preserved c =
    let image = c.args.image.now in
    let cpus = c.args.cpus.now in
    let i = c.loop-cpu.cpu in
    let at : c.from-index.result ≡ i = c.from-index.ensures in
    let others = c.with_bit-owned.ensures.others in
    let owned : Facts → ℕ → Bool = λ f k. is_on_board image k && ((f.cpu k).owner == image.system.root.id) in
    record {
      done = λ f h k lt. elim (cases_lt k i) [
        | inl before ↦ others k (λ e. absurd (omega arith)) ∙ c.loop-cpu.invariant.done f h k before
        | inr from ↦ (
            let e : k ≡ c.from-index.result = omega arith in
            let state : get_or cpus c.from-index.result (opened 0) ≡ f.cpu i = ap (λ (n : ℕ). get_or cpus n (opened 0)) at ∙ get_or_from_slice_get cpus i (f.cpu i) (opened 0) (h i c.loop-cpu-test.true) in
            let is : c.is_of_root.result ≡ owned f i = c.is_of_root.ensures ∙ ap (λ (s : Cpu). is_on_board image i && (s.owner == image.system.root.id)) state in
            let here : has_bit c.with_bit-owned.result c.from-index.result ≡ owned f c.from-index.result =
            c.with_bit-owned.ensures.here
            ∙ ap (λ (b : Bool). b || c.is_of_root.result) (c.loop-cpu.invariant.rest c.from-index.result (omega arith))
            ∙ is
            ∙ ap (owned f) (sym at) in
            subst (λ (n : ℕ). has_bit c.with_bit-owned.result n ≡ owned f n) (sym e) here)
      ];
      rest = λ k l. others k (λ e. absurd (omega arith)) ∙ c.loop-cpu.invariant.rest k (omega arith);
    }

pub returns : goal.returns
returns c = λ f h k. elim (cases_lt k 16) [
  | inl lt ↦ c.loop-cpu.invariant.done f h k (omega arith)
  | inr le ↦ (
      let image = c.args.image.now in
      let off : is_on_board image k ≡ false = elim (cases_Bool (is_on_board image k)) [
        | inl on ↦ absurd (let lt = c.admitted_roots_are_sound.ensures.cpus c.requires k on in omega arith)
        | inr off ↦ off
      ] in
      c.loop-cpu.invariant.rest k (omega arith) ∙ rw off refl)
]
