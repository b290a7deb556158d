-- One CPU more.
use Rattle.std.proofs.Common.{◌≡◌, ℕ, ◌+◌, ◌&&◌, Bool, true, false, Some, List, get_or, ap, sym, refl, ◌∙◌, arith}
use Rattle.std.specs.Prelude.{slice_get}
use Rattle.std.proofs.lemmas.Option.{get_or_from_slice_get}
use Rattle.jh_cpu.specs.declared.cpu.Cpu.{Cpu}
use Rattle.jh_num.specs.Below.{any_below}
use Rattle.jh_num.proofs.Public.{below_at, below_none, below_more}
use Rattle.jh_history.specs.Lives.{is_on_board}
use Rattle.jh_history.specs.Pages.{is_unfailed_of}
use Rattle.jh_history.proofs.pages.is_any_unfailed.Goals as goal
use Rattle.jh_history.proofs.pages.is_any_unfailed.Goals.{else-is_on_board-via-then-is_on_board+else-is_unfailed_of, else-is_on_board-via-else-is_on_board}

-- the state that stands at a place of the list
read : (cell k n : ℕ) (cpus : List Cpu) (state : ℕ → Cpu) (d : Cpu) (b : Bool) → n ≡ k → slice_get cpus k ≡ Some (state k) → b ≡ is_unfailed_of cell (get_or cpus n d) → is_unfailed_of cell (state k) ≡ b
read cell k n cpus state d b is at e =
    sym (e ∙ ap (λ (m : ℕ). is_unfailed_of cell (get_or cpus m d)) is ∙ ap (is_unfailed_of cell) (get_or_from_slice_get cpus k (state k) d at))

pub loop-i-init : goal.loop-i-init
loop-i-init c = λ state h. below_none (λ i. is_on_board c.args.image.now i && is_unfailed_of c.args.cell (state i)) 0 refl

pub returns-then-is_unfailed_of : goal.returns-then-is_unfailed_of
returns-then-is_unfailed_of c = λ state h.
    let left : is_unfailed_of c.args.cell (state c.loop-i.i) ≡ true = read c.args.cell c.loop-i.i c.from.result c.args.cpus.now state _ c.is_unfailed_of.result c.from.ensures (h c.loop-i.i c.loop-i-test.true) c.is_unfailed_of.ensures ∙ c.if-is_unfailed_of.true in
    let on : is_on_board c.args.image.now c.loop-i.i ≡ true = sym c.is_on_board.ensures ∙ c.if-is_on_board.true in
    sym (below_at (λ i. is_on_board c.args.image.now i && is_unfailed_of c.args.cell (state i)) 16 c.loop-i.i c.loop-i-test.true (rw (on, left) refl))

pub loop-i-preserved : goal.loop-i-preserved
loop-i-preserved c = λ state h.
    let fails : (is_on_board c.args.image.now c.loop-i.i && is_unfailed_of c.args.cell (state c.loop-i.i)) ≡ false = elim c.else-is_on_board.branch [
      | else-is_on_board-via-then-is_on_board+else-is_unfailed_of w ↦ (
          let left : is_unfailed_of c.args.cell (state c.loop-i.i) ≡ false = read c.args.cell c.loop-i.i w.from.result c.args.cpus.now state _ w.is_unfailed_of.result w.from.ensures (h c.loop-i.i c.loop-i-test.true) w.is_unfailed_of.ensures ∙ w.if-is_unfailed_of.false in
          let on : is_on_board c.args.image.now c.loop-i.i ≡ true = sym c.is_on_board.ensures ∙ w.if-is_on_board.true in
          rw (on, left) refl)
      | else-is_on_board-via-else-is_on_board w ↦ (
          let off : is_on_board c.args.image.now c.loop-i.i ≡ false = sym c.is_on_board.ensures ∙ w.if-is_on_board.false in
          rw off refl)
    ] in
    below_more (λ i. is_on_board c.args.image.now i && is_unfailed_of c.args.cell (state i)) c.loop-i.i (c.loop-i.i + 1) (omega arith) (c.loop-i.invariant state h) fails

pub returns : goal.returns
returns c = λ state h.
    let end : c.loop-i.i ≡ 16 = omega arith in
    sym (ap (λ (n : ℕ). any_below (λ i. is_on_board c.args.image.now i && is_unfailed_of c.args.cell (state i)) n) (sym end) ∙ c.loop-i.invariant state h)
