-- Eight marks make the byte that the list makes, since marks and list tell the same.
use Rattle.std.proofs.Common.{◌≡◌, ◌*◌, List, length, [], ◌∷◌, ◌++◌, Bool, sym, ap, ◌∙◌, arith}
use Rattle.jh_spec.specs.Cpus.{bitmap, cpu_byte}
use Rattle.jh_spec.specs.Private.Cpus.{mark_byte, AreMarks}
use Rattle.jh_spec.proofs.Marks.{mark_byte_cpus, bitmap_suc, length_bitmap}
use Rattle.jh_spec.proofs.cpus.bitmap_of.Goals as goal

pub loop-k-init : goal.loop-k-init
unfolding bitmap
loop-k-init c = c.in_ok-bitmap.ensures.items

pub loop-k-preserved : goal.loop-k-preserved
loop-k-preserved c =
    let cpus = c.args.cpus.now in
    let k = c.loop-k.k in
    let marks = c.in-Some.marks.items in
    let are : AreMarks (8 * c.args.bytes) cpus marks = rw c.in-Some.is at c.in_ok-marks.ensures.marked in
    let byte : c.byte_of.result ≡ cpu_byte cpus (8 * k)
    = c.byte_of.ensures ∙ ap (λ (ms : List Bool). mark_byte ms (8 * k)) c.deref.ensures.value ∙ mark_byte_cpus (8 * c.args.bytes) cpus marks (8 * k) are (omega arith) in
    rw c.in_ok-push.ensures.items ((λ i. c.loop-k.invariant i ++ byte i ∷ []) ∙ sym (bitmap_suc k cpus))

pub returns-clause-len : goal.returns-clause-len
returns-clause-len c =
    let all : c.loop-k.k ≡ c.args.bytes = omega arith in
    ap length (c.from_vec.ensures ∙ c.loop-k.invariant) ∙ length_bitmap c.loop-k.k c.args.cpus.now ∙ all
