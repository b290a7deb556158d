-- Bytes that are no object's stop the call.
use Rattle.std.proofs.Common.{List, ℕ, Err, refl, subst, inl, inr}
use Rattle.std.specs.Prelude.{codes}
use Rattle.jh_spec.specs.Specs.{IsSpecAnswer}
use Rattle.jh_spec.specs.declared.fault.JsonFault.TheVariants.{Json}
use Rattle.jh_cli.specs.Limits.{asked_of_a_file}
use Rattle.jh_cli.specs.Pack.{SpecRefusal}
use Rattle.jh_cli.proofs.OrderLemmas.{refuses_one}
use Rattle.jh_cli.proofs.StopLemmas.{refuses}
use Rattle.jh_cli.proofs.pack.spec.Goals as goal

pub returns-in-Err-Json-clause-err : goal.returns-in-Err-Json-clause-err
returns-in-Err-Json-clause-err g c =
    let bytes = c.in_ok-bytes.bytes in
    let told : IsSpecAnswer bytes (Err Json) = subst (λ (b : List ℕ). IsSpecAnswer b (Err Json)) c.as_slice.ensures.value (rw (c.in-Err-Json.is, c.in-Err-Json.field-0-is) at c.read_spec.ensures.told) in
    refuses asked_of_a_file (g.F.Files.contents c.args.files.now) c.args.name.now SpecRefusal bytes (codes "json") c.in_ok-bytes.ensures.ok
    (inr (inl (c.in_ok-bytes.ensures.within, told, refl))) c.refused.result (rw c.as_bytes.ensures.value at c.refused.ensures)

pub returns-in-Err-Json-clause-asked_until : goal.returns-in-Err-Json-clause-asked_until
returns-in-Err-Json-clause-asked_until g c =
    refuses_one g.F.Files c.args.name.now _ c.args.files.now c.read_below.new.files c.refused.result c.in_ok-bytes.ensures.asked c.refused.ensures

pub returns-in-Err-Member-clause-asked_until : goal.returns-in-Err-Member-clause-asked_until
returns-in-Err-Member-clause-asked_until g c =
    refuses_one g.F.Files c.args.name.now _ c.args.files.now c.read_below.new.files c.refused-in-Err-Member.result c.in_ok-bytes.ensures.asked c.refused-in-Err-Member.ensures
