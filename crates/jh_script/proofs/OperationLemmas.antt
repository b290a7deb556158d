-- The operations that lines tell are within their limits.
use Rattle.std.proofs.Common.{◌≡◌, ◌^◌, ◌%◌, Bool, true, false, cond, ltb, Option, Some, None, refl}
use Rattle.std.proofs.lemmas.Bool.{lt-ltb, eq-eqb, ltb-true, eqb-true, and_parts, and_from}
use Rattle.jh_script.specs.declared.op.Op.{Op}
use Rattle.jh_script.specs.declared.op.Op.TheVariants.{Read, Write, Fetch, Await, Irq, Hvc}
use Rattle.jh_script.specs.declared.line.Line.TheVariants.{Operation, Width}
use Rattle.jh_script.specs.Operations.{IsWellFormed, is_well_formed, is_width, line_of_op}
use Rattle.jh_script.specs.Private.Lines.{IsWellFormedLine}

pub well_formed_by_test : (op : Op) → is_well_formed op ≡ true → IsWellFormed op
unfolding is_well_formed
well_formed_by_test (Read width at) h = h
well_formed_by_test (Write width at value) h =
    let parts = and_parts (is_width width) (ltb value (256 ^ width)) h in
    (parts.0, ltb-true value (256 ^ width) parts.1)
well_formed_by_test (Fetch at) h = eqb-true (at % 4) 0 h
well_formed_by_test (Await width at value) h =
    let parts = and_parts (is_width width) (ltb value (256 ^ width)) h in
    (parts.0, ltb-true value (256 ^ width) parts.1)
well_formed_by_test Irq h = tt
well_formed_by_test (Hvc code a b) h = tt

line_well_formed_if : (op : Op) (t : Bool) → is_well_formed op ≡ t → IsWellFormedLine (cond t (Operation op) Width)
line_well_formed_if op true h = well_formed_by_test op h
line_well_formed_if op false h = tt

pub op_line_well_formed : (o : Option Op) → IsWellFormedLine (line_of_op o)
unfolding line_of_op
op_line_well_formed None = tt
op_line_well_formed (Some op) = line_well_formed_if op (is_well_formed op) refl

pub test_from_well_formed : (op : Op) → IsWellFormed op → is_well_formed op ≡ true
unfolding is_well_formed
test_from_well_formed (Read width at) h = h
test_from_well_formed (Write width at value) h = and_from (is_width width) (ltb value (256 ^ width)) h.0 (lt-ltb value (256 ^ width) h.1)
test_from_well_formed (Fetch at) h = eq-eqb (at % 4) 0 h
test_from_well_formed (Await width at value) h = and_from (is_width width) (ltb value (256 ^ width)) h.0 (lt-ltb value (256 ^ width) h.1)
test_from_well_formed Irq h = refl
test_from_well_formed (Hvc code a b) h = refl
