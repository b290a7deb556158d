-- One more line of a program, and one more item of a schedule.
use Rattle.std.proofs.Common.{◌≡◌, ℕ, ◌+◌, ◌-◌, ◌<◌, List, [], ◌∷◌, ◌++◌, length, Option, Some, None, Ok, Err, refl, sym, ap, ◌∙◌, arith, append_assoc, length-append}
use Rattle.std.proofs.lemmas.Bool.{ne_eqb}
use Rattle.std.proofs.lemmas.List.{append-nil}
use Rattle.jh_script.specs.declared.op.Op.{Op}
use Rattle.jh_script.specs.declared.line.Line.{Line}
use Rattle.jh_script.specs.declared.line.Line.TheVariants.{Blank, Operation, Syntax, Width}
use Rattle.jh_script.specs.declared.fault.ProgramFault.{ProgramFault}
use Rattle.jh_script.specs.declared.fault.ProgramFault.TheVariants as faults
use Rattle.jh_script.specs.declared.fault.ScheduleFault.{ScheduleFault}
use Rattle.jh_script.specs.declared.fault.ScheduleFault.TheVariants as refusals
use Rattle.jh_script.specs.Programs.{lines_of, line_number, first_fault, ops_of_lines, unless, program_of}
use Rattle.jh_script.specs.Schedules.{items_of, first_refusal, cpus_of, schedule_of}
use Rattle.jh_script.specs.Limits.{most_ops, most_items}

-- ---- programs

abbrev program_fault : List ℕ → Option ProgramFault
program_fault text = first_fault 0 most_ops (lines_of text)

refused : (text : List ℕ) (fault : ProgramFault) → program_fault text ≡ Some fault → program_of text ≡ Err fault
unfolding program_of
refused text fault e = ap (λ x. unless x (ops_of_lines (lines_of text))) e

pub program_too_long : (text : List ℕ) (n : ℕ) (ops : List Op) (lines more : List Line) (op : Op) → program_fault text ≡ first_fault n (most_ops - length ops) lines → lines ≡ Operation op ∷ more → length ops ≡ most_ops → program_of text ≡ Err faults.TooLong
unfolding first_fault
program_too_long text n ops lines more op h e full =
    let none : most_ops - length ops ≡ 0 = omega arith in
    refused text faults.TooLong (h ∙ ap (first_fault n (most_ops - length ops)) e ∙ ap (λ room. first_fault n room (Operation op ∷ more)) none)

pub program_syntax : (text : List ℕ) (n next room : ℕ) (lines more : List Line) → program_fault text ≡ first_fault n room lines → lines ≡ Syntax ∷ more → next ≡ line_number n → program_of text ≡ Err (faults.Syntax next)
unfolding first_fault
program_syntax text n next room lines more h e number =
    refused text (faults.Syntax next) (h ∙ ap (first_fault n room) e ∙ ap (λ k. Some (faults.Syntax k)) (sym number))

pub program_width : (text : List ℕ) (n next room : ℕ) (lines more : List Line) → program_fault text ≡ first_fault n room lines → lines ≡ Width ∷ more → next ≡ line_number n → program_of text ≡ Err (faults.Width next)
unfolding first_fault
program_width text n next room lines more h e number =
    refused text (faults.Width next) (h ∙ ap (first_fault n room) e ∙ ap (λ k. Some (faults.Width k)) (sym number))

pub program_done : (text : List ℕ) (n room : ℕ) (ops : List Op) (lines : List Line) → program_fault text ≡ first_fault n room lines → ops_of_lines (lines_of text) ≡ ops ++ ops_of_lines lines → lines ≡ [] → program_of text ≡ Ok ops
unfolding program_of first_fault ops_of_lines
program_done text n room ops lines h found e =
    ap (λ x. unless x (ops_of_lines (lines_of text))) (h ∙ ap (first_fault n room) e)
    ∙ ap Ok (found ∙ ap (λ x. ops ++ ops_of_lines x) e ∙ append-nil ops)

pub blank_fault : (text : List ℕ) (n next room : ℕ) (lines more : List Line) → program_fault text ≡ first_fault n room lines → lines ≡ Blank ∷ more → next ≡ line_number n → program_fault text ≡ first_fault next room more
unfolding first_fault
blank_fault text n next room lines more h e number = h ∙ ap (first_fault n room) e ∙ ap (λ k. first_fault k room more) (sym number)

pub blank_ops : (text : List ℕ) (ops : List Op) (lines more : List Line) → ops_of_lines (lines_of text) ≡ ops ++ ops_of_lines lines → lines ≡ Blank ∷ more → ops_of_lines (lines_of text) ≡ ops ++ ops_of_lines more
unfolding ops_of_lines
blank_ops text ops lines more found e = found ∙ ap (λ x. ops ++ ops_of_lines x) e

pub op_room : (n room : ℕ) (op : Op) (more : List Line) → 0 < room → first_fault n room (Operation op ∷ more) ≡ first_fault (line_number n) (room - 1) more
unfolding first_fault
op_room n room op more some = rw (ne_eqb room 0 (λ e. omega arith)) refl

pub op_fault : (text : List ℕ) (n next : ℕ) (ops pushed : List Op) (lines more : List Line) (op : Op) → program_fault text ≡ first_fault n (most_ops - length ops) lines → lines ≡ Operation op ∷ more → next ≡ line_number n → length ops < most_ops → pushed ≡ ops ++ op ∷ [] → program_fault text ≡ first_fault next (most_ops - length pushed) more
op_fault text n next ops pushed lines more op h e number few push =
    let left : most_ops - length ops - 1 ≡ most_ops - length pushed = omega (arith, ap length push, length-append ops (op ∷ [])) in
    h ∙ ap (first_fault n (most_ops - length ops)) e ∙ op_room n (most_ops - length ops) op more (omega arith)
    ∙ ap (λ k. first_fault k (most_ops - length ops - 1) more) (sym number) ∙ ap (λ room. first_fault next room more) left

pub op_ops : (text : List ℕ) (ops pushed : List Op) (lines more : List Line) (op : Op) → ops_of_lines (lines_of text) ≡ ops ++ ops_of_lines lines → lines ≡ Operation op ∷ more → pushed ≡ ops ++ op ∷ [] → ops_of_lines (lines_of text) ≡ pushed ++ ops_of_lines more
unfolding ops_of_lines
op_ops text ops pushed lines more op found e push =
    found ∙ ap (λ x. ops ++ ops_of_lines x) e ∙ sym (append_assoc ops (op ∷ []) (ops_of_lines more)) ∙ ap (λ x. x ++ ops_of_lines more) (sym push)

-- ---- schedules

abbrev schedule_fault : ℕ → List ℕ → Option ScheduleFault
schedule_fault cpus text = first_refusal 0 (items_of cpus text)

item_refused : (cpus : ℕ) (text : List ℕ) (fault : ScheduleFault) → schedule_fault cpus text ≡ Some fault → schedule_of cpus text ≡ Err fault
unfolding schedule_of
item_refused cpus text fault e = ap (λ x. unless x (cpus_of (items_of cpus text))) e

pub full_of : (item : Option ℕ) (more : List (Option ℕ)) → first_refusal most_items (item ∷ more) ≡ Some refusals.TooLong
unfolding first_refusal
full_of None more = refl
full_of (Some cpu) more = refl

pub schedule_too_long : (cpus : ℕ) (text : List ℕ) (n : ℕ) (items more : List (Option ℕ)) (item : Option ℕ) → schedule_fault cpus text ≡ first_refusal n items → items ≡ item ∷ more → n ≡ most_items → schedule_of cpus text ≡ Err refusals.TooLong
schedule_too_long cpus text n items more item h e full =
    item_refused cpus text refusals.TooLong (h ∙ ap (first_refusal n) e ∙ ap (λ k. first_refusal k (item ∷ more)) full ∙ full_of item more)

pub refused_item : (n : ℕ) (more : List (Option ℕ)) → n < most_items → first_refusal n (None ∷ more) ≡ Some (refusals.Item (n + 1))
unfolding first_refusal
refused_item n more few = rw (ne_eqb n most_items (λ e. omega arith)) refl

pub good_item : (n cpu : ℕ) (more : List (Option ℕ)) → n < most_items → first_refusal n (Some cpu ∷ more) ≡ first_refusal (n + 1) more
unfolding first_refusal
good_item n cpu more few = rw (ne_eqb n most_items (λ e. omega arith)) refl

pub schedule_item : (cpus : ℕ) (text : List ℕ) (n : ℕ) (items more : List (Option ℕ)) → schedule_fault cpus text ≡ first_refusal n items → items ≡ None ∷ more → n < most_items → schedule_of cpus text ≡ Err (refusals.Item (n + 1))
schedule_item cpus text n items more h e few =
    item_refused cpus text (refusals.Item (n + 1)) (h ∙ ap (first_refusal n) e ∙ refused_item n more few)

pub schedule_done : (cpus : ℕ) (text : List ℕ) (n : ℕ) (found : List ℕ) (items : List (Option ℕ)) → schedule_fault cpus text ≡ first_refusal n items → cpus_of (items_of cpus text) ≡ found ++ cpus_of items → items ≡ [] → schedule_of cpus text ≡ Ok found
unfolding schedule_of first_refusal cpus_of
schedule_done cpus text n found items h all e =
    ap (λ x. unless x (cpus_of (items_of cpus text))) (h ∙ ap (first_refusal n) e)
    ∙ ap Ok (all ∙ ap (λ x. found ++ cpus_of x) e ∙ append-nil found)

pub cpu_fault : (cpus : ℕ) (text : List ℕ) (found pushed : List ℕ) (items more : List (Option ℕ)) (cpu : ℕ) → schedule_fault cpus text ≡ first_refusal (length found) items → items ≡ Some cpu ∷ more → length found < most_items → pushed ≡ found ++ cpu ∷ [] → schedule_fault cpus text ≡ first_refusal (length pushed) more
cpu_fault cpus text found pushed items more cpu h e few push =
    let next : length found + 1 ≡ length pushed = omega (arith, ap length push, length-append found (cpu ∷ [])) in
    h ∙ ap (first_refusal (length found)) e ∙ good_item (length found) cpu more few ∙ ap (λ k. first_refusal k more) next

pub cpu_cpus : (cpus : ℕ) (text : List ℕ) (found pushed : List ℕ) (items more : List (Option ℕ)) (cpu : ℕ) → cpus_of (items_of cpus text) ≡ found ++ cpus_of items → items ≡ Some cpu ∷ more → pushed ≡ found ++ cpu ∷ [] → cpus_of (items_of cpus text) ≡ pushed ++ cpus_of more
unfolding cpus_of
cpu_cpus cpus text found pushed items more cpu all e push =
    all ∙ ap (λ x. found ++ cpus_of x) e ∙ sym (append_assoc found (cpu ∷ []) (cpus_of more)) ∙ ap (λ x. x ++ cpus_of more) (sym push)
