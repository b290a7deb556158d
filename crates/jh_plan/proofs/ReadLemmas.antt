-- One more line of a text of demands.
use Rattle.std.proofs.Common.{◌≡◌, ℕ, ◌-◌, ◌<◌, List, [], ◌∷◌, ◌++◌, length, Option, Some, Ok, Err, refl, sym, ap, ◌∙◌, arith, append_assoc, length-append}
use Rattle.std.proofs.lemmas.Bool.{ne_eqb}
use Rattle.std.proofs.lemmas.List.{append-nil}
use Rattle.jh_script.specs.Programs.{line_number, unless}
use Rattle.jh_plan.specs.declared.demand.Demand.{Demand}
use Rattle.jh_plan.specs.declared.line.Line.{Line}
use Rattle.jh_plan.specs.declared.line.Line.TheVariants.{Blank, Wanted, Syntax}
use Rattle.jh_plan.specs.declared.fault.DemandsFault.{DemandsFault}
use Rattle.jh_plan.specs.declared.fault.DemandsFault.TheVariants as faults
use Rattle.jh_plan.specs.Demands.{lines_of, first_fault, demands_of_lines, demands_of}
use Rattle.jh_plan.specs.Limits.{most_demands}

abbrev text_fault : List ℕ → Option DemandsFault
text_fault text = first_fault 0 most_demands (lines_of text)

refused : (text : List ℕ) (fault : DemandsFault) → text_fault text ≡ Some fault → demands_of text ≡ Err fault
unfolding demands_of
refused text fault e = ap (λ x. unless x (demands_of_lines (lines_of text))) e

pub demands_too_many : (text : List ℕ) (n : ℕ) (demands : List Demand) (lines more : List Line) (demand : Demand) → text_fault text ≡ first_fault n (most_demands - length demands) lines → lines ≡ Wanted demand ∷ more → length demands ≡ most_demands → demands_of text ≡ Err faults.TooMany
unfolding first_fault
demands_too_many text n demands lines more demand h e full =
    let none : most_demands - length demands ≡ 0 = omega arith in
    refused text faults.TooMany (h ∙ ap (first_fault n (most_demands - length demands)) e ∙ ap (λ room. first_fault n room (Wanted demand ∷ more)) none)

pub demands_syntax : (text : List ℕ) (n next room : ℕ) (lines more : List Line) → text_fault text ≡ first_fault n room lines → lines ≡ Syntax ∷ more → next ≡ line_number n → demands_of text ≡ Err (faults.Line next)
unfolding first_fault
demands_syntax text n next room lines more h e number =
    refused text (faults.Line next) (h ∙ ap (first_fault n room) e ∙ ap (λ k. Some (faults.Line k)) (sym number))

pub demands_done : (text : List ℕ) (n room : ℕ) (demands : List Demand) (lines : List Line) → text_fault text ≡ first_fault n room lines → demands_of_lines (lines_of text) ≡ demands ++ demands_of_lines lines → lines ≡ [] → demands_of text ≡ Ok demands
unfolding demands_of first_fault demands_of_lines
demands_done text n room demands lines h found e =
    ap (λ x. unless x (demands_of_lines (lines_of text))) (h ∙ ap (first_fault n room) e)
    ∙ ap Ok (found ∙ ap (λ x. demands ++ demands_of_lines x) e ∙ append-nil demands)

pub blank_fault : (text : List ℕ) (n next room : ℕ) (lines more : List Line) → text_fault text ≡ first_fault n room lines → lines ≡ Blank ∷ more → next ≡ line_number n → text_fault text ≡ first_fault next room more
unfolding first_fault
blank_fault text n next room lines more h e number = h ∙ ap (first_fault n room) e ∙ ap (λ k. first_fault k room more) (sym number)

pub blank_demands : (text : List ℕ) (demands : List Demand) (lines more : List Line) → demands_of_lines (lines_of text) ≡ demands ++ demands_of_lines lines → lines ≡ Blank ∷ more → demands_of_lines (lines_of text) ≡ demands ++ demands_of_lines more
unfolding demands_of_lines
blank_demands text demands lines more found e = found ∙ ap (λ x. demands ++ demands_of_lines x) e

wanted_room : (n room : ℕ) (demand : Demand) (more : List Line) → 0 < room → first_fault n room (Wanted demand ∷ more) ≡ first_fault (line_number n) (room - 1) more
unfolding first_fault
wanted_room n room demand more some = rw (ne_eqb room 0 (λ e. omega arith)) refl

pub wanted_fault : (text : List ℕ) (n next : ℕ) (demands pushed : List Demand) (lines more : List Line) (demand : Demand) → text_fault text ≡ first_fault n (most_demands - length demands) lines → lines ≡ Wanted demand ∷ more → next ≡ line_number n → length demands < most_demands → pushed ≡ demands ++ demand ∷ [] → text_fault text ≡ first_fault next (most_demands - length pushed) more
wanted_fault text n next demands pushed lines more demand h e number few push =
    let left : most_demands - length demands - 1 ≡ most_demands - length pushed = omega (arith, ap length push, length-append demands (demand ∷ [])) in
    h ∙ ap (first_fault n (most_demands - length demands)) e ∙ wanted_room n (most_demands - length demands) demand more (omega arith)
    ∙ ap (λ k. first_fault k (most_demands - length demands - 1) more) (sym number) ∙ ap (λ room. first_fault next room more) left

pub wanted_demands : (text : List ℕ) (demands pushed : List Demand) (lines more : List Line) (demand : Demand) → demands_of_lines (lines_of text) ≡ demands ++ demands_of_lines lines → lines ≡ Wanted demand ∷ more → pushed ≡ demands ++ demand ∷ [] → demands_of_lines (lines_of text) ≡ pushed ++ demands_of_lines more
unfolding demands_of_lines
wanted_demands text demands pushed lines more demand found e push =
    found ∙ ap (λ x. demands ++ demands_of_lines x) e ∙ sym (append_assoc demands (demand ∷ []) (demands_of_lines more)) ∙ ap (λ x. x ++ demands_of_lines more) (sym push)
