-- What the first fault of lines and of items is.
use Rattle.std.proofs.Common.{◌≡◌, ℕ, ◌+◌, ◌-◌, ◌^◌, ◌<◌, ◌≤◌, min, Bool, true, false, cond, eqb, List, [], ◌∷◌, ◌++◌, length, map, Option, Some, None, Ok, Err, refl, sym, ap, ◌∙◌, subst, arith}
use Rattle.std.specs.List.{AllByRecursion}
use Rattle.std.proofs.lemmas.Bool.{eqb-true, eq-eqb, false≢true}
use Rattle.std.proofs.lemmas.List.{append-nil}
use Rattle.jh_script.specs.declared.op.Op.{Op}
use Rattle.jh_script.specs.declared.line.Line.{Line}
use Rattle.jh_script.specs.declared.line.Line.TheVariants.{Blank, Operation, Syntax, Width}
use Rattle.jh_script.specs.declared.fault.ProgramFault.{ProgramFault}
use Rattle.jh_script.specs.declared.fault.ProgramFault.TheVariants as faults
use Rattle.jh_script.specs.declared.fault.ScheduleFault.{ScheduleFault}
use Rattle.jh_script.specs.declared.fault.ScheduleFault.TheVariants as refusals
use Rattle.jh_script.specs.Laws.{IsGood, IsProgram, IsFirstBad, HasTooMany, HasOneMoreBlank, IsSchedule, IsFirstRefused, HasTooManyItems}
use Rattle.jh_script.specs.Programs.{lines_of, line_number, first_fault, ops_of_lines, unless, program_of}
use Rattle.jh_script.specs.Schedules.{items_of, first_refusal, cpus_of, schedule_of}
use Rattle.jh_script.proofs.ProgramLemmas.{op_room, good_item, refused_item, full_of}
use Rattle.jh_script.specs.Limits.{most_ops, most_items}

unless_ok : {X F : Type 0} (f : Option F) (x y : X) → unless f x ≡ Ok y → (f ≡ None) × (x ≡ y)
unless_ok None x y e = (refl, cc)
unless_ok (Some fault) x y e = cc

unless_err : {X F : Type 0} (f : Option F) (x : X) (fault : F) → unless f x ≡ Err fault → f ≡ Some fault
unless_err None x fault e = cc
unless_err (Some other) x fault e = cc

-- ---- programs

-- n lines stand before these, and so many operations more are allowed
record BadAt (n room : ℕ) (lines : List Line) (bad : Line) (number : ℕ) : Type 0 where
  before : List Line
  rest : List Line
  lines_are : lines ≡ before ++ bad ∷ rest
  good : AllByRecursion IsGood before
  few : length (ops_of_lines before) ≤ room
  number_is : number ≡ min (n + length before + 1) (2 ^ 32 - 1)

record LongAt (room : ℕ) (lines : List Line) : Type 0 where
  before : List Line
  op : Op
  rest : List Line
  lines_are : lines ≡ before ++ Operation op ∷ rest
  good : AllByRecursion IsGood before
  full : length (ops_of_lines before) ≡ room

abbrev FaultOf : ℕ → ℕ → List Line → Option ProgramFault → Type 0
FaultOf n room lines None = AllByRecursion IsGood lines × (length (ops_of_lines lines) ≤ room)
FaultOf n room lines (Some (faults.Syntax number)) = BadAt n room lines Syntax number
FaultOf n room lines (Some faults.TooLong) = LongAt room lines
FaultOf n room lines (Some (faults.Width number)) = BadAt n room lines Width number
FaultOf n room lines (Some faults.NoMemory) = ⊥

-- a good line before the others, which has k operations
record Goes (line : Line) (k : ℕ) : Type 0 where
  good : IsGood line
  costs : (more : List Line) → length (ops_of_lines (line ∷ more)) ≡ k + length (ops_of_lines more)

bad_later : (n room left k : ℕ) (line bad : Line) (more : List Line) (number : ℕ) → Goes line k → room ≡ k + left → BadAt (line_number n) left more bad number → BadAt n room (line ∷ more) bad number
bad_later n room left k line bad more number g split h = record {
  before = line ∷ h.before;
  rest = h.rest;
  lines_are = ap (λ x. line ∷ x) h.lines_are;
  good = (g.good, h.good);
  few = omega (arith, g.costs h.before, h.few);
  number_is = h.number_is ∙ omega arith;
}

later : (n room left k : ℕ) (line : Line) (more : List Line) → Goes line k → room ≡ k + left → (f : Option ProgramFault) → FaultOf (line_number n) left more f → FaultOf n room (line ∷ more) f
later n room left k line more g split None h = ((g.good, h.0), omega (arith, g.costs more, h.1))
later n room left k line more g split (Some (faults.Syntax number)) h = bad_later n room left k line Syntax more number g split h
later n room left k line more g split (Some faults.TooLong) h = record {
  before = line ∷ h.before;
  op = h.op;
  rest = h.rest;
  lines_are = ap (λ x. line ∷ x) h.lines_are;
  good = (g.good, h.good);
  full = omega (arith, g.costs h.before, h.full);
}
later n room left k line more g split (Some (faults.Width number)) h = bad_later n room left k line Width more number g split h
later n room left k line more g split (Some faults.NoMemory) h = absurd h

blank_goes : Goes Blank 0
unfolding ops_of_lines
blank_goes = record { good = tt; costs = λ more. omega arith }

op_goes : (op : Op) → Goes (Operation op) 1
unfolding ops_of_lines
op_goes op = record { good = tt; costs = λ more. omega arith }

some_room : (room : ℕ) → eqb room 0 ≡ false → room ≡ 1 + (room - 1)
some_room room e =
    let some : (room ≡ 0) → ⊥ = λ z. false≢true (sym e ∙ eq-eqb room 0 z) in
    omega arith

op_first : (n room : ℕ) (op : Op) (more : List Line) → FaultOf (line_number n) (room - 1) more (first_fault (line_number n) (room - 1) more)
    → (t : Bool) → eqb room 0 ≡ t → FaultOf n room (Operation op ∷ more) (cond t (Some faults.TooLong) (first_fault (line_number n) (room - 1) more))
unfolding ops_of_lines
op_first n room op more h true e = record { before = []; op = op; rest = more; lines_are = refl; good = tt; full = sym (eqb-true room 0 e) }
op_first n room op more h false e = later n room (room - 1) 1 (Operation op) more (op_goes op) (some_room room e) (first_fault (line_number n) (room - 1) more) h

fault_of : (lines : List Line) (n room : ℕ) → FaultOf n room lines (first_fault n room lines)
unfolding first_fault ops_of_lines
fault_of [] n room = (tt, omega arith)
fault_of (Blank ∷ more) n room = later n room room 0 Blank more blank_goes (omega arith) (first_fault (line_number n) room more) (fault_of more (line_number n) room)
fault_of (Operation op ∷ more) n room = op_first n room op more (fault_of more (line_number n) (room - 1)) (eqb room 0) refl
fault_of (Syntax ∷ more) n room = record { before = []; rest = more; lines_are = refl; good = tt; few = omega arith; number_is = omega arith }
fault_of (Width ∷ more) n room = record { before = []; rest = more; lines_are = refl; good = tt; few = omega arith; number_is = omega arith }

-- a good beginning comes to what stands behind it
behind_good : (before lines : List Line) (n room : ℕ) → AllByRecursion IsGood before → length (ops_of_lines before) ≤ room → n ≤ 2 ^ 32 - 1 → first_fault n room (before ++ lines) ≡ first_fault (min (n + length before) (2 ^ 32 - 1)) (room - length (ops_of_lines before)) lines
unfolding first_fault ops_of_lines
behind_good [] lines n room good few small =
    let same : min (n + 0) (2 ^ 32 - 1) ≡ n = omega arith in
    let left : room - 0 ≡ room = omega arith in
    ap (λ k. first_fault k room lines) (sym same) ∙ ap (λ k. first_fault (min (n + 0) (2 ^ 32 - 1)) k lines) (sym left)
behind_good (Blank ∷ before) lines n room good few small =
    let same : min (line_number n + length before) (2 ^ 32 - 1) ≡ min (n + length (Blank ∷ before)) (2 ^ 32 - 1) = omega arith in
    behind_good before lines (line_number n) room good.1 few (omega arith) ∙ ap (λ k. first_fault k (room - length (ops_of_lines before)) lines) same
behind_good (Operation op ∷ before) lines n room good few small =
    let same : min (line_number n + length before) (2 ^ 32 - 1) ≡ min (n + length (Operation op ∷ before)) (2 ^ 32 - 1) = omega arith in
    let left : room - 1 - length (ops_of_lines before) ≡ room - length (ops_of_lines (Operation op ∷ before)) = omega arith in
    op_room n room op (before ++ lines) (omega arith)
    ∙ behind_good before lines (line_number n) (room - 1) good.1 (omega arith) (omega arith)
    ∙ ap (λ k. first_fault k (room - 1 - length (ops_of_lines before)) lines) same ∙ ap (λ k. first_fault (min (n + length (Operation op ∷ before)) (2 ^ 32 - 1)) k lines) left
behind_good (Syntax ∷ before) lines n room good few small = absurd good.0
behind_good (Width ∷ before) lines n room good few small = absurd good.0

at_good : (before lines : List Line) (text : List ℕ) → lines_of text ≡ before ++ lines → AllByRecursion IsGood before → length (ops_of_lines before) ≤ most_ops → first_fault 0 most_ops (lines_of text) ≡ first_fault (min (length before) (2 ^ 32 - 1)) (most_ops - length (ops_of_lines before)) lines
at_good before lines text e good few =
    let same : min (0 + length before) (2 ^ 32 - 1) ≡ min (length before) (2 ^ 32 - 1) = omega arith in
    ap (first_fault 0 most_ops) e ∙ behind_good before lines 0 most_ops good few (omega arith) ∙ ap (λ k. first_fault k (most_ops - length (ops_of_lines before)) lines) same

told : (text : List ℕ) (f : Option ProgramFault) → first_fault 0 most_ops (lines_of text) ≡ f → FaultOf 0 most_ops (lines_of text) f
told text f e = subst (FaultOf 0 most_ops (lines_of text)) e (fault_of (lines_of text) 0 most_ops)

answers : (text : List ℕ) (f : Option ProgramFault) → first_fault 0 most_ops (lines_of text) ≡ f → program_of text ≡ unless f (ops_of_lines (lines_of text))
unfolding program_of
answers text f e = ap (λ x. unless x (ops_of_lines (lines_of text))) e

pub program_to : (text : List ℕ) (ops : List Op) → program_of text ≡ Ok ops → IsProgram text ops
unfolding program_of
program_to text ops e =
    let parts = unless_ok (first_fault 0 most_ops (lines_of text)) (ops_of_lines (lines_of text)) ops e in
    let h = told text None parts.0 in
    record { good = h.0; few = omega (arith, h.1, ap length parts.1); are = sym parts.1 }

pub program_from : (text : List ℕ) (ops : List Op) → IsProgram text ops → program_of text ≡ Ok ops
unfolding first_fault
program_from text ops p =
    let few : length (ops_of_lines (lines_of text)) ≤ most_ops = omega (arith, p.few, ap length p.are) in
    answers text None (at_good (lines_of text) [] text (sym (append-nil (lines_of text))) p.good few) ∙ ap Ok (sym p.are)

bad_is : (text : List ℕ) (bad : Line) (number : ℕ) → BadAt 0 most_ops (lines_of text) bad number → IsFirstBad text bad number
bad_is text bad number h = record {
  before = h.before;
  rest = h.rest;
  lines = h.lines_are;
  good = h.good;
  few = h.few;
  number_is = h.number_is ∙ omega arith;
}

pub syntax_to : (text : List ℕ) (number : ℕ) → program_of text ≡ Err (faults.Syntax number) → IsFirstBad text Syntax number
unfolding program_of
syntax_to text number e = bad_is text Syntax number (told text (Some (faults.Syntax number)) (unless_err (first_fault 0 most_ops (lines_of text)) (ops_of_lines (lines_of text)) (faults.Syntax number) e))

pub width_to : (text : List ℕ) (number : ℕ) → program_of text ≡ Err (faults.Width number) → IsFirstBad text Width number
unfolding program_of
width_to text number e = bad_is text Width number (told text (Some (faults.Width number)) (unless_err (first_fault 0 most_ops (lines_of text)) (ops_of_lines (lines_of text)) (faults.Width number) e))

capped : (k number : ℕ) → number ≡ min (k + 1) (2 ^ 32 - 1) → line_number (min k (2 ^ 32 - 1)) ≡ number
capped k number e = omega arith

pub syntax_from : (text : List ℕ) (number : ℕ) → IsFirstBad text Syntax number → program_of text ≡ Err (faults.Syntax number)
unfolding first_fault
syntax_from text number b =
    answers text (Some (faults.Syntax number)) (at_good b.before (Syntax ∷ b.rest) text b.lines b.good b.few ∙ ap (λ k. Some (faults.Syntax k)) (capped (length b.before) number b.number_is))

pub width_from : (text : List ℕ) (number : ℕ) → IsFirstBad text Width number → program_of text ≡ Err (faults.Width number)
unfolding first_fault
width_from text number b =
    answers text (Some (faults.Width number)) (at_good b.before (Width ∷ b.rest) text b.lines b.good b.few ∙ ap (λ k. Some (faults.Width k)) (capped (length b.before) number b.number_is))

pub too_long_to : (text : List ℕ) → program_of text ≡ Err faults.TooLong → HasTooMany text
unfolding program_of
too_long_to text e =
    let h = told text (Some faults.TooLong) (unless_err (first_fault 0 most_ops (lines_of text)) (ops_of_lines (lines_of text)) faults.TooLong e) in
    record { before = h.before; op = h.op; rest = h.rest; lines = h.lines_are; good = h.good; full = h.full }

no_room : (n room : ℕ) (op : Op) (more : List Line) → room ≡ 0 → first_fault n room (Operation op ∷ more) ≡ Some faults.TooLong
unfolding first_fault
no_room n room op more e = rw e refl

pub too_long_from : (text : List ℕ) → HasTooMany text → program_of text ≡ Err faults.TooLong
too_long_from text h =
    let full = h.full in
    answers text (Some faults.TooLong) (at_good h.before (Operation h.op ∷ h.rest) text h.lines h.good (omega arith)
    ∙ no_room (min (length h.before) (2 ^ 32 - 1)) (most_ops - length (ops_of_lines h.before)) h.op h.rest (omega arith))

-- ---- schedules

record RefusedAt (n : ℕ) (items : List (Option ℕ)) (number : ℕ) : Type 0 where
  before : List ℕ
  rest : List (Option ℕ)
  items_are : items ≡ map Some before ++ None ∷ rest
  few : n + length before < most_items
  number_is : number ≡ n + length before + 1

record LongItems (n : ℕ) (items : List (Option ℕ)) : Type 0 where
  before : List ℕ
  item : Option ℕ
  rest : List (Option ℕ)
  items_are : items ≡ map Some before ++ item ∷ rest
  full : n + length before ≡ most_items

record AllCpus (n : ℕ) (items : List (Option ℕ)) : Type 0 where
  are : items ≡ map Some (cpus_of items)
  few : n + length (cpus_of items) ≤ most_items

abbrev RefusalOf : ℕ → List (Option ℕ) → Option ScheduleFault → Type 0
RefusalOf n items None = AllCpus n items
RefusalOf n items (Some (refusals.Item number)) = RefusedAt n items number
RefusalOf n items (Some refusals.TooLong) = LongItems n items
RefusalOf n items (Some refusals.NoMemory) = ⊥

cpu_later : (n cpu : ℕ) (more : List (Option ℕ)) (f : Option ScheduleFault) → RefusalOf (n + 1) more f → RefusalOf n (Some cpu ∷ more) f
unfolding cpus_of
cpu_later n cpu more None h = record { are = ap (λ x. Some cpu ∷ x) h.are; few = omega (arith, h.few) }
cpu_later n cpu more (Some (refusals.Item number)) h = record {
  before = cpu ∷ h.before;
  rest = h.rest;
  items_are = ap (λ x. Some cpu ∷ x) h.items_are;
  few = omega (arith, h.few);
  number_is = h.number_is ∙ omega arith;
}
cpu_later n cpu more (Some refusals.TooLong) h = record {
  before = cpu ∷ h.before;
  item = h.item;
  rest = h.rest;
  items_are = ap (λ x. Some cpu ∷ x) h.items_are;
  full = omega (arith, h.full);
}
cpu_later n cpu more (Some refusals.NoMemory) h = absurd h

below : (n : ℕ) → n ≤ most_items → eqb n most_items ≡ false → n < most_items
below n most e =
    let other : (n ≡ most_items) → ⊥ = λ z. false≢true (sym e ∙ eq-eqb n most_items z) in
    omega arith

item_first : (n : ℕ) (item : Option ℕ) (more : List (Option ℕ)) → (n < most_items → RefusalOf (n + 1) more (first_refusal (n + 1) more)) → n ≤ most_items
    → (t : Bool) → eqb n most_items ≡ t → RefusalOf n (item ∷ more) (first_refusal n (item ∷ more))
item_first n item more h most true e =
    let full : n ≡ most_items = eqb-true n most_items e in
    let is : first_refusal n (item ∷ more) ≡ Some refusals.TooLong = ap (λ k. first_refusal k (item ∷ more)) full ∙ full_of item more in
    subst (RefusalOf n (item ∷ more)) (sym is) (record { before = []; item = item; rest = more; items_are = refl; full = omega arith })
item_first n None more h most false e =
    let few = below n most e in
    subst (RefusalOf n (None ∷ more)) (sym (refused_item n more few)) (record { before = []; rest = more; items_are = refl; few = omega arith; number_is = omega arith })
item_first n (Some cpu) more h most false e =
    let few = below n most e in
    subst (RefusalOf n (Some cpu ∷ more)) (sym (good_item n cpu more few)) (cpu_later n cpu more (first_refusal (n + 1) more) (h few))

refusal_of : (items : List (Option ℕ)) (n : ℕ) → n ≤ most_items → RefusalOf n items (first_refusal n items)
unfolding first_refusal cpus_of
refusal_of [] n most = record { are = refl; few = omega arith }
refusal_of (item ∷ more) n most = item_first n item more (λ few. refusal_of more (n + 1) (omega arith)) most (eqb n most_items) refl

behind_cpus : (before : List ℕ) (items : List (Option ℕ)) (n : ℕ) → n + length before ≤ most_items → first_refusal n (map Some before ++ items) ≡ first_refusal (n + length before) items
behind_cpus [] items n few =
    let same : n + 0 ≡ n = omega arith in
    ap (λ k. first_refusal k items) (sym same)
behind_cpus (cpu ∷ before) items n few =
    let same : n + 1 + length before ≡ n + length (cpu ∷ before) = omega arith in
    good_item n cpu (map Some before ++ items) (omega arith) ∙ behind_cpus before items (n + 1) (omega arith) ∙ ap (λ k. first_refusal k items) same

items_told : (cpus : ℕ) (text : List ℕ) (f : Option ScheduleFault) → first_refusal 0 (items_of cpus text) ≡ f → RefusalOf 0 (items_of cpus text) f
items_told cpus text f e = subst (RefusalOf 0 (items_of cpus text)) e (refusal_of (items_of cpus text) 0 (omega arith))

items_answer : (cpus : ℕ) (text : List ℕ) (f : Option ScheduleFault) → first_refusal 0 (items_of cpus text) ≡ f → schedule_of cpus text ≡ unless f (cpus_of (items_of cpus text))
unfolding schedule_of
items_answer cpus text f e = ap (λ x. unless x (cpus_of (items_of cpus text))) e

at_cpus : (cpus : ℕ) (text before : List ℕ) (items : List (Option ℕ)) → items_of cpus text ≡ map Some before ++ items → length before ≤ most_items → first_refusal 0 (items_of cpus text) ≡ first_refusal (length before) items
at_cpus cpus text before items e few =
    let same : 0 + length before ≡ length before = omega arith in
    ap (first_refusal 0) e ∙ behind_cpus before items 0 (omega arith) ∙ ap (λ k. first_refusal k items) same

pub schedule_to : (cpus : ℕ) (text items : List ℕ) → schedule_of cpus text ≡ Ok items → IsSchedule cpus text items
unfolding schedule_of
schedule_to cpus text items e =
    let parts = unless_ok (first_refusal 0 (items_of cpus text)) (cpus_of (items_of cpus text)) items e in
    let h = items_told cpus text None parts.0 in
    record { are = h.are ∙ ap (map Some) parts.1; few = omega (arith, h.few, ap length parts.1) }

cpus_of_cpus : (cpus : List ℕ) → cpus_of (map Some cpus) ≡ cpus
unfolding cpus_of
cpus_of_cpus [] = refl
cpus_of_cpus (cpu ∷ cpus) = ap (λ x. cpu ∷ x) (cpus_of_cpus cpus)

all_items : (items : List (Option ℕ)) → items ++ [] ≡ items
all_items [] = refl
all_items (x ∷ xs) = ap (λ ys. x ∷ ys) (all_items xs)

pub schedule_from : (cpus : ℕ) (text items : List ℕ) → IsSchedule cpus text items → schedule_of cpus text ≡ Ok items
unfolding first_refusal
schedule_from cpus text items s =
    items_answer cpus text None (at_cpus cpus text items [] (s.are ∙ sym (all_items (map Some items))) s.few)
    ∙ ap Ok (ap cpus_of s.are ∙ cpus_of_cpus items)

pub item_to : (cpus : ℕ) (text : List ℕ) (number : ℕ) → schedule_of cpus text ≡ Err (refusals.Item number) → IsFirstRefused cpus text number
unfolding schedule_of
item_to cpus text number e =
    let h = items_told cpus text (Some (refusals.Item number)) (unless_err (first_refusal 0 (items_of cpus text)) (cpus_of (items_of cpus text)) (refusals.Item number) e) in
    record { before = h.before; rest = h.rest; items = h.items_are; few = omega (arith, h.few); number_is = h.number_is ∙ omega arith }

pub item_from : (cpus : ℕ) (text : List ℕ) (number : ℕ) → IsFirstRefused cpus text number → schedule_of cpus text ≡ Err (refusals.Item number)
item_from cpus text number r =
    let few = r.few in
    items_answer cpus text (Some (refusals.Item number)) (at_cpus cpus text r.before (None ∷ r.rest) r.items (omega arith)
    ∙ refused_item (length r.before) r.rest r.few ∙ ap (λ k. Some (refusals.Item k)) (sym r.number_is))

pub many_items_to : (cpus : ℕ) (text : List ℕ) → schedule_of cpus text ≡ Err refusals.TooLong → HasTooManyItems cpus text
unfolding schedule_of
many_items_to cpus text e =
    let h = items_told cpus text (Some refusals.TooLong) (unless_err (first_refusal 0 (items_of cpus text)) (cpus_of (items_of cpus text)) refusals.TooLong e) in
    record { before = h.before; item = h.item; rest = h.rest; items = h.items_are; full = omega (arith, h.full) }

pub many_items_from : (cpus : ℕ) (text : List ℕ) → HasTooManyItems cpus text → schedule_of cpus text ≡ Err refusals.TooLong
many_items_from cpus text h =
    let full = h.full in
    items_answer cpus text (Some refusals.TooLong) (at_cpus cpus text h.before (h.item ∷ h.rest) h.items (omega arith)
    ∙ ap (λ k. first_refusal k (h.item ∷ h.rest)) h.full ∙ full_of h.item h.rest)

-- ---- blank lines

good_skip : (before after : List Line) → AllByRecursion IsGood (before ++ Blank ∷ after) → AllByRecursion IsGood (before ++ after)
good_skip [] after good = good.1
good_skip (line ∷ before) after good = (good.0, good_skip before after good.1)

good_insert : (before after : List Line) → AllByRecursion IsGood (before ++ after) → AllByRecursion IsGood (before ++ Blank ∷ after)
good_insert [] after good = (tt, good)
good_insert (line ∷ before) after good = (good.0, good_insert before after good.1)

ops_skip : (before after : List Line) → ops_of_lines (before ++ Blank ∷ after) ≡ ops_of_lines (before ++ after)
unfolding ops_of_lines
ops_skip [] after = refl
ops_skip (Blank ∷ before) after = ops_skip before after
ops_skip (Operation op ∷ before) after = ap (λ ops. op ∷ ops) (ops_skip before after)
ops_skip (Syntax ∷ before) after = ops_skip before after
ops_skip (Width ∷ before) after = ops_skip before after

pub without_blank : (text other : List ℕ) → HasOneMoreBlank text other → (ops : List Op) → program_of text ≡ Ok ops → program_of other ≡ Ok ops
without_blank text other more ops h =
    let p = program_to text ops h in
    program_from other ops (record {
      good = subst (AllByRecursion IsGood) (sym more.others) (good_skip more.before more.after (subst (AllByRecursion IsGood) more.lines p.good));
      few = p.few;
      are = p.are ∙ ap ops_of_lines more.lines ∙ ops_skip more.before more.after ∙ ap ops_of_lines (sym more.others);
    })

pub with_blank : (text other : List ℕ) → HasOneMoreBlank text other → (ops : List Op) → program_of other ≡ Ok ops → program_of text ≡ Ok ops
with_blank text other more ops h =
    let p = program_to other ops h in
    program_from text ops (record {
      good = subst (AllByRecursion IsGood) (sym more.lines) (good_insert more.before more.after (subst (AllByRecursion IsGood) more.others p.good));
      few = p.few;
      are = p.are ∙ ap ops_of_lines more.others ∙ sym (ops_skip more.before more.after) ∙ ap ops_of_lines (sym more.lines);
    })
