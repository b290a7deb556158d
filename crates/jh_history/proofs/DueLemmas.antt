-- What is due, by the cases.
use Rattle.std.proofs.lemmas.Bool.{cases_lt}
use Rattle.std.proofs.Common.{inl, inr, ◌+◌, ◌-◌, ◌%◌, ◌≡◌, ◌<◌, ◌≤◌, ℕ, List, [], ◌∷◌, ◌++◌, Bool, true, false, Option, Some, None, refl, sym, ◌∙◌, ap, subst, arith}
use Rattle.std.specs.Prelude.{IsTrue, option_map, is_some, is_none, not, ◌↔◌}
use Rattle.std.proofs.lemmas.Option.{none-some, same_Some}
use Rattle.jh_cpu.specs.declared.cpu.Cpu.{Cpu}
use Rattle.jh_script.specs.declared.image.Image.{Image}
use Rattle.jh_history.specs.declared.form.Form.{Form}
use Rattle.jh_script.specs.declared.op.Op.{Op}
use Rattle.jh_script.specs.declared.op.Op.TheVariants.{Read as ReadOp, Write as WriteOp, Fetch as FetchOp, Await as AwaitOp}
use Rattle.jh_history.specs.declared.access.Access.TheVariants.{Read as ToRead, Write as ToWrite, Fetch as ToFetch}
use Rattle.jh_history.specs.declared.access.Reach.{Reach}
use Rattle.jh_history.specs.declared.entry.Entry.{Entry}
use Rattle.jh_history.specs.declared.entry.Act.{Act}
use Rattle.jh_history.specs.declared.entry.Act.TheVariants.{Read, Write, Fetch}
use Rattle.jh_history.specs.Access.{read_of, is_reached}
use Rattle.jh_history.specs.Facts.{Facts}
use Rattle.jh_history.specs.History.{facts}
use Rattle.jh_history.specs.Lives.{is_on_board}
use Rattle.jh_history.specs.Grants.{reach, devices_of}
use Rattle.jh_history.specs.Private.Wanted.{wanted_of, IsReachOf}
use Rattle.jh_history.specs.Due.{due, IsLegal, due_at, entry_of, next_act, act_of, await_of, entry_by}
use Rattle.jh_history.proofs.FactsLemmas.{IsLegal_push}

-- nothing is due to a CPU that the board lacks
pub due_at_absent : (image : Image) (f : Facts) (cpu : ℕ) → is_on_board image cpu ≡ false → due_at image f cpu ≡ None
unfolding due_at
due_at_absent image f cpu e = rw e refl

-- what is due to a CPU of the board, by its state
pub due_at_present : (image : Image) (f : Facts) (cpu : ℕ) → is_on_board image cpu ≡ true → due_at image f cpu ≡ entry_of image f (f.cpu cpu) cpu
unfolding due_at
due_at_present image f cpu e = rw e refl

pub by_cpu : (cpu cell : ℕ) (entry : Entry) (o : Option Act) → option_map (entry_by cpu cell) o ≡ Some entry → entry.cpu ≡ cpu
by_cpu cpu cell entry None h = absurd (none-some entry h)
by_cpu cpu cell entry (Some act) h = ap (λ (e : Entry). e.cpu) (sym (same_Some (entry_by cpu cell act) entry h))

at_board : (image : Image) (f : Facts) (cpu : ℕ) (entry : Entry) (b : Bool) → is_on_board image cpu ≡ b → due_at image f cpu ≡ Some entry → entry.cpu ≡ cpu
at_board image f cpu entry true e h = by_cpu cpu (f.cpu cpu).owner entry (next_act image f (f.cpu cpu) cpu) (sym (due_at_present image f cpu e) ∙ h)
at_board image f cpu entry false e h = absurd (none-some entry (sym (due_at_absent image f cpu e) ∙ h))

-- what is due to a CPU is its own
pub due_at_cpu : (image : Image) (f : Facts) (cpu : ℕ) (entry : Entry) → due_at image f cpu ≡ Some entry → entry.cpu ≡ cpu
due_at_cpu image f cpu entry h = at_board image f cpu entry (is_on_board image cpu) refl h

beyond_board : (image : Image) (f : Facts) (cpu : ℕ) (b : Bool) → is_on_board image cpu ≡ b → (IsTrue (is_on_board image cpu) → cpu < 16) → 16 ≤ cpu → due_at image f cpu ≡ None
beyond_board image f cpu true e few beyond = let lt : cpu < 16 = few (rw e refl) in absurd (omega arith)
beyond_board image f cpu false e few beyond = due_at_absent image f cpu e

-- nothing is due to a CPU beyond those that a board may have
pub due_at_beyond : (image : Image) (f : Facts) (cpu : ℕ) → (IsTrue (is_on_board image cpu) → cpu < 16) → 16 ≤ cpu → due_at image f cpu ≡ None
due_at_beyond image f cpu few beyond = beyond_board image f cpu (is_on_board image cpu) refl few beyond

-- a journal with the entry that is due to a CPU is legal
pub IsLegal_made : (image : Image) (form : Form) (old new : List Entry) (cpu : ℕ) (entry : Entry) → IsLegal image form old → due image form old cpu ≡ Some entry → new ≡ old ++ entry ∷ [] → IsLegal image form new
IsLegal_made image form old new cpu entry legal made is =
    let own : due image form old entry.cpu ≡ Some entry = ap (due image form old) (due_at_cpu image (facts image form old) cpu entry made) ∙ made in
    rw is (IsLegal_push image form old entry legal own)

-- a round of sixteen CPUs from any on meets each
pub none_round : (image : Image) (f : Facts) (first cpu : ℕ) → first < 16 → cpu < 16 → ((j : ℕ) → j < 16 → due_at image f ((first + j) % 16) ≡ None) → due_at image f cpu ≡ None
none_round image f first cpu few below none = elim (cases_lt cpu first) [
  | inl lt ↦ (let e : cpu ≡ (first + ((cpu + 16) - first)) % 16 = omega arith in ap (due_at image f) e) ∙ none ((cpu + 16) - first) (omega arith)
  | inr le ↦ (let e : cpu ≡ (first + (cpu - first)) % 16 = omega arith in ap (due_at image f) e) ∙ none (cpu - first) (omega arith)
]

-- that none was found, as `is_none` answers it
pub none_found : {P : Type 0} (found : Option ℕ) (none : Bool) → is_some found ≡ not none → IsTrue (is_none found) ↔ P → IsTrue none ↔ P
none_found {P} found true e h = let Q : Bool → Type 0 = λ b. IsTrue (not b) ↔ P in subst Q e h
none_found {P} found false e h = let Q : Bool → Type 0 = λ b. IsTrue (not b) ↔ P in subst Q e h

-- what an operation comes to, by what its access reaches
pub act_of_read : (i : Image) (f : Facts) (cell : ℕ) (op : Op) (width at : ℕ) (got : Option ℕ) (found : Reach) → op ≡ ReadOp width at → got ≡ read_of f.byte (devices_of i f cell) found → IsReachOf i f cell op found → Some (Read width at got) ≡ act_of i f cell op
act_of_read i f cell op width at got found is e reached =
    let P : Op → Type 0 = λ o. IsReachOf i f cell o found → Some (Read width at got) ≡ act_of i f cell o in
    subst P (sym is) (λ own. ap (λ (g : Option ℕ). Some (Read width at g)) (e ∙ ap (read_of f.byte (devices_of i f cell)) (own (record { access = ToRead; at = at; width = width }) refl))) reached

pub act_of_fetch : (i : Image) (f : Facts) (cell : ℕ) (op : Op) (at : ℕ) (got : Option ℕ) (found : Reach) → op ≡ FetchOp at → got ≡ read_of f.byte (devices_of i f cell) found → IsReachOf i f cell op found → Some (Fetch at got) ≡ act_of i f cell op
act_of_fetch i f cell op at got found is e reached =
    let P : Op → Type 0 = λ o. IsReachOf i f cell o found → Some (Fetch at got) ≡ act_of i f cell o in
    subst P (sym is) (λ own. ap (λ (g : Option ℕ). Some (Fetch at g)) (e ∙ ap (read_of f.byte (devices_of i f cell)) (own (record { access = ToFetch; at = at; width = 4 }) refl))) reached

pub act_of_write : (i : Image) (f : Facts) (cell : ℕ) (op : Op) (width at value : ℕ) (ok : Bool) (found : Reach) → op ≡ WriteOp width at value → ok ≡ is_reached found → IsReachOf i f cell op found → Some (Write width at value ok) ≡ act_of i f cell op
act_of_write i f cell op width at value ok found is e reached =
    let P : Op → Type 0 = λ o. IsReachOf i f cell o found → Some (Write width at value ok) ≡ act_of i f cell o in
    subst P (sym is) (λ own. ap (λ (b : Bool). Some (Write width at value b)) (e ∙ ap is_reached (own (record { access = ToWrite; at = at; width = width }) refl))) reached

pub act_of_await : (i : Image) (f : Facts) (cell : ℕ) (op : Op) (width at value : ℕ) (got : Option ℕ) (found : Reach) → op ≡ AwaitOp width at value → got ≡ read_of f.byte (devices_of i f cell) found → IsReachOf i f cell op found → await_of width at value got ≡ act_of i f cell op
act_of_await i f cell op width at value got found is e reached =
    let P : Op → Type 0 = λ o. IsReachOf i f cell o found → await_of width at value got ≡ act_of i f cell o in
    subst P (sym is) (λ own. ap (await_of width at value) (e ∙ ap (read_of f.byte (devices_of i f cell)) (own (record { access = ToRead; at = at; width = width }) refl))) reached

-- a write reaches what its operation reaches
pub write_reaches : (i : Image) (f : Facts) (cell : ℕ) (op : Op) (width at value : ℕ) (found : Reach) → op ≡ WriteOp width at value → IsReachOf i f cell op found → found ≡ reach i f cell ToWrite at width
write_reaches i f cell op width at value found is reached = reached (record { access = ToWrite; at = at; width = width }) (ap wanted_of is)

pub is_some_entry : (cpu cell : ℕ) (o : Option Act) → is_some (option_map (entry_by cpu cell) o) ≡ is_some o
is_some_entry cpu cell None = refl
is_some_entry cpu cell (Some act) = refl

-- whether an entry is due to a CPU of the board
pub due_at_some : (i : Image) (f : Facts) (cpu : ℕ) (state : Cpu) → is_on_board i cpu ≡ true → state ≡ f.cpu cpu → is_some (next_act i f state cpu) ≡ is_some (due_at i f cpu)
due_at_some i f cpu state on is =
    ap (λ (s : Cpu). is_some (next_act i f s cpu)) is
    ∙ sym (is_some_entry cpu (f.cpu cpu).owner (next_act i f (f.cpu cpu) cpu))
    ∙ ap (λ (o : Option Entry). is_some o) (sym (due_at_present i f cpu on))
