-- The numbers that entries tell keep to their types.
use Rattle.std.proofs.Common.{◌≡◌, ℕ, ℤ, pos, zero, suc, ◌+◌, ◌-◌, ◌*◌, ◌%◌, ◌^◌, ◌<◌, ◌≤◌, List, [], ◌∷◌, ◌++◌, true, ◌&&◌, eqb, length, get_or, Option, Some, None, refl, sym, ap, subst, ◌∙◌, ◌⊎◌, inl, inr, ⊎_elim, mod-lt, mul-le-mul_right, suc-mul, arith}
use Rattle.std.proofs.Math.Nat.{pow-succ'}
use Rattle.std.specs.Prelude.{FitsSigned, IfSome, nat_le, nat_lt, option_map}
use Rattle.std.specs.Int.{w64}
use Rattle.std.proofs.lemmas.Bool.{and_parts, cases_lt, cond_both, false≢true, leb-true, ltb-true}
use Rattle.std.proofs.lemmas.List.Elements.{All-contains}
use Rattle.std.proofs.lemmas.Option.{none-some, same_Some}
use Rattle.jh_num.specs.declared.error.TheConstants.{EPERM, ENOENT, EINVAL, ENOSYS}
use Rattle.jh_num.specs.Memory.{little_endian}
use Rattle.jh_num.proofs.Public.{zero_fits}
use Rattle.jh_cellcfg.specs.declared.live.Live.{Live}
use Rattle.jh_check.specs.Devices.{is_shmem}
use Rattle.jh_cpu.specs.declared.cpu.Cpu.{Cpu}
use Rattle.jh_call.specs.declared.call.Call.{Call}
use Rattle.jh_call.specs.declared.call.Call.TheVariants.{Info, State, CpuInfo, CpuOff, CpuOn, Affinity, Unknown}
use Rattle.jh_call.specs.declared.seen.Seen.{Seen}
use Rattle.jh_call.specs.declared.seen.PowerSeen.{PowerSeen}
use Rattle.jh_call.specs.declared.seen.PowerSeen.TheVariants.{Foreign as NotOwned, On, Off, Failed as IsDown}
use Rattle.jh_call.specs.declared.answers.TheConstants.{SUCCESS, INVALID_PARAMETERS, DENIED, ALREADY_ON, AFFINITY_ON, AFFINITY_OFF}
use Rattle.jh_call.specs.declared.seen.CpuSeen.{CpuSeen}
use Rattle.jh_call.specs.declared.seen.CpuSeen.TheVariants.{Absent, Foreign, Fine, Failed}
use Rattle.jh_call.specs.Calls.{decoded, is_management}
use Rattle.jh_call.specs.Answers.{info_of, state_answer, cpu_answer, on_answer, affinity_answer, answer_of}
use Rattle.jh_ivshmem.specs.declared.endpoint.Endpoint.{Endpoint}
use Rattle.jh_ivshmem.specs.declared.vector.Vector.{Vector}
use Rattle.jh_ivshmem.specs.declared.spec.EndpointSpec.{EndpointSpec}
use Rattle.jh_ivshmem.specs.Endpoint.{fresh_vector}
use Rattle.jh_ivshmem.specs.Links.{pending_of}
use Rattle.jh_ivshmem.proofs.Public.{named_device}
use Rattle.jh_script.specs.declared.image.Image.{Image}
use Rattle.jh_history.specs.declared.form.Form.{Form}
use Rattle.jh_script.specs.declared.op.Op.{Op}
use Rattle.jh_script.specs.declared.op.Op.TheVariants.{Read as ReadOp, Write as WriteOp, Fetch as FetchOp, Await as AwaitOp, Irq as IrqOp, Hvc as HvcOp}
use Rattle.jh_script.specs.Operations.{IsWellFormed}
use Rattle.jh_history.specs.declared.place.Place.{Place}
use Rattle.jh_history.specs.declared.place.Place.TheVariants.{Physical}
use Rattle.jh_history.specs.declared.access.Access.{Access}
use Rattle.jh_history.specs.declared.access.Access.TheVariants.{Read as ToRead, Fetch as ToFetch}
use Rattle.jh_history.specs.declared.call.Phase.{Phase}
use Rattle.jh_history.specs.declared.call.Phase.TheVariants.{ToDecide, ToSettle, ToCreate, ToCommit, ToNote, ToNoted, ToFinish}
use Rattle.jh_history.specs.declared.entry.Entry.{Entry}
use Rattle.jh_history.specs.declared.entry.Act.{Act}
use Rattle.jh_history.specs.declared.entry.Act.TheVariants.{Await, Irq, Hvc, Begin}
use Rattle.jh_history.specs.Admitted.{IsAdmitted, pool_pages}
use Rattle.jh_history.specs.Due.{due_at, act_of, await_of, got_by, is_idle_but, IsLegal}
use Rattle.jh_history.specs.Facts.{Facts}
use Rattle.jh_history.specs.History.{facts}
use Rattle.jh_history.specs.Hypercalls.{call_in, seen_of, answered}
use Rattle.jh_history.specs.Lives.{cell_in}
use Rattle.jh_shape.specs.Lives.{configs_of}
use Rattle.jh_history.specs.Sound.{IsInPhase, IsOfDevice, IsSoundEndpoint, IsSound}
use Rattle.jh_history.proofs.Public.{IsActIn, phase_act_holds, due_split, IsLegal_begin, board_few, next_from_due, legal_sound, specs_device, call_open}
use Rattle.jh_laws.specs.Grants.{place_behind}
use Rattle.jh_laws.specs.Held.{IsGrantedTo}
use Rattle.jh_laws.specs.Ends.{IsAnswered, IsAnsweredByConfig, IsReadBy, IsGotBy}
use Rattle.jh_laws.specs.Typed.{IsTypedImage, HasTypedAct}
use Rattle.jh_laws.proofs.CallLemmas.{IsMadeBy, Stopping, Running, Calling, made_by, phase_of_due}
use Rattle.jh_laws.proofs.DevicesLemmas.{endpoint_held}
use Rattle.jh_laws.proofs.EndsLemmas.{got_of_cell, ops_well_formed, width_some}
use Rattle.jh_laws.proofs.FewCellsLemmas.{AreTyped, IsTypedPhase, IsTypedBoard, few_typed, legal_typed, typed_phase}
use Rattle.jh_laws.proofs.FewLemmas.{length_map}
use Rattle.jh_laws.proofs.PendingLemmas.{endpoint_of_pending, next_is}
use Rattle.jh_laws.proofs.RefusalLemmas.{FitsRefusal, refusal_fits}
use Rattle.jh_laws.proofs.RegisterLemmas.{HasRegisters, register_small}

-- ---- the value of an access

one_more : (low b top : ℕ) → low < top → b < 256 → low + b * top < 256 * top
one_more low b top h k = let more : (b + 1) * top ≤ 256 * top = mul-le-mul_right top (omega (arith, k)) in omega (arith, more, h, suc-mul b top)

spelled_fits : (width : ℕ) (byte : ℕ → ℕ) → ((k : ℕ) → byte k < 256) → little_endian width byte < 256 ^ width
spelled_fits zero byte small = omega arith
spelled_fits (suc n) byte small = rw (pow-succ' 256 n) (one_more (little_endian n byte) (byte n) (256 ^ n) (spelled_fits n byte small) (small n))

-- a place for each number below the width, of those that there are
abbrev chosen : {P : ℕ → Place → Type 0} (width : ℕ) → ((k : ℕ) → k < width → (place : Place) × P k place) → (k : ℕ) → (k < width) ⊎ (width ≤ k) → Place
chosen width given k (inl lt) = (given k lt).0
chosen width given k (inr past) = Physical 0

chosen_is : {P : ℕ → Place → Type 0} (width : ℕ) (given : (k : ℕ) → k < width → (place : Place) × P k place) (k : ℕ) (found : (k < width) ⊎ (width ≤ k)) → k < width → P k (chosen {P = P} width given k found)
chosen_is width given k (inl lt) h = (given k lt).1
chosen_is width given k (inr past) h = absurd (omega (arith, past, h))

places_fit : (f : Facts) (width value : ℕ) (place : ℕ → Place) → IsTypedBoard f → value ≡ little_endian width (λ k. f.byte (place k)) → value < 256 ^ width
places_fit f width value place typed read = subst (λ v. v < 256 ^ width) (sym read) (spelled_fits width (λ k. f.byte (place k)) (λ k. typed.bytes (place k)))

-- what is read of a word is cut to the access
cut_fits : (n width : ℕ) → (width ≡ 1) ⊎ (width ≡ 2) ⊎ (width ≡ 4) → n % 2 ^ (8 * width) < 256 ^ width
cut_fits n width (inl is) = subst (λ w. n % 2 ^ (8 * w) < 256 ^ w) (sym is) (mod-lt n (omega arith))
cut_fits n width (inr (inl is)) = subst (λ w. n % 2 ^ (8 * w) < 256 ^ w) (sym is) (mod-lt n (omega arith))
cut_fits n width (inr (inr is)) = subst (λ w. n % 2 ^ (8 * w) < 256 ^ w) (sym is) (mod-lt n (omega arith))

window_fits : (image : Image) (f : Facts) (id : ℕ) (access : Access) (at width value : ℕ) → IsAnsweredByConfig image f.cells id access at width → IsReadBy image f id access at width value → value < 256 ^ width
window_fits image f id access at width value window read = elim (cases_lt value (256 ^ width)) [
  | inl small ↦ small
  | inr large ↦
      let of_function : (n : ℕ) → value ≡ n % 2 ^ (8 * width) → ⊥ = λ n is. let small = cut_fits n width window.wide in absurd (omega (arith, large, is, small)) in
      let ones : value ≡ 256 ^ width - 1 = read.ones window (λ e has. of_function _ (read.function e window has)) in
      absurd (omega (arith, large, ones, zero_fits width))
]

-- by what answers it
read_fits : (image : Image) (f : Facts) (id : ℕ) (access : Access) (at width value : ℕ) → IsSound image f → IsTypedBoard f → IsAnswered image f id access at width → IsReadBy image f id access at width value → value < 256 ^ width
read_fits image f id access at width value sound typed (inl granted) read =
    let P : ℕ → Place → Type 0 = λ k place. IsGrantedTo image f.cells id access (at + k) place in
    let place : ℕ → Place = λ k. chosen {P = P} width granted k (cases_lt k width) in
    places_fit f width value place typed (read.bytes place (inl (λ k lt. chosen_is {P = P} width granted k (cases_lt k width) lt)))
read_fits image f id access at width value sound typed (inr (inl answered)) read =
    let region = answered.0 in
    let place : ℕ → Place = λ k. place_behind answered.1.has.cell region ((at + k) - region.virt_start) in
    places_fit f width value place typed (read.bytes place (inr (record { region = region; answers = answered.1; given = λ k lt. refl })))
read_fits image f id access at width value sound typed (inr (inr (inl window))) read = window_fits image f id access at width value window read
read_fits image f id access at width value sound typed (inr (inr (inr register))) read =
    let e : Endpoint = register.3 in
    let answered = register.4 in
    let held = endpoint_held image f id register.0 e answered.within.is.there in
    let whole = All-contains IsSoundEndpoint f.endpoints e sound.endpoints.sound held in
    let small = register_small e register.1 register.2 whole.within (All-contains HasRegisters f.endpoints e typed.endpoints held) in
    let is = read.register register.0 register.1 register.2 e answered in
    subst (λ w. value < 256 ^ w) (sym answered.wide) (subst (λ v. v < 2 ^ 32) (sym is) small)

got_fits : (image : Image) (f : Facts) (id : ℕ) (access : Access) (at width : ℕ) (got : Option ℕ) → IsSound image f → IsTypedBoard f → IsGotBy image f id access at width got → IfSome got (λ value. value < 256 ^ width)
got_fits image f id access at width None sound typed outcome = tt
got_fits image f id access at width (Some value) sound typed outcome = read_fits image f id access at width value sound typed (outcome.answered.0 refl) (outcome.reads value refl)

-- ---- hypercalls

-- the numbers that are seen are small
record IsFewSeen (seen : Seen) : Type 0 where
  size : seen.size < 2 ^ 63
  used : seen.used < 2 ^ 63
  cells : seen.cells < 2 ^ 63

abbrev Fits : ℤ → Type 0
Fits answer = FitsSigned w64 answer

number_fits : (n : ℕ) → n < 2 ^ 63 → Fits (pos n)
number_fits n small = record { sfits = small }

permission_fits : Fits EPERM
permission_fits = record { sfits = omega arith }

missing_fits : Fits ENOENT
missing_fits = record { sfits = omega arith }

invalid_fits : Fits EINVAL
invalid_fits = record { sfits = omega arith }

unknown_fits : Fits ENOSYS
unknown_fits = record { sfits = omega arith }

info_fits : (kind : ℕ) (seen : Seen) → IsFewSeen seen → Fits (info_of kind seen)
info_fits kind seen few =
    cond_both (eqb kind 0) _ _ Fits (λ _. number_fits seen.size few.size)
    (λ _. cond_both (eqb kind 1) _ _ Fits (λ _. number_fits seen.used few.used)
    (λ _. cond_both (eqb kind 4) _ _ Fits (λ _. number_fits seen.cells few.cells) (λ _. invalid_fits)))

state_fits : (state : Option ℕ) → Fits (state_answer state)
state_fits None = missing_fits
state_fits (Some state) = cond_both (nat_le state 4) (pos state) EINVAL Fits (λ few. number_fits state (omega (arith, leb-true state 4 few))) (λ _. invalid_fits)

cpu_fits : (kind : ℕ) (cpu : CpuSeen) → Fits (cpu_answer kind cpu)
cpu_fits kind Absent = invalid_fits
cpu_fits kind Foreign = permission_fits
cpu_fits kind Fine = cond_both (eqb kind 0) (pos 0) EINVAL Fits (λ _. number_fits 0 (omega arith)) (λ _. invalid_fits)
cpu_fits kind Failed = cond_both (eqb kind 0) (pos 2) EINVAL Fits (λ _. number_fits 2 (omega arith)) (λ _. invalid_fits)

success_fits : Fits (pos 0)
success_fits = number_fits 0 (omega arith)

one_fits : Fits (pos 1)
one_fits = number_fits 1 (omega arith)

parameters_fit : Fits INVALID_PARAMETERS
parameters_fit = record { sfits = omega arith }

denied_fits : Fits DENIED
denied_fits = record { sfits = omega arith }

already_fits : Fits ALREADY_ON
already_fits = record { sfits = omega arith }

on_fits : (power : PowerSeen) → Fits (on_answer power)
on_fits NotOwned = parameters_fit
on_fits On = already_fits
on_fits Off = success_fits
on_fits IsDown = denied_fits

affinity_fits : (level : ℕ) (power : PowerSeen) → Fits (affinity_answer level power)
affinity_fits level NotOwned = parameters_fit
affinity_fits level On = cond_both (eqb level 0) AFFINITY_ON INVALID_PARAMETERS Fits (λ _. success_fits) (λ _. parameters_fit)
affinity_fits level Off = cond_both (eqb level 0) AFFINITY_OFF INVALID_PARAMETERS Fits (λ _. one_fits) (λ _. parameters_fit)
affinity_fits level IsDown = cond_both (eqb level 0) AFFINITY_OFF INVALID_PARAMETERS Fits (λ _. one_fits) (λ _. parameters_fit)

answer_fits : (call : Call) (seen : Seen) → IsFewSeen seen → Fits (answer_of call seen)
answer_fits (Info kind) seen few = info_fits kind seen few
answer_fits (State id) seen few = cond_both seen.root (state_answer seen.state) EPERM Fits (λ _. state_fits seen.state) (λ _. permission_fits)
answer_fits (CpuInfo cpu kind) seen few = cpu_fits kind seen.cpu
answer_fits CpuOff seen few = cond_both seen.root ENOSYS SUCCESS Fits (λ _. unknown_fits) (λ _. success_fits)
answer_fits (CpuOn cpu) seen few = cond_both seen.root ENOSYS (on_answer seen.power) Fits (λ _. unknown_fits) (λ _. on_fits seen.power)
answer_fits (Affinity cpu level) seen few = cond_both seen.root ENOSYS (affinity_answer level seen.power) Fits (λ _. unknown_fits) (λ _. affinity_fits level seen.power)
answer_fits Unknown seen few = unknown_fits
answer_fits _ seen few = permission_fits

few_seen : (image : Image) (f : Facts) (cell : ℕ) (call : Call) → IsSound image f → IsTypedBoard f → IsFewSeen (seen_of image f cell call)
few_seen image f cell call sound typed =
    let memory = sound.cells.clean.memory.few in
    let size : pool_pages image.system < 2 ^ 63 = omega (arith, memory) in
    let few = few_typed image f sound typed in
    let long = length_map (λ (live : Live). live.config) f.cells in
    record { size = size; used = omega (arith, sound.cells.room, size); cells = omega (arith, few, long) }

-- ---- interrupts

pending_within : (vectors : List Vector) (v : ℕ) → (get_or vectors v fresh_vector).pending ≡ true → v < length vectors
pending_within [] v h = absurd (false≢true h)
pending_within (x ∷ xs) zero h = omega arith
pending_within (x ∷ xs) (suc v) h = omega (arith, pending_within xs v h)

pending_fits : (image : Image) (f : Facts) (id n v : ℕ) → IsSound image f → pending_of id f.endpoints ≡ Some (n, v) → (n < 2 ^ 32) × (v < 256)
pending_fits image f id n v sound is =
    let at = endpoint_of_pending f id n v (next_is image f id n v sound is).pending in
    let e : Endpoint = at.0 in
    let held = endpoint_held image f id n e at.1 in
    let whole = All-contains IsSoundEndpoint f.endpoints e sound.endpoints.sound held in
    let within : v < length e.vectors = pending_within e.vectors v at.2 in
    let own = All-contains (λ (o : Endpoint). IsOfDevice image (configs_of f.cells) o.spec) f.endpoints e sound.endpoints.own held in
    let h = specs_device own.0 e.spec own.2 in
    let passes : nat_lt h.number (2 ^ 32) ≡ true = (and_parts (nat_lt h.number (2 ^ 32)) (is_shmem h.device) h.passes).0 in
    let number : n ≡ h.number = sym (named_device id n f.endpoints e at.1) ∙ ap (λ (s : EndpointSpec). s.device) h.is in
    (subst (λ k. k < 2 ^ 32) (sym number) (ltb-true h.number (2 ^ 32) passes), omega (arith, within, whole.vectors))

-- ---- operations

abbrev IsTypedAct : Option Act → Type 0
IsTypedAct o = IfSome o HasTypedAct

await_told : (width at value : ℕ) (o : Option ℕ) → IsTypedAct (await_of width at value o)
await_told width at value None = tt
await_told width at value (Some got) = cond_both (eqb got value) (Some (Await width at value true)) None IsTypedAct (λ _. tt) (λ _. tt)

irq_told : (o : Option (ℕ × ℕ)) → ((n v : ℕ) → o ≡ Some (n, v) → (n < 2 ^ 32) × (v < 256)) → IsTypedAct (option_map (λ (next : ℕ × ℕ). Irq next.0 next.1) o)
irq_told None h = tt
irq_told (Some next) h = h next.0 next.1 refl

op_told : (image : Image) (f : Facts) (id : ℕ) (op : Op) → IsSound image f → IsTypedBoard f → IsWellFormed op → IsTypedAct (act_of image f id op)
op_told image f id (ReadOp width at) sound typed plain = got_fits image f id ToRead at width (got_by image f id ToRead at width) sound typed (got_of_cell image f id ToRead at width sound (width_some width plain))
op_told image f id (WriteOp width at value) sound typed plain = tt
op_told image f id (FetchOp at) sound typed plain = got_fits image f id ToFetch at 4 (got_by image f id ToFetch at 4) sound typed (got_of_cell image f id ToFetch at 4 sound (omega arith))
op_told image f id (AwaitOp width at value) sound typed plain = await_told width at value (got_by image f id ToRead at width)
op_told image f id IrqOp sound typed plain = irq_told (pending_of id f.endpoints) (λ n v is. pending_fits image f id n v sound is)
op_told image f id (HvcOp code a b) sound typed plain =
    let call : Call = decoded code a b in
    cond_both (eqb id image.system.root.id && is_management call) (Begin code a b) (Hvc code a b (answered image f id (call_in f.form call))) HasTypedAct
    (λ _. tt) (λ _. answer_fits (call_in f.form call) (seen_of image f id (call_in f.form call)) (few_seen image f id (call_in f.form call) sound typed))

told_by : (act : Act) (o : Option Act) → IsTypedAct o → o ≡ Some act → HasTypedAct act
told_by act None h is = absurd (none-some act is)
told_by act (Some other) h is = subst HasTypedAct (same_Some other act is) h

-- ---- phases

in_phase : (image : Image) (f : Facts) (caller : ℕ) (call : Call) (phase : Phase) (act : Act) → IsActIn image f caller call phase act → IsInPhase image (configs_of f.cells) f.cpu caller call phase
    → AreTyped (configs_of f.cells) → IsTypedPhase phase → FitsRefusal act → HasTypedAct act
in_phase image f caller call ToDecide act is holds cells typed refusal = subst HasTypedAct (sym is) (subst FitsRefusal is refusal)
in_phase image f caller call (ToSettle waited) act is holds cells typed refusal = subst HasTypedAct (sym is.1) tt
in_phase image f caller call (ToCreate config) act is holds cells typed refusal = subst HasTypedAct (sym is) tt
in_phase image f caller call ToCommit act is holds cells typed refusal = subst HasTypedAct (sym is) tt
in_phase image f caller call (ToNote id about answer) act is holds cells typed refusal =
    let small : id < 2 ^ 32 = subst (λ n. n < 2 ^ 32) holds.0.named (cells holds.0.config holds.0.among).id in
    subst HasTypedAct (sym is) small
in_phase image f caller call (ToNoted id about answer waited) act is holds cells typed refusal =
    let small : id < 2 ^ 32 = subst (λ n. n < 2 ^ 32) holds.0.named (cells holds.0.config holds.0.among).id in
    subst HasTypedAct (sym is.1) small
in_phase image f caller call (ToFinish answer) act is holds cells typed refusal = subst HasTypedAct (sym is) typed

-- ---- entries

made_told : (image : Image) (f : Facts) (entry : Entry) → IsAdmitted image → IsSound image f → IsTypedBoard f → due_at image f entry.cpu ≡ Some entry → IsMadeBy image f entry → HasTypedAct entry.act
made_told image f entry admitted sound typed due (Stopping is) = subst HasTypedAct is tt
made_told image f entry admitted sound typed due (Calling phase) =
    let of = phase_of_due image f entry sound due phase in
    let o = of.o in
    let act = phase_act_holds image f (is_idle_but image f o.caller) o.caller o.call o.phase entry.act of.act in
    in_phase image f o.caller o.call o.phase entry.act act (call_open image f o sound of.opens).phase typed.cells (typed_phase f.call o of.opens typed.call) (refusal_fits image f entry sound due)
made_told image f entry admitted sound typed due (Running program) =
    let state : Cpu = f.cpu entry.cpu in
    let plain = ops_well_formed image entry.cpu (cell_in image f.cells state.owner) state.position program.op admitted program.at in
    told_by entry.act (act_of image f state.owner program.op) (op_told image f state.owner program.op sound typed plain) program.is

pub told_at : (image : Image) (form : Form) (before rest : List Entry) (entry : Entry) → IsAdmitted image → IsTypedImage image → IsLegal image form (before ++ entry ∷ rest) → HasTypedAct entry.act
told_at image form before rest entry admitted opens legal =
    let f : Facts = facts image form before in
    let early : IsLegal image form before = IsLegal_begin image form before (entry ∷ rest) legal in
    let sound = legal_sound image form before admitted early in
    let due : due_at image f entry.cpu ≡ Some entry = due_split image form before rest entry legal in
    made_told image f entry admitted sound (legal_typed image form before admitted opens.bytes early) due (made_by image f entry sound due)

pub cell_small : (image : Image) (form : Form) (before rest : List Entry) (entry : Entry) → IsAdmitted image → IsTypedImage image → IsLegal image form (before ++ entry ∷ rest) → entry.cell < 2 ^ 32
cell_small image form before rest entry admitted opens legal =
    let f : Facts = facts image form before in
    let early : IsLegal image form before = IsLegal_begin image form before (entry ∷ rest) legal in
    let sound = legal_sound image form before admitted early in
    let typed = legal_typed image form before admitted opens.bytes early in
    let next = next_from_due image f entry (due_split image form before rest entry legal) in
    let P : ℕ → Type 0 = λ id. id < 2 ^ 32 in
    subst P (sym next.cell)
    (⊎_elim (λ root. subst P (sym root) opens.root) (λ cell. subst P (sym cell.2) (typed.cells cell.0 cell.1).id) (sound.cpus.others entry.cpu))

pub cpu_small : (image : Image) (form : Form) (before rest : List Entry) (entry : Entry) → IsAdmitted image → IsLegal image form (before ++ entry ∷ rest) → entry.cpu < 16
cpu_small image form before rest entry admitted legal =
    let f : Facts = facts image form before in
    let sound = legal_sound image form before admitted (IsLegal_begin image form before (entry ∷ rest) legal) in
    board_few image (configs_of f.cells) sound.cells.clean entry.cpu (next_from_due image f entry (due_split image form before rest entry legal)).board
