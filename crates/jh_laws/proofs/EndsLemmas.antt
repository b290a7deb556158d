-- How the accesses of live cells end on a sound board.
use Rattle.std.proofs.Common.{◌≡◌, ℕ, ◌+◌, ◌-◌, ◌^◌, ◌<◌, List, [], ◌∷◌, ◌++◌, true, false, ◌&&◌, eqb, map, Option, Some, None, refl, sym, ap, subst, ◌∙◌, inl, inr, ⊎_elim, arith}
use Rattle.std.specs.Prelude.{option_map, slice_get, IsTrue, IfSome}
use Rattle.std.specs.Option.{option_map_or}
use Rattle.std.proofs.lemmas.Bool.{cond_both, eqb-true, false≢true}
use Rattle.std.proofs.lemmas.Option.{none-some, same_Some}
use Rattle.jh_num.specs.Memory.{spelled}
use Rattle.jh_cellcfg.specs.declared.config.CellConfig.{CellConfig}
use Rattle.jh_cellcfg.specs.declared.live.Live.{Live}
use Rattle.jh_cellcfg.specs.declared.region.Region.{Region}
use Rattle.jh_cellcfg.specs.Cells.{name_of}
use Rattle.jh_script.specs.declared.image.Image.{Image}
use Rattle.jh_history.specs.declared.form.Form.{Form}
use Rattle.jh_script.specs.declared.op.Op.{Op}
use Rattle.jh_script.specs.declared.op.Op.TheVariants.{Read as ReadOp, Write as WriteOp, Fetch as FetchOp, Await as AwaitOp, Irq as IrqOp, Hvc as HvcOp}
use Rattle.jh_script.specs.Operations.{IsWellFormed, is_width}
use Rattle.jh_cpu.specs.declared.cpu.Cpu.{Cpu}
use Rattle.jh_ivshmem.specs.declared.endpoint.Endpoint.{Endpoint}
use Rattle.jh_ivshmem.specs.Links.{pending_of}
use Rattle.jh_ivshmem.specs.Registers.{register_of}
use Rattle.jh_call.specs.Calls.{decoded, is_management}
use Rattle.jh_history.specs.declared.place.Place.{Place}
use Rattle.jh_history.specs.declared.place.Place.TheVariants.{Physical}
use Rattle.jh_history.specs.declared.access.Access.{Access}
use Rattle.jh_history.specs.declared.access.Access.TheVariants.{Read as ToRead, Write as ToWrite, Fetch as ToFetch}
use Rattle.jh_history.specs.declared.access.Reach.{Reach}
use Rattle.jh_history.specs.declared.entry.Entry.{Entry}
use Rattle.jh_history.specs.declared.entry.Act.{Act}
use Rattle.jh_history.specs.declared.entry.Act.TheVariants.{Read, Write, Fetch, Await, Irq, Hvc, Begin, Stop}
use Rattle.jh_history.specs.Access.{place_in_cell, config_value, register_value, read_of, is_reached}
use Rattle.jh_history.specs.Devices.{function_at}
use Rattle.jh_history.specs.Facts.{Facts}
use Rattle.jh_history.specs.Lives.{cell_in, ops_in, program_ops}
use Rattle.jh_history.specs.Grants.{granted, reach, devices_of}
use Rattle.jh_history.specs.Hypercalls.{call_in, answered}
use Rattle.jh_shape.specs.Lives.{configs_of}
use Rattle.jh_history.specs.History.{facts}
use Rattle.jh_history.specs.Due.{due_at, act_of, await_of, got_by, IsLegal}
use Rattle.jh_history.specs.Admitted.{IsAdmitted}
use Rattle.jh_history.proofs.Public.{due_split, IsLegal_begin, next_from_due, legal_sound}
use Rattle.jh_history.specs.Sound.{AreSoundCells, IsSound}
use Rattle.jh_laws.specs.Ways.{is_phase}
use Rattle.jh_laws.proofs.RootLemmas.{op_well_formed}
use Rattle.jh_laws.proofs.CallLemmas.{IsMadeBy, Stopping, Running, Calling, made_by}
use Rattle.jh_laws.specs.Held.{IsGrantedTo, AreGrantedTo}
use Rattle.jh_laws.proofs.HeldLemmas.{granted_to}
use Rattle.jh_laws.specs.Ends.{IsAnsweredBy, IsAnsweredByConfig, IsAnsweredByRegister, IsFunctionAt, IsAnswered, AreItsPlaces, GivesPlaces, offset_in, IsReadBy, IsGotBy, IsAwaitedBy, EndsAsGranted}
use Rattle.jh_laws.proofs.DevicesLemmas.{function_is, function_has, told_function, told_ones, told_register, same_register}
use Rattle.jh_laws.proofs.ReachedLemmas.{Way, OnMemory, OnRegion, OnWindow, OnRegister, OnNothing, way, places_of_memory, places_of_region, region_places, ByRegister}
use Rattle.jh_laws.proofs.ListedLemmas.{listed, spelled_listed}

-- ---- what a reading access gets

-- an access that configuration space answers has no places
pub window_places : (image : Image) (cells : List Live) (id : ℕ) (access : Access) (at width : ℕ) (place : ℕ → Place) → IsAnsweredByConfig image cells id access at width → AreItsPlaces image cells id access at width place → ⊥
window_places image cells id access at width place window are =
    ⊎_elim
    (λ each. window.behind.lacks (λ k lt. (place k, each k lt)))
    (λ (by : GivesPlaces image cells id access at width place). window.none by.region by.answers.has)
    are

-- and so has one that a register answers
pub register_places : (image : Image) (f : Facts) (id : ℕ) (access : Access) (at width n bar offset : ℕ) (e : Endpoint) (place : ℕ → Place) → IsAnsweredByRegister image f id access at width n bar offset e → AreItsPlaces image f.cells id access at width place → ⊥
register_places image f id access at width n bar offset e place register are =
    ⊎_elim
    (λ each. register.behind.lacks (λ k lt. (place k, each k lt)))
    (λ (by : GivesPlaces image f.cells id access at width place). register.none by.region by.answers.has)
    are

got_on : (image : Image) (f : Facts) (id : ℕ) (access : Access) (at width : ℕ) → IsSound image f → 0 < width → Way image f id access at width → IsGotBy image f id access at width (got_by image f id access at width)
got_on image f id access at width sound some (OnMemory ps granted is) =
    let P : Reach → Type 0 = λ r. IsGotBy image f id access at width (read_of f.byte (devices_of image f id) r) in
    subst P (sym is) (record {
      answered = (λ _. inl granted, λ _. refl);
      reads = λ value e. record {
        bytes = λ place are.
            same_Some value (spelled (map f.byte (listed place width))) (sym e ∙ ap (λ (qs : List Place). Some (spelled (map f.byte qs))) (places_of_memory image f id access at width ps place sound.cells some granted is are))
            ∙ spelled_listed f.byte place width;
        function = λ o window. absurd (window.behind.lacks granted);
        ones = λ window. absurd (window.behind.lacks granted);
        register = λ n bar offset o by. absurd (by.behind.lacks granted);
      };
    })
got_on image f id access at width sound some (OnRegion r answers is) =
    let P : Reach → Type 0 = λ r. IsGotBy image f id access at width (read_of f.byte (devices_of image f id) r) in
    subst P (sym is) (record {
      answered = (λ _. inr (inl (r, answers)), λ _. refl);
      reads = λ value e. record {
        bytes = λ place are.
            same_Some value (spelled (map f.byte (listed place width))) (sym e ∙ ap (λ (qs : List Place). Some (spelled (map f.byte qs))) (places_of_region image f id access at width r place sound.cells some answers are))
            ∙ spelled_listed f.byte place width;
        function = λ o window. absurd (window.none r answers.has);
        ones = λ window. absurd (window.none r answers.has);
        register = λ n bar offset o by. absurd (by.none r answers.has);
      };
    })
got_on image f id access at width sound some (OnWindow window is) =
    let P : Reach → Type 0 = λ r. IsGotBy image f id access at width (read_of f.byte (devices_of image f id) r) in
    let offset : ℕ = at - image.system.platform.pci_mmconfig_base in
    let told : ℕ = config_value (devices_of image f id) (record { at = offset; width = width }) in
    subst P (sym is) (record {
      answered = (λ _. inr (inr (inl window)), λ _. refl);
      reads = λ value e. record {
        bytes = λ place are. absurd (window_places image f.cells id access at width place window are);
        function = λ o _ has. same_Some value told (sym e) ∙ told_function image f id offset width o sound has;
        ones = λ _ none. same_Some value told (sym e) ∙ told_ones image f id offset width none;
        register = λ n bar offset o by. absurd (by.outside window.within);
      };
    })
got_on image f id access at width sound some (OnRegister n bar offset o register is) =
    let P : Reach → Type 0 = λ r. IsGotBy image f id access at width (read_of f.byte (devices_of image f id) r) in
    let told : ℕ = register_value (devices_of image f id) (record { device = n; bar = bar; at = offset }) in
    subst P (sym is) (record {
      answered = (λ _. inr (inr (inr (n, bar, offset, o, register))), λ _. refl);
      reads = λ value e. record {
        bytes = λ place are. absurd (register_places image f id access at width n bar offset o place register are);
        function = λ p window has. absurd (register.outside window.within);
        ones = λ window none. absurd (register.outside window.within);
        register = λ m other place p by.
            same_Some value told (sym e) ∙ told_register image f id n bar offset o register.within.is.there
            ∙ same_register image f id access at width n bar offset m other place o p (λ _ b a q. register_of q b a) register by;
      };
    })
got_on image f id access at width sound some (OnNothing none is) =
    let P : Reach → Type 0 = λ r. IsGotBy image f id access at width (read_of f.byte (devices_of image f id) r) in
    subst P (sym is) (record {
      answered = (λ e. absurd (false≢true e), λ h. absurd (none h));
      reads = λ value e. absurd (none-some value e);
    })

pub got_of_cell : (image : Image) (f : Facts) (id : ℕ) (access : Access) (at width : ℕ) → IsSound image f → 0 < width → IsGotBy image f id access at width (got_by image f id access at width)
got_of_cell image f id access at width sound some = got_on image f id access at width sound some (way image f id access at width sound some)

-- the places that are granted, by their index
abbrev pub picked_place : Option Place → Place
picked_place None = Physical 0
picked_place (Some p) = p

pub granted_places : (image : Image) (f : Facts) (id : ℕ) (access : Access) (at width : ℕ) → AreSoundCells image.system (configs_of f.cells) → AreGrantedTo image f.cells id access at width
    → (k : ℕ) → k < width → IsGrantedTo image f.cells id access (at + k) (picked_place (granted image f id access (at + k)))
granted_places image f id access at width sound each k lt =
    let P : Place → Type 0 = IsGrantedTo image f.cells id access (at + k) in
    subst P (ap picked_place (sym (granted_to image f id access (at + k) (each k lt).0 sound (each k lt).1))) (each k lt).1

-- an access that something answers reads one value
window_value : (image : Image) (f : Facts) (id : ℕ) (access : Access) (at width n m : ℕ) (o : Option Endpoint) → IsAnsweredByConfig image f.cells id access at width → function_at (devices_of image f id) (offset_in image.system at) ≡ o
    → IsReadBy image f id access at width n → IsReadBy image f id access at width m → IsSound image f → n ≡ m
window_value image f id access at width n m None window is one other sound =
    let none : (e : Endpoint) → IsFunctionAt image f id (offset_in image.system at) e → ⊥ = λ e has. none-some e (sym is ∙ function_is image f id (offset_in image.system at) e sound has) in
    one.ones window none ∙ sym (other.ones window none)
window_value image f id access at width n m (Some e) window is one other sound =
    let has = function_has image f id (offset_in image.system at) e is in
    one.function e window has ∙ sym (other.function e window has)

pub one_value : (image : Image) (f : Facts) (id : ℕ) (access : Access) (at width n m : ℕ) → IsSound image f → IsAnswered image f id access at width → IsReadBy image f id access at width n → IsReadBy image f id access at width m → n ≡ m
one_value image f id access at width n m sound answered one other =
    ⊎_elim
    (λ (granted_all : AreGrantedTo image f.cells id access at width).
    let place : ℕ → Place = λ k. picked_place (granted image f id access (at + k)) in
    let are : AreItsPlaces image f.cells id access at width place = inl (granted_places image f id access at width sound.cells granted_all) in
    one.bytes place are ∙ sym (other.bytes place are))
    (λ rest. ⊎_elim
    (λ (by : (r : Region) × IsAnsweredBy image f.cells id access at width r).
    let place : ℕ → Place = λ k. place_in_cell id by.0 (at + k) in
    let are : AreItsPlaces image f.cells id access at width place = region_places image f.cells id access at width by.0 by.1 in
    one.bytes place are ∙ sym (other.bytes place are))
    (λ more. ⊎_elim
    (λ (window : IsAnsweredByConfig image f.cells id access at width). window_value image f id access at width n m (function_at (devices_of image f id) (offset_in image.system at)) window refl one other sound)
    (λ (by : ByRegister image f id access at width). one.register by.0 by.1 by.2 by.3 by.4 ∙ sym (other.register by.0 by.1 by.2 by.3 by.4))
    more)
    rest)
    answered

-- an access succeeds exactly where something answers it
reached_on : (image : Image) (f : Facts) (id : ℕ) (access : Access) (at width : ℕ) → Way image f id access at width
    → (is_reached (reach image f id access at width) ≡ true → IsAnswered image f id access at width) × (IsAnswered image f id access at width → is_reached (reach image f id access at width) ≡ true)
reached_on image f id access at width (OnMemory ps granted is) = (λ _. inl granted, λ _. ap is_reached is)
reached_on image f id access at width (OnRegion r answers is) = (λ _. inr (inl (r, answers)), λ _. ap is_reached is)
reached_on image f id access at width (OnWindow window is) = (λ _. inr (inr (inl window)), λ _. ap is_reached is)
reached_on image f id access at width (OnRegister n bar offset e register is) = (λ _. inr (inr (inr (n, bar, offset, e, register))), λ _. ap is_reached is)
reached_on image f id access at width (OnNothing none is) = (λ e. absurd (false≢true (sym (ap is_reached is) ∙ e)), λ h. absurd (none h))

pub reached_of_cell : (image : Image) (f : Facts) (id : ℕ) (access : Access) (at width : ℕ) → IsSound image f → 0 < width
    → (is_reached (reach image f id access at width) ≡ true → IsAnswered image f id access at width) × (IsAnswered image f id access at width → is_reached (reach image f id access at width) ≡ true)
reached_of_cell image f id access at width sound some = reached_on image f id access at width (way image f id access at width sound some)

-- ---- how an operation ends

pub width_some : (w : ℕ) → IsTrue (is_width w) → 0 < w
width_some w h = grind arith

abbrev Ends : Image → Facts → ℕ → Option Act → Type 0
Ends image f id o = IfSome o (EndsAsGranted image f id)

await_failed : (image : Image) (f : Facts) (id at width value : ℕ) (got : Option ℕ) → IsGotBy image f id ToRead at width got → got ≡ None → IsAwaitedBy image f id at width value false
await_failed image f id at width value got outcome none = record {
  answered = (λ h. absurd (false≢true h), λ each. absurd (false≢true (let some = outcome.answered.1 each in rw none at some)));
  reads = λ h. absurd (false≢true h);
}

await_done : (image : Image) (f : Facts) (id at width value got : ℕ) → IsGotBy image f id ToRead at width (Some got) → eqb got value ≡ true → IsAwaitedBy image f id at width value true
await_done image f id at width value got outcome same = record {
  answered = (λ _. outcome.answered.0 refl, λ _. refl);
  reads = λ _. let P : ℕ → Type 0 = IsReadBy image f id ToRead at width in subst P (eqb-true got value same) (outcome.reads got refl);
}

await_ends : (image : Image) (f : Facts) (id at width value : ℕ) (o : Option ℕ) → IsGotBy image f id ToRead at width o → Ends image f id (await_of width at value o)
await_ends image f id at width value None outcome = await_failed image f id at width value None outcome refl
await_ends image f id at width value (Some got) outcome =
    cond_both (eqb got value) (Some (Await width at value true)) None (Ends image f id) (λ same. await_done image f id at width value got outcome same) (λ _. tt)

irq_ends : (image : Image) (f : Facts) (id : ℕ) (o : Option (ℕ × ℕ)) → Ends image f id (option_map (λ (next : ℕ × ℕ). Irq next.0 next.1) o)
irq_ends image f id None = tt
irq_ends image f id (Some next) = tt

op_ends : (image : Image) (f : Facts) (id : ℕ) (op : Op) → IsSound image f → IsWellFormed op → Ends image f id (act_of image f id op)
op_ends image f id (ReadOp width at) sound plain = got_of_cell image f id ToRead at width sound (width_some width plain)
op_ends image f id (WriteOp width at value) sound plain = reached_of_cell image f id ToWrite at width sound (width_some width plain.0)
op_ends image f id (FetchOp at) sound plain = got_of_cell image f id ToFetch at 4 sound (omega arith)
op_ends image f id (AwaitOp width at value) sound plain = await_ends image f id at width value (got_by image f id ToRead at width) (got_of_cell image f id ToRead at width sound (width_some width plain.0))
op_ends image f id IrqOp sound plain = irq_ends image f id (pending_of id f.endpoints)
op_ends image f id (HvcOp code a b) sound plain =
    cond_both (eqb id image.system.root.id && is_management (decoded code a b)) (Begin code a b) (Hvc code a b (answered image f id (call_in f.form (decoded code a b))))
    (EndsAsGranted image f id) (λ _. tt) (λ _. tt)

ends_by : (image : Image) (f : Facts) (id : ℕ) (act : Act) (o : Option Act) → Ends image f id o → o ≡ Some act → EndsAsGranted image f id act
ends_by image f id act None h is = absurd (none-some act is)
ends_by image f id act (Some other) h is = let P : Act → Type 0 = EndsAsGranted image f id in subst P (same_Some other act is) h

-- the operations of a cell are plain
pub ops_well_formed : (image : Image) (cpu : ℕ) (o : Option CellConfig) (i : ℕ) (op : Op) → IsAdmitted image → slice_get (option_map_or (λ (c : CellConfig). program_ops image (name_of c) cpu) o []) i ≡ Some op → IsWellFormed op
ops_well_formed image cpu None i op admitted h = absurd (none-some op h)
ops_well_formed image cpu (Some c) i op admitted h = op_well_formed image (name_of c) cpu i op admitted h

pub ends_as_granted : (image : Image) (f : Facts) (state : Cpu) (cpu : ℕ) (op : Op) (act : Act) → IsAdmitted image → IsSound image f → slice_get (ops_in image f.cells state.owner cpu) state.position ≡ Some op
    → act_of image f state.owner op ≡ Some act → EndsAsGranted image f state.owner act
ends_as_granted image f state cpu op act admitted sound at is =
    ends_by image f state.owner act (act_of image f state.owner op) (op_ends image f state.owner op sound (ops_well_formed image cpu (cell_in image f.cells state.owner) state.position op admitted at)) is

-- no other act is an access
stop_ends : (image : Image) (f : Facts) (id : ℕ) (act : Act) → Stop ≡ act → EndsAsGranted image f id act
stop_ends image f id act is = let P : Act → Type 0 = EndsAsGranted image f id in subst P is tt

phase_ends : (image : Image) (f : Facts) (id : ℕ) (act : Act) → is_phase act ≡ true → EndsAsGranted image f id act
phase_ends image f id (Read width at got) h = absurd (false≢true h)
phase_ends image f id (Write width at value ok) h = absurd (false≢true h)
phase_ends image f id (Fetch at got) h = absurd (false≢true h)
phase_ends image f id (Await width at value ok) h = absurd (false≢true h)
phase_ends image f id _ h = tt

ends_made : (image : Image) (f : Facts) (entry : Entry) → IsAdmitted image → IsSound image f → IsMadeBy image f entry → EndsAsGranted image f (f.cpu entry.cpu).owner entry.act
ends_made image f entry admitted sound (Stopping is) = stop_ends image f (f.cpu entry.cpu).owner entry.act is
ends_made image f entry admitted sound (Calling phase) = phase_ends image f (f.cpu entry.cpu).owner entry.act phase
ends_made image f entry admitted sound (Running program) = ends_as_granted image f (f.cpu entry.cpu) entry.cpu program.op entry.act admitted sound program.at program.is

-- each access of a legal journal ends as its cell is granted
pub ends_at : (image : Image) (form : Form) (before rest : List Entry) (entry : Entry) → IsAdmitted image → IsLegal image form (before ++ entry ∷ rest) → EndsAsGranted image (facts image form before) entry.cell entry.act
ends_at image form before rest entry admitted legal =
    let f : Facts = facts image form before in
    let sound = legal_sound image form before admitted (IsLegal_begin image form before (entry ∷ rest) legal) in
    let due : due_at image f entry.cpu ≡ Some entry = due_split image form before rest entry legal in
    let P : ℕ → Type 0 = λ id. EndsAsGranted image f id entry.act in
    subst P (sym (next_from_due image f entry due).cell) (ends_made image f entry admitted sound (made_by image f entry sound due))

-- ---- values fit their widths

-- a write is of some bytes, and its value has no more

abbrev pub IsSmallAct : Act → Type 0
IsSmallAct (Write width at value ok) = (0 < width) × (value < 256 ^ width)
IsSmallAct _ = Unit {0}

abbrev Small : Option Act → Type 0
Small o = IfSome o IsSmallAct

await_small : (width at value : ℕ) (o : Option ℕ) → Small (await_of width at value o)
await_small width at value None = tt
await_small width at value (Some got) = cond_both (eqb got value) (Some (Await width at value true)) None Small (λ _. tt) (λ _. tt)

irq_small : (o : Option (ℕ × ℕ)) → Small (option_map (λ (next : ℕ × ℕ). Irq next.0 next.1) o)
irq_small None = tt
irq_small (Some next) = tt

op_small : (image : Image) (f : Facts) (id : ℕ) (op : Op) → IsWellFormed op → Small (act_of image f id op)
op_small image f id (ReadOp width at) plain = tt
op_small image f id (WriteOp width at value) plain = (width_some width plain.0, plain.1)
op_small image f id (FetchOp at) plain = tt
op_small image f id (AwaitOp width at value) plain = await_small width at value (got_by image f id ToRead at width)
op_small image f id IrqOp plain = irq_small (pending_of id f.endpoints)
op_small image f id (HvcOp code a b) plain =
    cond_both (eqb id image.system.root.id && is_management (decoded code a b)) (Begin code a b) (Hvc code a b (answered image f id (call_in f.form (decoded code a b)))) IsSmallAct (λ _. tt) (λ _. tt)

small_by : (act : Act) (o : Option Act) → Small o → o ≡ Some act → IsSmallAct act
small_by act None h is = absurd (none-some act is)
small_by act (Some other) h is = subst IsSmallAct (same_Some other act is) h

phase_small : (act : Act) → is_phase act ≡ true → IsSmallAct act
phase_small (Write width at value ok) h = absurd (false≢true h)
phase_small _ h = tt

-- what a plain operation comes to
pub op_small_holds : (image : Image) (f : Facts) (id : ℕ) (op : Op) (act : Act) → IsWellFormed op → act_of image f id op ≡ Some act → IsSmallAct act
op_small_holds image f id op act plain is = small_by act (act_of image f id op) (op_small image f id op plain) is

pub made_small : (image : Image) (f : Facts) (entry : Entry) → IsAdmitted image → IsMadeBy image f entry → IsSmallAct entry.act
made_small image f entry admitted (Stopping is) = subst IsSmallAct is tt
made_small image f entry admitted (Calling phase) = phase_small entry.act phase
made_small image f entry admitted (Running program) =
    let state : Cpu = f.cpu entry.cpu in
    let plain = ops_well_formed image entry.cpu (cell_in image f.cells state.owner) state.position program.op admitted program.at in
    op_small_holds image f state.owner program.op entry.act plain program.is

-- the value that an entry of a legal journal writes has no more bytes than it writes
pub small_at : (image : Image) (form : Form) (before rest : List Entry) (entry : Entry) → IsAdmitted image → IsLegal image form (before ++ entry ∷ rest) → IsSmallAct entry.act
small_at image form before rest entry admitted legal =
    let f : Facts = facts image form before in
    let sound = legal_sound image form before admitted (IsLegal_begin image form before (entry ∷ rest) legal) in
    made_small image f entry admitted (made_by image f entry sound (due_split image form before rest entry legal))
