-- What the writes of a cell leave of its own devices.
use Rattle.std.proofs.Common.{◌≡◌, ◌≢◌, ℕ, ◌-◌, ◌*◌, ◌/◌, ◌%◌, ◌^◌, ◌<◌, ◌≤◌, List, Bool, true, false, cond, not, ◌&&◌, eqb, length, get_or, set, Option, Some, None, refl, sym, ap, subst, ◌∙◌, inl, inr, ⊎_elim, arith}
use Rattle.std.specs.Prelude.{◌⊎◌, option_and_then}
use Rattle.std.specs.Option.{option_map_or}
use Rattle.std.proofs.lemmas.Bool.{and_from, and_left, and_right, eq-eqb, ne_eqb, le-ltb, lt-ltb, false≢true}
use Rattle.std.proofs.lemmas.List.{get_or-set_other, get_or-set_same}
use Rattle.std.proofs.lemmas.Option.{none-some}
use Rattle.jh_vpci.specs.Space.{Space}
use Rattle.jh_vpci.specs.Writes.{written as space_written}
use Rattle.jh_ivshmem.specs.declared.endpoint.Endpoint.{Endpoint}
use Rattle.jh_ivshmem.specs.declared.vector.Vector.{Vector}
use Rattle.jh_ivshmem.specs.Changes.{changed}
use Rattle.jh_ivshmem.specs.Endpoint.{raised, vector_at, fresh_vector}
use Rattle.jh_ivshmem.specs.Links.{endpoint_at, state_written, told_of, written}
use Rattle.jh_ivshmem.specs.Registers.{register_written, with_word}
use Rattle.jh_ivshmem.specs.Specs.{is_device, is_other}
use Rattle.jh_ivshmem.proofs.Public.{named_cell, named_device, register_written_spec}
use Rattle.jh_script.specs.declared.image.Image.{Image}
use Rattle.jh_history.specs.declared.access.Access.TheVariants.{Write as ToWrite}
use Rattle.jh_history.specs.declared.access.Reach.{Reach}
use Rattle.jh_history.specs.declared.access.Reach.TheVariants.{Config, Window}
use Rattle.jh_history.specs.declared.entry.Act.{Act}
use Rattle.jh_history.specs.declared.entry.Act.TheVariants.{Write, Irq, Commit}
use Rattle.jh_history.specs.Commits.{is_commit}
use Rattle.jh_history.specs.Devices.{Devices, number_at}
use Rattle.jh_history.specs.Endpoints.{endpoints_acted, endpoints_put, function_put}
use Rattle.jh_history.specs.Facts.{Facts}
use Rattle.jh_history.specs.Grants.{reach, devices_of}
use Rattle.jh_history.specs.Sound.{IsSoundEndpoint}
use Rattle.jh_laws.specs.Devices.{PutsFunction, PutsWord, with_space, with_control, with_state, HasWordOfVector, TakesNothing, may_change_devices}
use Rattle.jh_laws.specs.Ends.{IsAnsweredByConfig}
use Rattle.jh_laws.specs.Moments.{AdmittedMoment, facts_before, facts_behind}
use Rattle.jh_laws.specs.Vectors.{endpoint_behind}
use Rattle.jh_laws.proofs.DevicesLemmas.{endpoint_sound, function_is}
use Rattle.jh_laws.proofs.EndsLemmas.{IsSmallAct, small_at}
use Rattle.jh_laws.proofs.LinkedLemmas.{found_changed, found_told, is_notified}
use Rattle.jh_laws.proofs.PageCauseLemmas.{sound_at}
use Rattle.jh_laws.proofs.ReachedLemmas.{Way, OnMemory, OnRegion, OnWindow, OnRegister, OnNothing, way}
use Rattle.jh_laws.proofs.RaiseLemmas.{written_other}
use Rattle.jh_laws.proofs.StoredLemmas.{register_reached}
use Rattle.jh_laws.proofs.VectorLemmas.{after_acted, endpoints_behind}
use Rattle.jh_laws.proofs.WordLemmas.{value_fits}

-- ---- what is left of the endpoint itself

own_device : (e : Endpoint) → is_device e.spec.cell e.spec.device e.spec ≡ true
own_device e = and_from (eqb e.spec.cell e.spec.cell) (eqb e.spec.device e.spec.device) (eq-eqb e.spec.cell e.spec.cell refl) (eq-eqb e.spec.device e.spec.device refl)

-- where its device is the one that changes
own_changed : (e : Endpoint) (g : Endpoint → Endpoint) (list : List Endpoint) → ((o : Endpoint) → (g o).spec ≡ o.spec) → endpoint_at e.spec.cell e.spec.device list ≡ Some e
    → endpoint_at e.spec.cell e.spec.device (changed (is_device e.spec.cell e.spec.device) g list) ≡ Some (g e)
own_changed e g list keeps there =
    found_changed e.spec.cell e.spec.device (is_device e.spec.cell e.spec.device) g list e keeps there ∙ ap (λ (b : Bool). Some (cond b (g e) e)) (own_device e)

-- behind the entry
behind_is : (m : AdmittedMoment) (e : Endpoint) → is_commit m.entry.act ≡ false → endpoint_behind m e ≡ endpoint_at e.spec.cell e.spec.device (endpoints_acted m.image (facts_before m) m.entry.cell m.entry.act)
behind_is m e other = ap (endpoint_at e.spec.cell e.spec.device) (endpoints_behind m.image m.form m.before m.entry ∙ after_acted m.image (facts_before m) m.entry other)

-- a write that succeeds, by what it reaches
write_behind : (m : AdmittedMoment) (e : Endpoint) (width at value : ℕ) (found : Reach) → m.entry.act ≡ Write width at value true → reach m.image (facts_before m) m.entry.cell ToWrite at width ≡ found
    → endpoint_behind m e ≡ endpoint_at e.spec.cell e.spec.device (endpoints_put (devices_of m.image (facts_before m) m.entry.cell) found value)
write_behind m e width at value found act is =
    let f : Facts = facts_before m in
    behind_is m e (ap is_commit act)
    ∙ ap (λ (a : Act). endpoint_at e.spec.cell e.spec.device (endpoints_acted m.image f m.entry.cell a)) act
    ∙ ap (λ (r : Reach). endpoint_at e.spec.cell e.spec.device (endpoints_put (devices_of m.image f m.entry.cell) r value)) is

small_value : (m : AdmittedMoment) (width at value : ℕ) → m.entry.act ≡ Write width at value true → value < 256 ^ width
small_value m width at value act = (subst IsSmallAct act (small_at m.image m.form m.before m.rest m.entry m.admitted m.legal)).1

-- ---- configuration space

config_reached : (image : Image) (f : Facts) (id at width : ℕ) → Way image f id ToWrite at width → IsAnsweredByConfig image f.cells id ToWrite at width
    → reach image f id ToWrite at width ≡ Config (record { at = at - image.system.platform.pci_mmconfig_base; width = width })
config_reached image f id at width (OnMemory ps granted is) by = absurd (by.behind.lacks granted)
config_reached image f id at width (OnRegion r answers is) by = absurd (by.none r answers.has)
config_reached image f id at width (OnWindow window is) by = is
config_reached image f id at width (OnRegister n bar offset e register is) by = absurd (register.outside by.within)
config_reached image f id at width (OnNothing none is) by = absurd (none (inr (inr (inl by))))

-- a value of so few bytes
narrow_value : (width value : ℕ) → (width ≡ 1) ⊎ (width ≡ 2) ⊎ (width ≡ 4) → value < 256 ^ width → value % 2 ^ 32 ≡ value
narrow_value width value (inl is) small = let few : value < 256 ^ 1 = subst (λ (w : ℕ). value < 256 ^ w) is small in omega arith
narrow_value width value (inr (inl is)) small = let few : value < 256 ^ 2 = subst (λ (w : ℕ). value < 256 ^ w) is small in omega arith
narrow_value width value (inr (inr is)) small = let few : value < 256 ^ 4 = subst (λ (w : ℕ). value < 256 ^ w) is small in omega arith

record IsNumberOf (devices : Devices) (offset : ℕ) (e : Endpoint) : Type 0 where
  number : ℕ
  is : number_at devices offset ≡ Some number
  there : endpoint_at devices.cell number devices.endpoints ≡ Some e

number_of_function : (devices : Devices) (offset : ℕ) (e : Endpoint) (o : Option ℕ) → number_at devices offset ≡ o → option_and_then (λ n. endpoint_at devices.cell n devices.endpoints) o ≡ Some e → IsNumberOf devices offset e
number_of_function devices offset e None is h = absurd (none-some e h)
number_of_function devices offset e (Some n) is h = record { number = n; is = is; there = h }

put_function : (devices : Devices) (offset width value : ℕ) (e : Endpoint) → IsNumberOf devices offset e
    → endpoint_at e.spec.cell e.spec.device (endpoints_put devices (Config (record { at = offset; width = width })) value) ≡ Some (with_space (offset % 4096) width (value % 2 ^ 32) e)
put_function devices offset width value e h =
    let space : Space = space_written e.space (offset % 4096) width (value % 2 ^ 32) in
    let cell : e.spec.cell ≡ devices.cell = named_cell devices.cell h.number devices.endpoints e h.there in
    let device : e.spec.device ≡ h.number = named_device devices.cell h.number devices.endpoints e h.there in
    let P : ℕ → Type 0 = λ c. endpoint_at c h.number devices.endpoints ≡ Some e in
    let Q : ℕ → Type 0 = λ n. endpoint_at e.spec.cell n devices.endpoints ≡ Some e in
    let own : endpoint_at e.spec.cell e.spec.device devices.endpoints ≡ Some e = subst Q (sym device) (subst P (sym cell) h.there) in
    let g : Endpoint → Endpoint = λ o. record o { space = space } in
    ap (λ (o : Option ℕ). endpoint_at e.spec.cell e.spec.device (option_map_or (function_put devices (record { at = offset; width = width }) value) o devices.endpoints)) h.is
    ∙ ap (λ (o : Option Endpoint). endpoint_at e.spec.cell e.spec.device (option_map_or (λ (x : Endpoint). changed (is_device devices.cell h.number) (λ (y : Endpoint). record y { space = space_written x.space (offset % 4096) width (value % 2 ^ 32) }) devices.endpoints) o devices.endpoints)) h.there
    ∙ ap (λ (c : ℕ). endpoint_at e.spec.cell e.spec.device (changed (is_device c h.number) g devices.endpoints)) (sym cell)
    ∙ ap (λ (n : ℕ). endpoint_at e.spec.cell e.spec.device (changed (is_device e.spec.cell n) g devices.endpoints)) (sym device)
    ∙ own_changed e g devices.endpoints (λ o. refl) own

pub puts_function : (m : AdmittedMoment) (offset width value : ℕ) (e : Endpoint) → PutsFunction m offset width value e → endpoint_behind m e ≡ Some (with_space (offset % 4096) width value e)
puts_function m offset width value e h =
    let f : Facts = facts_before m in
    let devices : Devices = devices_of m.image f m.entry.cell in
    let base : ℕ = m.image.system.platform.pci_mmconfig_base in
    let some : 0 < width = ⊎_elim (λ one. omega (arith, one)) (λ more. ⊎_elim (λ two. omega (arith, two)) (λ four. omega (arith, four)) more) h.answered.wide in
    let reached = config_reached m.image f m.entry.cell h.at width (way m.image f m.entry.cell ToWrite h.at width (sound_at m) some) h.answered in
    let number = number_of_function devices offset e (number_at devices offset) refl (function_is m.image f m.entry.cell offset e (sound_at m) h.function) in
    write_behind m e width h.at value (Config (record { at = h.at - base; width = width })) h.act reached
    ∙ ap (λ (o : ℕ). endpoint_at e.spec.cell e.spec.device (endpoints_put devices (Config (record { at = o; width = width })) value)) (sym h.there)
    ∙ put_function devices offset width value e number
    ∙ ap (λ (v : ℕ). Some (with_space (offset % 4096) width v e)) (narrow_value width value h.answered.wide (small_value m width h.at value h.act))

-- ---- registers

-- a write of a register, by what it does to all endpoints
word_behind : (m : AdmittedMoment) (bar offset value : ℕ) (e : Endpoint) → PutsWord m bar offset value e → endpoint_behind m e ≡ endpoint_at e.spec.cell e.spec.device (written e bar offset value (facts_before m).endpoints)
word_behind m bar offset value e h =
    let f : Facts = facts_before m in
    let four : h.width ≡ 4 = h.answered.wide in
    let some : 0 < h.width = omega (arith, four) in
    let reached = register_reached m.image f m.entry.cell ToWrite h.at h.width h.number bar offset e (way m.image f m.entry.cell ToWrite h.at h.width (sound_at m) some) h.answered in
    write_behind m e h.width h.at value (Window (record { device = h.number; bar = bar; at = offset })) h.act reached
    ∙ ap (λ (o : Option Endpoint). endpoint_at e.spec.cell e.spec.device (option_map_or (λ (x : Endpoint). written x bar offset (value % 2 ^ 32) f.endpoints) o f.endpoints)) h.answered.within.is.there
    ∙ ap (λ (v : ℕ). endpoint_at e.spec.cell e.spec.device (written e bar offset v f.endpoints)) (value_fits h.width value four (small_value m h.width h.at value h.act))

own_there : (m : AdmittedMoment) (bar offset value : ℕ) (e : Endpoint) → PutsWord m bar offset value e → endpoint_at e.spec.cell e.spec.device (facts_before m).endpoints ≡ Some e
own_there m bar offset value e h =
    let f : Facts = facts_before m in
    let there : endpoint_at m.entry.cell h.number f.endpoints ≡ Some e = h.answered.within.is.there in
    let P : ℕ → Type 0 = λ c. endpoint_at c h.number f.endpoints ≡ Some e in
    let Q : ℕ → Type 0 = λ n. endpoint_at e.spec.cell n f.endpoints ≡ Some e in
    subst Q (sym (named_device m.entry.cell h.number f.endpoints e there)) (subst P (sym (named_cell m.entry.cell h.number f.endpoints e there)) there)

-- the state
state_list : (e : Endpoint) (value : ℕ) (list : List Endpoint) → written e 0 0x10 value list ≡ state_written e value list
unfolding written
state_list e value list = refl

not_told_itself : (e : Endpoint) (value : ℕ) → is_notified e value e ≡ false
not_told_itself e value =
    and_right (not (eqb e.state value)) (is_other e.spec.bdf e.spec.id e.spec) (and_right (eqb e.spec.bdf e.spec.bdf) (not (eqb e.spec.id e.spec.id)) (ap not (eq-eqb e.spec.id e.spec.id refl)))

pub puts_state : (m : AdmittedMoment) (value : ℕ) (e : Endpoint) → PutsWord m 0 0x10 value e → endpoint_behind m e ≡ Some (with_state value e)
puts_state m value e h =
    let list : List Endpoint = (facts_before m).endpoints in
    let told : endpoint_at e.spec.cell e.spec.device (told_of e value list) ≡ Some e =
    found_told e e value list e.spec.cell e.spec.device (own_there m 0 0x10 value e h) ∙ ap (λ (b : Bool). Some (cond b (raised 0 e) e)) (not_told_itself e value) in
    word_behind m 0 0x10 value e h
    ∙ ap (endpoint_at e.spec.cell e.spec.device) (state_list e value list)
    ∙ own_changed e (λ (o : Endpoint). record o { state = value }) (told_of e value list) (λ o. refl) told

-- any other but the doorbell
puts_other : (m : AdmittedMoment) (bar offset value : ℕ) (e : Endpoint) → PutsWord m bar offset value e → (eqb bar 0 && eqb offset 0x0c) ≡ false → (eqb bar 0 && eqb offset 0x10) ≡ false → endpoint_behind m e ≡ Some (register_written bar offset value e)
puts_other m bar offset value e h bell state =
    let list : List Endpoint = (facts_before m).endpoints in
    word_behind m bar offset value e h
    ∙ ap (endpoint_at e.spec.cell e.spec.device) (written_other e bar offset value list bell state)
    ∙ own_changed e (register_written bar offset value) list (register_written_spec bar offset value) (own_there m bar offset value e h)

control_written : (value : ℕ) (e : Endpoint) → register_written 0 0x08 value e ≡ with_control value e
unfolding register_written
control_written value e = refl

pub puts_control : (m : AdmittedMoment) (value : ℕ) (e : Endpoint) → PutsWord m 0 0x08 value e → endpoint_behind m e ≡ Some (with_control value e)
puts_control m value e h = puts_other m 0 0x08 value e h refl refl ∙ ap Some (control_written value e)

-- a register that takes nothing
nothing_written : (bar offset value : ℕ) (e : Endpoint) → TakesNothing bar offset e → register_written bar offset value e ≡ e
unfolding register_written
nothing_written bar offset value e (inl h) = rw (eq-eqb bar 0 h.0, ne_eqb offset 0x08 h.1) refl
nothing_written bar offset value e (inr h) = rw (ne_eqb bar 0 h.0, le-ltb offset (16 * e.spec.function.vectors) h.1) refl

pub puts_nothing : (m : AdmittedMoment) (bar offset value : ℕ) (e : Endpoint) → PutsWord m bar offset value e → TakesNothing bar offset e → endpoint_behind m e ≡ Some e
puts_nothing m bar offset value e h takes =
    let not_at : (place : ℕ) → (bar ≢ 0) ⊎ (offset ≢ place) → (eqb bar 0 && eqb offset place) ≡ false =
    λ place other. ⊎_elim (λ apart. and_left (eqb bar 0) (eqb offset place) (ne_eqb bar 0 apart)) (λ apart. and_right (eqb bar 0) (eqb offset place) (ne_eqb offset place apart)) other in
    let bell : (bar ≢ 0) ⊎ (offset ≢ 0x0c) = ⊎_elim (λ zero_is. inr zero_is.2) (λ other. inl other.0) takes in
    let state : (bar ≢ 0) ⊎ (offset ≢ 0x10) = ⊎_elim (λ zero_is. inr zero_is.3) (λ other. inl other.0) takes in
    puts_other m bar offset value e h (not_at 0x0c bell) (not_at 0x10 state) ∙ ap Some (nothing_written bar offset value e takes)

-- a word of a vector
vector_written : (offset value : ℕ) (e : Endpoint) → offset < 16 * e.spec.function.vectors
    → register_written 1 offset value e ≡ record e { vectors = set e.vectors (offset / 16) (with_word (offset / 4 % 4) value (vector_at e (offset / 16))) }
unfolding register_written
vector_written offset value e within = rw (lt-ltb offset (16 * e.spec.function.vectors) within) refl

pub puts_vector : (m : AdmittedMoment) (offset value : ℕ) (e : Endpoint) → PutsWord m 1 offset value e → offset < 16 * e.spec.function.vectors
    → (behind : Endpoint) × (endpoint_behind m e ≡ Some behind) × HasWordOfVector (offset / 16) (offset / 4 % 4) value e behind
puts_vector m offset value e h within =
    let v : ℕ = offset / 16 in
    let word : ℕ = offset / 4 % 4 in
    let own : IsSoundEndpoint e = endpoint_sound m.image (facts_before m) e.spec.cell e.spec.device e (sound_at m) (own_there m 1 offset value e h) in
    let long : length e.vectors ≡ 16 = own.vectors in
    let few : e.spec.function.vectors ≤ 16 = own.within.vectors in
    let x : Vector = with_word word value (vector_at e v) in
    let there : get_or (set e.vectors v x) v fresh_vector ≡ x = get_or-set_same e.vectors v x fresh_vector (omega (arith, long, few, within)) in
    let W : ℕ → Vector = λ w. with_word w value (vector_at e v) in (
      record e { vectors = set e.vectors v x },
      puts_other m 1 offset value e h refl refl ∙ ap Some (vector_written offset value e within),
      record {
        put = record {
          address = λ is. there ∙ ap W is;
          upper_address = λ is. there ∙ ap W is;
          message = λ is. there ∙ ap W is;
          mask = λ is. there ∙ ap W is;
        };
        others = λ u other. get_or-set_other e.vectors v u x fresh_vector other;
        spec = refl;
        space = refl;
        control = refl;
        state = refl;
      },
    )

-- ---- any other entry

acted_by : (image : Image) (f : Facts) (cell : ℕ) (act : Act) → may_change_devices act ≡ false → endpoints_acted image f cell act ≡ f.endpoints
acted_by image f cell (Write width at value true) h = absurd (false≢true (sym h))
acted_by image f cell (Irq device vector) h = absurd (false≢true (sym h))
acted_by image f cell _ h = refl

commits_by : (act : Act) → may_change_devices act ≡ false → is_commit act ≡ false
commits_by Commit h = absurd (false≢true (sym h))
commits_by _ h = refl

pub others_stay : (m : AdmittedMoment) → may_change_devices m.entry.act ≡ false → (facts_behind m).endpoints ≡ (facts_before m).endpoints
others_stay m h =
    endpoints_behind m.image m.form m.before m.entry
    ∙ after_acted m.image (facts_before m) m.entry (commits_by m.entry.act h)
    ∙ acted_by m.image (facts_before m) m.entry.cell m.entry.act h
