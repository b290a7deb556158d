-- The registers of devices keep to 32 bits.
use Rattle.std.proofs.Common.{ℕ, zero, suc, ◌/◌, ◌%◌, ◌^◌, ◌<◌, ◌==◌, ◌&&◌, Bool, true, false, not, cond, List, [], ◌∷◌, get_or, All, Option, Some, None, mod-lt, arith}
use Rattle.std.specs.Option.{option_map_or}
use Rattle.std.proofs.lemmas.Bool.{cond_both}
use Rattle.std.proofs.lemmas.List.Elements.{All-nil, All-cons, All-head, All-tail, All-filter, All-set, All-replicate}
use Rattle.jh_ivshmem.specs.declared.vector.Vector.{Vector}
use Rattle.jh_ivshmem.specs.declared.endpoint.Endpoint.{Endpoint}
use Rattle.jh_ivshmem.specs.declared.spec.EndpointSpec.{EndpointSpec}
use Rattle.jh_ivshmem.specs.Specs.{IsInItsLimits, is_device, is_peer, is_other, is_before}
use Rattle.jh_ivshmem.specs.Endpoint.{raised, taken, cleared, fresh, fresh_vector, vector_at, is_open}
use Rattle.jh_ivshmem.specs.Registers.{word_of, with_word, register_of, register_written, is_in_table}
use Rattle.jh_ivshmem.specs.Changes.{changed}
use Rattle.jh_ivshmem.specs.Links.{configured, endpoint_at, joined, rung, others_raised, told_of, state_written, written, reset_of, left_by}
use Rattle.jh_vpci.specs.Writes.{written as config_written}
use Rattle.jh_script.specs.declared.image.Image.{Image}
use Rattle.jh_history.specs.declared.access.Access.TheVariants.{Write as ToWrite}
use Rattle.jh_history.specs.declared.access.Reach.{Reach}
use Rattle.jh_history.specs.declared.access.Reach.TheVariants.{Memory, Subpage, Config, Window, Nothing}
use Rattle.jh_history.specs.declared.device_change.DeviceChange.{DeviceChange}
use Rattle.jh_history.specs.declared.device_change.DeviceChange.TheVariants.{Join, Reset, Leave}
use Rattle.jh_history.specs.declared.entry.Entry.{Entry}
use Rattle.jh_history.specs.declared.entry.Act.{Act}
use Rattle.jh_history.specs.declared.entry.Act.TheVariants.{Write, Irq}
use Rattle.jh_history.specs.Facts.{Facts}
use Rattle.jh_history.specs.Devices.{Devices, InConfig, number_at, specs_of}
use Rattle.jh_history.specs.Endpoints.{function_put, endpoints_put, endpoints_acted, endpoint_changed, endpoints_changed, endpoints_after, specs_changing, change_by}
use Rattle.jh_history.specs.Grants.{reach, devices_of}

-- the words of the vector have 32 bits
pub record HasWords (vector : Vector) : Type 0 where
  pub address : vector.address < 2 ^ 32
  pub upper : vector.upper_address < 2 ^ 32
  pub message : vector.message < 2 ^ 32

-- so do the words of the endpoint that guests write
pub record HasRegisters (e : Endpoint) : Type 0 where
  pub state : e.state < 2 ^ 32
  pub vectors : All HasWords e.vectors

abbrev pub HaveRegisters : List Endpoint → Type 0
HaveRegisters list = All HasRegisters list

-- ---- one endpoint

fresh_words : HasWords fresh_vector
fresh_words = record { address = omega arith; upper = omega arith; message = omega arith }

words_in : (vectors : List Vector) (v : ℕ) → All HasWords vectors → HasWords (get_or vectors v fresh_vector)
words_in [] v all = fresh_words
words_in (x ∷ xs) zero all = All-head HasWords x xs all
words_in (x ∷ xs) (suc v) all = words_in xs v (All-tail HasWords x xs all)

words_of : (e : Endpoint) (v : ℕ) → HasRegisters e → HasWords (vector_at e v)
words_of e v h = words_in e.vectors v h.vectors

words_put : (n value : ℕ) (vector : Vector) → value < 2 ^ 32 → HasWords vector → HasWords (with_word n value vector)
words_put n value vector small h =
    cond_both (n == 0) _ _ HasWords (λ _. record { address = small; upper = h.upper; message = h.message })
    (λ _. cond_both (n == 1) _ _ HasWords (λ _. record { address = h.address; upper = small; message = h.message })
    (λ _. cond_both (n == 2) _ _ HasWords (λ _. record { address = h.address; upper = h.upper; message = small })
    (λ _. record { address = h.address; upper = h.upper; message = h.message })))

fresh_fit : (spec : EndpointSpec) → HasRegisters (fresh spec)
fresh_fit spec = record { state = omega arith; vectors = All-replicate HasWords 16 fresh_vector fresh_words }

raised_fit : (v : ℕ) (e : Endpoint) → HasRegisters e → HasRegisters (raised v e)
unfolding raised
raised_fit v e h =
    let own = words_of e v h in
    cond_both (is_open e v) _ e HasRegisters
    (λ _. record { state = h.state; vectors = All-set HasWords e.vectors v _ (record { address = own.address; upper = own.upper; message = own.message }) h.vectors })
    (λ _. h)

taken_fit : (v : ℕ) (e : Endpoint) → HasRegisters e → HasRegisters (taken v e)
unfolding taken
taken_fit v e h =
    let own = words_of e v h in
    record { state = h.state; vectors = All-set HasWords e.vectors v _ (record { address = own.address; upper = own.upper; message = own.message }) h.vectors }

cleared_fit : (e : Endpoint) → HasRegisters e → HasRegisters (cleared e)
unfolding cleared
cleared_fit e h = record { state = omega arith; vectors = All-replicate HasWords 16 fresh_vector fresh_words }

register_fit : (bar at value : ℕ) (e : Endpoint) → value < 2 ^ 32 → HasRegisters e → HasRegisters (register_written bar at value e)
unfolding register_written
register_fit bar at value e small h =
    cond_both (bar == 0) _ _ HasRegisters
    (λ _. cond_both (at == 0x08) _ e HasRegisters (λ _. record { state = h.state; vectors = h.vectors }) (λ _. h))
    (λ _. cond_both (is_in_table e at) _ e HasRegisters
    (λ _. record { state = h.state; vectors = All-set HasWords e.vectors (at / 16) _ (words_put (at / 4 % 4) value (vector_at e (at / 16)) small (words_of e (at / 16) h)) h.vectors })
    (λ _. h))

-- what a register reads has 32 bits
word_small : (vector : Vector) (n : ℕ) → HasWords vector → word_of vector n < 2 ^ 32
word_small vector n h =
    let P : ℕ → Type 0 = λ k. k < 2 ^ 32 in
    cond_both (n == 0) _ _ P (λ _. h.address)
    (λ _. cond_both (n == 1) _ _ P (λ _. h.upper)
    (λ _. cond_both (n == 2) _ _ P (λ _. h.message)
    (λ _. cond_both vector.masked 1 0 P (λ _. omega arith) (λ _. omega arith))))

pub register_small : (e : Endpoint) (bar at : ℕ) → IsInItsLimits e.spec → HasRegisters e → register_of e bar at < 2 ^ 32
unfolding register_of
register_small e bar at within h =
    let P : ℕ → Type 0 = λ k. k < 2 ^ 32 in
    cond_both (bar == 0) _ _ P
    (λ _. cond_both (at == 0x00) _ _ P (λ _. omega (arith, within.id, within.peers))
    (λ _. cond_both (at == 0x04) _ _ P (λ _. omega (arith, within.peers))
    (λ _. cond_both (at == 0x08) _ _ P (λ _. cond_both e.control 1 0 P (λ _. omega arith) (λ _. omega arith))
    (λ _. cond_both (at == 0x10) _ _ P (λ _. h.state) (λ _. omega arith)))))
    (λ _. cond_both (is_in_table e at) _ _ P (λ _. word_small (vector_at e (at / 16)) (at / 4 % 4) (words_of e (at / 16) h)) (λ _. omega arith))

-- ---- all endpoints

either : (b : Bool) (one other : List Endpoint) → HaveRegisters one → HaveRegisters other → HaveRegisters (cond b one other)
either true one other h g = h
either false one other h g = g

where_some : {X : Type 0} (o : Option X) (f : X → List Endpoint) (other : List Endpoint) → ((x : X) → HaveRegisters (f x)) → HaveRegisters other → HaveRegisters (option_map_or f o other)
where_some None f other h g = g
where_some (Some x) f other h g = h x

changed_fit : (t : EndpointSpec → Bool) (f : Endpoint → Endpoint) → ((e : Endpoint) → HasRegisters e → HasRegisters (f e)) → (list : List Endpoint) → HaveRegisters list → HaveRegisters (changed t f list)
unfolding changed
changed_fit t f keeps [] h = h
changed_fit t f keeps (e ∷ list) h =
    let here = All-head HasRegisters e list h in
    All-cons HasRegisters (cond (t e.spec) (f e) e) (changed t f list)
    (cond_both (t e.spec) (f e) e HasRegisters (λ _. keeps e here) (λ _. here))
    (changed_fit t f keeps list (All-tail HasRegisters e list h))

told_fit : (e : Endpoint) (value : ℕ) (list : List Endpoint) → HaveRegisters list → HaveRegisters (told_of e value list)
told_fit e value list h = either (e.state == value) list (others_raised e.spec list) h (changed_fit (is_other e.spec.bdf e.spec.id) (raised 0) (raised_fit 0) list h)

state_fit : (e : Endpoint) (value : ℕ) (list : List Endpoint) → value < 2 ^ 32 → HaveRegisters list → HaveRegisters (state_written e value list)
state_fit e value list small h =
    changed_fit (is_device e.spec.cell e.spec.device) (λ (o : Endpoint). record o { state = value }) (λ o g. record { state = small; vectors = g.vectors }) (told_of e value list) (told_fit e value list h)

written_fit : (e : Endpoint) (bar at value : ℕ) (list : List Endpoint) → value < 2 ^ 32 → HaveRegisters list → HaveRegisters (written e bar at value list)
unfolding written
written_fit e bar at value list small h =
    either ((bar == 0) && (at == 0x0c)) (rung e.spec.bdf (value / 2 ^ 16) (value % 2 ^ 16) list) _
    (changed_fit (is_peer e.spec.bdf (value / 2 ^ 16)) (raised (value % 2 ^ 16)) (raised_fit (value % 2 ^ 16)) list h)
    (either ((bar == 0) && (at == 0x10)) (state_written e value list) _ (state_fit e value list small h)
    (changed_fit (is_device e.spec.cell e.spec.device) (register_written bar at value) (λ o g. register_fit bar at value o small g) list h))

joined_fit : (spec : EndpointSpec) (list : List Endpoint) → HaveRegisters list → HaveRegisters (joined spec list)
joined_fit spec [] h = All-cons HasRegisters (fresh spec) [] (fresh_fit spec) h
joined_fit spec (e ∷ list) h =
    either (is_before spec.cell spec.device e.spec) (e ∷ joined spec list) (fresh spec ∷ e ∷ list)
    (All-cons HasRegisters e (joined spec list) (All-head HasRegisters e list h) (joined_fit spec list (All-tail HasRegisters e list h)))
    (All-cons HasRegisters (fresh spec) (e ∷ list) (fresh_fit spec) h)

reset_fit : (e : Endpoint) (list : List Endpoint) → HaveRegisters list → HaveRegisters (reset_of e list)
reset_fit e list h = changed_fit (is_device e.spec.cell e.spec.device) cleared cleared_fit (told_of e 0 list) (told_fit e 0 list h)

left_fit : (e : Endpoint) (list : List Endpoint) → HaveRegisters list → HaveRegisters (left_by e list)
left_fit e list h = All-filter (λ (o : Endpoint). not (is_device e.spec.cell e.spec.device o.spec)) HasRegisters (told_of e 0 list) (told_fit e 0 list h)

-- ---- an entry

one_fit : (change : DeviceChange) (list : List Endpoint) (s : EndpointSpec) → HaveRegisters list → HaveRegisters (endpoint_changed change list s)
one_fit Join list s h = joined_fit s list h
one_fit Reset list s h = where_some (endpoint_at s.cell s.device list) (λ (e : Endpoint). reset_of e list) list (λ e. reset_fit e list h) h
one_fit Leave list s h = where_some (endpoint_at s.cell s.device list) (λ (e : Endpoint). left_by e list) list (λ e. left_fit e list h) h

all_fit : (change : DeviceChange) (specs : List EndpointSpec) (list : List Endpoint) → HaveRegisters list → HaveRegisters (endpoints_changed change specs list)
all_fit change [] list h = h
all_fit change (s ∷ specs) list h = all_fit change specs (endpoint_changed change list s) (one_fit change list s h)

space_fit : (devices : Devices) (bytes : InConfig) (value n : ℕ) → HaveRegisters devices.endpoints → HaveRegisters (function_put devices bytes value n)
space_fit devices bytes value n h =
    where_some (endpoint_at devices.cell n devices.endpoints)
    (λ (e : Endpoint). configured devices.cell n (config_written e.space (bytes.at % 4096) bytes.width (value % 2 ^ 32)) devices.endpoints)
    devices.endpoints
    (λ e. changed_fit (is_device devices.cell n) _ (λ o g. record { state = g.state; vectors = g.vectors }) devices.endpoints h)
    h

put_fit : (devices : Devices) (reach : Reach) (value : ℕ) → HaveRegisters devices.endpoints → HaveRegisters (endpoints_put devices reach value)
put_fit devices (Memory places) value h = h
put_fit devices (Subpage places) value h = h
put_fit devices (Config bytes) value h = where_some (number_at devices bytes.at) (function_put devices bytes value) devices.endpoints (λ n. space_fit devices bytes value n h) h
put_fit devices (Window register) value h =
    where_some (endpoint_at devices.cell register.device devices.endpoints)
    (λ (e : Endpoint). written e register.bar register.at (value % 2 ^ 32) devices.endpoints)
    devices.endpoints
    (λ e. written_fit e register.bar register.at (value % 2 ^ 32) devices.endpoints (mod-lt value (omega arith)) h)
    h
put_fit devices Nothing value h = h

acted_fit : (image : Image) (f : Facts) (cell : ℕ) (act : Act) → HaveRegisters f.endpoints → HaveRegisters (endpoints_acted image f cell act)
acted_fit image f cell (Write width at value true) h = put_fit (devices_of image f cell) (reach image f cell ToWrite at width) value h
acted_fit image f cell (Irq device vector) h = changed_fit (is_device cell device) (taken vector) (taken_fit vector) f.endpoints h
acted_fit image f cell _ h = h

pub registers_after : (image : Image) (f : Facts) (entry : Entry) → HaveRegisters f.endpoints → HaveRegisters (endpoints_after image f entry)
registers_after image f entry h = all_fit (change_by f.call) (specs_changing f entry.act) (endpoints_acted image f entry.cell entry.act) (acted_fit image f entry.cell entry.act h)

pub registers_open : (image : Image) → HaveRegisters (endpoints_changed Join (specs_of image.system.root) [])
registers_open image = all_fit Join (specs_of image.system.root) [] (All-nil HasRegisters)
