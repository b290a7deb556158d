-- What the changes of endpoints leave of what is fixed of them, and that they leave them sound.
use Rattle.std.proofs.Common.{◌≡◌, ℕ, ◌/◌, ◌%◌, ◌*◌, ◌^◌, ◌==◌, ◌&&◌, Bool, true, false, not, cond, List, [], ◌∷◌, length, map, filter, fold, All, Contains, Option, Some, None, refl, sym, ap, subst, ◌∙◌, arith}
use Rattle.std.specs.Option.{option_map_or}
use Rattle.std.proofs.lemmas.Option.{none-some}
use Rattle.std.proofs.lemmas.List.{length-set}
use Rattle.std.proofs.lemmas.List.Elements.{All-cons, All-head, All-tail, All-filter, All-contains}
use Rattle.jh_num.proofs.Public.{Contains_head, Contains_tail}
use Rattle.jh_vpci.specs.Space.{Space, has_vectors}
use Rattle.jh_vpci.specs.Windows.{AreWindows}
use Rattle.jh_vpci.specs.Words.{word_of, word_offset}
use Rattle.jh_vpci.specs.Writes.{with_word, spliced, written as config_written}
use Rattle.jh_ivshmem.specs.declared.endpoint.Endpoint.{Endpoint}
use Rattle.jh_ivshmem.specs.declared.spec.EndpointSpec.{EndpointSpec}
use Rattle.jh_ivshmem.specs.Specs.{IsInItsLimits, is_device, is_peer, is_other, is_before}
use Rattle.jh_ivshmem.specs.Endpoint.{raised, taken, cleared, fresh, is_open}
use Rattle.jh_ivshmem.specs.Registers.{register_written, is_in_table}
use Rattle.jh_ivshmem.specs.Changes.{changed}
use Rattle.jh_ivshmem.specs.Links.{endpoint_at, joined, rung, others_raised, told_of, state_written, written, reset_of, left_by, taken_of}
use Rattle.jh_ivshmem.proofs.Public.{named_cell, named_device, cleared_spec}
use Rattle.jh_history.specs.declared.device_change.DeviceChange.TheVariants.{Join, Reset, Leave}
use Rattle.jh_history.specs.Endpoints.{endpoint_changed, endpoints_changed}
use Rattle.jh_history.specs.Sound.{IsSoundEndpoint}

-- what is fixed of each
abbrev pub specs_in : List Endpoint → List EndpointSpec
specs_in list = map (λ (e : Endpoint). e.spec) list

-- ---- one endpoint

-- it keeps what is fixed, its configuration space, and the number of its vectors
record Stays (old new : Endpoint) : Type 0 where
  spec : new.spec ≡ old.spec
  space : new.space ≡ old.space
  vectors : length new.vectors ≡ length old.vectors

stays_all : (e : Endpoint) → Stays e e
stays_all e = record { spec = refl; space = refl; vectors = refl }

stays_either : (b : Bool) (old one other : Endpoint) → Stays old one → Stays old other → Stays old (cond b one other)
stays_either true old one other h g = h
stays_either false old one other h g = g

stays_sound : (old new : Endpoint) → Stays old new → IsSoundEndpoint old → IsSoundEndpoint new
stays_sound old new stays sound =
    let windows : Space → Type 0 = λ space. AreWindows space.bar0 space.bar1 in
    record {
      within = subst IsInItsLimits (sym stays.spec) sound.within;
      function = ap (λ (space : Space). space.spec) stays.space ∙ sound.function ∙ ap (λ (s : EndpointSpec). s.function) (sym stays.spec);
      windows = subst windows (sym stays.space) sound.windows;
      vectors = stays.vectors ∙ sound.vectors;
    }

raised_stays : (v : ℕ) (e : Endpoint) → Stays e (raised v e)
unfolding raised
raised_stays v e = stays_either (is_open e v) e _ e (record { spec = refl; space = refl; vectors = length-set e.vectors v _ }) (stays_all e)

register_stays : (bar at value : ℕ) (e : Endpoint) → Stays e (register_written bar at value e)
unfolding register_written
register_stays bar at value e =
    stays_either (bar == 0) e _ _
    (stays_either (at == 0x08) e _ e (record { spec = refl; space = refl; vectors = refl }) (stays_all e))
    (stays_either (is_in_table e at) e _ e (record { spec = refl; space = refl; vectors = length-set e.vectors (at / 16) _ }) (stays_all e))

taken_stays : (v : ℕ) (e : Endpoint) → Stays e (taken v e)
unfolding taken
taken_stays v e = record { spec = refl; space = refl; vectors = length-set e.vectors v _ }

-- the function stays as it is, and the windows begin at multiples of their sizes
record IsSoundSpace (old new : Space) : Type 0 where
  spec : new.spec ≡ old.spec
  windows : AreWindows old.bar0 old.bar1 → AreWindows new.bar0 new.bar1

space_either : (b : Bool) (old one other : Space) → IsSoundSpace old one → IsSoundSpace old other → IsSoundSpace old (cond b one other)
space_either true old one other h g = h
space_either false old one other h g = g

rounded_page : (n : ℕ) → n / 0x1000 * 0x1000 / 0x1000 * 0x1000 ≡ n / 0x1000 * 0x1000
rounded_page n = omega arith

rounded_table : (n : ℕ) → n / 0x200 * 0x200 / 0x200 * 0x200 ≡ n / 0x200 * 0x200
rounded_table n = omega arith

word_space : (space : Space) (offset word : ℕ) → IsSoundSpace space (with_word space offset word)
unfolding with_word
word_space space offset word =
    let same : IsSoundSpace space space = record { spec = refl; windows = λ w. w } in
    space_either (offset == 0x04) space _ _ (record { spec = refl; windows = λ w. w })
    (space_either (offset == 0x10) space _ _ (record { spec = refl; windows = λ w. record { pages = rounded_page word; tables = w.tables } })
    (space_either ((offset == 0x14) && has_vectors space.spec) space _ _ (record { spec = refl; windows = λ w. record { pages = w.pages; tables = rounded_table word } })
    (space_either (offset == 0x40) space _ _ (record { spec = refl; windows = λ w. w })
    (space_either ((offset == 0x60) && has_vectors space.spec) space _ _ (record { spec = refl; windows = λ w. w }) same))))

-- ---- all endpoints

-- they are the same endpoints, and sound where they were
pub record Follow (old new : List Endpoint) : Type 0 where
  pub specs : specs_in new ≡ specs_in old
  pub sound : All IsSoundEndpoint old → All IsSoundEndpoint new

pub follow_same : (list : List Endpoint) → Follow list list
follow_same list = record { specs = refl; sound = λ h. h }

pub follow_both : (one two three : List Endpoint) → Follow one two → Follow two three → Follow one three
follow_both one two three h g = record { specs = g.specs ∙ h.specs; sound = λ s. g.sound (h.sound s) }

follow_either : (b : Bool) (old one other : List Endpoint) → Follow old one → Follow old other → Follow old (cond b one other)
follow_either true old one other h g = h
follow_either false old one other h g = g

pub follow_option : {X : Type 0} (o : Option X) (f : X → List Endpoint) (old other : List Endpoint) → ((x : X) → Follow old (f x)) → Follow old other → Follow old (option_map_or f o other)
follow_option None f old other h g = g
follow_option (Some x) f old other h g = h x

spec_by : (b : Bool) (f : Endpoint → Endpoint) (e : Endpoint) → (f e).spec ≡ e.spec → (cond b (f e) e).spec ≡ e.spec
spec_by true f e h = h
spec_by false f e h = refl

sound_by : (b : Bool) (f : Endpoint → Endpoint) (e : Endpoint) → IsSoundEndpoint (f e) → IsSoundEndpoint e → IsSoundEndpoint (cond b (f e) e)
sound_by true f e h g = h
sound_by false f e h g = g

specs_changed : (t : EndpointSpec → Bool) (f : Endpoint → Endpoint) → ((e : Endpoint) → (f e).spec ≡ e.spec) → (list : List Endpoint) → specs_in (changed t f list) ≡ specs_in list
unfolding changed
specs_changed t f keeps [] = refl
specs_changed t f keeps (e ∷ list) =
    ap (λ (s : EndpointSpec). s ∷ specs_in (changed t f list)) (spec_by (t e.spec) f e (keeps e))
    ∙ ap (λ (l : List EndpointSpec). e.spec ∷ l) (specs_changed t f keeps list)

sound_changed : (t : EndpointSpec → Bool) (f : Endpoint → Endpoint) → ((e : Endpoint) → IsSoundEndpoint e → IsSoundEndpoint (f e)) → (list : List Endpoint) → All IsSoundEndpoint list → All IsSoundEndpoint (changed t f list)
unfolding changed
sound_changed t f keeps [] sound = sound
sound_changed t f keeps (e ∷ list) sound =
    let here = All-head IsSoundEndpoint e list sound in
    All-cons IsSoundEndpoint (cond (t e.spec) (f e) e) (changed t f list) (sound_by (t e.spec) f e (keeps e here) here)
    (sound_changed t f keeps list (All-tail IsSoundEndpoint e list sound))

-- where it is so of those in the list alone
sound_test : (b : Bool) (t : EndpointSpec → Bool) (f : Endpoint → Endpoint) (e : Endpoint) → t e.spec ≡ b → (t e.spec ≡ true → IsSoundEndpoint (f e)) → IsSoundEndpoint e → IsSoundEndpoint (cond (t e.spec) (f e) e)
sound_test true t f e is keeps sound = let P : Bool → Type 0 = λ b. IsSoundEndpoint (cond b (f e) e) in subst P (sym is) (keeps is)
sound_test false t f e is keeps sound = let P : Bool → Type 0 = λ b. IsSoundEndpoint (cond b (f e) e) in subst P (sym is) sound

sound_there : (t : EndpointSpec → Bool) (f : Endpoint → Endpoint) (list : List Endpoint) → ((e : Endpoint) → Contains list e → t e.spec ≡ true → IsSoundEndpoint e → IsSoundEndpoint (f e))
    → All IsSoundEndpoint list → All IsSoundEndpoint (changed t f list)
unfolding changed
sound_there t f [] keeps sound = sound
sound_there t f (e ∷ list) keeps sound =
    let here = All-head IsSoundEndpoint e list sound in
    All-cons IsSoundEndpoint (cond (t e.spec) (f e) e) (changed t f list)
    (sound_test (t e.spec) t f e refl (λ is. keeps e (Contains_head e list) is here) here)
    (sound_there t f list (λ x held is. keeps x (Contains_tail e list x held) is) (All-tail IsSoundEndpoint e list sound))

pub follow_changed : (t : EndpointSpec → Bool) (f : Endpoint → Endpoint) → ((e : Endpoint) → (f e).spec ≡ e.spec) → ((e : Endpoint) → IsSoundEndpoint e → IsSoundEndpoint (f e)) → (list : List Endpoint) → Follow list (changed t f list)
follow_changed t f spec sound list = record { specs = specs_changed t f spec list; sound = sound_changed t f sound list }

follow_stays : (t : EndpointSpec → Bool) (f : Endpoint → Endpoint) → ((e : Endpoint) → Stays e (f e)) → (list : List Endpoint) → Follow list (changed t f list)
follow_stays t f stays list = follow_changed t f (λ e. (stays e).spec) (λ e. stays_sound e (f e) (stays e)) list

-- one endpoint with another's configuration space, of which the same is fixed
space_sound : (e x : Endpoint) (at width value : ℕ) → x.spec ≡ e.spec → IsSoundEndpoint e → IsSoundEndpoint x
    → IsSoundEndpoint (record x { space = config_written e.space at width value })
space_sound e x at width value same sound whole =
    let put = word_space e.space (word_offset at) (spliced (word_of e.space (word_offset at)) at width value) in
    record {
      within = whole.within;
      function = put.spec ∙ sound.function ∙ ap (λ (s : EndpointSpec). s.function) (sym same);
      windows = put.windows sound.windows;
      vectors = whole.vectors;
    }

-- a write to the configuration space of an endpoint, where what is fixed of each of the same device is the same
pub follow_space : (cell device : ℕ) (e : Endpoint) (at width value : ℕ) (list : List Endpoint) → Contains list e
    → ((x : Endpoint) → Contains list x → is_device cell device x.spec ≡ true → x.spec ≡ e.spec)
    → Follow list (changed (is_device cell device) (λ (x : Endpoint). record x { space = config_written e.space at width value }) list)
follow_space cell device e at width value list held same =
    let put : Endpoint → Endpoint = λ x. record x { space = config_written e.space at width value } in
    record {
      specs = specs_changed (is_device cell device) put (λ x. refl) list;
      sound = λ sound.
          sound_there (is_device cell device) put list
          (λ x there is whole. space_sound e x at width value (same x there is) (All-contains IsSoundEndpoint list e sound held) whole)
          sound;
    }

told_follow : (e : Endpoint) (value : ℕ) (list : List Endpoint) → Follow list (told_of e value list)
told_follow e value list = follow_either (e.state == value) list list (others_raised e.spec list) (follow_same list) (follow_stays (is_other e.spec.bdf e.spec.id) (raised 0) (raised_stays 0) list)

-- a write to a register
pub follow_written : (e : Endpoint) (bar at value : ℕ) (list : List Endpoint) → Follow list (written e bar at value list)
unfolding written
follow_written e bar at value list =
    let there : List Endpoint = told_of e value list in
    follow_either ((bar == 0) && (at == 0x0c)) list (rung e.spec.bdf (value / 2 ^ 16) (value % 2 ^ 16) list) _
    (follow_stays (is_peer e.spec.bdf (value / 2 ^ 16)) (raised (value % 2 ^ 16)) (raised_stays (value % 2 ^ 16)) list)
    (follow_either ((bar == 0) && (at == 0x10)) list (state_written e value list) _
    (follow_both list there (state_written e value list) (told_follow e value list)
    (follow_stays (is_device e.spec.cell e.spec.device) (λ (o : Endpoint). record o { state = value }) (λ o. record { spec = refl; space = refl; vectors = refl }) there))
    (follow_stays (is_device e.spec.cell e.spec.device) (register_written bar at value) (register_stays bar at value) list))

-- a vector that is taken
pub follow_taken : (cell : ℕ) (next : Option (ℕ × ℕ)) (list : List Endpoint) → Follow list (taken_of cell next list)
follow_taken cell None list = follow_same list
follow_taken cell (Some next) list = follow_stays (is_device cell next.0) (taken next.1) (taken_stays next.1) list

cleared_sound : (e : Endpoint) → IsSoundEndpoint e → IsSoundEndpoint (cleared e)
unfolding cleared
cleared_sound e sound = record { within = sound.within; function = sound.function; windows = record { pages = refl; tables = refl }; vectors = refl }

reset_follow : (e : Endpoint) (list : List Endpoint) → Follow list (reset_of e list)
reset_follow e list =
    let there : List Endpoint = told_of e 0 list in
    follow_both list there (reset_of e list) (told_follow e 0 list) (follow_changed (is_device e.spec.cell e.spec.device) cleared cleared_spec cleared_sound there)

-- the devices of a cell that is started are reset
pub follow_reset : (specs : List EndpointSpec) (list : List Endpoint) → Follow list (endpoints_changed Reset specs list)
follow_reset [] list = follow_same list
follow_reset (s ∷ specs) list =
    let next : List Endpoint = endpoint_changed Reset list s in
    follow_both list next (endpoints_changed Reset specs next)
    (follow_option (endpoint_at s.cell s.device list) (λ (e : Endpoint). reset_of e list) list list (λ e. reset_follow e list) (follow_same list))
    (follow_reset specs next)

-- ---- joining

-- what is fixed of the endpoint among the others, where it belongs
abbrev pub placed : List EndpointSpec → EndpointSpec → List EndpointSpec
placed [] s = s ∷ []
placed (x ∷ xs) s = cond (is_before s.cell s.device x) (x ∷ placed xs s) (s ∷ x ∷ xs)

joined_by : (b : Bool) (s : EndpointSpec) (e : Endpoint) (list : List Endpoint) → specs_in (joined s list) ≡ placed (specs_in list) s
    → specs_in (cond b (e ∷ joined s list) (fresh s ∷ e ∷ list)) ≡ cond b (e.spec ∷ placed (specs_in list) s) (s ∷ e.spec ∷ specs_in list)
joined_by true s e list rest = ap (λ (l : List EndpointSpec). e.spec ∷ l) rest
joined_by false s e list rest = refl

specs_joined : (s : EndpointSpec) (list : List Endpoint) → specs_in (joined s list) ≡ placed (specs_in list) s
specs_joined s [] = refl
specs_joined s (e ∷ list) = joined_by (is_before s.cell s.device e.spec) s e list (specs_joined s list)

fresh_sound : (s : EndpointSpec) → IsInItsLimits s → IsSoundEndpoint (fresh s)
fresh_sound s within = record { within = within; function = refl; windows = record { pages = refl; tables = refl }; vectors = refl }

joins_by : (b : Bool) (s : EndpointSpec) (e : Endpoint) (list : List Endpoint) → IsInItsLimits s → All IsSoundEndpoint (e ∷ list) → All IsSoundEndpoint (joined s list)
    → All IsSoundEndpoint (cond b (e ∷ joined s list) (fresh s ∷ e ∷ list))
joins_by true s e list within sound rest = All-cons IsSoundEndpoint e (joined s list) (All-head IsSoundEndpoint e list sound) rest
joins_by false s e list within sound rest = All-cons IsSoundEndpoint (fresh s) (e ∷ list) (fresh_sound s within) sound

sound_joined : (s : EndpointSpec) (list : List Endpoint) → IsInItsLimits s → All IsSoundEndpoint list → All IsSoundEndpoint (joined s list)
sound_joined s [] within sound = All-cons IsSoundEndpoint (fresh s) [] (fresh_sound s within) sound
sound_joined s (e ∷ list) within sound =
    joins_by (is_before s.cell s.device e.spec) s e list within sound (sound_joined s list within (All-tail IsSoundEndpoint e list sound))

pub specs_join : (specs : List EndpointSpec) (list : List Endpoint) → specs_in (endpoints_changed Join specs list) ≡ fold placed (specs_in list) specs
specs_join [] list = refl
specs_join (s ∷ specs) list = specs_join specs (joined s list) ∙ ap (λ (l : List EndpointSpec). fold placed l specs) (specs_joined s list)

pub sound_join : (specs : List EndpointSpec) (list : List Endpoint) → All IsInItsLimits specs → All IsSoundEndpoint list → All IsSoundEndpoint (endpoints_changed Join specs list)
sound_join [] list within sound = sound
sound_join (s ∷ specs) list within sound =
    sound_join specs (joined s list) (All-tail IsInItsLimits s specs within) (sound_joined s list (All-head IsInItsLimits s specs within) sound)

-- ---- leaving

-- those of other devices
abbrev pub without : List EndpointSpec → EndpointSpec → List EndpointSpec
without specs s = filter (λ (x : EndpointSpec). not (is_device s.cell s.device x)) specs

filter_by : (b : Bool) (p : EndpointSpec → Bool) (e : Endpoint) (list : List Endpoint) → specs_in (filter (λ (o : Endpoint). p o.spec) list) ≡ filter p (specs_in list)
    → specs_in (cond b (e ∷ filter (λ (o : Endpoint). p o.spec) list) (filter (λ (o : Endpoint). p o.spec) list)) ≡ cond b (e.spec ∷ filter p (specs_in list)) (filter p (specs_in list))
filter_by true p e list rest = ap (λ (l : List EndpointSpec). e.spec ∷ l) rest
filter_by false p e list rest = rest

specs_filter : (p : EndpointSpec → Bool) (list : List Endpoint) → specs_in (filter (λ (o : Endpoint). p o.spec) list) ≡ filter p (specs_in list)
specs_filter p [] = refl
specs_filter p (e ∷ list) = filter_by (p e.spec) p e list (specs_filter p list)

-- where none has the device, all are of other devices
none_by : (b : Bool) (e : Endpoint) (o : Option Endpoint) (l all : List EndpointSpec) → cond b (Some e) o ≡ None → (o ≡ None → l ≡ all) → cond (not b) (e.spec ∷ l) l ≡ e.spec ∷ all
none_by true e o l all none rest = absurd (none-some e (sym none))
none_by false e o l all none rest = ap (λ (xs : List EndpointSpec). e.spec ∷ xs) (rest none)

specs_none : (cell device : ℕ) (list : List Endpoint) → endpoint_at cell device list ≡ None → filter (λ (x : EndpointSpec). not (is_device cell device x)) (specs_in list) ≡ specs_in list
specs_none cell device [] none = refl
specs_none cell device (e ∷ list) none =
    none_by (is_device cell device e.spec) e (endpoint_at cell device list) (filter (λ (x : EndpointSpec). not (is_device cell device x)) (specs_in list)) (specs_in list) none (specs_none cell device list)

specs_left : (s : EndpointSpec) (list : List Endpoint) (o : Option Endpoint) → endpoint_at s.cell s.device list ≡ o → specs_in (option_map_or (λ (e : Endpoint). left_by e list) o list) ≡ without (specs_in list) s
specs_left s list None found = sym (specs_none s.cell s.device list found)
specs_left s list (Some e) found =
    let p : EndpointSpec → Bool = λ x. not (is_device e.spec.cell e.spec.device x) in
    specs_filter p (told_of e 0 list)
    ∙ ap (filter p) (told_follow e 0 list).specs
    ∙ ap (λ (n : ℕ). filter (λ (x : EndpointSpec). not (is_device n e.spec.device x)) (specs_in list)) (named_cell s.cell s.device list e found)
    ∙ ap (λ (n : ℕ). filter (λ (x : EndpointSpec). not (is_device s.cell n x)) (specs_in list)) (named_device s.cell s.device list e found)

left_sound : (s : EndpointSpec) (list : List Endpoint) (o : Option Endpoint) → All IsSoundEndpoint list → All IsSoundEndpoint (option_map_or (λ (e : Endpoint). left_by e list) o list)
left_sound s list None sound = sound
left_sound s list (Some e) sound = All-filter (λ (o : Endpoint). not (is_device e.spec.cell e.spec.device o.spec)) IsSoundEndpoint (told_of e 0 list) ((told_follow e 0 list).sound sound)

pub specs_leave : (specs : List EndpointSpec) (list : List Endpoint) → specs_in (endpoints_changed Leave specs list) ≡ fold without (specs_in list) specs
specs_leave [] list = refl
specs_leave (s ∷ specs) list =
    specs_leave specs (endpoint_changed Leave list s)
    ∙ ap (λ (l : List EndpointSpec). fold without l specs) (specs_left s list (endpoint_at s.cell s.device list) refl)

pub sound_leave : (specs : List EndpointSpec) (list : List Endpoint) → All IsSoundEndpoint list → All IsSoundEndpoint (endpoints_changed Leave specs list)
sound_leave [] list sound = sound
sound_leave (s ∷ specs) list sound = sound_leave specs (endpoint_changed Leave list s) (left_sound s list (endpoint_at s.cell s.device list) sound)
