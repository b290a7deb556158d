-- What is written are bytes, and what is read of bytes keeps to its types. Cells with a CPU each are few.
use Rattle.std.proofs.Common.{◌≡◌, ◌≢◌, ℕ, zero, suc, ◌+◌, ◌-◌, ◌/◌, ◌%◌, ◌^◌, ◌<◌, ◌≤◌, List, [], ◌∷◌, ◌&&◌, eqb, length, length-take, min, get_or, take, drop, map, replicate, Option, Some, None, All, refl, sym, ap, subst, ◌∙◌, mod-lt, arith}
use Rattle.std.specs.Prelude.{AllPairs, Contains, nat_lt, nat_le}
use Rattle.std.specs.List.{fold}
use Rattle.std.specs.Int.{byte_at, bytes_low_first, to_le_bytes, from_le_bytes, w16, w32, w64}
use Rattle.std.proofs.lemmas.Bool.{cond_both, eqb-true, eq-eqb}
use Rattle.std.proofs.lemmas.List.Elements.{All-nil, All-cons, All-head, All-tail, All-take, All-drop, All-replicate, All-contains}
use Rattle.std.proofs.lemmas.Map.Made.{IsDistinct-from_AllPairs}
use Rattle.std.proofs.lemmas.Map.Steps.{length-le_from_distinct_below}
use Rattle.jh_num.specs.Memory.{stored}
use Rattle.jh_num.proofs.Public.{Contains_head, Contains_tail, IsFound_from_list_any}
use Rattle.jh_cellcfg.specs.declared.config.CellConfig.{CellConfig}
use Rattle.jh_cellcfg.specs.Reading.{config_of, config_of_body}
use Rattle.jh_comm.specs.Page.{with_state, sent, fresh_page, signature}
use Rattle.jh_ivshmem.specs.declared.spec.EndpointSpec.{EndpointSpec}
use Rattle.jh_ivshmem.specs.declared.spec.EndpointWord.{EndpointWord}
use Rattle.jh_ivshmem.specs.Specs.{endpoint_word_of}
use Rattle.jh_script.specs.declared.image.Image.{Image}
use Rattle.jh_script.specs.declared.image.Preload.{Preload}
use Rattle.jh_history.specs.declared.place.Place.{Place}
use Rattle.jh_history.specs.declared.place.Place.TheVariants.{Physical, Page}
use Rattle.jh_history.specs.declared.access.Reach.{Reach}
use Rattle.jh_history.specs.declared.access.Reach.TheVariants.{Memory, Subpage, Config, Window, Nothing}
use Rattle.jh_history.specs.declared.comm.PageChange.{PageChange}
use Rattle.jh_history.specs.declared.comm.PageChange.TheVariants.{State as NewState, Message, Fresh}
use Rattle.jh_history.specs.declared.comm.PageWrite.{PageWrite}
use Rattle.jh_history.specs.Access.{write_of, with_endpoint_word, with_endpoint_word_if, endpoint_word_put}
use Rattle.jh_history.specs.Devices.{Devices, specs_of}
use Rattle.jh_history.specs.Endpoints.{with_words}
use Rattle.jh_history.specs.Places.{is_same, places_in_row, with_byte, written}
use Rattle.jh_history.specs.Pages.{page_after, with_page, with_page_write}
use Rattle.jh_history.specs.Bytes.{preloaded, loaded_byte, opening_byte}
use Rattle.jh_history.specs.Sound.{AreBytes}

-- ---- bytes

byte_small : (i n : ℕ) → byte_at i n < 256
byte_small zero n = mod-lt n (omega arith)
byte_small (suc i) n = mod-lt (n / 256 ^ suc i) (omega arith)

low_bytes : (i k n : ℕ) → AreBytes (bytes_low_first i k n)
low_bytes i zero n = All-nil (λ (b : ℕ). b < 256)
low_bytes i (suc k) n = All-cons (λ (b : ℕ). b < 256) (byte_at i n) (bytes_low_first (suc i) k n) (byte_small i n) (low_bytes (suc i) k n)

-- what a list of bytes says of an index
pub index_small : (xs : List ℕ) (i : ℕ) → AreBytes xs → get_or xs i 0 < 256
index_small [] i all = omega arith
index_small (x ∷ xs) zero all = All-head (λ (b : ℕ). b < 256) x xs all
index_small (x ∷ xs) (suc i) all = index_small xs i (All-tail (λ (b : ℕ). b < 256) x xs all)

stored_small : (byte : ℕ → ℕ) (at : ℕ) (bytes : List ℕ) (q : ℕ) → ((k : ℕ) → byte k < 256) → AreBytes bytes → stored byte at bytes q < 256
stored_small byte at bytes q small all =
    let P : ℕ → Type 0 = λ b. b < 256 in
    cond_both (nat_le at q && nat_lt q (at + length bytes)) (get_or bytes (q - at) 0) (byte q) P (λ _. index_small bytes (q - at) all) (λ _. small q)

-- ---- pages

state_small : (page : ℕ → ℕ) (state q : ℕ) → ((k : ℕ) → page k < 256) → with_state page state q < 256
state_small page state q small = stored_small page 8 (to_le_bytes w32 state) q small (low_bytes 0 4 state)

sent_small : (page : ℕ → ℕ) (message q : ℕ) → ((k : ℕ) → page k < 256) → sent page message q < 256
sent_small page message q small =
    stored_small (stored page 16 (replicate 4 0)) 12 (to_le_bytes w32 message) q
    (λ k. stored_small page 16 (replicate 4 0) k small (All-replicate (λ (b : ℕ). b < 256) 4 0 (omega arith)))
    (low_bytes 0 4 message)

signature_small : AreBytes signature
signature_small =
    let P : ℕ → Type 0 = λ b. b < 256 in
    All-cons P 74 (72 ∷ 67 ∷ 79 ∷ 77 ∷ 77 ∷ []) (omega arith)
    (All-cons P 72 (67 ∷ 79 ∷ 77 ∷ 77 ∷ []) (omega arith)
    (All-cons P 67 (79 ∷ 77 ∷ 77 ∷ []) (omega arith)
    (All-cons P 79 (77 ∷ 77 ∷ []) (omega arith)
    (All-cons P 77 (77 ∷ []) (omega arith)
    (All-cons P 77 [] (omega arith) (All-nil P))))))

fresh_small : (state : ℕ) (console : List ℕ) (window q : ℕ) → AreBytes console → fresh_page state console window q < 256
fresh_small state console window q all =
    let one : ℕ → ℕ = stored (λ k. 0) 0 signature in
    let two : ℕ → ℕ = stored one 6 (to_le_bytes w16 1) in
    let three : ℕ → ℕ = with_state two state in
    let four : ℕ → ℕ = stored three 24 console in
    let small_one : (k : ℕ) → one k < 256 = λ k. stored_small (λ _. 0) 0 signature k (λ _. omega arith) signature_small in
    let small_two : (k : ℕ) → two k < 256 = λ k. stored_small one 6 (to_le_bytes w16 1) k small_one (low_bytes 0 2 1) in
    let small_three : (k : ℕ) → three k < 256 = λ k. state_small two state k small_two in
    let small_four : (k : ℕ) → four k < 256 = λ k. stored_small three 24 console k small_three all in
    stored_small four 56 (to_le_bytes w64 window) q small_four (low_bytes 0 8 window)

-- a change of a page writes bytes
abbrev pub WritesBytes : PageChange → Type 0
WritesBytes (NewState state) = Unit {0}
WritesBytes (Message message) = Unit {0}
WritesBytes (Fresh state console window) = AreBytes console

page_small : (change : PageChange) (page : ℕ → ℕ) (q : ℕ) → WritesBytes change → ((k : ℕ) → page k < 256) → page_after change page q < 256
page_small (NewState state) page q all small = state_small page state q small
page_small (Message message) page q all small = sent_small page message q small
page_small (Fresh state console window) page q all small = fresh_small state console window q all

with_page_small : (write : PageWrite) (byte : Place → ℕ) (q : Place) → WritesBytes write.change → ((p : Place) → byte p < 256) → with_page write byte q < 256
with_page_small write byte (Physical p) all small = small (Physical p)
with_page_small write byte (Page cell offset) all small =
    let P : ℕ → Type 0 = λ b. b < 256 in
    cond_both (eqb cell write.cell && nat_lt offset 4096) (page_after write.change (λ k. byte (Page cell k)) offset) (byte (Page cell offset)) P
    (λ _. page_small write.change (λ k. byte (Page cell k)) offset all (λ k. small (Page cell k)))
    (λ _. small (Page cell offset))

abbrev pub MayWriteBytes : Option PageWrite → Type 0
MayWriteBytes None = Unit {0}
MayWriteBytes (Some write) = WritesBytes write.change

pub page_write_small_holds : (write : Option PageWrite) (byte : Place → ℕ) (q : Place) → MayWriteBytes write → ((p : Place) → byte p < 256) → with_page_write write byte q < 256
page_write_small_holds None byte q all small = small q
page_write_small_holds (Some write) byte q all small = with_page_small write byte q all small

-- ---- writes

written_small : (byte : Place → ℕ) (places : List Place) (value : ℕ) (q : Place) → ((p : Place) → byte p < 256) → written byte places value q < 256
written_small byte [] value q small = small q
written_small byte (place ∷ places) value q small =
    let P : ℕ → Type 0 = λ b. b < 256 in
    written_small (with_byte byte place (value % 256)) places (value / 256) q
    (λ p. cond_both (is_same p place) (value % 256) (byte p) P (λ _. mod-lt value (omega arith)) (λ _. small p))

endpoint_word_small : (o : Option EndpointWord) (byte : Place → ℕ) (q : Place) → ((p : Place) → byte p < 256) → with_endpoint_word_if o byte q < 256
endpoint_word_small None byte q small = small q
endpoint_word_small (Some word) byte q small = written_small byte (places_in_row (Physical word.place) 4) word.value q small

pub write_small : (byte : Place → ℕ) (devices : Devices) (reach : Reach) (value : ℕ) (q : Place) → ((p : Place) → byte p < 256) → write_of byte devices reach value q < 256
write_small byte devices (Memory places) value q small = written_small byte places value q small
write_small byte devices (Subpage places) value q small = written_small byte places value q small
write_small byte devices (Config bytes) value q small = small q
write_small byte devices (Window register) value q small = endpoint_word_small (endpoint_word_put devices register value) byte q small
write_small byte devices Nothing value q small = small q

pub words_small : (specs : List EndpointSpec) (byte : Place → ℕ) (q : Place) → ((p : Place) → byte p < 256) → with_words specs byte q < 256
words_small [] byte q small = small q
words_small (s ∷ specs) byte q small = words_small specs (with_endpoint_word (endpoint_word_of s 0) byte) q (λ p. endpoint_word_small (Some (endpoint_word_of s 0)) byte p small)

-- ---- opening

-- what preloads put are bytes
abbrev pub ArePreloadsBytes : Image → Type 0
ArePreloadsBytes image = All (λ (x : Preload). AreBytes x.bytes) image.preloads

preloads_small : (byte : ℕ → ℕ) (preloads : List Preload) (p : ℕ) → ((k : ℕ) → byte k < 256) → All (λ (x : Preload). AreBytes x.bytes) preloads → fold preloaded byte preloads p < 256
preloads_small byte [] p small all = small p
preloads_small byte (x ∷ xs) p small all =
    preloads_small (preloaded byte x) xs p
    (λ k. stored_small byte x.at x.bytes k small (All-head (λ (y : Preload). AreBytes y.bytes) x xs all))
    (All-tail (λ (y : Preload). AreBytes y.bytes) x xs all)

loaded_small : (image : Image) (q : Place) → ArePreloadsBytes image → loaded_byte image q < 256
loaded_small image (Physical p) bytes = preloads_small (λ _. 0) image.preloads p (λ _. omega arith) bytes
loaded_small image (Page cell offset) bytes = omega arith

pub opening_small : (image : Image) (q : Place) → ArePreloadsBytes image → opening_byte image q < 256
opening_small image q bytes = words_small (specs_of image.system.root) (loaded_byte image) q (λ p. loaded_small image p bytes)

-- ---- configurations

-- what a configuration holds as bytes are bytes, and its id has 32 bits
pub record IsTyped (config : CellConfig) : Type 0 where
  pub id : config.id < 2 ^ 32
  pub set : AreBytes config.cpu_set
  pub console : AreBytes config.console
  pub few : length config.console ≤ 32

word_small : (bytes : List ℕ) → AreBytes bytes → from_le_bytes w32 bytes < 2 ^ 32
word_small bytes all =
    let a = index_small bytes 0 all in
    let b = index_small bytes 1 all in
    let c = index_small bytes 2 all in
    let d = index_small bytes 3 all in
    omega (arith, a, b, c, d)

body_typed : (body : List ℕ) → AreBytes body → IsTyped (config_of_body body)
unfolding config_of_body
body_typed body all =
    let P : ℕ → Type 0 = λ b. b < 256 in
    record {
      id = word_small (take 4 (drop 32 body)) (All-take P 4 (drop 32 body) (All-drop P 32 body all));
      set = All-take P _ (drop 124 body) (All-drop P 124 body all);
      console = All-take P 32 (drop 92 body) (All-drop P 92 body all);
      few = let shorter : length (take 32 (drop 92 body)) ≡ min 32 (length (drop 92 body)) = length-take 32 (drop 92 body) in omega arith;
    }

pub config_typed : (bytes : List ℕ) → AreBytes bytes → IsTyped (config_of bytes)
unfolding config_of
config_typed bytes all = let P : ℕ → Type 0 = λ b. b < 256 in body_typed (drop 8 bytes) (All-drop P 8 bytes all)

pub read_bytes : (byte : Place → ℕ) (places : List Place) → ((p : Place) → byte p < 256) → AreBytes (map byte places)
read_bytes byte [] small = All-nil (λ (b : ℕ). b < 256)
read_bytes byte (place ∷ places) small = All-cons (λ (b : ℕ). b < 256) (byte place) (map byte places) (small place) (read_bytes byte places small)

-- ---- counting

-- a function of the elements that differs on each two
pub get_map : {X Y : Type 0} (f : X → Y) (xs : List X) (i : ℕ) (d : X) → get_or (map f xs) i (f d) ≡ f (get_or xs i d)
get_map f [] i d = refl
get_map f (x ∷ xs) zero d = refl
get_map f (x ∷ xs) (suc i) d = get_map f xs i d

pub length_map : {X Y : Type 0} (f : X → Y) (xs : List X) → length (map f xs) ≡ length xs
length_map f [] = refl
length_map f (x ∷ xs) = ap suc (length_map f xs)

apart_by : (f : ℕ → ℕ) (xs ids : List ℕ) → map f xs ≡ ids → ((i j d : ℕ) → i < j → j < length ids → get_or ids i d ≢ get_or ids j d) → AllPairs (λ x y. x ≢ y) xs
apart_by f xs ids is apart i j d lt within same =
    let P : List ℕ → Type 0 = λ l. (a b c : ℕ) → a < b → b < length l → get_or l a c ≢ get_or l b c in
    let there : (a b c : ℕ) → a < b → b < length (map f xs) → get_or (map f xs) a c ≢ get_or (map f xs) b c = subst P (sym is) apart in
    let long : length (map f xs) ≡ length xs = length_map f xs in
    there i j (f d) lt (omega (arith, long)) (get_map f xs i d ∙ ap f same ∙ sym (get_map f xs j d))

-- numbers below 16 of which no two are equal
few_numbers : (xs : List ℕ) → AllPairs (λ x y. x ≢ y) xs → All (λ (x : ℕ). x < 16) xs → length xs ≤ 16
few_numbers xs apart small =
    length-le_from_distinct_below xs 16
    (IsDistinct-from_AllPairs (λ a b. (eqb-true a b, eq-eqb a b)) xs apart)
    (λ q h.
    let found = IsFound_from_list_any (eqb q) xs h in
    let P : ℕ → Type 0 = λ x. x < 16 in
    subst P (sym (eqb-true q found.0 found.1.passes)) (All-contains P xs found.0 small found.1.among))

-- a CPU of each of the cells
pub record ArePicked (owner : ℕ → ℕ) (configs : List CellConfig) : Type 0 where
  pub cpus : List ℕ
  pub owners : map owner cpus ≡ map (λ (c : CellConfig). c.id) configs
  pub small : All (λ (x : ℕ). x < 16) cpus

pub picked : (owner : ℕ → ℕ) (configs : List CellConfig) → ((config : CellConfig) → Contains configs config → (cpu : ℕ) × (owner cpu ≡ config.id) × (cpu < 16)) → ArePicked owner configs
picked owner [] each = record { cpus = []; owners = refl; small = All-nil (λ (x : ℕ). x < 16) }
picked owner (config ∷ configs) each =
    let one = each config (Contains_head config configs) in
    let rest = picked owner configs (λ c held. each c (Contains_tail config configs c held)) in
    record {
      cpus = one.0 ∷ rest.cpus;
      owners = ap (λ (n : ℕ). n ∷ map owner rest.cpus) one.1 ∙ ap (λ (ns : List ℕ). config.id ∷ ns) rest.owners;
      small = All-cons (λ (x : ℕ). x < 16) one.0 rest.cpus one.2 rest.small;
    }

pub picked_few : (owner : ℕ → ℕ) (configs : List CellConfig) → ArePicked owner configs
    → ((i j d : ℕ) → i < j → j < length (map (λ (c : CellConfig). c.id) configs) → get_or (map (λ (c : CellConfig). c.id) configs) i d ≢ get_or (map (λ (c : CellConfig). c.id) configs) j d)
    → length configs ≤ 16
picked_few owner configs p apart =
    let ids : List ℕ = map (λ (c : CellConfig). c.id) configs in
    let few : length p.cpus ≤ 16 = few_numbers p.cpus (apart_by owner p.cpus ids p.owners apart) p.small in
    let same : length p.cpus ≡ length configs = sym (length_map owner p.cpus) ∙ ap (λ (l : List ℕ). length l) p.owners ∙ length_map (λ (c : CellConfig). c.id) configs in
    omega (arith, few, same)
