-- A cell that fits can be written: its fields are of their types, and it is within the limits.
use Rattle.std.proofs.Common.{◌≡◌, ℕ, ◌+◌, ◌-◌, ◌^◌, ◌<◌, ◌≤◌, ◌==◌, Bool, true, false, ◌&&◌, not, nat_lt, nat_le, cond, Some, List, [], ◌∷◌, ◌++◌, zero, suc, length, take, drop, replicate, refl, ap, ◌∙◌, arith, length-append, None}
use Rattle.std.proofs.lemmas.List.{length-replicate}
use Rattle.std.specs.List.{list_all, position, position_or_len, before_first}
use Rattle.std.proofs.lemmas.Bool.{and_parts, and_from, ltb-true, leb-true, le-leb, lt-ltb, eqb-true, false_from_ne_true}
use Rattle.jh_num.specs.declared.address.TheConstants.{ADDRESS_END, PAGE_SIZE}
use Rattle.jh_cellcfg.specs.Limits.{is_printable, is_zero, is_name_to, IsWithinLimits, is_name as may_name}
use Rattle.jh_cellcfg.specs.Typed.{IsCell}
use Rattle.jh_plan.specs.declared.demand.Demand.{Demand}
use Rattle.jh_plan.specs.Demands.{is_name, is_name_byte}
use Rattle.jh_plan.specs.Fits.{cell_of, comm_start, padded}

-- ---- a name with zero bytes behind it

byte_parts : (b : ℕ) → is_name_byte b ≡ true → (is_printable b ≡ true) × ((b == 0) ≡ false)
byte_parts b good =
    let low = nat_le 0x21 b in
    let high = nat_le b 0x7e in
    let quote = not (b == 34) in
    let p = and_parts (low && high && quote) (not (b == 92)) good in
    let q = and_parts (low && high) quote p.0 in
    let r = and_parts low high q.0 in
    let above = leb-true 0x21 b r.0 in (
      and_from (nat_le 0x20 b) high (le-leb 0x20 b (omega (arith, above))) r.1,
      false_from_ne_true (b == 0) (λ none. let is = eqb-true b 0 none in omega (arith, is, above)),
    )

-- where the first zero stands
first_zero : (name : List ℕ) (n : ℕ) → list_all is_name_byte name ≡ true → position_or_len (λ b. b == 0) (name ++ replicate n 0) ≡ length name
first_zero [] zero good = refl
first_zero [] (suc n) good = refl
first_zero (b ∷ bs) n good =
    let p = and_parts (is_name_byte b) (list_all is_name_byte bs) good in
    let rest : ℕ = position_or_len (λ c. c == 0) (bs ++ replicate n 0) in
    ap (λ t. cond (not t) (1 + rest) 0) (byte_parts b p.0).1 ∙ ap (λ k. 1 + k) (first_zero bs n p.1) ∙ omega arith

take_front : (xs ys : List ℕ) → take (length xs) (xs ++ ys) ≡ xs
take_front [] ys = refl
take_front (x ∷ xs) ys = ap (λ zs. x ∷ zs) (take_front xs ys)

drop_front : (xs ys : List ℕ) → drop (length xs) (xs ++ ys) ≡ ys
drop_front [] ys = refl
drop_front (x ∷ xs) ys = drop_front xs ys

-- the bytes before it are the name
pub name_before : (name : List ℕ) (n : ℕ) → list_all is_name_byte name ≡ true → before_first (λ b. b == 0) (name ++ replicate n 0) ≡ name
name_before name n good = ap (λ k. take k (name ++ replicate n 0)) (first_zero name n good) ∙ take_front name (replicate n 0)

all_printable : (name : List ℕ) → list_all is_name_byte name ≡ true → list_all is_printable name ≡ true
all_printable [] good = refl
all_printable (b ∷ bs) good =
    let p = and_parts (is_name_byte b) (list_all is_name_byte bs) good in
    and_from (is_printable b) (list_all is_printable bs) (byte_parts b p.0).0 (all_printable bs p.1)

all_zero : (n : ℕ) → list_all is_zero (replicate n 0) ≡ true
all_zero zero = refl
all_zero (suc n) = all_zero n

pub record IsNameOf (name : List ℕ) : Type 0 where
  pub some : 0 < length name
  pub few : length name ≤ 31
  pub bytes : list_all is_name_byte name ≡ true

pub name_parts : (name : List ℕ) → is_name name ≡ true → IsNameOf name
name_parts name good =
    let p = and_parts (nat_lt 0 (length name) && nat_le (length name) 31) (list_all is_name_byte name) good in
    let q = and_parts (nat_lt 0 (length name)) (nat_le (length name) 31) p.0 in
    record { some = ltb-true 0 (length name) q.0; few = leb-true (length name) 31 q.1; bytes = p.1 }

padded_long : (name : List ℕ) → length name ≤ 31 → length (padded name) ≡ 32
padded_long name few = length-append name (replicate (32 - length name) 0) ∙ ap (λ n. length name + n) (length-replicate (32 - length name) 0) ∙ omega (arith, few)

name_good : (name : List ℕ) → is_name name ≡ true → may_name (padded name) ≡ true
unfolding may_name
name_good name good =
    let n = name_parts name good in
    let whole : List ℕ = padded name in
    let behind : List ℕ = replicate (32 - length name) 0 in
    let first : position_or_len is_zero whole ≡ length name = first_zero name (32 - length name) n.bytes in
    let within : nat_lt (length name) (length whole) ≡ true = lt-ltb (length name) (length whole) (omega (arith, padded_long name n.few, n.few)) in
    let at : position is_zero whole ≡ Some (length name) = ap (λ k. cond (nat_lt k (length whole)) (Some k) None) first ∙ ap (λ t. cond t (Some (length name)) None) within in
    ap (is_name_to whole) at
    ∙ and_from (nat_lt 0 (length name) && list_all is_printable (take (length name) whole)) (list_all is_zero (drop (length name) whole))
    (and_from (nat_lt 0 (length name)) (list_all is_printable (take (length name) whole)) (lt-ltb 0 (length name) n.some)
    (ap (list_all is_printable) (take_front name behind) ∙ all_printable name n.bytes))
    (ap (list_all is_zero) (drop_front name behind) ∙ all_zero (32 - length name))

-- ---- a cell

flags_fit : (loadable : Bool) → cond loadable 0x47 0x7 < 2 ^ 64
flags_fit true = omega arith
flags_fit false = omega arith

pub typed : (demand : Demand) (set : List ℕ) (place : ℕ) → is_name demand.name ≡ true → demand.id < 2 ^ 32 → place + demand.size ≤ ADDRESS_END → comm_start demand.size + PAGE_SIZE ≤ ADDRESS_END → IsCell (cell_of demand set place)
typed demand set place name id within room = record {
  name = padded_long demand.name (name_parts demand.name name).few;
  id = id;
  flags = omega arith;
  vpci_irq_base = omega arith;
  cpu_reset_address = omega arith;
  msg_reply_timeout = omega arith;
  console = length-replicate {A = ℕ} 32 0;
  memory_regions = (
    record { phys_start = omega (arith, within); virt_start = omega arith; size = omega (arith, within); flags = flags_fit demand.loadable },
    (record { phys_start = omega arith; virt_start = omega (arith, room); size = omega arith; flags = omega arith }, tt),
  );
  cache_regions = tt;
  irqchips = tt;
  pio_regions = tt;
  pci_devices = tt;
  pci_caps = tt;
  stream_ids = tt;
}

pub limited : (demand : Demand) (set : List ℕ) (place : ℕ) → is_name demand.name ≡ true → length set ≡ 8 → IsWithinLimits (cell_of demand set place)
limited demand set place name long = record {
  name = name_good demand.name name;
  counts = record {
    some_cpus = omega (arith, long);
    cpu_set = omega (arith, long);
    memory_regions = omega arith;
    cache_regions = omega arith;
    irqchips = omega arith;
    pio_regions = omega arith;
    pci_devices = omega arith;
    pci_caps = omega arith;
    stream_ids = omega arith;
    total = omega (arith, long);
  };
}
