-- A descriptor tells of its slot what each byte is granted.
use Rattle.std.proofs.Common.{◌≡◌, ℕ, ◌+◌, ◌-◌, ◌*◌, ◌<◌, ◌≤◌, ◌==◌, ◌%◌, ◌^◌, Bool, true, false, not, ◌&&◌, ◌||◌, cond, nat_lt, nat_le, List, [], ◌∷◌, Some, None, Contains, IsTrue, ⊎_elim, refl, sym, ap, subst, ◌∙◌, arith}
use Rattle.std.specs.Option.{is_none}
use Rattle.std.specs.List.{list_any}
use Rattle.std.proofs.lemmas.Bool.{and_parts, and_from, or_parts, or_cases, or_left, cases_Bool, both_ways, not-true, not_from_false, ltb-true, leb-true, lt-ltb, le-leb, and_right, cond-true, cond-false, eqb-true, cases_eq, eq-eqb}
use Rattle.std.proofs.Math.Nat.{pow-le-pow_right}
use Rattle.std.proofs.lemmas.Nat.{pow_pos}
use Rattle.std.proofs.lemmas.List.Elements.{All-contains, All-contains_itself}
use Rattle.std.proofs.lemmas.List.Folds.{list_any_at, Any-from_list_any}
use Rattle.jh_cellcfg.specs.declared.region.Region.{Region}
use Rattle.jh_cellcfg.specs.Regions.{virt_end, phys_end, has_address, has_place, place_in, is_comm, is_page_mapped, is_unshared, is_loadable, is_device, rights_of}
use Rattle.jh_cellcfg.proofs.Public.{same_region}
use Rattle.jh_shape.specs.declared.want.Want.{Want}
use Rattle.jh_shape.specs.declared.want.Want.TheVariants.{Nothing, Leaf}
use Rattle.jh_shape.specs.Claims.{Claims, Holder}
use Rattle.jh_shape.specs.Intervals.{touches, spans}
use Rattle.jh_shape.specs.Shapes.{is_mapped, meets_in_part, are_cut, takes, is_closed, fits_blocks, may_be_block, is_leaf_by, leaf_region, is_met, is_met_by, is_kept_from, leaf_of, out_of}
use Rattle.jh_num.specs.Levels.{slot_size}
use Rattle.jh_shape.specs.SoundClaims.{IsFit, IsUncut, AreSoundClaims, IsSlot}
use Rattle.jh_num.specs.declared.rights.Rights.{Rights}
use Rattle.jh_shape.specs.Grants.{place_at, IsGranted, DescribesGrants}
use Rattle.jh_shape.proofs.WantLemmas.{LeafBy, found, leaf_parts, is_none_find}
use Rattle.jh_num.proofs.Public.{same_test}

-- the place of a later address
place_later : (region : Region) (start at : ℕ) → region.virt_start ≤ start → place_in region (start + at) ≡ place_in region start + at
place_later region start at h = omega arith

-- two tests agree on a list where a third fails
any_agree : {X : Type 0} (p q r : X → Bool) → ((x : X) → r x ≡ false → p x ≡ q x) → (xs : List X) → list_any r xs ≡ false → list_any p xs ≡ list_any q xs
any_agree p q r h [] e = refl
any_agree p q r h (x ∷ xs) e =
    let parts = or_parts (r x) (list_any r xs) e in
    ap (λ v. v || list_any p xs) (h x parts.0) ∙ ap (λ v. q x || v) (any_agree p q r h xs parts.1)

-- a region that doesn't meet the places in part has all of them or none
has_alike : (region : Region) (place size k : ℕ) → k < size → (touches region.phys_start (phys_end region) place size && not (spans region.phys_start (phys_end region) place size)) ≡ false → has_place region (place + k) ≡ has_place region place
has_alike region place size k l e =
    let first = region.phys_start in
    let end = phys_end region in
    let whole : (at : ℕ) → at < size → has_place region (place + at) ≡ true → (first ≤ place) × (place + size ≤ end) =
    λ at m h.
    let p = and_parts (nat_le first (place + at)) (nat_lt (place + at) end) h in
    let low = leb-true first (place + at) p.0 in
    let high = ltb-true (place + at) end p.1 in
    let met : touches first end place size ≡ true =
    and_from (nat_lt first end) (nat_lt first (place + size) && nat_lt place end) (lt-ltb first end (omega arith))
    (and_from (nat_lt first (place + size)) (nat_lt place end) (lt-ltb first (place + size) (omega arith)) (lt-ltb place end (omega arith))) in
    ⊎_elim
    (λ yes.
    let s = and_parts (nat_le first place) (nat_le (place + size) end) yes in
    (leb-true first place s.0, leb-true (place + size) end s.1))
    (λ no. absurd (both_ways _ e (and_from (touches first end place size) (not (spans first end place size)) met (not_from_false (spans first end place size) no))))
    (cases_Bool (spans first end place size)) in
    same_test (has_place region (place + k)) (has_place region place)
    (λ h. let w = whole k l h in and_from (nat_le first place) (nat_lt place end) (le-leb first place w.0) (lt-ltb place end (let a = w.1 in omega arith)))
    (λ h.
    let h' : has_place region (place + 0) ≡ true = (let z : place + 0 ≡ place = omega arith in rw z h) in
    let w = whole 0 (omega arith) h' in
    let a = w.0 in
    let b = w.1 in
    and_from (nat_le first (place + k)) (nat_lt (place + k) end) (le-leb first (place + k) (omega arith)) (lt-ltb (place + k) end (omega arith)))

takes_alike : (loadable : Bool) (place size k : ℕ) → k < size → (region : Region) → meets_in_part region place size ≡ false → takes loadable region (place + k) ≡ takes loadable region place
takes_alike loadable place size k l region e =
    let free = not (loadable && is_loadable region) in
    ⊎_elim
    (λ yes.
    let part : (touches region.phys_start (phys_end region) place size && not (spans region.phys_start (phys_end region) place size)) ≡ false =
    sym (ap (λ v. v && (touches region.phys_start (phys_end region) place size && not (spans region.phys_start (phys_end region) place size))) yes) ∙ e in
    ap (λ v. is_unshared region && (free && v)) (has_alike region place size k l part))
    (λ no. ap (λ v. v && (free && has_place region (place + k))) no ∙ sym (ap (λ v. v && (free && has_place region place)) no))
    (cases_Bool (is_unshared region))

-- where no unshared region of another cell meets the places in part, all of them are closed or none
closed_alike : (holders : List Holder) (place size k : ℕ) → k < size → are_cut holders place size ≡ false → is_closed holders (place + k) ≡ is_closed holders place
closed_alike holders place size k l e =
    any_agree
    (λ (holder : Holder). list_any (λ (region : Region). takes holder.loadable region (place + k)) holder.regions)
    (λ (holder : Holder). list_any (λ (region : Region). takes holder.loadable region place) holder.regions)
    (λ (holder : Holder). list_any (λ (region : Region). meets_in_part region place size) holder.regions)
    (λ holder f. any_agree
    (λ (region : Region). takes holder.loadable region (place + k))
    (λ (region : Region). takes holder.loadable region place)
    (λ (region : Region). meets_in_part region place size)
    (takes_alike holder.loadable place size k l) holder.regions f)
    holders e

-- a page of root's region is kept from it wholly, or nothing of it
page_alike : (claims : Claims) (region : Region) (page k : ℕ) → AreSoundClaims claims → Contains claims.regions region → is_mapped region ≡ true → page % 4096 ≡ 0 → has_address region page ≡ true → k < 4096 → is_kept_from claims region (page + k) ≡ is_kept_from claims region page
page_alike claims region page k sound held mapped begins has l =
    let here = is_closed claims.holders (place_in region page) in
    let later = is_closed claims.holders (place_in region (page + k)) in
    let low = leb-true region.virt_start page (and_parts (nat_le region.virt_start page) (nat_lt page (virt_end region)) has).0 in
    ⊎_elim
    (λ root. ⊎_elim
    (λ comm. ap (λ v. claims.root && (not v && later)) comm ∙ sym (ap (λ v. claims.root && (not v && here)) comm))
    (λ plain.
    let whole : IsUncut claims region = All-contains (IsUncut claims) claims.regions region (sound.whole root) held in
    ap (λ v. claims.root && (not (is_comm region) && v))
    (ap (λ p. is_closed claims.holders p) (place_later region page k low)
    ∙ closed_alike claims.holders (place_in region page) 4096 k l (whole mapped plain page begins has)))
    (cases_Bool (is_comm region)))
    (λ other. ap (λ v. v && (not (is_comm region) && later)) other ∙ sym (ap (λ v. v && (not (is_comm region) && here)) other))
    (cases_Bool claims.root)

-- the region of a leaf has its slot's addresses
has_later : (claims : Claims) (level start k : ℕ) (region : Region) → LeafBy claims level start region → k < slot_size level → has_address region (start + k) ≡ true
has_later claims level start k region h l =
    let low = h.low in
    let high = h.high in
    and_from (nat_le region.virt_start (start + k)) (nat_lt (start + k) (virt_end region)) (le-leb region.virt_start (start + k) (omega arith)) (lt-ltb (start + k) (virt_end region) (omega arith))

-- a block's places aren't met in part
block_uncut : (claims : Claims) (level start : ℕ) (region : Region) → may_be_block claims level start region ≡ true → claims.root ≡ true → are_cut claims.holders (place_in region start) (slot_size level) ≡ false
block_uncut claims level start region e root =
    let cut = are_cut claims.holders (place_in region start) (slot_size level) in
    let parts = and_parts (fits_blocks level region) (not (claims.root && cut)) e in
    let none : (claims.root && cut) ≡ false = not-true (claims.root && cut) parts.1 in
    sym (ap (λ v. v && cut) root) ∙ none

uncut : (claims : Claims) (level start : ℕ) (region : Region) → IsSlot level start → is_leaf_by claims level start region ≡ true → LeafBy claims level start region → (IsTrue claims.root → IsUncut claims region) → claims.root ≡ true → is_comm region ≡ false → are_cut claims.holders (place_in region start) (slot_size level) ≡ false
uncut claims level start region slot e h whole root plain =
    let a = and_parts (is_mapped region) (spans region.virt_start (virt_end region) start (slot_size level) && ((level == 3) || may_be_block claims level start region)) e in
    let b = and_parts (spans region.virt_start (virt_end region) start (slot_size level)) ((level == 3) || may_be_block claims level start region) a.1 in
    ⊎_elim
    (λ last.
    let three : level ≡ 3 = eqb-true level 3 last in
    let size : slot_size level ≡ 4096 = ap (λ n. slot_size n) three in
    let begins : start % 4096 ≡ 0 = sym (ap (λ z. start % z) size) ∙ slot.begins in
    let zero_in : has_address region start ≡ true =
    and_from (nat_le region.virt_start start) (nat_lt start (virt_end region)) (le-leb region.virt_start start h.low)
    (lt-ltb start (virt_end region) (let high = h.high in let positive = pow_pos (39 - 9 * level) in omega arith)) in
    ap (λ z. are_cut claims.holders (place_in region start) z) size ∙ whole root h.mapped plain start begins zero_in)
    (λ block. block_uncut claims level start region block root)
    (or_cases (level == 3) (may_be_block claims level start region) b.1)

-- the whole slot is kept from the cell, or nothing of it
kept_alike : (claims : Claims) (level start k : ℕ) (region : Region) → IsSlot level start → is_leaf_by claims level start region ≡ true → LeafBy claims level start region → (IsTrue claims.root → IsUncut claims region) → k < slot_size level → is_kept_from claims region (start + k) ≡ is_kept_from claims region start
kept_alike claims level start k region slot e h whole l =
    let here = is_closed claims.holders (place_in region start) in
    let later = is_closed claims.holders (place_in region (start + k)) in
    ⊎_elim
    (λ root. ⊎_elim
    (λ comm. ap (λ v. claims.root && (not v && later)) comm ∙ falsely claims.root ∙ sym (ap (λ v. claims.root && (not v && here)) comm ∙ falsely claims.root))
    (λ plain.
    ap (λ v. claims.root && (not (is_comm region) && v))
    (ap (λ p. is_closed claims.holders p) (place_later region start k h.low)
    ∙ closed_alike claims.holders (place_in region start) (slot_size level) k l (uncut claims level start region slot e h whole root plain)))
    (cases_Bool (is_comm region)))
    (λ other. ap (λ v. v && (not (is_comm region) && later)) other ∙ sym (ap (λ v. v && (not (is_comm region) && here)) other))
    (cases_Bool claims.root)
  where
    falsely : (b : Bool) → (b && false) ≡ false
    falsely b = and_right b false refl

-- a communication region that spans a slot begins with it
comm_begins : (claims : Claims) (level start : ℕ) (region : Region) → LeafBy claims level start region → IsFit region → level ≤ 3 → is_comm region ≡ true → region.virt_start ≡ start
comm_begins claims level start region h fit bound comm =
    let size = fit.comm_size h.some comm in
    let low = h.low in
    let high = h.high in
    let least : 2 ^ 12 ≤ 2 ^ (39 - 9 * level) = pow-le-pow_right (let z : 0 < 2 = omega arith in z) (let i : 12 ≤ 39 - 9 * level = omega arith in i) in
    omega arith

out_later : (claims : Claims) (level start k : ℕ) (region : Region) → LeafBy claims level start region → IsFit region → level ≤ 3 → out_of claims region start + k ≡ place_at claims region (start + k)
out_later claims level start k region h fit bound =
    let later = place_in region (start + k) in
    let here = place_in region start in
    ⊎_elim
    (λ comm.
    let begins = comm_begins claims level start region h fit bound comm in
    ap (λ v. cond v claims.comm here + k) comm
    ∙ (let e : claims.comm + k ≡ claims.comm + (start + k - region.virt_start) = omega arith in e)
    ∙ sym (ap (λ v. cond v (claims.comm + (start + k - region.virt_start)) later) comm))
    (λ plain.
    ap (λ v. cond v claims.comm here + k) plain
    ∙ sym (place_later region start k h.low)
    ∙ sym (ap (λ v. cond v (claims.comm + (start + k - region.virt_start)) later) plain))
    (cases_Bool (is_comm region))

pub leaf_tells : (claims : Claims) (level start : ℕ) (region : Region) → AreSoundClaims claims → IsSlot level start → leaf_region claims level start ≡ Some region → DescribesGrants claims level start (leaf_of claims region start)
leaf_tells claims level start region sound slot e =
    let p : Region → Bool = λ (r : Region). is_leaf_by claims level start r in
    let fit = found p IsFit claims.regions region e sound.fit in
    let listed = found p (λ (r : Region). Contains claims.regions r) claims.regions region e (All-contains_itself claims.regions) in
    let h = leaf_parts claims level start region fit.0 in
    let whole : IsTrue claims.root → IsUncut claims region = λ root. (found p (IsUncut claims) claims.regions region e (sound.whole root)).1 in
    let W : Want → Type 0 = λ w. DescribesGrants claims level start w in
    let kept = is_kept_from claims region start in
    let leaf = Leaf (out_of claims region start) (rights_of region) (is_device region) in
    ⊎_elim
    (λ yes. subst W (sym (cond-true kept Nothing leaf yes))
    (λ k l place rights device (r, g).
    let same : r ≡ region = same_region claims.regions r region (start + k) sound.disjoint g.listed listed.1 g.has (has_later claims level start k region h l) in
    let open' : is_kept_from claims region (start + k) ≡ false = rw (← same) g.open_to in
    both_ways kept (sym (kept_alike claims level start k region slot fit.0 h whole l) ∙ open') yes))
    (λ no. subst W (sym (cond-false kept Nothing leaf no))
    (λ k l. (
      region,
      record {
        listed = listed.1;
        mapped = h.mapped;
        has = has_later claims level start k region h l;
        leads = out_later claims level start k region h fit.1 slot.last;
        allows = refl;
        kind = refl;
        open_to = kept_alike claims level start k region slot fit.0 h whole l ∙ no;
      },
    )))
    (cases_Bool kept)

-- a mapped region that meets a page spans it
page_spanned : (region : Region) (start size : ℕ) → size ≡ 4096 → start % size ≡ 0 → is_mapped region ≡ true → touches region.virt_start (virt_end region) start size ≡ true → spans region.virt_start (virt_end region) start size ≡ true
page_spanned region start size e begins mapped met =
    let a = and_parts (nat_lt 0 region.size) (is_page_mapped region) mapped in
    let b = and_parts ((region.virt_start % 4096) == 0) ((region.size % 4096) == 0) a.1 in
    let first = eqb-true (region.virt_start % 4096) 0 b.0 in
    let whole = eqb-true (region.size % 4096) 0 b.1 in
    let c = and_parts (nat_lt region.virt_start (virt_end region)) (nat_lt region.virt_start (start + size) && nat_lt start (virt_end region)) met in
    let d = and_parts (nat_lt region.virt_start (start + size)) (nat_lt start (virt_end region)) c.1 in
    let low = ltb-true region.virt_start (start + size) d.0 in
    let high = ltb-true start (virt_end region) d.1 in
    let aligned : start % 4096 ≡ 0 = sym (ap (λ z. start % z) e) ∙ begins in
    and_from (nat_le region.virt_start start) (nat_le (start + size) (virt_end region)) (le-leb region.virt_start start (omega arith)) (le-leb (start + size) (virt_end region) (omega arith))

-- a page that is met is a leaf
pub table_level : (claims : Claims) (level start : ℕ) → IsSlot level start → leaf_region claims level start ≡ None → is_met claims level start ≡ true → level < 3
table_level claims level start slot none met =
    ⊎_elim
    (λ last.
    let p : Region → Bool = λ (r : Region). is_leaf_by claims level start r in
    let f = Any-from_list_any (λ (r : Region). is_met_by level start r) claims.regions met in
    let x = f.1 in
    let a = and_parts (is_mapped x) (touches x.virt_start (virt_end x) start (slot_size level)) f.4 in
    let size : slot_size level ≡ 4096 = ap (λ n. slot_size n) last in
    let leaf : is_leaf_by claims level start x ≡ true =
    and_from (is_mapped x) (spans x.virt_start (virt_end x) start (slot_size level) && ((level == 3) || may_be_block claims level start x)) a.0
    (and_from (spans x.virt_start (virt_end x) start (slot_size level)) ((level == 3) || may_be_block claims level start x)
    (page_spanned x start (slot_size level) size slot.begins a.0 a.1)
    (or_left (level == 3) (may_be_block claims level start x) (eq-eqb level 3 last))) in
    let any : list_any p claims.regions ≡ true = list_any_at p claims.regions f.0 x f.2 (rw f.3 leaf) in
    let absent : true ≡ not (list_any p claims.regions) = sym (ap (λ r. is_none r) none) ∙ is_none_find p claims.regions in
    absurd (both_ways (list_any p claims.regions) (not-true (list_any p claims.regions) (sym absent)) any))
    (λ other. let bound = slot.last in omega arith)
    (cases_eq level 3)

-- a mapped region has a whole page of addresses or none of it
page_had : (region : Region) (page j k : ℕ) → is_mapped region ≡ true → page % 4096 ≡ 0 → j < 4096 → k < 4096 → has_address region (page + j) ≡ true → has_address region (page + k) ≡ true
page_had region page j k mapped begins l m has =
    let a = and_parts (nat_lt 0 region.size) (is_page_mapped region) mapped in
    let b = and_parts ((region.virt_start % 4096) == 0) ((region.size % 4096) == 0) a.1 in
    let first = eqb-true (region.virt_start % 4096) 0 b.0 in
    let whole = eqb-true (region.size % 4096) 0 b.1 in
    let c = and_parts (nat_le region.virt_start (page + j)) (nat_lt (page + j) (virt_end region)) has in
    let low = leb-true region.virt_start (page + j) c.0 in
    let high = ltb-true (page + j) (virt_end region) c.1 in
    and_from (nat_le region.virt_start (page + k)) (nat_lt (page + k) (virt_end region)) (le-leb region.virt_start (page + k) (omega arith)) (lt-ltb (page + k) (virt_end region) (omega arith))

-- where the bytes of a page lead, one tells of the others
page_leads : (claims : Claims) (region : Region) (page place j k : ℕ) → region.virt_start ≤ page → place + j ≡ place_at claims region (page + j) → place + k ≡ place_at claims region (page + k)
page_leads claims region page place j k low h =
    let here : Bool → ℕ → ℕ = λ b at. cond b (claims.comm + (at - region.virt_start)) (place_in region at) in
    ⊎_elim
    (λ comm.
    let e : place + j ≡ claims.comm + ((page + j) - region.virt_start) = h ∙ ap (λ b. here b (page + j)) comm in
    let f : place + k ≡ claims.comm + ((page + k) - region.virt_start) = omega arith in
    f ∙ sym (ap (λ b. here b (page + k)) comm))
    (λ plain.
    let e : place + j ≡ place_in region (page + j) = h ∙ ap (λ b. here b (page + j)) plain in
    let f : place + k ≡ place_in region (page + k) = omega arith in
    f ∙ sym (ap (λ b. here b (page + k)) plain))
    (cases_Bool (is_comm region))

pub page_granted : (claims : Claims) (page place j k : ℕ) (rights : Rights) (device : Bool) → AreSoundClaims claims → page % 4096 ≡ 0 → j < 4096 → k < 4096 → IsGranted claims (page + j) (place + j) rights device → IsGranted claims (page + k) (place + k) rights device
page_granted claims page place j k rights device sound begins l m (region, g) =
    let same : page + 0 ≡ page = omega arith in
    let P : ℕ → Type 0 = λ at. has_address region at ≡ true in
    let has : has_address region page ≡ true = subst P same (page_had region page j 0 g.mapped begins l (omega arith) g.has) in
    let low = leb-true region.virt_start page (and_parts (nat_le region.virt_start page) (nat_lt page (virt_end region)) has).0 in (
      region,
      record {
        listed = g.listed;
        mapped = g.mapped;
        has = page_had region page j k g.mapped begins l m g.has;
        leads = page_leads claims region page place j k low g.leads;
        allows = g.allows;
        kind = g.kind;
        open_to = page_alike claims region page k sound g.listed g.mapped begins has m ∙ sym (page_alike claims region page j sound g.listed g.mapped begins has l) ∙ g.open_to;
      },
    )
