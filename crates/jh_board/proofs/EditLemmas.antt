-- What the edit of a call, whole, leaves of guests' bytes, of communication pages and of the cells' seats.
use Rattle.std.proofs.Common.{◌≡◌, ⊎_elim, ℕ, ◌/◌, ◌<◌, Bool, true, false, ◌||◌, not, cond, nat_eq, List, [], ◌∷◌, map, Option, Some, None, refl, sym, ap, subst, ◌∙◌}
use Rattle.std.specs.Prelude.{Contains, IsSome, filter, find, option_map, option_and_then, is_some}
use Rattle.std.proofs.lemmas.Bool.{eq-eqb, eqb-true, ne_eqb}
use Rattle.std.proofs.lemmas.List.{map-append}
use Rattle.std.proofs.lemmas.List.Elements.{Contains-push_cases}
use Rattle.jh_num.specs.Pages.{page_at, paged_byte}
use Rattle.jh_num.proofs.Public.{Contains_from_map, Contains_map, IsFound_from_filter, find_kept, find_map, find_nothing}
use Rattle.jh_frames.specs.Memory.{GuestView, byte_at, holds, is_own}
use Rattle.jh_shape.specs.Claims.{Claims}
use Rattle.jh_edit.specs.declared.planning.Planned.{Planned}
use Rattle.jh_edit.specs.declared.planning.Planned.TheVariants.{Unchanged, Create, Destroy}
use Rattle.jh_edit.specs.declared.stage.Seat.{Seat}
use Rattle.jh_edit.specs.declared.stage.Stage2.{Stage2}
use Rattle.jh_edit.specs.Keeping.{Sitter, sitter, sitters, KeepsCells}
use Rattle.jh_edit.specs.Planned.{MayPlan}
use Rattle.jh_edit.specs.Seats.{comm_in, is_seat_of}
use Rattle.jh_history.specs.declared.place.Place.{Place}
use Rattle.jh_history.specs.declared.place.Place.TheVariants.{Physical, Page}
use Rattle.jh_board.specs.Pages.{HoldsPlace, byte_of, comm_byte}
use Rattle.jh_board.specs.Seats.{comm_of, ids_of, AreCellSeats}
use Rattle.jh_board.specs.Private.Editing.{ids_planned, AreSeatedAfter, HasCome, StaysBy}
use Rattle.jh_board.specs.Private.Pages.{ids_but}
use Rattle.jh_board.proofs.PlaceLemmas.{in_page, own_same}
use Rattle.jh_cache.proofs.Public.{find_last, find_more}
use Rattle.jh_frames.proofs.Public.{byte_guest}
use Rattle.jh_board.proofs.SeatsLemmas.{seat_at}

-- ---- places of physical memory

hidden : (b : Bool) (old new : ℕ) → (b ≡ false → old ≡ new) → cond b 0 new ≡ cond b 0 old
hidden true old new same = refl
hidden false old new same = sym (same refl)

own_edited : (old new : Stage2) (place : ℕ) → KeepsCells old new → is_own new.frames.own place ≡ is_own old.frames.own place
own_edited old new place kept = own_same old.frames.own new.frames.own place kept.base kept.size

physical_edited : (old new : Stage2) (place : ℕ) → KeepsCells old new → byte_of new (Physical place) ≡ byte_of old (Physical place)
physical_edited old new place kept =
    ap (λ b. cond b 0 (byte_at new.frames place)) (own_edited old new place kept)
    ∙ hidden (is_own old.frames.own place) (byte_at old.frames place) (byte_at new.frames place) (λ beside.
    byte_guest old.frames place beside ∙ ap (λ (g : GuestView). paged_byte g.pages place) (sym kept.guests) ∙ sym (byte_guest new.frames place (own_edited old new place kept ∙ beside)))

holds_edited : (old new : Stage2) (place : ℕ) → KeepsCells old new → holds new.frames place ≡ holds old.frames place
holds_edited old new place kept =
    ap (λ b. b || is_some (page_at new.frames.guest.pages (place / 4096))) (own_edited old new place kept)
    ∙ ap (λ (g : GuestView). is_own old.frames.own place || is_some (page_at g.pages (place / 4096))) kept.guests

-- ---- the pages of cells

-- where the communication page of the cell with the id begins, of these that have a seat
abbrev is_sitter_of : ℕ → Sitter → Bool
is_sitter_of id one = nat_eq one.id id

abbrev comm_sat : ℕ → List Sitter → Option ℕ
comm_sat id list = option_and_then (λ (one : Sitter). one.comm) (find (is_sitter_of id) list)

comm_mapped : (o : Option Seat) → comm_in o ≡ option_and_then (λ (one : Sitter). one.comm) (option_map sitter o)
comm_mapped None = refl
comm_mapped (Some seat) = refl

comm_of_sitters : (stage : Stage2) (id : ℕ) → comm_of stage id ≡ comm_sat id (sitters stage)
comm_of_sitters stage id =
    comm_mapped (find (is_seat_of id) stage.seats.items) ∙ ap (option_and_then (λ (one : Sitter). one.comm)) (sym (find_map sitter (is_sitter_of id) stage.seats.items))

sat_edited : (planned : Planned) (old new : List Sitter) (id k : ℕ) → AreSeatedAfter planned old new → StaysBy planned (Page id k) → comm_sat id new ≡ comm_sat id old
sat_edited Unchanged old new id k h stays = ap (comm_sat id) h
sat_edited (Create n tables) old new id k h stays =
    ap (comm_sat id) h.1
    ∙ ap (option_and_then (λ (one : Sitter). one.comm)) (find_more (is_sitter_of id) old (record { id = n; comm = Some h.0 }) (ne_eqb n id (λ e. stays (sym e))))
sat_edited (Destroy n) old new id k h stays =
    ap (comm_sat id) h
    ∙ ap (option_and_then (λ (one : Sitter). one.comm))
    (find_kept (is_sitter_of id) (λ (one : Sitter). not (nat_eq one.id n)) old (λ one own. ap not (ne_eqb one.id n (λ e. stays (sym (eqb-true one.id id own) ∙ e)))))

comm_edited : (planned : Planned) (old new : Stage2) (id k : ℕ) → AreSeatedAfter planned (sitters old) (sitters new) → StaysBy planned (Page id k) → comm_of new id ≡ comm_of old id
comm_edited planned old new id k seats stays = comm_of_sitters new id ∙ sat_edited planned (sitters old) (sitters new) id k seats stays ∙ sym (comm_of_sitters old id)

comm_bytes : (old new : Stage2) (id k : ℕ) (o : Option ℕ) → KeepsCells old new → comm_of old id ≡ o → comm_byte new.frames o k ≡ comm_byte old.frames o k
comm_bytes old new id k None kept is = refl
comm_bytes old new id k (Some page) kept is =
    let seat = seat_at old id page is in in_page old.frames new.frames page k (λ lt. kept.comms seat.one page k seat.among seat.begins lt)

-- bytes are the same but those of the cell that comes or goes
pub edit_bytes : (old new : Stage2) (planned : Planned) → KeepsCells old new → AreSeatedAfter planned (sitters old) (sitters new) → (q : Place) → StaysBy planned q → byte_of new q ≡ byte_of old q
edit_bytes old new planned kept seats (Physical place) stays = physical_edited old new place kept
edit_bytes old new planned kept seats (Page id k) stays =
    ap (λ (o : Option ℕ). comm_byte new.frames o k) (comm_edited planned old new id k seats stays) ∙ comm_bytes old new id k (comm_of old id) kept refl

-- and what was held is held
pub edit_held : (old new : Stage2) (planned : Planned) → KeepsCells old new → AreSeatedAfter planned (sitters old) (sitters new) → (q : Place) → StaysBy planned q → HoldsPlace old q → HoldsPlace new q
edit_held old new planned kept seats (Physical place) stays h = (h.0, holds_edited old new place kept ∙ h.1, own_edited old new place kept ∙ h.2)
edit_held old new planned kept seats (Page id k) stays h =
    let P : Option ℕ → Type 0 = λ o. IsSome o × (k < 4096) in subst P (sym (comm_edited planned old new id k seats stays)) h

-- ---- ids

abbrev ids_sat : List Sitter → List ℕ
ids_sat list = map (λ (one : Sitter). one.id) list

ids_mapped : (list : List Seat) → ids_sat (map sitter list) ≡ map (λ (seat : Seat). seat.id) list
ids_mapped [] = refl
ids_mapped (seat ∷ rest) = ap (λ (ids : List ℕ). seat.id ∷ ids) (ids_mapped rest)

ids_cond : (b : Bool) (one : Sitter) (list : List Sitter) → ids_sat (cond b (one ∷ list) list) ≡ cond b (one.id ∷ ids_sat list) (ids_sat list)
ids_cond true one list = refl
ids_cond false one list = refl

ids_gone : (id : ℕ) (list : List Sitter) → ids_sat (filter (λ (one : Sitter). not (nat_eq one.id id)) list) ≡ ids_but id (ids_sat list)
ids_gone id [] = refl
ids_gone id (one ∷ rest) =
    ids_cond (not (nat_eq one.id id)) one (filter (λ (one : Sitter). not (nat_eq one.id id)) rest)
    ∙ ap (λ (ids : List ℕ). cond (not (nat_eq one.id id)) (one.id ∷ ids) ids) (ids_gone id rest)

ids_after : (planned : Planned) (old new : List Sitter) → AreSeatedAfter planned old new → ids_sat new ≡ ids_planned planned (ids_sat old)
ids_after Unchanged old new h = ap ids_sat h
ids_after (Create id tables) old new h = ap ids_sat h.1 ∙ map-append (λ (one : Sitter). one.id) old (record { id = id; comm = Some h.0 } ∷ [])
ids_after (Destroy id) old new h = ap ids_sat h ∙ ids_gone id old

pub edit_ids : (old new : Stage2) (planned : Planned) → AreSeatedAfter planned (sitters old) (sitters new) → ids_of new ≡ ids_planned planned (ids_of old)
edit_ids old new planned seats =
    sym (ids_mapped new.seats.items) ∙ ids_after planned (sitters old) (sitters new) seats ∙ ap (ids_planned planned) (ids_mapped old.seats.items)

-- ---- root's seat

-- of these that have a seat the one with the id alone has no communication page
abbrev AreSatSo : ℕ → List Sitter → Type 0
AreSatSo root list = (one : Sitter) → Contains list one → not (is_some one.comm) ≡ nat_eq one.id root

sat_so : (root : ℕ) (stage : Stage2) → AreCellSeats root stage → AreSatSo root (sitters stage)
sat_so root stage h one there =
    let P : Sitter → Type 0 = λ s. not (is_some s.comm) ≡ nat_eq s.id root in let seat = Contains_from_map sitter stage.seats.items one there in subst P seat.2 (h seat.0 seat.1)

-- the cell that comes isn't root
abbrev ComesBeside : ℕ → Planned → Type 0
ComesBeside root Unchanged = Unit {0}
ComesBeside root (Create id tables) = id ≡ root → ⊥
ComesBeside root (Destroy id) = Unit {0}

comes_beside : (rootward coming : Claims) (stage : Stage2) (planned : Planned) (root : ℕ) → MayPlan rootward coming stage planned → AreCellSeats root stage → ComesBeside root planned
comes_beside rootward coming stage Unchanged root may comms = tt
comes_beside rootward coming stage (Create id tables) root may comms = λ e.
    let own : nat_eq may.root.seat.id root ≡ true = sym (comms may.root.seat may.root.sits) ∙ may.root.root in
    may.change.new may.root.seat may.root.sits (eqb-true may.root.seat.id root own ∙ sym e)
comes_beside rootward coming stage (Destroy id) root may comms = tt

so_after : (planned : Planned) (old new : List Sitter) (root : ℕ) → AreSeatedAfter planned old new → ComesBeside root planned → AreSatSo root old → AreSatSo root new
so_after Unchanged old new root h beside comms = subst (AreSatSo root) (sym h) comms
so_after (Create id tables) old new root h beside comms =
    let come : Sitter = record { id = id; comm = Some h.0 } in
    let P : Sitter → Type 0 = λ s. not (is_some s.comm) ≡ nat_eq s.id root in
    subst (AreSatSo root) (sym h.1) (λ one there.
    ⊎_elim (λ (held : Contains old one). comms one held) (λ (own : come ≡ one). subst P own (sym (ne_eqb id root beside))) (Contains-push_cases old come one there))
so_after (Destroy id) old new root h beside comms = subst (AreSatSo root) (sym h) (λ one there. comms one (IsFound_from_filter (λ (s : Sitter). not (nat_eq s.id id)) old one there).among)

pub edit_comms : (rootward coming : Claims) (old new : Stage2) (planned : Planned) (root : ℕ) → MayPlan rootward coming old planned → AreSeatedAfter planned (sitters old) (sitters new) → AreCellSeats root old → AreCellSeats root new
edit_comms rootward coming old new planned root may seats comms seat there =
    so_after planned (sitters old) (sitters new) root seats (comes_beside rootward coming old planned root may comms) (sat_so root old comms) (sitter seat) (Contains_map sitter new.seats.items seat there)

-- ---- the cell that comes

pub edit_come : (rootward coming : Claims) (old new : Stage2) (planned : Planned) → MayPlan rootward coming old planned → AreSeatedAfter planned (sitters old) (sitters new) → HasCome planned new
edit_come rootward coming old new Unchanged may seats = tt
edit_come rootward coming old new (Create id tables) may seats =
    let come : Sitter = record { id = id; comm = Some seats.0 } in
    let none : find (is_sitter_of id) (sitters old) ≡ None = find_nothing (is_sitter_of id) (sitters old) (λ one there.
    let seat = Contains_from_map sitter old.seats.items one there in
    ne_eqb one.id id (λ e. may.change.new seat.0 seat.1 (ap (λ (s : Sitter). s.id) seat.2 ∙ e))) in
    let found : find (is_sitter_of id) (sitters new) ≡ Some come = ap (find (is_sitter_of id)) seats.1 ∙ find_last (is_sitter_of id) (sitters old) come none (eq-eqb id id refl) in
    let own : comm_of new id ≡ Some seats.0 = comm_of_sitters new id ∙ ap (option_and_then (λ (one : Sitter). one.comm)) found in
    let P : Option ℕ → Type 0 = IsSome in
    subst P (sym own) refl
edit_come rootward coming old new (Destroy id) may seats = tt
