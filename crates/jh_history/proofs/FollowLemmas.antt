-- What lets the slow plain program follow an entry: the devices that it changes may be changed.
use Rattle.std.proofs.Common.{◌≡◌, ℕ, ◌+◌, ◌*◌, ◌^◌, ◌<◌, List, [], Option, Some, None, inl, inr, refl, sym, ap, subst, ◌∙◌, arith}
use Rattle.std.specs.Prelude.{IfSome}
use Rattle.std.specs.Option.{option_map_or}
use Rattle.jh_cellcfg.specs.declared.config.CellConfig.{CellConfig}
use Rattle.jh_cellcfg.specs.declared.live.Live.{Live}
use Rattle.jh_ivshmem.specs.declared.endpoint.Endpoint.{Endpoint}
use Rattle.jh_ivshmem.specs.declared.spec.EndpointSpec.{EndpointSpec}
use Rattle.jh_ivshmem.specs.declared.spec.EndpointWord.{EndpointWord}
use Rattle.jh_script.specs.declared.image.Image.{Image}
use Rattle.jh_history.specs.declared.access.Reach.{Reach}
use Rattle.jh_history.specs.declared.call.OpenCall.{OpenCall}
use Rattle.jh_history.specs.declared.entry.Entry.{Entry}
use Rattle.jh_history.specs.declared.entry.Act.{Act}
use Rattle.jh_history.specs.declared.entry.Act.TheVariants.{Read, Write, Fetch, Await, Irq, Hvc, Begin, Stop, Decide, Settle, Commit, Note, Noted, Finish}
use Rattle.jh_history.specs.Access.{endpoint_word_of_reach}
use Rattle.jh_history.specs.Devices.{devices_in, specs_of}
use Rattle.jh_history.specs.DueFacts.{IsWordOf}
use Rattle.jh_history.specs.Endpoints.{change_by, changing_at, changing_by, specs_changing, IsNextOf, MayChange}
use Rattle.jh_history.specs.Facts.{Facts}
use Rattle.jh_history.specs.Grants.{devices_of}
use Rattle.jh_history.specs.Private.PlainView.{PlainView, Represents, IsSameBut, MayCommit, MayBeFollowed}
use Rattle.jh_history.proofs.PlainStepLemmas.{commit_or}

-- ---- words of state tables

word_ends : (endpoints : List Endpoint) (word : EndpointWord) → IsWordOf endpoints word → word.place + 4 < 2 ^ 64
word_ends endpoints word own =
    let spec : EndpointSpec = own.endpoint.spec in
    let place : word.place ≡ spec.table + 4 * spec.id = ap (λ (s : EndpointWord). s.place) own.is in
    let id = own.within.id in
    let peers = own.within.peers in
    let table = own.within.table in
    omega arith

words_end : (endpoints : List Endpoint) (o : Option EndpointWord) → IfSome o (IsWordOf endpoints) → IfSome o (λ (word : EndpointWord). word.place + 4 < 2 ^ 64)
words_end endpoints None own = tt
words_end endpoints (Some word) own = word_ends endpoints word own

-- ---- the cell whose devices change

-- that of a Commit alone
other_at : (cells : List Live) (o : OpenCall) (act : Act) → (act ≡ Commit → ⊥) → changing_at cells o act ≡ None
other_at cells o (Read width at got) other = refl
other_at cells o (Write width at value ok) other = refl
other_at cells o (Fetch at got) other = refl
other_at cells o (Await width at value ok) other = refl
other_at cells o (Irq device vector) other = refl
other_at cells o (Hvc code a b answer) other = refl
other_at cells o (Begin code a b) other = refl
other_at cells o Stop other = refl
other_at cells o (Decide refused) other = refl
other_at cells o (Settle how) other = refl
other_at cells o Commit other = absurd (other refl)
other_at cells o (Note id) other = refl
other_at cells o (Noted id how) other = refl
other_at cells o (Finish answer) other = refl

changing_other : (cells : List Live) (call : Option OpenCall) (act : Act) → (act ≡ Commit → ⊥) → changing_by cells call act ≡ None
changing_other cells None act other = refl
changing_other cells (Some o) act other = other_at cells o act other

-- after what the act writes itself they may be changed as before
may_by : (old new : PlainView) (act : Act) → MayCommit old act → IsSameBut old new → new.endpoints ≡ old.endpoints → MayCommit new act
may_by old new act may same endpoints =
    subst (λ (es : List Endpoint). IfSome (changing_by new.cells new.call act) (MayChange (change_by new.call) es)) (sym endpoints)
    (subst (λ (call : Option OpenCall). IfSome (changing_by new.cells call act) (MayChange (change_by call) old.endpoints)) (sym same.call)
    (subst (λ (cells : List Live). IfSome (changing_by cells old.call act) (MayChange (change_by old.call) old.endpoints)) (sym same.cells) may))

pub may_commit : (old new : PlainView) (act : Act) → MayCommit old act → IsSameBut old new → (act ≡ Commit → new.endpoints ≡ old.endpoints) → MayCommit new act
may_commit old new act may same endpoints = elim (commit_or act) [
  | inl commit ↦ may_by old new act may same (endpoints commit)
  | inr other ↦ subst (λ (o : Option CellConfig). IfSome o (MayChange (change_by new.call) new.endpoints)) (sym (changing_other new.cells new.call act other)) tt
]

-- it, by what is kept
pub changing_seen : {held : PlainView} (old : PlainView) (call : Option OpenCall) (act : Act) (o : Option CellConfig) → held ≡ old → call ≡ held.call
    → o ≡ changing_by held.cells call act → changing_by old.cells old.call act ≡ o
changing_seen {held} old call act o same begun is =
    sym (is ∙ ap (λ (k : Option OpenCall). changing_by held.cells k act) begun ∙ ap (λ (v : PlainView). changing_by v.cells v.call act) same)

-- the endpoints of its devices
pub specs_changing_holds : (f : Facts) (cells : List Live) (call : Option OpenCall) (act : Act) (o : Option CellConfig) → f.cells ≡ cells → f.call ≡ call → changing_by cells call act ≡ o
    → option_map_or specs_of o [] ≡ specs_changing f act
specs_changing_holds f cells call act o alive opened is =
    ap (λ (k : Option CellConfig). option_map_or specs_of k []) (sym is)
    ∙ ap (λ (lives : List Live). option_map_or specs_of (changing_by lives call act) []) (sym alive)
    ∙ ap (λ (k : Option OpenCall). option_map_or specs_of (changing_by f.cells k act) []) (sym opened)

-- ---- an entry

-- what holds of sound facts lets the entry be followed
pub may_follow : (i : Image) (f : Facts) (plain : PlainView) (entry : Entry) → Represents plain i f
    → ((id value : ℕ) (found : Reach) → IfSome (endpoint_word_of_reach (devices_of i f id) found value) (IsWordOf f.endpoints))
    → IfSome (changing_by f.cells f.call entry.act) (MayChange (change_by f.call) f.endpoints)
    → IsNextOf entry.cell f.endpoints entry.act → MayBeFollowed plain entry
may_follow i f plain entry stands words commit next = record {
  words = λ id value found.
      subst (λ (x : Image). IfSome (endpoint_word_of_reach (devices_in x plain.cells plain.endpoints id) found value) (λ (word : EndpointWord). word.place + 4 < 2 ^ 64)) stands.same
      (subst (λ (cells : List Live). IfSome (endpoint_word_of_reach (devices_in i cells plain.endpoints id) found value) (λ (word : EndpointWord). word.place + 4 < 2 ^ 64)) stands.cells
      (subst (λ (es : List Endpoint). IfSome (endpoint_word_of_reach (devices_in i f.cells es id) found value) (λ (word : EndpointWord). word.place + 4 < 2 ^ 64)) stands.endpoints
      (words_end f.endpoints (endpoint_word_of_reach (devices_of i f id) found value) (words id value found))));
  commit =
      subst (λ (es : List Endpoint). IfSome (changing_by plain.cells plain.call entry.act) (MayChange (change_by plain.call) es)) stands.endpoints
      (subst (λ (call : Option OpenCall). IfSome (changing_by plain.cells call entry.act) (MayChange (change_by call) f.endpoints)) stands.call
      (subst (λ (cells : List Live). IfSome (changing_by cells f.call entry.act) (MayChange (change_by f.call) f.endpoints)) stands.cells commit));
  next = subst (λ (es : List Endpoint). IsNextOf entry.cell es entry.act) stands.endpoints next;
}
