-- Each access of a legal journal has its outcome.
use Rattle.std.proofs.Common.{◌≡◌, ℕ, ◌<◌, List, [], ◌∷◌, ◌++◌, Bool, true, false, Option, refl, sym, subst, ◌∙◌, inl, arith}
use Rattle.std.proofs.lemmas.Bool.{false≢true}
use Rattle.jh_ivshmem.specs.declared.endpoint.Endpoint.{Endpoint}
use Rattle.jh_ivshmem.specs.declared.spec.EndpointSpec.{EndpointSpec}
use Rattle.jh_script.specs.declared.image.Image.{Image}
use Rattle.jh_history.specs.declared.form.Form.{Form}
use Rattle.jh_history.specs.declared.access.Access.TheVariants.{Read as ToRead, Write as ToWrite, Fetch as ToFetch}
use Rattle.jh_history.specs.declared.entry.Entry.{Entry}
use Rattle.jh_history.specs.declared.entry.Act.{Act}
use Rattle.jh_history.specs.declared.entry.Act.TheVariants.{Read, Write, Fetch, Await}
use Rattle.jh_cellcfg.specs.declared.live.Live.{Live}
use Rattle.jh_history.specs.declared.access.Access.{Access}
use Rattle.jh_history.specs.declared.call.OpenCall.{OpenCall}
use Rattle.jh_history.specs.declared.device_change.DeviceChange.TheVariants.{Join}
use Rattle.jh_history.specs.Access.{is_reached}
use Rattle.jh_history.specs.Endpoints.{endpoints_changed}
use Rattle.jh_history.specs.Admitted.{IsAdmitted}
use Rattle.jh_history.specs.Facts.{Facts}
use Rattle.jh_history.proofs.Public.{sound_start, legal_sound, IsLegal_begin}
use Rattle.jh_history.specs.History.{facts}
use Rattle.jh_history.specs.Grants.{reach}
use Rattle.jh_history.specs.Due.{got_by, IsLegal}
use Rattle.jh_laws.specs.RootAlone.{HasNoShmemDevice}
use Rattle.jh_laws.specs.Ends.{IsAnswered, IsReadBy, IsGotBy, IsAwaitedBy}
use Rattle.jh_laws.specs.Outcomes.{HasItsOutcome}
use Rattle.jh_shape.specs.Lives.{configs_of}
use Rattle.jh_history.specs.Sound.{AreSoundCells, AreOwned, IsSoundCall, AreEndpoints, IsSound}
use Rattle.jh_laws.proofs.EndsLemmas.{got_of_cell, reached_of_cell, one_value, width_some}
use Rattle.jh_laws.proofs.MadeLemmas.{IsSilent, AllRoots, AwaitOf, IsAccess, no_specs_of_root, made_access, made_at}

-- root alone, without devices, is sound
no_endpoints : (image : Image) (form : Form) → IsAdmitted image → HasNoShmemDevice image → AreEndpoints image [] []
no_endpoints image form admitted bare =
    let P : List EndpointSpec → Type 0 = λ specs. AreEndpoints image [] (endpoints_changed Join specs []) in
    subst P (no_specs_of_root image bare) (sound_start image form admitted).endpoints

pub roots_sound : (image : Image) (form : Form) (f : Facts) → IsSilent image → AllRoots image f → IsSound image f
roots_sound image form f silent roots =
    let C : List Live → Type 0 = λ cells. AreSoundCells image.system (configs_of cells) in
    let O : List Live → Type 0 = λ cells. AreOwned image (configs_of cells) f.cpu in
    let E : List Live → Type 0 = λ cells. AreEndpoints image (configs_of cells) f.endpoints in
    let F : List Endpoint → Type 0 = λ endpoints. AreEndpoints image [] endpoints in
    let Q : Option OpenCall → Type 0 = IsSoundCall image (configs_of f.cells) f.cpu in
    let none : f.cells ≡ [] = roots.alone.cells in
    record {
      cells = subst C (sym none) (sound_start image form silent.admitted).cells;
      cpus = subst O (sym none) (record { cells = λ config held. (let below : held.0 < 0 = held.1 in absurd (omega arith)); others = λ i. inl (roots.alone.owners i) });
      call = subst Q (sym roots.alone.call) (λ i. record { asked = (roots.cpus i).asked; stopped = (roots.cpus i).stopped });
      endpoints = subst E (sym none) (subst F (sym roots.endpoints) (no_endpoints image form silent.admitted silent.bare));
    }

-- what a reading access of root's gets
pub got_of : (image : Image) (form : Form) (entries : List Entry) (access : Access) (at width : ℕ) → IsSound image (facts image form entries) → 0 < width
    → IsGotBy image (facts image form entries) image.system.root.id access at width (got_by image (facts image form entries) image.system.root.id access at width)
got_of image form entries access at width sound some = got_of_cell image (facts image form entries) image.system.root.id access at width sound some

-- and where an access of root's succeeds
pub reached_of : (image : Image) (f : Facts) (access : Access) (at width : ℕ) → IsSound image f → 0 < width
    → (is_reached (reach image f image.system.root.id access at width) ≡ true → IsAnswered image f image.system.root.id access at width) × (IsAnswered image f image.system.root.id access at width → is_reached (reach image f image.system.root.id access at width) ≡ true)
reached_of image f access at width sound some = reached_of_cell image f image.system.root.id access at width sound some

-- it reads one value
pub value_of : (image : Image) (form : Form) (entries : List Entry) (access : Access) (at width n m : ℕ) → IsSound image (facts image form entries) → IsAnswered image (facts image form entries) image.system.root.id access at width
    → IsReadBy image (facts image form entries) image.system.root.id access at width n → IsReadBy image (facts image form entries) image.system.root.id access at width m → n ≡ m
value_of image form entries access at width n m sound answered one other = one_value image (facts image form entries) image.system.root.id access at width n m sound answered one other

awaited : (image : Image) (form : Form) (entries : List Entry) (at width value : ℕ) (ok : Bool) (got : Option ℕ) → IsGotBy image (facts image form entries) image.system.root.id ToRead at width got → AwaitOf got value ok → IsAwaitedBy image (facts image form entries) image.system.root.id at width value ok
awaited image form entries at width value true got outcome e = record { answered = (λ _. outcome.answered.0 (rw e refl), λ _. refl); reads = λ _. outcome.reads value e }
awaited image form entries at width value false got outcome e = record {
  answered = (λ h. absurd (false≢true h), λ all. absurd (false≢true (let some = outcome.answered.1 all in rw e at some)));
  reads = λ h. absurd (false≢true h);
}

pub outcome : (image : Image) (form : Form) (entries : List Entry) (act : Act) → IsSound image (facts image form entries) → IsAccess image (facts image form entries) image.system.root.id act → HasItsOutcome image form entries image.system.root act
outcome image form entries (Read width at got) sound access =
    let P : Option ℕ → Type 0 = IsGotBy image (facts image form entries) image.system.root.id ToRead at width in subst P (sym access.1) (got_of image form entries ToRead at width sound (width_some width access.0))
outcome image form entries (Write width at value ok) sound access =
    let reached = reached_of image (facts image form entries) ToWrite at width sound (width_some width access.0) in
    (λ h. reached.0 (sym access.1 ∙ h), λ all. access.1 ∙ reached.1 all)
outcome image form entries (Fetch at got) sound access =
    let P : Option ℕ → Type 0 = IsGotBy image (facts image form entries) image.system.root.id ToFetch at 4 in subst P (sym access) (got_of image form entries ToFetch at 4 sound (omega arith))
outcome image form entries (Await width at value ok) sound access =
    awaited image form entries at width value ok (got_by image (facts image form entries) image.system.root.id ToRead at width) (got_of image form entries ToRead at width sound (width_some width access.0)) access.1
outcome image form entries _ sound access = absurd access

pub outcome_at : (image : Image) (form : Form) (before rest : List Entry) (entry : Entry) → IsSilent image → IsLegal image form (before ++ entry ∷ rest) → HasItsOutcome image form before image.system.root entry.act
outcome_at image form before rest entry admitted legal =
    outcome image form before entry.act (legal_sound image form before admitted.admitted (IsLegal_begin image form before (entry ∷ rest) legal))
    (made_access image (facts image form before) entry.cpu entry (made_at image form before rest entry admitted legal) admitted).access
