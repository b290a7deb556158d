-- How a cell met the request to shut down, and the note of a change.
use Rattle.std.specs.Prelude.{◌≡◌, ◌≢◌, ◌^◌, ◌-◌, ℕ, true, false, ◌==◌, min, List, count_by, All, Contains, Some, None}
use Rattle.jh_cellcfg.specs.declared.config.CellConfig.{CellConfig}
use Rattle.jh_cellcfg.specs.Cells.{is_passive}
use Rattle.jh_shape.specs.Lives.{configs_of}
use Rattle.jh_comm.specs.declared.words.TheConstants.{REPLY_REQUEST_APPROVED, REPLY_RECEIVED}
use Rattle.jh_call.specs.declared.call.Call.{Call}
use Rattle.jh_script.specs.declared.image.Image.{Image}
use Rattle.jh_history.specs.declared.call.OpenCall.{OpenCall}
use Rattle.jh_history.specs.declared.call.Phase.{Phase}
use Rattle.jh_history.specs.declared.entry.Entry.{Entry}
use Rattle.jh_history.specs.declared.entry.Settled.{Settled}
use Rattle.jh_history.specs.declared.entry.Settled.TheVariants.{Agreed, Denied, Timeout}
use Rattle.jh_history.specs.declared.entry.Heard.{Heard}
use Rattle.jh_history.specs.declared.entry.Heard.TheVariants.{Received, Down, Other, Timeout as Unheard}
use Rattle.jh_history.specs.declared.entry.Act.TheVariants.{Decide}
use Rattle.jh_history.specs.Facts.{Facts}
use Rattle.jh_history.specs.Calls.{is_named}
use Rattle.jh_history.specs.Phases.{state_word, reply_word, is_down}
use Rattle.jh_laws.specs.Moments.{AdmittedMoment, AdmittedSpan, call_before, facts_at_end, facts_before_last}
use Rattle.jh_laws.specs.Pages.{IsCallAbout}
use Rattle.jh_laws.specs.Ready.{IsTimeOver}

-- how many of the entries were made by CPUs of the cell that the call is about, but at most the last number of 64 bits
abbrev pub made_by_named : Call → List Entry → ℕ
made_by_named call entries = min (count_by (λ (e : Entry). is_named call e.cell) entries) (2 ^ 64 - 1)

-- how many of the entries were made by CPUs of the cell with the id, but at most the last number of 64 bits
abbrev pub made_by_cell : ℕ → List Entry → ℕ
made_by_cell id entries = min (count_by (λ (e : Entry). e.cell == id) entries) (2 ^ 64 - 1)

-- how the cell met the request to shut down: it agrees where it is passive, down or says so; any other reply denies;
-- without a reply its time was over
pub record IsSettledBy (image : Image) (f : Facts) (caller : ℕ) (config : CellConfig) (waited : ℕ) (how : Settled) : Type 0 where
  pub passive : is_passive config ≡ true → how ≡ Agreed
  pub down : is_down (state_word f config.id) ≡ true → how ≡ Agreed
  pub approved : reply_word f config.id ≡ REPLY_REQUEST_APPROVED → how ≡ Agreed
  pub denied : is_passive config ≡ false → is_down (state_word f config.id) ≡ false → reply_word f config.id ≢ REPLY_REQUEST_APPROVED → reply_word f config.id ≢ 0 → how ≡ Denied
  pub unanswered : is_passive config ≡ false → is_down (state_word f config.id) ≡ false → reply_word f config.id ≡ 0 → (how ≡ Timeout) × IsTimeOver image f caller config waited

-- how the cell met the note: it is down; else it received it, or replied something else; without a reply its time was
-- over
pub record IsHeardBy (image : Image) (f : Facts) (caller : ℕ) (config : CellConfig) (waited : ℕ) (how : Heard) : Type 0 where
  pub down : is_down (state_word f config.id) ≡ true → how ≡ Down
  pub received : is_down (state_word f config.id) ≡ false → reply_word f config.id ≡ REPLY_RECEIVED → how ≡ Received
  pub other : is_down (state_word f config.id) ≡ false → reply_word f config.id ≢ REPLY_RECEIVED → reply_word f config.id ≢ 0 → how ≡ Other
  pub unanswered : is_down (state_word f config.id) ≡ false → reply_word f config.id ≡ 0 → (how ≡ Unheard) × IsTimeOver image f caller config waited

-- at the last entry the cell that the call is about has met so the request to shut down that the first entry made
pub record IsSettledAtLast (s : AdmittedSpan) (call : Call) (how : Settled) : Type 0 where
  pub config : CellConfig
  pub lives : Contains (configs_of (facts_before_last s).cells) config
  pub named : is_named call config.id ≡ true
  pub settles : IsSettledBy s.image (facts_before_last s) s.first.cpu config (made_by_named call s.between) how

-- at the last entry the cell with the id has met so the note that the first entry told it
pub record IsHeardAtLast (s : AdmittedSpan) (id : ℕ) (how : Heard) : Type 0 where
  pub config : CellConfig
  pub lives : Contains (configs_of (facts_before_last s).cells) config
  pub named : config.id ≡ id
  pub hears : IsHeardBy s.image (facts_before_last s) s.first.cpu config (made_by_cell id s.between) how

-- ---- the count

-- the CPU of the entry makes none of the rest
abbrev pub RestsBehind : AdmittedMoment → Type 0
RestsBehind m = All (λ (e : Entry). e.cpu ≢ m.entry.cpu) m.rest

-- the entry asks the cell with the id to shut down, passive or not: it is the Decide of a call about it that goes on
pub record IsAsked (m : AdmittedMoment) (id : ℕ) : Type 0 where
  pub call : Call
  pub begun : call_before m ≡ Some call
  pub about : IsCallAbout call id
  pub goes : m.entry.act ≡ Decide None

-- after the whole journal the call of the entry's CPU is open, and in the phase
pub record HasCallIn (m : AdmittedMoment) (phase : Phase) : Type 0 where
  pub open_call : OpenCall
  pub is : (facts_at_end m).call ≡ Some open_call
  pub caller : open_call.caller ≡ m.entry.cpu
  pub there : open_call.phase ≡ phase
