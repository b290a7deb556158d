-- Pages behind a change of the hypervisor's, byte by byte.
use Rattle.std.proofs.Common.{◌≡◌, ℕ, zero, suc, ◌+◌, ◌/◌, ◌%◌, ◌^◌, ◌<◌, ◌≤◌, List, [], ◌∷◌, ◌++◌, length, get_or, Some, refl, sym, ap, ◌∙◌, inl, inr, ⊎_elim, arith}
use Rattle.std.specs.Prelude.{◌⊎◌, slice_index}
use Rattle.std.specs.Int.{to_le_bytes, w16, w32, w64}
use Rattle.std.proofs.lemmas.Bool.{cases_lt}
use Rattle.std.proofs.lemmas.List.{get_or_past}
use Rattle.jh_num.specs.Memory.{stored}
use Rattle.jh_num.proofs.Public.{stored_before, stored_behind, stored_there}
use Rattle.jh_cellcfg.specs.declared.config.CellConfig.{CellConfig}
use Rattle.jh_comm.specs.Page.{with_state, sent, fresh_page, signature}
use Rattle.jh_script.specs.declared.image.Image.{Image}
use Rattle.jh_history.specs.declared.form.Form.{Form}
use Rattle.jh_history.specs.declared.comm.PageChange.{PageChange}
use Rattle.jh_history.specs.declared.comm.PageChange.TheVariants.{State, Message, Fresh}
use Rattle.jh_history.specs.declared.comm.PageWrite.{PageWrite}
use Rattle.jh_history.specs.declared.place.Place.{Place}
use Rattle.jh_history.specs.declared.place.Place.TheVariants.{Page}
use Rattle.jh_history.specs.declared.entry.Entry.{Entry}
use Rattle.jh_history.specs.Bytes.{byte_written}
use Rattle.jh_history.specs.Endpoints.{specs_changing, with_words}
use Rattle.jh_history.specs.Facts.{Facts}
use Rattle.jh_history.specs.History.{facts}
use Rattle.jh_history.specs.Pages.{page_after, page_write_by}
use Rattle.jh_history.specs.Places.{number_of}
use Rattle.jh_laws.specs.Pages.{HasWord, HasNewState, HasNewMessage, IsFreshPage}
use Rattle.jh_laws.proofs.PlacesHeldLemmas.{byte_behind}
use Rattle.jh_laws.proofs.WordLemmas.{words_page}
use Rattle.jh_laws.proofs.WrittenLemmas.{paged_by, page_keeps, quiet_act}

-- the page behind the change, of which 4,096 bytes are there
pub record IsChanged (change : PageChange) (before behind : ℕ → ℕ) : Type 0 where
  pub below : (k : ℕ) → k < 4096 → behind k ≡ page_after change before k
  pub above : (k : ℕ) → 4096 ≤ k → behind k ≡ before k

pub changed_by : (image : Image) (form : Form) (before : List Entry) (entry : Entry) (cell : ℕ) (change : PageChange) → page_write_by image (facts image form before) entry entry.act ≡ Some (record { cell = cell; change = change })
    → IsChanged change (λ k. (facts image form before).byte (Page cell k)) (λ k. (facts image form (before ++ entry ∷ [])).byte (Page cell k))
changed_by image form before entry cell change is =
    let f : Facts = facts image form before in
    let w : PageWrite = record { cell = cell; change = change } in
    let own : Place → ℕ = byte_written image f entry.cell entry.act in
    record {
      below = λ k within. byte_behind image form before entry (Page cell k) ∙ paged_by image f entry (Page cell k) (page_after change (λ j. f.byte (Page cell j)) k) w is (record { offset = k; within = within; there = refl; is = refl });
      above = λ k past.
          byte_behind image form before entry (Page cell k)
          ∙ page_keeps (with_words (specs_changing f entry.act) own) (page_write_by image f entry entry.act) (Page cell k)
          (λ v offset same within at. let e : k ≡ offset = ap number_of at in omega (arith, past, within, e))
          ∙ words_page (specs_changing f entry.act) own cell k
          ∙ ap (λ (b : Place → ℕ). b (Page cell k)) (quiet_act image f entry entry.act w is);
    }

-- what the change leaves stays
kept_by : (change : PageChange) (before behind : ℕ → ℕ) (k : ℕ) → IsChanged change before behind → page_after change before k ≡ before k → behind k ≡ before k
kept_by change before behind k h same = ⊎_elim (λ below. h.below k below ∙ same) (λ above. h.above k above) (cases_lt k 4096)

-- a word of the page below its end
word_by : (page behind : ℕ → ℕ) (at number : ℕ) → ((k : ℕ) → k < 4096 → behind k ≡ page k) → at + 3 < 4096 → HasWord page at number → HasWord behind at number
word_by page behind at number same within h = (
  same at (omega (arith, within)) ∙ h.0,
  same (at + 1) (omega (arith, within)) ∙ h.1,
  same (at + 2) (omega (arith, within)) ∙ h.2,
  same (at + 3) within ∙ h.3,
)

-- bytes outside those that are stored
pub stored_outside : (byte : ℕ → ℕ) (at n : ℕ) (bytes : List ℕ) (k : ℕ) → length bytes ≡ n → (k < at) ⊎ (at + n ≤ k) → stored byte at bytes k ≡ byte k
stored_outside byte at n bytes k long out =
    ⊎_elim (λ below. stored_before byte at bytes k below) (λ above. stored_behind byte at bytes k (omega (arith, above, long))) out

pub new_state : (state : ℕ) (before behind : ℕ → ℕ) → IsChanged (State state) before behind → HasWord (with_state before state) 8 state → HasNewState state before behind
new_state state before behind h word = record {
  word = word_by (with_state before state) behind 8 state h.below (omega arith) word;
  others = λ k out. kept_by (State state) before behind k h (stored_outside before 8 4 (to_le_bytes w32 state) k refl out);
}

pub new_message : (message : ℕ) (before behind : ℕ → ℕ) → IsChanged (Message message) before behind → HasWord (sent before message) 12 message → HasNewMessage message before behind
new_message message before behind h word = record {
  word = word_by (sent before message) behind 12 message h.below (omega arith) word;
  reply = word_by (sent before message) behind 16 0 h.below (omega arith) (refl, refl, refl, refl);
  others = λ k out.
      let unanswered : ℕ → ℕ = stored before 16 (0 ∷ 0 ∷ 0 ∷ 0 ∷ []) in
      let first : (k < 12) ⊎ (16 ≤ k) = ⊎_elim (λ below. inl below) (λ above. inr (omega (arith, above))) out in
      let last : (k < 16) ⊎ (20 ≤ k) = ⊎_elim (λ below. inl (omega (arith, below))) (λ above. inr above) out in
      kept_by (Message message) before behind k h (stored_outside unanswered 12 4 (to_le_bytes w32 message) k refl first ∙ stored_outside before 16 4 (0 ∷ 0 ∷ 0 ∷ 0 ∷ []) k refl last);
}

-- ---- a fresh page

-- byte k of a number of 64 bits
wide_byte : (n k : ℕ) → k < 8 → get_or (to_le_bytes w64 n) k 0 ≡ n / 256 ^ k % 256
wide_byte n zero lt = omega arith
wide_byte n (suc zero) lt = refl
wide_byte n (suc (suc zero)) lt = refl
wide_byte n (suc (suc (suc zero))) lt = refl
wide_byte n (suc (suc (suc (suc zero)))) lt = refl
wide_byte n (suc (suc (suc (suc (suc zero))))) lt = refl
wide_byte n (suc (suc (suc (suc (suc (suc zero)))))) lt = refl
wide_byte n (suc (suc (suc (suc (suc (suc (suc zero))))))) lt = refl
wide_byte n (suc (suc (suc (suc (suc (suc (suc (suc k)))))))) lt = absurd (omega arith)

-- the page before the console is put there
abbrev headed : ℕ → ℕ → ℕ
headed state = with_state (stored (stored (λ k. 0) 0 signature) 6 (to_le_bytes w16 1)) state

headed_zero : (state k : ℕ) → 12 ≤ k → headed state k ≡ 0
headed_zero state k past =
    stored_outside (stored (stored (λ j. 0) 0 signature) 6 (to_le_bytes w16 1)) 8 4 (to_le_bytes w32 state) k refl (inr past)
    ∙ stored_outside (stored (λ j. 0) 0 signature) 6 2 (to_le_bytes w16 1) k refl (inr (omega (arith, past)))
    ∙ stored_outside (λ j. 0) 0 6 signature k refl (inr (omega (arith, past)))

consoled : (state : ℕ) (console : List ℕ) (k : ℕ) → stored (headed state) 24 console (24 + k) ≡ slice_index console k
consoled state console k =
    ⊎_elim
    (λ within. stored_there (headed state) 24 console k within)
    (λ past. stored_behind (headed state) 24 console (24 + k) (omega (arith, past)) ∙ headed_zero state (24 + k) (omega arith) ∙ sym (get_or_past console k 0 past))
    (cases_lt k (length console))

pub fresh : (config : CellConfig) (ecam state : ℕ) (before behind : ℕ → ℕ) → IsChanged (Fresh state config.console ecam) before behind → length config.console ≤ 32 → HasWord (fresh_page state config.console ecam) 8 state → IsFreshPage config ecam state behind
fresh config ecam state before behind h few word =
    let page : ℕ → ℕ = fresh_page state config.console ecam in
    let with_console : ℕ → ℕ = stored (headed state) 24 config.console in
    let window : List ℕ = to_le_bytes w64 ecam in
    let at : (k : ℕ) → k < 4096 → behind k ≡ page k = h.below in
    record {
      name = (at 0 (omega arith), at 1 (omega arith), at 2 (omega arith), at 3 (omega arith), at 4 (omega arith), at 5 (omega arith));
      revision = (at 6 (omega arith), at 7 (omega arith));
      state_word = word_by page behind 8 state at (omega arith) word;
      message = word_by page behind 12 0 at (omega arith) (refl, refl, refl, refl);
      reply = word_by page behind 16 0 at (omega arith) (refl, refl, refl, refl);
      flags = word_by page behind 20 0 at (omega arith) (refl, refl, refl, refl);
      console = λ k within. at (24 + k) (omega (arith, within)) ∙ stored_before with_console 56 window (24 + k) (omega (arith, within)) ∙ consoled state config.console k;
      window = λ k within. at (56 + k) (omega (arith, within)) ∙ stored_there with_console 56 window k within ∙ wide_byte ecam k within;
      rest = λ k past within.
          at k within
          ∙ stored_outside with_console 56 8 window k refl (inr past)
          ∙ stored_behind (headed state) 24 config.console k (omega (arith, past, few))
          ∙ headed_zero state k (omega (arith, past));
    }
