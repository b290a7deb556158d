-- What answers within the addresses, and what does past them.
use Rattle.std.proofs.Common.{◌≡◌, ℕ, ◌+◌, List, Option, ap, sym, ◌∙◌, inl, inr, arith}
use Rattle.std.proofs.lemmas.Bool.{cases_lt, false≢true}
use Rattle.jh_num.specs.declared.address.TheConstants.{ADDRESS_END}
use Rattle.jh_cellcfg.specs.declared.config.PciDevice.{PciDevice}
use Rattle.jh_cellcfg.specs.declared.config.SystemConfig.{SystemConfig}
use Rattle.jh_cellcfg.specs.declared.region.Region.{Region}
use Rattle.jh_history.specs.Behind.{Asked, answer_behind, asked_by, ecam_start, ecam_end, window_of_access}
use Rattle.jh_history.specs.Devices.{Devices}
use Rattle.jh_history.specs.Grants.{behind_of}
use Rattle.jh_history.proofs.BehindLemmas.{answer_within, answer_beyond, answer_no_bytes}
use Rattle.jh_history.proofs.reach.behind_in.Goals as goal

pub returns-then-is_within : goal.returns-then-is_within
returns-then-is_within g c =
    let grants = c.args.grants.now in
    let cell = c.args.cell in
    let wanted = c.args.wanted.now in
    let behind = behind_of (g.G.LiveGrants.image grants) (g.G.LiveGrants.lives grants) c.args.endpoints.now.list cell in
    let asked = asked_by behind wanted in
    let within = c.is_within.ensures.0 c.if-is_within.true in
    let region = c.subpage-region.result in
    let ecam = c.ecam_of.result in
    let same : c.new-devices.result ≡ behind.devices = c.new-devices.ensures ∙ ap (λ (list : List PciDevice). record behind.devices { list = list }) c.devices.ensures in
    let asks : Devices → Asked = λ d. record { cell = d.cell; region = region; windows = record { start = ecam.start; end = ecam.end; device = window_of_access d wanted.at wanted.width } } in
    let from : ℕ → Asked = λ s. record { cell = cell; region = region; windows = record asked.windows { start = s; end = ecam.end } } in
    let until : ℕ → Asked = λ e. record { cell = cell; region = region; windows = record asked.windows { start = ecam_start c.system.result.now; end = e } } in
    let of : SystemConfig → Asked = λ s. record { cell = cell; region = region; windows = record asked.windows { start = ecam_start s; end = ecam_end s } } in
    let having : Option Region → Asked = λ o. record asked { region = o } in
    c.answer_behind.ensures
    ∙ ap (λ (d : Devices). answer_behind (asks d) wanted) same
    ∙ ap (λ (s : ℕ). answer_behind (from s) wanted) c.ecam_of.ensures.start
    ∙ ap (λ (e : ℕ). answer_behind (until e) wanted) c.ecam_of.ensures.end
    ∙ ap (λ (s : SystemConfig). answer_behind (of s) wanted) c.system.ensures
    ∙ ap (λ (o : Option Region). answer_behind (having o) wanted) c.subpage-region.ensures.found
    ∙ sym (answer_within behind wanted within.1)

pub returns-else-is_within : goal.returns-else-is_within
returns-else-is_within g c =
    let grants = c.args.grants.now in
    let wanted = c.args.wanted.now in
    let behind = behind_of (g.G.LiveGrants.image grants) (g.G.LiveGrants.lives grants) c.args.endpoints.now.list c.args.cell in
    sym (elim (cases_lt ADDRESS_END (wanted.at + wanted.width)) [
      | inl beyond ↦ answer_beyond behind wanted beyond
      | inr within ↦ elim (cases_lt 0 wanted.width) [
        | inl some ↦ absurd (false≢true (sym c.if-is_within.false ∙ c.is_within.ensures.1 (some, within)))
        | inr none ↦ answer_no_bytes behind wanted (omega arith)
      ]
    ])
