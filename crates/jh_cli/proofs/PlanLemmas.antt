-- Where a plan ends at a system that no board has, and that a plan has one outcome.
use Rattle.std.proofs.Common.{◌≡◌, List, ℕ, [], ◌∷◌, inl, inr, refl, sym, ap, subst, ◌∙◌}
use Rattle.jh_num.proofs.Public.{ok_one}
use Rattle.jh_cellcfg.specs.declared.config.SystemConfig.{SystemConfig}
use Rattle.jh_history.specs.Admitted.{pool_pages}
use Rattle.jh_plan.specs.declared.demand.Demand.{Demand}
use Rattle.jh_plan.specs.declared.fault.PlanFault.TheVariants.{Demand as AtDemand}
use Rattle.jh_plan.specs.declared.fault.Why.{Why}
use Rattle.jh_plan.specs.declared.planning.Planned.{Planned}
use Rattle.jh_plan.specs.Demands.{demands_of}
use Rattle.jh_plan.specs.FaultText.{demands_fault_text, plan_fault_text}
use Rattle.jh_plan.specs.SpecText.{plan_text}
use Rattle.jh_plan.proofs.Public.{no_fault, one_fault, one_plan}
use Rattle.jh_image.specs.declared.fault.ImageCause.{ImageCause}
use Rattle.jh_image.specs.declared.fault.ImageCause.TheVariants.{ReadFault, Oversize, Json, Member, System, Findings, PoolSmall, Preload as BadPreload, Program as BadProgram}
use Rattle.jh_image.specs.Files.{Contents}
use Rattle.jh_image.specs.Texts.{cause_text}
use Rattle.jh_image.proofs.Public.{OneSpelling, SpellingsAreFaultless}
use Rattle.jh_cli.specs.declared.ending.CallFault.{CallFault}
use Rattle.jh_cli.specs.declared.status.Status.TheVariants.{Good}
use Rattle.jh_cli.specs.Boards.{stopped}
use Rattle.jh_cli.specs.Check.{IsSystemFile}
use Rattle.jh_cli.specs.Complete.{AreKnownNames}
use Rattle.jh_cli.specs.Limits.{asked_of_a_file}
use Rattle.jh_cli.specs.Plan.{AdmittedRefusal, AreDemands, DemandsRefusal, IsAdmittedSystemFile, IsPlanned, IsUnadmitted, Plans, PlansBy}
use Rattle.jh_cli.specs.Reading.{Reply, EndsAtFile, Spells}
use Rattle.jh_cli.specs.Private.Endings.{OnEnded}
use Rattle.jh_cli.proofs.GoodLemmas.{admitted_sound, demands_sound, no_more, system_sound, system_values}
use Rattle.jh_cli.proofs.OneLemmas.{err_one, one_reading, system_words, IsRead}
use Rattle.jh_cli.proofs.StopLemmas.{on_ended, refusal_reply, refuses}

-- ---- a system that no board has

told_so : (system : SystemConfig) (name : List ℕ) (cause : ImageCause) → IsUnadmitted system cause → stopped name cause ≡ refusal_reply name (cause_text cause)
told_so system name (Findings found) is = refl
told_so system name (PoolSmall need have) is = refl
told_so system name ReadFault is = absurd is
told_so system name Oversize is = absurd is
told_so system name Json is = absurd is
told_so system name (Member member) is = absurd is
told_so system name (System fault) is = absurd is
told_so system name (BadPreload number) is = absurd is
told_so system name (BadProgram fault) is = absurd is

-- it is refused by the words for the cause
pub told_cause : (system : SystemConfig) (name : List ℕ) (cause : ImageCause) → IsUnadmitted system cause → (stop : CallFault) → OnEnded stop (λ reply. reply ≡ stopped name cause) → OnEnded stop (λ reply. reply ≡ refusal_reply name (cause_text cause))
told_cause system name cause is stop h =
    on_ended (λ reply. reply ≡ stopped name cause) (λ reply. reply ≡ refusal_reply name (cause_text cause)) stop (λ reply told. told ∙ told_so system name cause is) h

-- and the call ends at its file
pub ends_unadmitted : (contents : Contents) (name : List ℕ) (system : SystemConfig) (cause : ImageCause) → Spells contents name IsSystemFile system → IsUnadmitted system cause
    → (stop : CallFault) → OnEnded stop (λ reply. reply ≡ stopped name cause) → OnEnded stop (EndsAtFile contents name AdmittedRefusal)
ends_unadmitted contents name system cause spells is stop h =
    refuses asked_of_a_file contents name AdmittedRefusal spells.bytes (cause_text cause) spells.handed
    (inr (record { system = system; file = spells.spelled; cause = cause; is = is; told = refl })) stop (told_cause system name cause is stop h)

-- ---- one outcome

one_cause : (system : SystemConfig) (a b : ImageCause) → IsUnadmitted system a → IsUnadmitted system b → a ≡ b
one_cause system (Findings found) (Findings other) h k = ap Findings (h.1 ∙ sym k.1)
one_cause system (Findings found) (PoolSmall need have) h k = absurd (h.0 k.0)
one_cause system (PoolSmall need have) (Findings found) h k = absurd (k.0 h.0)
one_cause system (PoolSmall need have) (PoolSmall more less) h k = ap (λ n. PoolSmall n have) (h.2 ∙ sym k.2) ∙ ap (PoolSmall more) (h.3 ∙ sym k.3)
one_cause system ReadFault b h k = absurd h
one_cause system Oversize b h k = absurd h
one_cause system Json b h k = absurd h
one_cause system (Member name) b h k = absurd h
one_cause system (System fault) b h k = absurd h
one_cause system (BadPreload number) b h k = absurd h
one_cause system (BadProgram fault) b h k = absurd h
one_cause system (Findings found) ReadFault h k = absurd k
one_cause system (Findings found) Oversize h k = absurd k
one_cause system (Findings found) Json h k = absurd k
one_cause system (Findings found) (Member name) h k = absurd k
one_cause system (Findings found) (System fault) h k = absurd k
one_cause system (Findings found) (BadPreload number) h k = absurd k
one_cause system (Findings found) (BadProgram fault) h k = absurd k
one_cause system (PoolSmall need have) ReadFault h k = absurd k
one_cause system (PoolSmall need have) Oversize h k = absurd k
one_cause system (PoolSmall need have) Json h k = absurd k
one_cause system (PoolSmall need have) (Member name) h k = absurd k
one_cause system (PoolSmall need have) (System fault) h k = absurd k
one_cause system (PoolSmall need have) (BadPreload number) h k = absurd k
one_cause system (PoolSmall need have) (BadProgram fault) h k = absurd k

admitted_words : SpellingsAreFaultless → OneSpelling → (bytes v w : List ℕ) → AdmittedRefusal bytes v → AdmittedRefusal bytes w → v ≡ w
admitted_words faultless one bytes v w (inl h) (inl k) = system_words bytes v w h k
admitted_words faultless one bytes v w (inl h) (inr k) = absurd (system_sound faultless k.system bytes v k.file h)
admitted_words faultless one bytes v w (inr h) (inl k) = absurd (system_sound faultless h.system bytes w h.file k)
admitted_words faultless one bytes v w (inr h) (inr k) =
    let same : h.system ≡ k.system = system_values one bytes h.system k.system h.file k.file in
    let cause : h.cause ≡ k.cause = one_cause k.system h.cause k.cause (subst (λ (s : SystemConfig). IsUnadmitted s h.cause) same h.is) k.is in
    h.told ∙ ap cause_text cause ∙ sym k.told

demands_words : (bytes v w : List ℕ) → DemandsRefusal bytes v → DemandsRefusal bytes w → v ≡ w
demands_words bytes v w (inl h) (inl k) = h.1 ∙ sym k.1
demands_words bytes v w (inl h) (inr k) = absurd (no_more asked_of_a_file bytes k.within h.0)
demands_words bytes v w (inr h) (inl k) = absurd (no_more asked_of_a_file bytes h.within k.0)
demands_words bytes v w (inr h) (inr k) = h.told ∙ ap demands_fault_text (err_one (demands_of bytes) h.fault k.fault h.first k.first) ∙ sym k.told

one_planned : (name : List ℕ) (system : SystemConfig) (demands : List Demand) (one other : Reply) → IsPlanned name system demands one → IsPlanned name system demands other → one ≡ other
one_planned name system demands one other (inl h) (inl k) =
    let tell : Planned → Reply = λ planned. record { status = Good; text = plan_text planned (pool_pages system) } in
    h.told ∙ ap tell (one_plan system demands h.planned k.planned h.is k.is) ∙ sym k.told
one_planned name system demands one other (inl h) (inr k) = absurd (no_fault system demands h.planned k.number k.why h.is k.first)
one_planned name system demands one other (inr h) (inl k) = absurd (no_fault system demands k.planned h.number h.why k.is h.first)
one_planned name system demands one other (inr h) (inr k) =
    let tell : ℕ → Why → Reply = λ number why. refusal_reply name (plan_fault_text (AtDemand number why)) in
    let same = one_fault system demands h.number k.number h.why k.why h.first k.first in
    h.told ∙ ap (λ n. tell n h.why) same.0 ∙ ap (tell k.number) same.1 ∙ sym k.told

-- the same files are planned with one reply
pub one_plan_reply : SpellingsAreFaultless → OneSpelling → (contents : Contents) (system demands : List ℕ) (one other : Reply) → AreKnownNames contents (system ∷ demands ∷ [])
    → Plans contents system demands one → Plans contents system demands other → IsRead one → IsRead other → one ≡ other
one_plan_reply faultless spelling contents system demands one other told h k read also =
    one_reading asked_of_a_file contents system told.0 AdmittedRefusal IsAdmittedSystemFile (admitted_words faultless spelling) (λ bytes a b f g. system_values spelling bytes a b f.file g.file)
    (λ bytes s words form why. admitted_sound faultless spelling s bytes words form why) (PlansBy contents demands) one other
    (λ s a b r q. one_reading asked_of_a_file contents demands told.1.0 DemandsRefusal AreDemands demands_words (λ bytes x y f g. ok_one (demands_of bytes) x y f.1 g.1)
    (λ bytes ds words form why. demands_sound ds bytes words form why) (IsPlanned demands s) one other (λ ds x y t u. one_planned demands s ds one other x y) a b r q) h k read also
