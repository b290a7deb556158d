-- The image of a talk is admitted.
use Rattle.std.proofs.Common.{◌≡◌, ◌+◌, ◌<◌, ◌≤◌, inr, true, false, nat_eq, nat_lt, nat_le, [], ◌∷◌, ◌++◌, length, refl, sym, arith, length-append}
use Rattle.std.specs.Prelude.{AllPairs, codes}
use Rattle.std.specs.Cmp.Lexicographic.{pointwise}
use Rattle.std.proofs.lemmas.Bool.{both_ways, and_parts, and_from, or_parts, leb-true, ltb-true, le-leb, lt-ltb, false_from_ne_true}
use Rattle.std.proofs.lemmas.List.Elements.{All-nil, All-from_recursion}
use Rattle.std.proofs.lemmas.Slice.Eq.{bytes_eq-Decides}
use Rattle.std.proofs.lemmas.List.Kept.{AllPairs-cons}
use Rattle.jh_cellcfg.specs.declared.config.CellConfig.{CellConfig}
use Rattle.jh_cellcfg.specs.declared.config.SystemConfig.{SystemConfig}
use Rattle.jh_cellcfg.specs.Cells.{name_of}
use Rattle.jh_cellcfg.specs.Regions.{has_place, phys_end}
use Rattle.jh_cellcfg.specs.Spelling.{spelling, u16_bytes, body_bytes}
use Rattle.jh_check.specs.Refusals.{is_known, is_namesake}
use Rattle.jh_history.specs.Admitted.{IsAdmitted, IsAdmittedSystem, IsOtherPreload, IsOtherProgram, IsSoundPreload, IsSoundProgram}
use Rattle.jh_talk.specs.declared.messages.Messages.{Messages}
use Rattle.jh_talk.specs.declared.talk.Talk.{Talk}
use Rattle.jh_talk.specs.declared.fault.TalkFault.TheVariants.{Cell}
use Rattle.jh_talk.specs.Images.{image_of, leader_program, leader_side, follower_program, follower_side, talk_preload, IsTalk}
use Rattle.jh_talk.specs.Programs.{state_address}
use Rattle.jh_talk.specs.Private.Sides.{AreNumbers}
use Rattle.jh_talk.proofs.AddressLemmas.{addresses_of}
use Rattle.jh_talk.proofs.JoinLemmas.{clean_alone}
use Rattle.jh_talk.proofs.SoundLemmas.{leader_few, leader_sound, follower_few, follower_sound}

-- ---- the preload

spelling_some : (cell : CellConfig) → 0 < length (spelling cell)
spelling_some cell =
    let whole = length-append (codes "JHCELL") (u16_bytes 13 ++ body_bytes cell) in
    let six : length (codes "JHCELL") ≡ 6 = refl in
    omega arith

preload_sound : (system : SystemConfig) (cell : CellConfig) (talk : Talk) → IsAdmittedSystem system → IsTalk system cell talk → IsSoundPreload system.platform.hypervisor_memory (talk_preload cell talk)
preload_sound system cell talk admitted is =
    let clean = clean_alone system admitted in
    let at = is.place.is in
    let region = at.region in
    let begins = at.begins in
    let ends = at.ends in
    let size = spelling_some cell in
    let some : 0 < region.size = omega arith in
    let plain = clean.no_comm at.number region at.item some in
    let within = (clean.within 0 system.root refl at.number region at.item some).phys plain in
    record {
      within = omega arith;
      clear = λ place hypervisor mine.
          let parts = and_parts (nat_le talk.place place) (nat_lt place (talk.place + length (spelling cell))) mine in
          let from = leb-true talk.place place parts.0 in
          let to = ltb-true place (talk.place + length (spelling cell)) parts.1 in
          let has : has_place region place ≡ true = and_from (nat_le region.phys_start place) (nat_lt place (phys_end region)) (le-leb region.phys_start place (omega arith)) (lt-ltb place (phys_end region) (omega arith)) in
          clean.hypervisor 0 system.root refl at.number region at.item plain place has hypervisor;
    }

-- ---- the programs

-- root and the cell have different names
names_differ : (system : SystemConfig) (cell : CellConfig) (talk : Talk) → IsTalk system cell talk → pointwise nat_eq (name_of cell) (name_of system.root) ≡ true → ⊥
names_differ system cell talk is same =
    let unknown : is_known (system.root ∷ []) cell ≡ false = false_from_ne_true (is_known (system.root ∷ []) cell) (λ known. is.faultless Cell (omega arith) (inr known)) in
    let namesake = (or_parts (is_namesake cell system.root) false unknown).0 in
    let name = (or_parts (nat_eq system.root.id cell.id) (pointwise nat_eq (name_of system.root) (name_of cell)) namesake).1 in
    let names = (bytes_eq-Decides (name_of cell) (name_of system.root)).0 same in
    both_ways (pointwise nat_eq (name_of system.root) (name_of cell)) name ((bytes_eq-Decides (name_of system.root) (name_of cell)).1 (sym names))

programs_differ : (system : SystemConfig) (cell : CellConfig) (messages : Messages) (talk : Talk) → IsTalk system cell talk → IsOtherProgram (leader_program system cell messages talk) (follower_program system cell messages talk)
programs_differ system cell messages talk is same =
    names_differ system cell talk is (and_parts (pointwise nat_eq (name_of cell) (name_of system.root)) (nat_eq talk.follower talk.leader) same).0

-- ---- the image

no_preloads : AllPairs IsOtherPreload []
no_preloads i j d lt within = absurd (omega arith)

no_programs : AllPairs IsOtherProgram []
no_programs i j d lt within = absurd (omega arith)

pub talk_admitted : (system : SystemConfig) (cell : CellConfig) (messages : Messages) (talk : Talk) → IsAdmittedSystem system → IsTalk system cell talk → length messages.sends ≤ 1000 → length messages.replies ≤ 1000 → AreNumbers messages.sends → AreNumbers messages.replies → IsAdmitted (image_of system cell messages talk)
unfolding image_of
talk_admitted system cell messages talk admitted is few_sends few_replies sends replies =
    let addresses = addresses_of system cell talk is in
    let leads = leader_program system cell messages talk in
    let follows = follower_program system cell messages talk in
    let preload = talk_preload cell talk in
    let side = leader_side system talk in
    let other = follower_side system cell talk in
    let state = state_address system.root talk.pair.device talk.pair.other in
    let leads_sound : IsSoundProgram leads = record { few = leader_few side talk.place cell.id state messages few_sends few_replies; well_formed = leader_sound side talk.place cell.id state messages addresses.leader sends } in
    let follows_sound : IsSoundProgram follows = record { few = follower_few other messages few_sends few_replies; well_formed = follower_sound other messages addresses.follower replies } in
    record {
      system = admitted;
      preloads = All-from_recursion (IsSoundPreload system.platform.hypervisor_memory) (preload ∷ []) (preload_sound system cell talk admitted is, tt);
      apart = AllPairs-cons IsOtherPreload preload [] (All-nil (IsOtherPreload preload)) no_preloads;
      programs = All-from_recursion IsSoundProgram (leads ∷ follows ∷ []) (leads_sound, (follows_sound, tt));
      owned = AllPairs-cons IsOtherProgram leads (follows ∷ []) (All-from_recursion (IsOtherProgram leads) (follows ∷ []) (programs_differ system cell messages talk is, tt))
          (AllPairs-cons IsOtherProgram follows [] (All-nil (IsOtherProgram follows)) no_programs);
    }
