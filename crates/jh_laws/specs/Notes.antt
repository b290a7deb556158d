-- Which cells are told of a create or a destroy.
use Rattle.std.specs.Prelude.{◌≡◌, ◌⊎◌, ◌++◌, ◌∷◌, [], ℕ, Bool, ◌==◌, ◌&&◌, not, List, map, filter, Some}
use Rattle.jh_cellcfg.specs.declared.config.CellConfig.{CellConfig}
use Rattle.jh_cellcfg.specs.Cells.{is_passive}
use Rattle.jh_call.specs.declared.call.Call.TheVariants.{Destroy}
use Rattle.jh_history.specs.declared.entry.Entry.{Entry}
use Rattle.jh_history.specs.declared.entry.Act.{Act}
use Rattle.jh_history.specs.declared.entry.Act.TheVariants.{Commit, Note}
use Rattle.jh_laws.specs.Moments.{AdmittedMoment, AdmittedSpan, call_before, cells_before}
use Rattle.jh_laws.specs.Pages.{Creates}

-- the entry is the Commit of a create or a destroy of the cell with the id
abbrev pub CommitsChangeOf : AdmittedMoment → ℕ → Type 0
CommitsChangeOf m about = ((config : CellConfig) × (config.id ≡ about) × Creates m config) ⊎ ((call_before m ≡ Some (Destroy about)) × (m.entry.act ≡ Commit))

-- a cell of the configuration is told of a change of the cell with the id: it is another one, and isn't passive
abbrev pub hears_of : ℕ → CellConfig → Bool
hears_of about config = not (config.id == about) && not (is_passive config)

-- the ids of the cells that are told of the change, in order of creation, of those that live besides root just before
-- the entry
abbrev pub told_ids : AdmittedMoment → ℕ → List ℕ
told_ids m about = map (λ (c : CellConfig). c.id) (filter (hears_of about) (cells_before m))

-- the id that the act notes, before these
abbrev pub with_note : Act → List ℕ → List ℕ
with_note (Note id) ids = id ∷ ids
with_note _ ids = ids

-- the ids of the cells that were told by these entries, in order
abbrev pub noted_ids : List Entry → List ℕ
noted_ids [] = []
noted_ids (entry ∷ entries) = with_note entry.act (noted_ids entries)

-- the first entry, with all others behind it
abbrev pub at_first : AdmittedSpan → AdmittedMoment
at_first s = record { image = s.image; form = s.form; before = s.before; entry = s.first; rest = s.between ++ s.last ∷ s.rest; admitted = s.admitted; legal = s.legal }
