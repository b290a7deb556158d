-- What the slow plain program reads for root.
use Rattle.std.proofs.Common.{◌≡◌, ℕ, List, Option, ap, sym, ◌∙◌}
use Rattle.std.specs.Prelude.{option_map}
use Rattle.jh_cellcfg.specs.declared.live.Live.{Live}
use Rattle.jh_script.specs.declared.image.Image.{Image}
use Rattle.jh_history.specs.declared.place.Place.{Place}
use Rattle.jh_history.specs.declared.access.Access.TheVariants.{Read}
use Rattle.jh_history.specs.Access.{reach_by, memory_read}
use Rattle.jh_history.specs.Facts.{Facts}
use Rattle.jh_history.specs.Grants.{granted_in, granted, is_closed_to}
use Rattle.jh_history.specs.Lives.{regions_in}
use Rattle.jh_history.specs.Private.PlainView.{PlainView, Represents, HasSoundCells, last_byte}
use Rattle.jh_history.proofs.FactsLemmas.{same_function}
use Rattle.jh_history.proofs.GrantedLemmas.{regions_within}
use Rattle.jh_history.proofs.ReadLemmas.{read_one, granted_beyond}

-- the byte that root reads at the address, where it may
abbrev pub read_in : PlainView → ℕ → Option ℕ
read_in p at = memory_read (last_byte p.image p.bytes) (reach_by (granted_in p.image p.cells p.image.system.root.id Read) at 1)

pub plain_reads : (p : PlainView) (i : Image) (f : Facts) (at : ℕ) → HasSoundCells p.image p.cells → Represents p i f → read_in p at ≡ option_map f.byte (granted i f i.system.root.id Read at)
plain_reads p i f at fit stands =
    let id = p.image.system.root.id in
    read_one (last_byte p.image p.bytes) (granted_in p.image p.cells id Read) at (λ a le. granted_beyond id (regions_in p.image p.cells id) (is_closed_to p.image p.cells id) a (regions_within p.image p.cells id fit.sound.clean) le)
    ∙ ap (λ (x : Image). option_map (last_byte x p.bytes) (granted_in x p.cells x.system.root.id Read at)) (sym stands.same)
    ∙ ap (λ (lives : List Live). option_map (last_byte i p.bytes) (granted_in i lives i.system.root.id Read at)) (sym stands.cells)
    ∙ ap (λ (byte : Place → ℕ). option_map byte (granted i f i.system.root.id Read at)) (same_function (last_byte i p.bytes) f.byte (λ q. sym (stands.bytes q)))
