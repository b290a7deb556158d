-- What no change touches, and what changes leave of all endpoints.
use Rattle.std.proofs.Common.{ℕ, ◌≡◌, ◌/◌, ◌==◌, Bool, true, false, cond, length, refl, sym, ◌∙◌, subst}
use Rattle.std.proofs.lemmas.List.{length-set}
use Rattle.jh_ivshmem.specs.declared.change.EndpointChange.{EndpointChange}
use Rattle.jh_ivshmem.specs.declared.change.EndpointChange.TheVariants.{Raise, Write, State, Reset, Take}
use Rattle.jh_ivshmem.specs.declared.endpoint.Endpoint.{Endpoint}
use Rattle.jh_ivshmem.specs.Endpoint.{raised, taken, cleared, is_open}
use Rattle.jh_ivshmem.specs.Registers.{register_written, is_in_table}
use Rattle.jh_ivshmem.specs.Private.Changes.{after}
use Rattle.jh_ivshmem.specs.Specs.{IsInItsLimits}
use Rattle.jh_ivshmem.specs.Keys.{IsWholeEndpoint}

-- the endpoint keeps its spec and the number of its vectors
pub record Keeps (old new : Endpoint) : Type 0 where
  pub spec : new.spec ≡ old.spec
  pub vectors : length new.vectors ≡ length old.vectors

keeps_all : (e : Endpoint) → Keeps e e
keeps_all e = record { spec = refl; vectors = refl }

-- either of two that do
keeps_either : (b : Bool) (old one other : Endpoint) → Keeps old one → Keeps old other → Keeps old (cond b one other)
keeps_either true old one other h g = h
keeps_either false old one other h g = g

pub raised_keeps : (v : ℕ) (e : Endpoint) → Keeps e (raised v e)
unfolding raised
raised_keeps v e = keeps_either (is_open e v) e _ e (record { spec = refl; vectors = length-set e.vectors v _ }) (keeps_all e)

written_keeps : (bar at value : ℕ) (e : Endpoint) → Keeps e (register_written bar at value e)
unfolding register_written
written_keeps bar at value e =
    keeps_either (bar == 0) e _ _
    (keeps_either (at == 0x08) e _ e (record { spec = refl; vectors = refl }) (keeps_all e))
    (keeps_either (is_in_table e at) e _ e (record { spec = refl; vectors = length-set e.vectors (at / 16) _ }) (keeps_all e))

pub after_keeps : (change : EndpointChange) (e : Endpoint) → length e.vectors ≡ 16 → Keeps e (after change e)
unfolding taken cleared
after_keeps (Raise v) e full = raised_keeps v e
after_keeps (Write bar at value) e full = written_keeps bar at value e
after_keeps (State value) e full = record { spec = refl; vectors = refl }
after_keeps Reset e full = record { spec = refl; vectors = sym full }
after_keeps (Take v) e full = record { spec = refl; vectors = length-set e.vectors v _ }

pub after_sound : (change : EndpointChange) (e : Endpoint) → IsWholeEndpoint e → IsWholeEndpoint (after change e)
after_sound change e sound =
    let keeps = after_keeps change e sound.vectors in
    record {
      vectors = keeps.vectors ∙ sound.vectors;
      within = subst IsInItsLimits (sym keeps.spec) sound.within;
    }

-- each change keeps the spec
pub raised_spec : (v : ℕ) (e : Endpoint) → (raised v e).spec ≡ e.spec
raised_spec v e = (raised_keeps v e).spec

pub register_written_spec : (bar at value : ℕ) (e : Endpoint) → (register_written bar at value e).spec ≡ e.spec
register_written_spec bar at value e = (written_keeps bar at value e).spec

pub taken_spec : (v : ℕ) (e : Endpoint) → (taken v e).spec ≡ e.spec
unfolding taken
taken_spec v e = refl

pub cleared_spec : (e : Endpoint) → (cleared e).spec ≡ e.spec
unfolding cleared
cleared_spec e = refl
