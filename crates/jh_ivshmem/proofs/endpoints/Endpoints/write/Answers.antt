-- By the register: the doorbell, the state or another, and the doorbell isn't the state.
use Rattle.std.proofs.Common.{◌≡◌, ◌/◌, ◌%◌, ◌^◌, ◌&&◌, ◌==◌, Bool, true, false, not, ℕ, List, None, Some, if◌then◌else◌, refl, sym, ◌∙◌, ap, inl, inr}
use Rattle.std.proofs.lemmas.Bool.{cases_eq, ne_eqb}
use Rattle.std.proofs.Math.Bool.{and-false}
use Rattle.jh_ivshmem.specs.declared.endpoint.Endpoint.{Endpoint}
use Rattle.jh_ivshmem.specs.declared.spec.EndpointWord.{EndpointWord}
use Rattle.jh_ivshmem.specs.Specs.{is_device, is_concerned, endpoint_word_of}
use Rattle.jh_ivshmem.specs.Registers.{register_written}
use Rattle.jh_ivshmem.specs.Changes.{changed}
use Rattle.jh_ivshmem.specs.Links.{written, endpoint_word_written, rung, state_written, besides}
use Rattle.jh_ivshmem.proofs.BesidesLemmas.{besides_written}
use Rattle.jh_ivshmem.proofs.NamedLemmas.{by_own_name}
use Rattle.jh_ivshmem.proofs.endpoints.Endpoints.write.Goals as goal

-- by the register that is written
at_doorbell : (e : Endpoint) (bar at value : ℕ) (list : List Endpoint) → ((bar == 0) && (at == 0x0c)) ≡ true
    → written e bar at value list ≡ rung e.spec.bdf (value / 2 ^ 16) (value % 2 ^ 16) list
unfolding written
at_doorbell e bar at value list is = rw is refl

at_state : (e : Endpoint) (bar at value : ℕ) (list : List Endpoint) → ((bar == 0) && (at == 0x0c)) ≡ false
    → ((bar == 0) && (at == 0x10)) ≡ true → written e bar at value list ≡ state_written e value list
unfolding written
at_state e bar at value list other is = rw (other, is) refl

at_another : (e : Endpoint) (bar at value : ℕ) (list : List Endpoint) → ((bar == 0) && (at == 0x0c)) ≡ false
    → ((bar == 0) && (at == 0x10)) ≡ false
    → written e bar at value list ≡ changed (is_device e.spec.cell e.spec.device) (register_written bar at value) list
unfolding written
at_another e bar at value list other none = rw (other, none) refl

by_other_register : (e : Endpoint) (bar at value : ℕ) → ((bar == 0) && (at == 0x10)) ≡ false → endpoint_word_written e bar at value ≡ None
unfolding endpoint_word_written
by_other_register e bar at value none = rw none refl

either : (b : Bool) (word : EndpointWord) → (if not b then Some word else None) ≡ (if b then None else Some word)
either true word = refl
either false word = refl

by_state_register : (e : Endpoint) (bar at value : ℕ) → ((bar == 0) && (at == 0x10)) ≡ true
    → endpoint_word_written e bar at value ≡ (if e.state == value then None else Some (endpoint_word_of e.spec value))
unfolding endpoint_word_written
by_state_register e bar at value is = rw is (either (e.state == value) (endpoint_word_of e.spec value))

never : (b : Bool) → (b && false) ≡ true → ⊥
never true h = cc
never false h = cc

doorbell_is_no_state : (bar at : ℕ) → ((bar == 0) && (at == 0x0c)) ≡ true → ((bar == 0) && (at == 0x10)) ≡ false
doorbell_is_no_state bar at is =
    elim (cases_eq at 0x0c) as (λ _. ((bar == 0) && (at == 0x10)) ≡ false) [
      | inl here ↦ rw here (and-false (bar == 0))
      | inr other ↦ absurd (let past = ne_eqb at 0x0c other in let h = rw past at is in never (bar == 0) h)
    ]

pub returns-then-is_doorbell-clause-list : goal.returns-then-is_doorbell-clause-list
returns-then-is_doorbell-clause-list c = λ e named.
    c.ring.ensures.list e named
    ∙ sym (at_doorbell e c.args.bar c.args.at c.args.value c.args.self.now.list (sym c.is_doorbell.ensures ∙ c.if-is_doorbell.true))

pub returns-then-is_doorbell-clause-word : goal.returns-then-is_doorbell-clause-word
returns-then-is_doorbell-clause-word c = λ e named.
    sym (by_other_register e c.args.bar c.args.at c.args.value
    (doorbell_is_no_state c.args.bar c.args.at (sym c.is_doorbell.ensures ∙ c.if-is_doorbell.true)))

pub returns-then-is_state-clause-list : goal.returns-then-is_state-clause-list
returns-then-is_state-clause-list c = λ e named.
    c.set_state.ensures.list e named
    ∙ sym (at_state e c.args.bar c.args.at c.args.value c.args.self.now.list (sym c.is_doorbell.ensures ∙ c.if-is_doorbell.false)
    (sym c.is_state.ensures ∙ c.if-is_state.true))

pub returns-then-is_state-clause-word : goal.returns-then-is_state-clause-word
returns-then-is_state-clause-word c = λ e named.
    c.set_state.ensures.word e named
    ∙ sym (by_state_register e c.args.bar c.args.at c.args.value (sym c.is_state.ensures ∙ c.if-is_state.true))

pub returns-else-is_state-clause-list : goal.returns-else-is_state-clause-list
returns-else-is_state-clause-list c = λ e named.
    by_own_name (λ cell device. c.change.new.self.list
    ≡ changed (is_device cell device) (register_written c.args.bar c.args.at c.args.value) c.args.self.now.list)
    c.args.cell c.args.device c.args.self.now.list e named c.change.ensures.list
    ∙ sym (at_another e c.args.bar c.args.at c.args.value c.args.self.now.list
    (sym c.is_doorbell.ensures ∙ c.if-is_doorbell.false) (sym c.is_state.ensures ∙ c.if-is_state.false))

pub returns-else-is_state-clause-word : goal.returns-else-is_state-clause-word
returns-else-is_state-clause-word c = λ e named.
    sym (by_other_register e c.args.bar c.args.at c.args.value (sym c.is_state.ensures ∙ c.if-is_state.false))

pub returns-then-is_doorbell-clause-others : goal.returns-then-is_doorbell-clause-others
returns-then-is_doorbell-clause-others c = λ e named.
    ap (besides (is_concerned e.spec)) (returns-then-is_doorbell-clause-list c e named)
    ∙ besides_written e c.args.bar c.args.at c.args.value c.args.self.now.list

pub returns-then-is_state-clause-others : goal.returns-then-is_state-clause-others
returns-then-is_state-clause-others c = λ e named.
    ap (besides (is_concerned e.spec)) (returns-then-is_state-clause-list c e named)
    ∙ besides_written e c.args.bar c.args.at c.args.value c.args.self.now.list

pub returns-else-is_state-clause-others : goal.returns-else-is_state-clause-others
returns-else-is_state-clause-others c = λ e named.
    ap (besides (is_concerned e.spec)) (returns-else-is_state-clause-list c e named)
    ∙ besides_written e c.args.bar c.args.at c.args.value c.args.self.now.list
