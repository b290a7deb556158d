-- One level of a walk.
use Rattle.std.proofs.Common.{◌≡◌, ℕ, ◌-◌, ◌<◌, ◌≤◌, ◌∙◌, ap, sym, Bool, true, false, Option, List, nat_lt, if◌then◌else◌, [], ◌∷◌, None, zero, suc, arith, refl}
use Rattle.std.proofs.lemmas.Bool.{lt-ltb, le-ltb}
use Rattle.jh_num.specs.declared.address.TheConstants.{ADDRESS_END}
use Rattle.jh_num.specs.declared.steps.Probe.{Probe}
use Rattle.jh_desc.specs.declared.descriptor.Descriptor.{Descriptor}
use Rattle.jh_desc.specs.declared.descriptor.Descriptor.TheVariants.{Invalid, Table, Leaf}
use Rattle.jh_desc.specs.declared.descriptor.Hit.{Hit}
use Rattle.jh_walk.specs.declared.walking.Onward.{Onward}
use Rattle.jh_walk.specs.declared.walking.Onward.TheVariants.{Nowhere, Below}
use Rattle.jh_walk.specs.Private.Onwards.{found_on, onward_of, reads_on}
use Rattle.jh_desc.specs.Descriptors.{read_of}
use Rattle.jh_walk.specs.Walks.{walk_of, walk_on, probes_of, probes_on, descriptor_at}

pub walk_none : (w : ℕ → ℕ) (n t at : ℕ) → n ≡ 0 → walk_of w n t at ≡ None
unfolding walk_of
walk_none w n t at e = rw e refl

pub probes_none : (w : ℕ → ℕ) (n t at : ℕ) → n ≡ 0 → probes_of w n t at ≡ []
unfolding probes_of
probes_none w n t at e = rw e refl

pub walk_more : (w : ℕ → ℕ) (n t at level word : ℕ) → 0 < n → level ≡ 4 - n → word ≡ w (descriptor_at level t at) → walk_of w n t at ≡ walk_on (λ next. walk_of w (n - 1) next at) level at (read_of word level)
unfolding walk_of
walk_more w zero t at level word p e h = elim p [ ]
walk_more w (suc n) t at level word p e h =
    let e' : level ≡ 3 - n = omega arith in
    let d : suc n - 1 ≡ n = omega arith in rw h (rw d (rw e' refl))

pub probes_more : (w : ℕ → ℕ) (n t at level word : ℕ) → 0 < n → level ≡ 4 - n → word ≡ w (descriptor_at level t at) → probes_of w n t at ≡ record { at = descriptor_at level t at; word = word } ∷ probes_on (λ next. probes_of w (n - 1) next at) (read_of word level)
unfolding probes_of
probes_more w zero t at level word p e h = elim p [ ]
probes_more w (suc n) t at level word p e h =
    let e' : level ≡ 3 - n = omega arith in
    let d : suc n - 1 ≡ n = omega arith in rw h (rw d (rw e' refl))

pub below_end : {X : Type 0} (next : ℕ) (x none : X) → next < ADDRESS_END → x ≡ (if nat_lt next ADDRESS_END then x else none)
below_end next x none lt = rw (lt-ltb next ADDRESS_END lt) refl

pub past_end : {X : Type 0} (next : ℕ) (x none : X) → ADDRESS_END ≤ next → none ≡ (if nat_lt next ADDRESS_END then x else none)
past_end next x none le = rw (le-ltb next ADDRESS_END le) refl

found_if : (b : Bool) (on : ℕ → Option Hit) (next : ℕ) → found_on on (if b then Below next else Nowhere) ≡ (if b then on next else None)
found_if true on next = refl
found_if false on next = refl

found_onward : (on : ℕ → Option Hit) (level at : ℕ) (d : Descriptor) → found_on on (onward_of level at d) ≡ walk_on on level at d
found_onward on level at Invalid = refl
found_onward on level at (Leaf out rights device) = refl
found_onward on level at (Table next) = found_if (nat_lt next ADDRESS_END) on next

reads_if : (b : Bool) (on : ℕ → List Probe) (next : ℕ) → reads_on on (if b then Below next else Nowhere) ≡ (if b then on next else [])
reads_if true on next = refl
reads_if false on next = refl

reads_onward : (on : ℕ → List Probe) (level at : ℕ) (d : Descriptor) → reads_on on (onward_of level at d) ≡ probes_on on d
reads_onward on level at Invalid = refl
reads_onward on level at (Leaf out rights device) = refl
reads_onward on level at (Table next) = reads_if (nat_lt next ADDRESS_END) on next

-- what one step leads to is what the walk finds and reads
pub step_found : (w : ℕ → ℕ) (n t at level word : ℕ) (o : Onward) → 0 < n → level ≡ 4 - n → word ≡ w (descriptor_at level t at) → o ≡ onward_of level at (read_of word level) → found_on (λ next. walk_of w (n - 1) next at) o ≡ walk_of w n t at
step_found w n t at level word o p e h is =
    ap (found_on (λ next. walk_of w (n - 1) next at)) is ∙ found_onward (λ next. walk_of w (n - 1) next at) level at (read_of word level) ∙ sym (walk_more w n t at level word p e h)

pub step_reads : (w : ℕ → ℕ) (n t at level word : ℕ) (o : Onward) → 0 < n → level ≡ 4 - n → word ≡ w (descriptor_at level t at) → o ≡ onward_of level at (read_of word level) → record { at = descriptor_at level t at; word = word } ∷ reads_on (λ next. probes_of w (n - 1) next at) o ≡ probes_of w n t at
step_reads w n t at level word o p e h is =
    let first : Probe = record { at = descriptor_at level t at; word = word } in
    ap (λ (l : List Probe). first ∷ l) (ap (reads_on (λ next. probes_of w (n - 1) next at)) is ∙ reads_onward (λ next. probes_of w (n - 1) next at) level at (read_of word level))
    ∙ sym (probes_more w n t at level word p e h)
