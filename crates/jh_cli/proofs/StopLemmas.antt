-- Where a call ends at a file.
use Rattle.std.proofs.Common.{◌≡◌, ◌≤◌, List, ℕ, inl, inr, Result, Ok, Err, Option, None, Some, sym, ◌∙◌, ap, subst, arith}
use Rattle.std.specs.Prelude.{IfSome, IsErrAnd}
use Rattle.jh_outside.specs.Count.{Rose}
use Rattle.jh_outside.specs.Reads.{HandsOut}
use Rattle.jh_cli.specs.declared.ending.Ending.{Ending}
use Rattle.jh_cli.specs.declared.status.Status.TheVariants.{Refused}
use Rattle.jh_cli.specs.declared.ending.CallFault.{CallFault}
use Rattle.jh_cli.specs.declared.ending.CallFault.TheVariants.{Ended, NoMemory}
use Rattle.jh_cli.specs.Lines.{refusal_line}
use Rattle.jh_image.specs.Files.{Contents}
use Rattle.jh_cli.specs.Reading.{Reply, FileKind, SpellsAt, EndsAt, Reads, IsCountedFault}
use Rattle.jh_cli.specs.Private.Endings.{OnEnded, OnEnding, reply_of}

-- what holds of the reply of a call that ended carries over
pub on_ended : (P Q : Reply → Type 0) (stop : CallFault) → ((reply : Reply) → P reply → Q reply) → OnEnded stop P → OnEnded stop Q
on_ended P Q (Ended ending) f h = f (reply_of ending) h
on_ended P Q NoMemory f h = tt

-- of two facts of the reply of a call that ended a third
pub both_ended : (P Q R : Reply → Type 0) (stop : CallFault) → ((reply : Reply) → P reply → Q reply → R reply) → OnEnded stop P → OnEnded stop Q → OnEnded stop R
both_ended P Q R (Ended ending) f h k = f (reply_of ending) h k
both_ended P Q R NoMemory f h k = tt

-- bytes that are refused stop the call
pub refuses : (most : ℕ) (contents : Contents) (name : List ℕ) (Why : List ℕ → List ℕ → Type 0) (bytes words : List ℕ) → HandsOut (contents name) most bytes → Why bytes words
    → (stop : CallFault) → OnEnded stop (λ reply. reply ≡ record { status = Refused; text = refusal_line name words }) → OnEnded stop (EndsAt most contents name Why)
refuses most contents name Why bytes words handed why stop h =
    let P : Reply → Type 0 = λ reply. reply ≡ record { status = Refused; text = refusal_line name words } in
    on_ended P (EndsAt most contents name Why) stop (λ reply told. inr (record { bytes = bytes; handed = handed; words = words; why = why; told = told })) h

-- what holds of a reply carries over
pub on_ending : (P Q : Reply → Type 0) (r : Result Ending CallFault) → ((reply : Reply) → P reply → Q reply) → OnEnding r P → OnEnding r Q
on_ending P Q (Ok ending) f h = f (reply_of ending) h
on_ending P Q (Err stop) f h = on_ended P Q stop f h

-- what holds of the reply of a stop holds where it is passed up
pub told_up : (P : Reply → Type 0) (r : Result Ending CallFault) (stop : CallFault) → IsErrAnd r (λ passed. passed ≡ stop) → OnEnded stop P → OnEnding r P
told_up P (Ok ending) stop is h = absurd is
told_up P (Err passed) stop is h = subst (λ (s : CallFault). OnEnded s P) (sym is) h

-- what follows a file that was read
pub goes_on : {A : Type 0} (contents : Contents) (name : List ℕ) (kind : FileKind A) (next : A → Reply → Type 0) (value : A) → SpellsAt kind.most contents name kind.Form value
    → (r : Result Ending CallFault) → OnEnding r (next value) → OnEnding r (Reads contents name kind next)
goes_on contents name kind next value spells r h = on_ending (next value) (Reads contents name kind next) r (λ reply rest. inr (value, spells, rest)) h

-- the count that rose behind a read rose in both
rose_behind : (old mid new : ℕ) → old ≤ mid → Rose mid new → Rose old new
rose_behind old mid new le (inl more) = inl (omega arith)
rose_behind old mid new le (inr full) = inr full

pub counted_behind : (old mid new : ℕ) (failed : List ℕ) → old ≤ mid → (r : Result Ending CallFault) → OnEnding r (IsCountedFault mid new failed) → OnEnding r (IsCountedFault old new failed)
counted_behind old mid new failed le r h =
    on_ending (IsCountedFault mid new failed) (IsCountedFault old new failed) r (λ reply counted is. let both = counted is in (rose_behind old mid new le both.0, both.1)) h

abbrev pub refusal_reply : List ℕ → List ℕ → Reply
refusal_reply name words = record { status = Refused; text = refusal_line name words }

-- the fault's text is that of the words that it displays
pub refused_by : (name words : List ℕ) (output : Option (List ℕ)) → IfSome output (λ text. words ≡ text)
    → (stop : CallFault) → OnEnded stop (λ reply. reply ≡ record { status = Refused; text = refusal_line name words })
    → IfSome output (λ text. OnEnded stop (λ reply. reply ≡ record { status = Refused; text = refusal_line name text }))
refused_by name words None is stop h = tt
refused_by name words (Some text) is stop h =
    on_ended (λ reply. reply ≡ record { status = Refused; text = refusal_line name words }) (λ reply. reply ≡ record { status = Refused; text = refusal_line name text }) stop
    (λ reply told. told ∙ ap (refusal_reply name) is) h
