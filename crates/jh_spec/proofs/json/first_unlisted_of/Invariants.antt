-- The first unlisted name of the keys that are left is the first of all.
use Rattle.std.proofs.Common.{◌≡◌, map}
use Rattle.serde_json.specs.View.{members_view}
use Rattle.jh_spec.specs.Json.{first_unlisted_of}
use Rattle.jh_spec.proofs.Unlisted.{key_unlisted}
use Rattle.jh_spec.proofs.json.first_unlisted_of.Given as goal

abbrev pub invariant-loop-name : goal.invariant-loop-name
invariant-loop-name l = key_unlisted (map (λ listed. listed.now) l.names) l.name-iterator ≡ first_unlisted_of (map (λ listed. listed.now) l.names) (members_view l.fn.members.entries)
