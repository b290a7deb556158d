-- A vector that is taken changes the endpoint of its device alone.
use Rattle.std.proofs.Common.{ℕ, Option, sym, ◌∙◌, ap}
use Rattle.jh_ivshmem.specs.Links.{taken_of}
use Rattle.jh_ivshmem.proofs.BesidesLemmas.{others_taken}
use Rattle.jh_ivshmem.proofs.endpoints.Endpoints.take.Goals as goal

pub returns-in-Some-clause-others : goal.returns-in-Some-clause-others
returns-in-Some-clause-others c =
    others_taken c.args.cell c.pending-next.result c.args.self.now.list c.change.new.self.list
    (c.change.ensures.list ∙ ap (λ (next : Option (ℕ × ℕ)). taken_of c.args.cell next c.args.self.now.list) (sym c.in-Some.is))
