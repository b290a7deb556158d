-- The others are told of state 0 and the endpoint is cleared: all are among those concerned.
use Rattle.std.proofs.Common.{◌≡◌, ◌∙◌, ap}
use Rattle.jh_ivshmem.specs.Specs.{is_device, is_concerned}
use Rattle.jh_ivshmem.specs.Endpoint.{cleared}
use Rattle.jh_ivshmem.specs.Changes.{changed}
use Rattle.jh_ivshmem.specs.Links.{told_of, besides}
use Rattle.jh_ivshmem.proofs.BesidesLemmas.{besides_reset}
use Rattle.jh_ivshmem.proofs.NamedLemmas.{by_own_name}
use Rattle.jh_ivshmem.proofs.endpoints.Endpoints.reset.Goals as goal

pub returns-clause-list : goal.returns-clause-list
returns-clause-list c = λ e named.
    by_own_name (λ cell device. c.change.new.self.list ≡ changed (is_device cell device) cleared (told_of e 0 c.args.self.now.list))
    c.args.cell c.args.device c.args.self.now.list e named
    (c.change.ensures.list ∙ ap (changed (is_device c.args.cell c.args.device) cleared) (c.tell-word.ensures.list e named))

pub returns-clause-others : goal.returns-clause-others
returns-clause-others c = λ e named. ap (besides (is_concerned e.spec)) (returns-clause-list c e named) ∙ besides_reset e c.args.self.now.list
