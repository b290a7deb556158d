-- One item after another.
use Rattle.jh_laws.proofs.RunLemmas.{lead_from_items, items_from_lead, cut_from_items, items_from_cut, items_few}
use Rattle.jh_laws.proofs.items.items_run_until_one_is_cut_short.Goals as goal

pub returns-clause-run : goal.returns-clause-run
returns-clause-run c = λ image form limit cpus before after. (lead_from_items image form limit cpus before after, items_from_lead image form limit cpus before after)

pub returns-clause-cut : goal.returns-clause-cut
returns-clause-cut c = λ image form limit cpus before after. (cut_from_items image form limit cpus before after, items_from_cut image form limit cpus before after)

pub returns-clause-few : goal.returns-clause-few
returns-clause-few c = items_few
