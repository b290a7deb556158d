-- An endpoint is apart from the new one exactly where its key is.
use Rattle.std.proofs.Common.{◌≡◌, get_or, sym, ◌∙◌, ap}
use Rattle.std.specs.List.{list_all}
use Rattle.std.proofs.lemmas.List.Folds.{list_all-map}
use Rattle.std.proofs.lemmas.List.Sums.{AllPass-from_list_all, list_all-from_AllPass}
use Rattle.jh_ivshmem.specs.declared.endpoint.Endpoint.{Endpoint}
use Rattle.jh_ivshmem.specs.Keys.{key_of}
use Rattle.jh_ivshmem.specs.Private.Keys.{is_key_apart}
use Rattle.jh_ivshmem.specs.EndpointsView.{EndpointsView}
use Rattle.jh_ivshmem.proofs.ApartLemmas.{apart_of_key, key_of_apart}
use Rattle.jh_ivshmem.proofs.endpoints.Endpoints.is_free.Goals as goal

told : (c : goal.After-all_apart) → c.all_apart.result ≡ list_all (λ (e : Endpoint). is_key_apart c.args.s.now (key_of e)) c.args.self.now.list
told c =
    c.all_apart.ensures
    ∙ ap (list_all (is_key_apart c.args.s.now)) (c.deref.ensures.value ∙ c.self.invariant.keys)
    ∙ list_all-map (is_key_apart c.args.s.now) key_of c.self.inside.endpoints.items
    ∙ ap (λ (seen : EndpointsView). list_all (λ (e : Endpoint). is_key_apart c.args.s.now (key_of e)) seen.list) c.self.view_is

pub returns : goal.returns
returns c = (
  (λ yes k d within. apart_of_key (get_or c.args.self.now.list k d) c.args.s.now
      (AllPass-from_list_all (λ (e : Endpoint). is_key_apart c.args.s.now (key_of e)) c.args.self.now.list
      (sym (told c) ∙ yes) k d within)),
  (λ all. told c ∙ list_all-from_AllPass (λ (e : Endpoint). is_key_apart c.args.s.now (key_of e)) c.args.self.now.list
      (λ k d within. key_of_apart (get_or c.args.self.now.list k d) c.args.s.now (all k d within))),
)
