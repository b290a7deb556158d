-- A write that fails or reaches no device and any act but a write and an interrupt changes no device.
use Rattle.std.proofs.Common.{◌≡◌, ◌∙◌, true, false, Option, refl, sym, ap}
use Rattle.jh_ivshmem.specs.declared.spec.EndpointWord.{EndpointWord}
use Rattle.jh_history.specs.declared.entry.Act.{Act}
use Rattle.jh_history.specs.declared.entry.Act.TheVariants.{Write}
use Rattle.jh_history.specs.Access.{with_endpoint_word_if}
use Rattle.jh_board.specs.Pages.{byte_of}
use Rattle.jh_board.specs.Private.Steps.{devices_held, endpoint_word_after, endpoints_acted_by}
use Rattle.jh_board.proofs.ActedLemmas.{other_acts}
use Rattle.jh_board.proofs.TablesLemmas.{tables_same}
use Rattle.jh_board.proofs.steps.make_devices.Goals as goal

pub returns-then-not-ok-clause-bytes : goal.returns-then-not-ok-clause-bytes
returns-then-not-ok-clause-bytes c = λ q.
    let held = c.args.held.now in
    let entry = c.args.entry.now in
    let is : entry.act ≡ Write c.in-Write.width c.in-Write.at c.in-Write.value false = c.in-Write.is ∙ ap (Write c.in-Write.width c.in-Write.at c.in-Write.value) c.if-not-ok.true in
    ap (λ (act : Act). with_endpoint_word_if (endpoint_word_after (devices_held c.args.image.now held entry.cell) act c.args.reach.now) (byte_of held.memory) q) (sym is)

pub returns-then-not-is_of_device-clause-bytes : goal.returns-then-not-is_of_device-clause-bytes
returns-then-not-is_of_device-clause-bytes c = λ q.
    let held = c.args.held.now in
    let entry = c.args.entry.now in
    let devices = devices_held c.args.image.now held entry.cell in
    let is : entry.act ≡ Write c.in-Write.width c.in-Write.at c.in-Write.value true = c.in-Write.is ∙ ap (Write c.in-Write.width c.in-Write.at c.in-Write.value) c.if-not-ok.false in
    sym (ap (λ (act : Act). with_endpoint_word_if (endpoint_word_after devices act c.args.reach.now) (byte_of held.memory) q) is
    ∙ ap (λ (word : Option EndpointWord). with_endpoint_word_if word (byte_of held.memory) q) (c.is_of_device.ensures.word c.if-not-is_of_device.true devices c.in-Write.value))

pub returns-then-not-is_of_device-clause-list : goal.returns-then-not-is_of_device-clause-list
returns-then-not-is_of_device-clause-list c =
    let held = c.args.held.now in
    let entry = c.args.entry.now in
    let devices = devices_held c.args.image.now held entry.cell in
    let is : entry.act ≡ Write c.in-Write.width c.in-Write.at c.in-Write.value true = c.in-Write.is ∙ ap (Write c.in-Write.width c.in-Write.at c.in-Write.value) c.if-not-ok.false in
    sym (ap (λ (act : Act). endpoints_acted_by devices act c.args.reach.now) is ∙ c.is_of_device.ensures.list c.if-not-is_of_device.true devices c.in-Write.value)

pub returns-in-Irq-clause-bytes : goal.returns-in-Irq-clause-bytes
returns-in-Irq-clause-bytes c = λ q.
    let held = c.args.held.now in
    let entry = c.args.entry.now in
    ap (λ (act : Act). with_endpoint_word_if (endpoint_word_after (devices_held c.args.image.now held entry.cell) act c.args.reach.now) (byte_of held.memory) q) (sym c.in-Irq.is)

pub returns-in_default : goal.returns-in_default
returns-in_default c =
    let held = c.args.held.now in
    let entry = c.args.entry.now in
    let none = other_acts (devices_held c.args.image.now held entry.cell) entry.act c.args.reach.now c.in_default.not-Write c.in_default.not-Irq in record {
      bytes = λ q. ap (λ (word : Option EndpointWord). with_endpoint_word_if word (byte_of held.memory) q) (sym none.0);
      list = sym none.1;
      spare = refl;
      others = record { form = refl; cpus = refl; cells = refl; programs = refl; call = refl; coming_regions = refl; pages = λ q h. h; tables = tables_same held.memory };
    }
