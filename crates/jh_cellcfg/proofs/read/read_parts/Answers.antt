-- By the counts the parts take all of the bytes, so that nothing is left behind the last.
use Rattle.std.proofs.Common.{◌≡◌, [], length, length-append, refl, ◌+◌, arith}
use Rattle.std.proofs.lemmas.List.{append-nil, nil_from_length}
use Rattle.jh_cellcfg.proofs.read.read_parts.Goals as goal

pub returns-clause-parts : goal.returns-clause-parts
returns-clause-parts c =
    let cpu_set : length c.args.parts.now ≡ c.args.header.counts.cpu_set + length c.bytes.new.self.rest.now
    = rw c.bytes.ensures.taken (omega (arith, length-append c.bytes.result.now c.bytes.new.self.rest.now, c.bytes.ensures.count)) in
    let end = c.read_list-7.new.reader.rest.now in
    let none : length end ≡ 0 = omega (arith, cpu_set, c.requires.size, c.in_ok-memory_regions.ensures.left, c.in_ok-cache_regions.ensures.left, c.in_ok-irqchips.ensures.left, c.in_ok-pio_regions.ensures.left, c.in_ok-pci_devices.ensures.left, c.in_ok-pci_caps.ensures.left, c.in_ok-stream_ids.ensures.left) in
    let nothing : end ≡ [] = nil_from_length end none in
    rw (c.from_vec.ensures, c.in_ok-cpu_set.ensures.items, c.bytes.ensures.taken, c.in_ok-memory_regions.ensures.taken, c.in_ok-cache_regions.ensures.taken, c.in_ok-irqchips.ensures.taken, c.in_ok-pio_regions.ensures.taken, c.in_ok-pci_devices.ensures.taken, c.in_ok-pci_caps.ensures.taken, c.in_ok-stream_ids.ensures.taken, nothing, append-nil) refl
