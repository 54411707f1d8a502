use Rattle.std.proofs.Common.{◌≡◌, ◌++◌, map, take}
use Rattle.m2_frame_facts.specs.Value.{more_texts, place_of, quoted_place}
use Rattle.m2_frame_facts.proofs.value.put_more_addresses.Given as goal

abbrev pub invariant-addresses : goal.invariant-addresses
invariant-addresses l = l.out.bytes ≡ l.fn.out.bytes ++ more_texts (quoted_place l.style) (map place_of (take l.address-index l.addresses))
