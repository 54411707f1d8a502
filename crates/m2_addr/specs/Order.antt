-- The orders of addresses: by kind, then nonce, then ip, then port, as numbers, which is this project's profile; or by
-- kind, then the bytes of the nonce from the lowest, then port, then ip, as Ceph orders their bytes.
use Rattle.std.specs.Prelude.{◌%◌, ◌/◌, Bool}
use Rattle.std.specs.Ordering.{nat_cmp, ordering_then, is_lt}
use Rattle.std.specs.declared.cmp.Ordering.{Ordering}
use Rattle.m2_addr.specs.declared.addr.Addr.{Addr}
use Rattle.m2_addr.specs.declared.addr.AddrKey.{AddrKey}
use Rattle.m2_addr.specs.declared.addr.AddrOrder.{AddrOrder}
use Rattle.m2_addr.specs.declared.addr.AddrOrder.TheVariants.{Numbers, Bytes}

-- ---- as numbers

abbrev pub address_cmp : Addr → Addr → Ordering
address_cmp a b =
    ordering_then (nat_cmp a.kind b.kind)
    (ordering_then (nat_cmp a.nonce b.nonce)
    (ordering_then (nat_cmp a.ip b.ip)
    (nat_cmp a.port b.port)))

abbrev pub is_below : Addr → Addr → Bool
is_below a b = is_lt (address_cmp a b)

-- ---- by their bytes

abbrev pub key_of : Addr → AddrKey
key_of a = record {
  kind = a.kind;
  first = a.nonce % 256;
  second = a.nonce / 256 % 256;
  third = a.nonce / 65536 % 256;
  fourth = a.nonce / 16777216;
  port = a.port;
  ip = a.ip;
}

abbrev pub key_cmp : AddrKey → AddrKey → Ordering
key_cmp a b =
    ordering_then (nat_cmp a.kind b.kind)
    (ordering_then (nat_cmp a.first b.first)
    (ordering_then (nat_cmp a.second b.second)
    (ordering_then (nat_cmp a.third b.third)
    (ordering_then (nat_cmp a.fourth b.fourth)
    (ordering_then (nat_cmp a.port b.port)
    (nat_cmp a.ip b.ip))))))

abbrev pub bytes_cmp : Addr → Addr → Ordering
bytes_cmp a b = key_cmp (key_of a) (key_of b)

-- ---- either

abbrev pub address_cmp_in : AddrOrder → Addr → Addr → Ordering
address_cmp_in Numbers = address_cmp
address_cmp_in Bytes = bytes_cmp

abbrev pub is_below_in : AddrOrder → Addr → Addr → Bool
is_below_in order a b = is_lt (address_cmp_in order a b)
