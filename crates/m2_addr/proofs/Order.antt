-- Both orders of addresses are total.
use Rattle.std.proofs.Common.{◌≡◌, ℕ, ◌%◌, ◌/◌, true, false, refl, sym, arith}
use Rattle.std.specs.Cmp.{IsTotalOrder}
use Rattle.std.specs.Ordering.{nat_cmp, ordering_then}
use Rattle.std.specs.declared.cmp.Ordering.{Ordering}
use Rattle.std.specs.declared.cmp.Ordering.TheVariants.{Less, Equal, Greater}
use Rattle.std.proofs.lemmas.Cmp.{nat_cmp_total, on_total, then_total, ranked}
use Rattle.m2_addr.specs.declared.addr.Addr.{Addr}
use Rattle.m2_addr.specs.declared.addr.AddrOrder.TheVariants.{Numbers, Bytes}
use Rattle.m2_addr.specs.Order.{address_cmp, bytes_cmp, is_below_in}
use Rattle.m2_addr.specs.Laws.{AreOrdered}
use Rattle.m2_addr.proofs.Fields.{address, same_fields}

-- ---- as numbers

address_total : IsTotalOrder address_cmp
address_total =
    then_total (on_total (λ (a : Addr). a.kind) nat_cmp_total)
    (then_total (on_total (λ (a : Addr). a.nonce) nat_cmp_total)
    (then_total (on_total (λ (a : Addr). a.ip) nat_cmp_total)
    (on_total (λ (a : Addr). a.port) nat_cmp_total)))

equal_first : (o p : Ordering) → ordering_then o p ≡ Equal → o ≡ Equal
equal_first Less p h = h
equal_first Equal p h = refl
equal_first Greater p h = h

equal_second : (o p : Ordering) → ordering_then o p ≡ Equal → p ≡ Equal
equal_second Less p h = cc
equal_second Equal p h = h
equal_second Greater p h = cc

equal_number : (x y : ℕ) → nat_cmp x y ≡ Equal → x ≡ y
equal_number x y h = ranked x y Equal (sym h)

same_address : (a b : Addr) → address_cmp a b ≡ Equal → a ≡ b
same_address a b h =
    let after_kind = equal_second (nat_cmp a.kind b.kind) _ h in
    let after_nonce = equal_second (nat_cmp a.nonce b.nonce) _ after_kind in
    let kind = equal_number a.kind b.kind (equal_first _ _ h) in
    let nonce = equal_number a.nonce b.nonce (equal_first _ _ after_kind) in
    let ip = equal_number a.ip b.ip (equal_first _ _ after_nonce) in
    let port = equal_number a.port b.port (equal_second (nat_cmp a.ip b.ip) _ after_nonce) in
    same_fields a b kind nonce ip port

-- ---- by their bytes

bytes_total : IsTotalOrder bytes_cmp
bytes_total =
    then_total (on_total (λ (a : Addr). a.kind) nat_cmp_total)
    (then_total (on_total (λ (a : Addr). a.nonce % 256) nat_cmp_total)
    (then_total (on_total (λ (a : Addr). a.nonce / 256 % 256) nat_cmp_total)
    (then_total (on_total (λ (a : Addr). a.nonce / 65536 % 256) nat_cmp_total)
    (then_total (on_total (λ (a : Addr). a.nonce / 16777216) nat_cmp_total)
    (then_total (on_total (λ (a : Addr). a.port) nat_cmp_total)
    (on_total (λ (a : Addr). a.ip) nat_cmp_total))))))

-- a number by its four digits, of which the last has no bound
same_number : (m n : ℕ) → m % 256 ≡ n % 256 → m / 256 % 256 ≡ n / 256 % 256 → m / 65536 % 256 ≡ n / 65536 % 256 → m / 16777216 ≡ n / 16777216 → m ≡ n
same_number m n p q r s = omega (arith, p, q, r, s)

same_bytes : (a b : Addr) → bytes_cmp a b ≡ Equal → a ≡ b
same_bytes a b h =
    let after_kind = equal_second (nat_cmp a.kind b.kind) _ h in
    let after_first = equal_second (nat_cmp (a.nonce % 256) (b.nonce % 256)) _ after_kind in
    let after_second = equal_second (nat_cmp (a.nonce / 256 % 256) (b.nonce / 256 % 256)) _ after_first in
    let after_third = equal_second (nat_cmp (a.nonce / 65536 % 256) (b.nonce / 65536 % 256)) _ after_second in
    let after_nonce = equal_second (nat_cmp (a.nonce / 16777216) (b.nonce / 16777216)) _ after_third in
    let kind = equal_number a.kind b.kind (equal_first _ _ h) in
    let first = equal_number (a.nonce % 256) (b.nonce % 256) (equal_first _ _ after_kind) in
    let second = equal_number (a.nonce / 256 % 256) (b.nonce / 256 % 256) (equal_first _ _ after_first) in
    let third = equal_number (a.nonce / 65536 % 256) (b.nonce / 65536 % 256) (equal_first _ _ after_second) in
    let fourth = equal_number (a.nonce / 16777216) (b.nonce / 16777216) (equal_first _ _ after_third) in
    let nonce = same_number a.nonce b.nonce first second third fourth in
    let port = equal_number a.port b.port (equal_first _ _ after_nonce) in
    let ip = equal_number a.ip b.ip (equal_second (nat_cmp a.port b.port) _ after_nonce) in
    same_fields a b kind nonce ip port

-- ---- either

pub addresses_ordered : AreOrdered
addresses_ordered Numbers = record { total = address_total; same = same_address }
addresses_ordered Bytes = record { total = bytes_total; same = same_bytes }

-- A nonce of 240 is above one of 29665 by its bytes, of which the lowest are 240 and 225, and below it as a number.
bytes_above : is_below_in Bytes (address 2 29665 1 1) (address 2 240 1 1) ≡ true
bytes_above = refl

numbers_below : is_below_in Numbers (address 2 29665 1 1) (address 2 240 1 1) ≡ false
numbers_below = refl
