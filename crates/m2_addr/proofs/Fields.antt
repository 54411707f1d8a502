-- An address is its four numbers.
use Rattle.std.proofs.Common.{◌≡◌, ℕ, refl}
use Rattle.m2_addr.specs.declared.addr.Addr.{Addr}

abbrev pub address : ℕ → ℕ → ℕ → ℕ → Addr
address kind nonce ip port = record { kind = kind; nonce = nonce; ip = ip; port = port }

pub same_fields : (a b : Addr) → a.kind ≡ b.kind → a.nonce ≡ b.nonce → a.ip ≡ b.ip → a.port ≡ b.port → a ≡ b
same_fields a b k n i p =
    let parts : address a.kind a.nonce a.ip a.port ≡ address b.kind b.nonce b.ip b.port = rw k (rw n (rw i (rw p refl))) in
    parts
