-- Tests of addresses and flags say what they test.
use Rattle.std.proofs.Common.{◌≡◌, ◌≢◌, Bool, true, false, ◌==◌, ◌&&◌, refl, sym, ap, ◌∙◌}
use Rattle.std.proofs.lemmas.Bool.{and_from, and_parts, eqb-true, eq-eqb, false_from_ne_true}
use Rattle.m2_addr.specs.declared.addr.Addr.{Addr}
use Rattle.m2_addr.proofs.Fields.{same_fields}
use Rattle.m2_handshake.specs.Asks.{same_addr}
use Rattle.m2_handshake.specs.Ident.{same_flag}

pub same_self : (a : Addr) → same_addr a a ≡ true
same_self a =
    let two = and_from (a.kind == a.kind) (a.nonce == a.nonce) (eq-eqb a.kind a.kind refl) (eq-eqb a.nonce a.nonce refl) in
    let three = and_from ((a.kind == a.kind) && (a.nonce == a.nonce)) (a.ip == a.ip) two (eq-eqb a.ip a.ip refl) in
    and_from (((a.kind == a.kind) && (a.nonce == a.nonce)) && (a.ip == a.ip)) (a.port == a.port) three (eq-eqb a.port a.port refl)

pub same_is : (a b : Addr) → a ≡ b → same_addr a b ≡ true
same_is a b e = ap (same_addr a) (sym e) ∙ same_self a

pub same_means : (a b : Addr) → same_addr a b ≡ true → a ≡ b
same_means a b e =
    let all = and_parts (((a.kind == b.kind) && (a.nonce == b.nonce)) && (a.ip == b.ip)) (a.port == b.port) e in
    let three = and_parts ((a.kind == b.kind) && (a.nonce == b.nonce)) (a.ip == b.ip) all.0 in
    let two = and_parts (a.kind == b.kind) (a.nonce == b.nonce) three.0 in
    same_fields a b (eqb-true a.kind b.kind two.0) (eqb-true a.nonce b.nonce two.1) (eqb-true a.ip b.ip three.1) (eqb-true a.port b.port all.1)

pub other_isnt : (a b : Addr) → a ≢ b → same_addr a b ≡ false
other_isnt a b n = false_from_ne_true (same_addr a b) (λ e. n (same_means a b e))

pub flag_is : (a b : Bool) → a ≡ b → same_flag a b ≡ true
flag_is true true e = refl
flag_is true false e = absurd cc
flag_is false true e = absurd cc
flag_is false false e = refl

pub flag_isnt : (a b : Bool) → a ≢ b → same_flag a b ≡ false
flag_isnt true true n = absurd (n refl)
flag_isnt true false n = refl
flag_isnt false true n = refl
flag_isnt false false n = absurd (n refl)
