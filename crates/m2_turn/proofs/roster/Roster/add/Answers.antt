use Rattle.std.proofs.Common.{◌≡◌, Bool, true, false, ◌&&◌, ◌||◌, ◌==◌, List, ◌++◌, ◌∷◌, [], OnOk, if◌then◌else◌, ap, refl, subst, sym, ◌∙◌}
use Rattle.std.specs.List.{list_any}
use Rattle.m2_addr.specs.declared.addr.Addr.{Addr}
use Rattle.m2_addr.specs.contracts.addr.AddrPartialEq.TheImpl.{eq-value}
use Rattle.m2_handshake.specs.Asks.{same_addr}
use Rattle.m2_turn.proofs.roster.Roster.add.Goals as goal
use Rattle.m2_turn.proofs.roster.Roster.add.Goals.{in-Ok, in-Err}

together : (p q r : Bool) → ((p && q) && r) ≡ (p && (q && r))
together true q r = refl
together false q r = refl

-- addresses are compared field by field, from either side
compared : (a b : Addr) → eq-value.it a b ≡ same_addr a b
compared a b =
    let kind = a.kind == b.kind in
    let nonce = a.nonce == b.nonce in
    let ip = a.ip == b.ip in
    let port = a.port == b.port in
    sym (together (kind && nonce) ip port ∙ together kind nonce (ip && port))

compared_in : (a : Addr) (all : List Addr) → list_any (eq-value.it a) all ≡ list_any (same_addr a) all
compared_in a [] = refl
compared_in a (b ∷ all) = ap (λ t. t || list_any (eq-value.it a) all) (compared a b) ∙ ap (λ t. same_addr a b || t) (compared_in a all)

pub returns-clause-ok : goal.returns-clause-ok
returns-clause-ok c = elim c.match-insert.branch [
  | in-Ok w ↦ subst (λ r. OnOk r (c.insert.new.self.keys ≡ c.args.self.now ++ c.args.peer ∷ [])) (sym w.result-is)
      (subst (λ old. c.insert.new.self.keys ≡ old ++ c.args.peer ∷ []) c.self.view_is
      (w.in-Ok.ensures.keys
      ∙ ap (λ b. if b then c.self.inside.peers.keys else c.self.inside.peers.keys ++ c.args.peer ∷ [])
      (compared_in c.args.peer c.self.inside.peers.keys ∙ ap (list_any (same_addr c.args.peer)) c.self.view_is ∙ c.requires)))
  | in-Err w ↦ subst (λ r. OnOk r (c.insert.new.self.keys ≡ c.args.self.now ++ c.args.peer ∷ [])) (sym w.result-is) tt
]
