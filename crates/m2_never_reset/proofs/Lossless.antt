-- What follows for the journals of two lossless sides in an order that fits.
use Rattle.std.proofs.Common.{◌≡◌, ℕ, ◌+◌, List, [], ◌∷◌, ◌++◌, refl, sym, ap, ◌∙◌, subst}
use Rattle.m2_journal.specs.Replay.{after_items}
use Rattle.m2_journal.specs.SideFacts.{SideFacts}
use Rattle.m2_journal.specs.State.{State, start}
use Rattle.m2_journal.specs.Steps.{after}
use Rattle.m2_journal.proofs.Growing.{after-append}
use Rattle.m2_never_reset.specs.CrossingLaws as crossing
use Rattle.m2_never_reset.specs.CrossingLaws.{AreSides, CookiesAreMints, NoTroubleComes, LosslessIsInOrder, KeepBoth}
use Rattle.m2_never_reset.specs.Link.{Link}
use Rattle.m2_never_reset.specs.LinkOf.{role_of, link_of}
use Rattle.m2_never_reset.specs.Orders.{SideItem, near_item, far_item, near_items, far_items, near_after, far_after}
use Rattle.m2_never_reset.specs.Orders.{trouble_in, HistoriesAreRuns, AreNodes, KeepCookies}
use Rattle.m2_never_reset.specs.Orders.{NoTroubleInHistories, MessagesComeInOrder, AcceptedIsSettled}
use Rattle.m2_never_reset.proofs.Orders.{Known, IsOrder, order_of, ends, from_start}

-- ---- the sides, and the link to which an order leads

pub sides : CookiesAreMints → (f g : SideFacts) → AreNodes f g → AreSides (role_of f) (role_of g)
sides mints f g nodes = record {
  mints = mints f.policy g.policy f.node.number g.node.number f.node.salt g.node.salt
      nodes.near_keeps nodes.far_keeps nodes.places nodes.near_salt nodes.far_salt;
  lossless = record { allowed = nodes.allowed; first = nodes.near_keeps; second = nodes.far_keeps };
}

abbrev link_after : (f g : SideFacts) → List SideItem → Link
link_after f g order = link_of (trouble_in f g order (start f) (start g)) (near_after f order) (far_after g order)

-- ---- trouble, and messages

pub no_trouble_in : CookiesAreMints → NoTroubleComes → HistoriesAreRuns → NoTroubleInHistories
no_trouble_in mints none runs f g order nodes history =
    none (role_of f) (role_of g) (link_after f g order) (sides mints f g nodes)
    (runs f g order nodes.near_keeps nodes.far_keeps history).run

pub in_order : CookiesAreMints → LosslessIsInOrder → HistoriesAreRuns → MessagesComeInOrder
in_order mints ordered runs f g order nodes history =
    let both = ordered (role_of f) (role_of g) (link_after f g order) (sides mints f g nodes)
    (runs f g order nodes.near_keeps nodes.far_keeps history).run in
    record {
      near = record { prefix = both.near.prefix; last = both.near.last; base = both.near.base };
      far = record { prefix = both.far.prefix; last = both.far.last; base = both.far.base };
    }

-- ---- an order that goes on

near-append : (order more : List SideItem) → near_items (order ++ more) ≡ near_items order ++ near_items more
near-append [] more = refl
near-append (near_item i ∷ order) more = ap (λ is. i ∷ is) (near-append order more)
near-append (far_item i ∷ order) more = near-append order more

far-append : (order more : List SideItem) → far_items (order ++ more) ≡ far_items order ++ far_items more
far-append [] more = refl
far-append (near_item i ∷ order) more = far-append order more
far-append (far_item i ∷ order) more = ap (λ is. i ∷ is) (far-append order more)

goes_on : (f g : SideFacts) (order more : List SideItem) (a b : State) → IsOrder f g (order ++ more) a b →
    IsOrder f g more (after_items f (near_items order) a) (after_items g (far_items order) b)
goes_on f g [] more a b h = h
goes_on f g (near_item i ∷ order) more a b h = goes_on f g order more (after f i a) b h.1
goes_on f g (far_item i ∷ order) more a b h = goes_on f g order more a (after g i b) h.1

near_behind : (f : SideFacts) (order more : List SideItem) →
    after_items f (near_items more) (near_after f order) ≡ near_after f (order ++ more)
near_behind f order more =
    sym (after-append f (near_items order) (near_items more) (start f))
    ∙ ap (λ is. after_items f is (start f)) (sym (near-append order more))

far_behind : (g : SideFacts) (order more : List SideItem) →
    after_items g (far_items more) (far_after g order) ≡ far_after g (order ++ more)
far_behind g order more =
    sym (after-append g (far_items order) (far_items more) (start g))
    ∙ ap (λ is. after_items g is (start g)) (sym (far-append order more))

-- ---- cookies

kept : (client server t : ℕ) (a b : State) → KeepBoth client server (link_of t a b) → KeepCookies client server a b
kept client server t a b h = record {
  near_client = h.near_client;
  near_server = h.near_server;
  far_client = h.far_client;
  far_server = h.far_server;
}

pub settled : Known → CookiesAreMints → crossing.AcceptedIsSettled → HistoriesAreRuns → AcceptedIsSettled
settled known mints is_settled runs f g order nodes history accepted =
    let t = trouble_in f g order (start f) (start g) in
    let a = near_after f order in
    let b = far_after g order in
    let reached = (from_start known f g nodes.near_keeps nodes.far_keeps order history).reached in
    let it = is_settled (role_of f) (role_of g) (link_after f g order) (sides mints f g nodes)
    (runs f g order nodes.near_keeps nodes.far_keeps history).run accepted in
    record {
      client = it.client;
      server = it.server;
      client_kept = it.client_kept;
      server_kept = it.server_kept;
      stay = λ more later.
          let rest = goes_on f g order more (start f) (start g) (order_of f g (order ++ more) later) in
          let on = ends known f g nodes.near_keeps nodes.far_keeps t more a b reached rest in
          let c = after_items f (near_items more) a in
          let d = after_items g (far_items more) b in
          let u = t + trouble_in f g more a b in
          subst (λ z. KeepCookies it.client it.server z (far_after g (order ++ more))) (near_behind f order more)
          (subst (λ z. KeepCookies it.client it.server c z) (far_behind g order more)
          (kept it.client it.server u c d (it.stay (link_of u c d) on.run)));
    }
