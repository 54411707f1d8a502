-- Before the moment: messages get numbers and are written behind an offer, and none is read.
use Rattle.std.proofs.Common.{◌≡◌, ℕ, ◌<◌, ◌≤◌, List, [], ◌∷◌, ◌++◌, subst, arith}
use Rattle.m2_queues.specs.m2_message.Message.{Content}
use Rattle.m2_never_reset.specs.Roles.{Role}
use Rattle.m2_never_reset.specs.Mails.{Mail, heard_with}
use Rattle.m2_never_reset.specs.Link.{Stand, offered, ready, Node, Joined, apart, by_near, by_far, link}
use Rattle.m2_never_reset.specs.Steps.{with_mail, mailed}
use Rattle.m2_never_reset.proofs.Before.{IsOffered, AreJoined, Before}

pub before_numbers : (p q : Role) (x y : Node) (s t : Stand) (j : Joined) (n : ℕ) (more : List Content) →
    Before p q (link x s y t j n) → Before p q (link (record x { numbered = x.numbered ++ more }) s y t j n)
before_numbers p q x y s t j n more b = record {
  near = b.near;
  far = b.far;
  near_unused = b.near_unused;
  far_unused = b.far_unused;
  joined = b.joined;
  calm = b.calm;
}

-- what is behind an offer makes no difference
behind_offer : (p q : Role) (x y : Node) (ns : List Mail) (j : Joined) (n : ℕ) (cookie global : ℕ) (ms more : List Mail) → AreJoined j (ready ns) (offered cookie global more) →
    Before p q (link x (ready ns) y (offered cookie global ms) j n) → Before p q (link x (ready ns) y (offered cookie global more) j n)
behind_offer p q x y ns j n cookie global ms more joined b = record {
  near = record {
    server = b.near.server;
    asks = b.near.asks;
    owns = b.near.owns;
    newest = b.near.newest;
    offer = tt;
    serves = λ e. record {
      asks_nothing = (b.near.serves e).asks_nothing;
      passive = tt;
      no_session = (b.near.serves e).no_session;
      idents = (b.near.serves e).idents;
      client = (b.near.serves e).client;
      no_reset = tt;
    };
  };
  far = record {
    server = b.far.server;
    asks = b.far.asks;
    owns = b.far.owns;
    newest = tt;
    offer = b.far.offer;
    serves = λ e. absurd (b.far.serves e).passive;
  };
  near_unused = b.near_unused;
  far_unused = b.far_unused;
  joined = joined;
  calm = b.calm;
}

mail_behind : (p q : Role) (x y : Node) (ns : List Mail) (t : Stand) (n : ℕ) (m : Mail) → IsOffered t → Before p q (link x (ready ns) y t by_far n) →
    Before p q (link x (ready ns) y (with_mail m t) by_far n)
mail_behind p q x y ns (offered cookie global ms) n m h b = behind_offer p q x y ns by_far n cookie global ms (ms ++ m ∷ []) (tt, tt) b
mail_behind p q x y ns t n m h b = absurd h

pub before_writes : (p q : Role) (x y : Node) (ns : List Mail) (t : Stand) (j : Joined) (n : ℕ) (m : Mail) → Before p q (link x (ready ns) y t j n) →
    Before p q (link x (ready ns) y (mailed m j t) j n)
before_writes p q x y ns t apart n m b = b
before_writes p q x y ns t by_near n m b = absurd b.joined.0
before_writes p q x y ns t by_far n m b = mail_behind p q x y ns t n m b.joined.1 b

-- ---- nothing is read

some_isnt_none : (m : Mail) (ms : List Mail) → m ∷ ms ≡ [] → ⊥
some_isnt_none m ms e = subst IsSome e tt
  where
    IsSome : List Mail → Type 0
    IsSome [] = ⊥
    IsSome (m ∷ ms) = Unit {0}

pub never_reads : (p q : Role) (x y : Node) (m : Mail) (ms : List Mail) (t : Stand) (j : Joined) (n : ℕ) → Before p q (link x (ready (m ∷ ms)) y t j n) → ⊥
never_reads p q x y m ms t j n b = some_isnt_none m ms b.near.owns

nothing_heard : (heard : ℕ) (ms : List Mail) → heard ≡ 0 → ms ≡ [] → heard_with heard ms ≡ 0
nothing_heard heard [] e f = e
nothing_heard heard (m ∷ ms) e f = absurd (some_isnt_none m ms f)

pub never_counts : (p q : Role) (x y : Node) (ms : List Mail) (t : Stand) (j : Joined) (n : ℕ) (number : ℕ) → x.base < number → number ≤ heard_with x.heard ms →
    Before p q (link x (ready ms) y t j n) → ⊥
never_counts p q x y ms t j n number above within b =
    let none = nothing_heard x.heard ms b.near_unused.none_heard b.near.owns in omega (arith, above, within, none)
