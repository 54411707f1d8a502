-- Each move of a side leads to where it stands by a ledger that has grown: sockets, messages, what is acknowledged.
use Rattle.std.proofs.Common.{◌≡◌, ◌≢◌, ℕ, ◌+◌, ◌-◌, ◌≤◌, inl, inr, true, false, List, [], ◌∷◌, ◌++◌, length, length-append, map, Option, Some, None, refl, sym, ap, subst, ◌∙◌, arith, append-nil}
use Rattle.std.specs.Prelude.{IfSome, slice_get}
use Rattle.std.specs.List.{AllByRecursion}
use Rattle.std.proofs.lemmas.List.{map-append}
use Rattle.std.proofs.lemmas.Option.{same_Some}
use Rattle.m2_channel.proofs.Both.{connecting_apart}
use Rattle.m2_channel.specs.Channel.{keyed}
use Rattle.m2_journal.specs.Growth.{IsExtended}
use Rattle.m2_journal.specs.OutFrames as out
use Rattle.m2_journal.specs.OutFrames.{OutFrame}
use Rattle.m2_journal.specs.m2_control.declared.keepalive.Keepalive.{Keepalive}
use Rattle.m2_journal.specs.m2_fabric.declared.socket.SocketId.{SocketId}
use Rattle.m2_journal.specs.m2_fabric.Sockets.{is_among}
use Rattle.m2_journal.specs.m2_message.Message.{Content, unnumbered}
use Rattle.m2_journal.specs.m2_policy.declared.path.Key.{Key}
use Rattle.m2_journal.specs.m2_session.declared.session.Phase.{Phase}
use Rattle.m2_journal.specs.m2_session.declared.session.Phase.TheVariants as phase
use Rattle.m2_journal.proofs.m2_fabric.Sockets.{among_last}
use Rattle.m2_journal.proofs.m2_lemmas.Booleans.{false_isnt_true}
use Rattle.m2_lives.specs.Lives.{Has, LifeMessage, of_life}
use Rattle.m2_lives.proofs.Among.{has_back}
use Rattle.m2_lives.specs.ObservedLaws.{NumberedLife}
use Rattle.m2_lives.proofs.Ledger.{Stay, Ledger, names, count, HasStay, HasNumbered, IsTrueFrame, IsThere, AreLedgers}
use Rattle.m2_lives.proofs.Moves.{Spot, View, opens, leaves, numbers, acknowledges, answers, accepts, counts, sent_by, taken_to, moved, OnSpot, IfSpot, WasSent, Acknowledges, IsTold, May}
use Rattle.m2_lives.proofs.Noting.{Grows, MaySend, MayAccept, sends_one, numbers_more, accepts_one, opens_one, sends_keeps, numbers_keeps, accepts_keeps, opens_keeps, same_grows, numbers_grow, accept_grows, open_grows, all_sent, of_life_more, of_its_life}
use Rattle.m2_lives.proofs.Standing.{FeedStands, Stands, Next, grows_trans, grows_none}
use Rattle.m2_bytes_fit.proofs.m2_trail.Later.{same_list}

pub reconnect_apart : phase.ReconnectSent ≡ phase.Ready → ⊥
reconnect_apart e = cc

pub connecting_reconnect : phase.Connecting ≡ phase.ReconnectSent → ⊥
connecting_reconnect e = cc

pub ident_reconnect : phase.IdentSent ≡ phase.ReconnectSent → ⊥
ident_reconnect e = cc

pub ready_reconnect : phase.Ready ≡ phase.ReconnectSent → ⊥
ready_reconnect e = cc

-- the same ledger
pub still : (mint theirs : ℕ → ℕ) (v : View) (x y : Ledger) → AreLedgers mint theirs x y → Stands v x y → Next mint theirs false v x y
still mint theirs v x y h s = record { ledger = x; ledgers = h; stands = s; grows = grows_none x; sent = same_list x.sent; ended = refl }

-- ---- a socket is left, or opened

pub leaves_stands : (p : Phase) (v : View) (x y : Ledger) → Stands v x y → Stands (moved (leaves p) v) x y
leaves_stands p v x y s = record {
  now = s.now;
  accepted = s.accepted;
  sent = s.sent;
  opened = s.opened;
  taken = s.taken;
  top = s.top;
  cookie = s.cookie;
  last = s.last;
  base = s.base;
  feed = tt;
}

pub leaves_next : (mint theirs : ℕ → ℕ) (p : Phase) (v : View) (x y : Ledger) → AreLedgers mint theirs x y → Stands v x y → Next mint theirs false (moved (leaves p) v) x y
leaves_next mint theirs p v x y h s = still mint theirs (moved (leaves p) v) x y h (leaves_stands p v x y s)

pub opens_next : (mint theirs : ℕ → ℕ) (k : SocketId) (v : View) (x y : Ledger) → May mint y (opens k) v → AreLedgers mint theirs x y → Stands v x y → Next mint theirs false (moved (opens k) v) x y
opens_next mint theirs k v x y may h s = record {
  ledger = opens_one k x;
  ledgers = opens_keeps mint theirs k x y (ap (is_among k) s.opened ∙ may.0) (ap (is_among k) s.taken ∙ may.1) h;
  stands = record {
    now = s.now;
    accepted = s.accepted;
    sent = s.sent;
    opened = ap (λ l. l ++ k ∷ []) s.opened;
    taken = s.taken;
    top = s.top;
    cookie = s.cookie;
    last = s.last;
    base = s.base;
    feed = record {
      ready = λ e. absurd (connecting_apart e);
      not_yet = λ n. fresh x.stays h.near.there;
      waits = λ n. tt;
      asked = λ e. absurd (connecting_reconnect e);
      resumed = tt;
      unresumed = λ n. refl;
      there = inl (subst (λ l. is_among k (l ++ k ∷ []) ≡ true) (sym s.opened) (among_last k v.opened));
    };
  };
  grows = open_grows mint theirs k x y (ap (is_among k) s.opened ∙ may.0) (ap (is_among k) s.taken ∙ may.1) h;
  sent = same_list x.sent;
  ended = refl;
}
  where
    fresh : (ss : List Stay) → AllByRecursion (λ (t : Stay). IsThere x t.socket) ss → AllByRecursion (λ (t : Stay). t.socket ≢ k) ss
    fresh [] all = tt
    fresh (t ∷ ts) all = (λ e. at e all.0, fresh ts all.1)
      where
        at : t.socket ≡ k → IsThere x t.socket → ⊥
        at e (inl o) = false_isnt_true (sym (ap (is_among k) s.opened ∙ may.0) ∙ subst (λ j. is_among j x.opened ≡ true) e o)
        at e (inr o) = false_isnt_true (sym (ap (is_among k) s.taken ∙ may.1) ∙ subst (λ j. is_among j x.taken ≡ true) e o)

-- ---- a frame is sent on the feed, and nothing else changes

-- as the ledger has it with the frame
sent_stands : (w : OutFrame) (v : View) (x y : Ledger) (p : Spot) → v.feed ≡ Some p → Stands v x y → v.phase ≡ phase.Ready →
    Stands (record v { sent = v.sent ++ record { socket = p.socket; frame = w } ∷ [] }) (sends_one p.socket w x) y
sent_stands w v x y p e s r = record {
  now = s.now;
  accepted = s.accepted;
  sent = ap (λ l. l ++ record { socket = p.socket; frame = w } ∷ []) s.sent;
  opened = s.opened;
  taken = s.taken;
  top = s.top;
  cookie = s.cookie;
  last = s.last;
  base = s.base;
  feed = at v.feed s.feed;
}
  where
    at : (o : Option Spot) → IfSpot o (FeedStands v x y) → IfSpot o (FeedStands (record v { sent = v.sent ++ record { socket = p.socket; frame = w } ∷ [] }) (sends_one p.socket w x) y)
    at None f = tt
    at (Some q) f = record { ready = f.ready; not_yet = f.not_yet; waits = f.waits; asked = λ z. absurd (ready_reconnect (sym r ∙ z)); resumed = f.resumed; unresumed = f.unresumed; there = f.there }

-- in Ready, mail that is true
mails_next : (mint theirs : ℕ → ℕ) (w : OutFrame) (v : View) (x y : Ledger) → v.phase ≡ phase.Ready → ((p : Spot) → FeedStands v x y p → MaySend mint p.socket w x y) → AreLedgers mint theirs x y → Stands v x y →
    Next mint theirs false (record v { sent = v.sent ++ sent_by v.feed w }) x y
mails_next mint theirs w v x y r may h s = at v.feed refl s.feed
  where
    at : (o : Option Spot) → v.feed ≡ o → IfSpot o (FeedStands v x y) → Next mint theirs false (record v { sent = v.sent ++ sent_by o w }) x y
    at None e f = subst (λ l. Next mint theirs false (record v { sent = l }) x y) (sym (append-nil v.sent)) (still mint theirs v x y h s)
    at (Some p) e f = record {
      ledger = sends_one p.socket w x;
      ledgers = sends_keeps mint theirs p.socket w x y (may p f) h;
      stands = sent_stands w v x y p e s r;
      grows = same_grows p.socket w x;
      sent = (record { socket = p.socket; frame = w } ∷ [], refl);
      ended = refl;
    }

pub acknowledges_next : (mint theirs : ℕ → ℕ) (number : ℕ) (v : View) (x y : Ledger) → May mint y (acknowledges number) v → AreLedgers mint theirs x y → Stands v x y → Next mint theirs false (moved (acknowledges number) v) x y
acknowledges_next mint theirs number v x y may h s =
    mails_next mint theirs (out.acknowledgement number) v x y may.0
    (λ p f. record {
      true_frame = (v.life, record { stay = (f.ready may.0).0; within = subst (λ n. number ≤ n) s.last may.1 });
      fresh = λ c g e. absurd (apart c g e);
      asks = λ e. absurd (false_isnt_true e);
      resumes = λ seen n e. absurd (other seen e);
    }) h s
  where
    apart : (c g : ℕ) → out.acknowledgement number ≡ out.server_ident c g → ⊥
    apart c g e = cc

    other : (seen : ℕ) → out.acknowledgement number ≡ out.reconnect_ok seen → ⊥
    other seen e = cc

pub answers_next : (mint theirs : ℕ → ℕ) (a : Keepalive) (v : View) (x y : Ledger) → May mint y (answers a) v → AreLedgers mint theirs x y → Stands v x y → Next mint theirs false (moved (answers a) v) x y
answers_next mint theirs a v x y may h s =
    mails_next mint theirs (out.keepalive_answer a) v x y may
    (λ p f. record { true_frame = tt; fresh = λ c g e. absurd (apart c g e); asks = λ e. absurd (false_isnt_true e); resumes = λ seen n e. absurd (other seen e) }) h s
  where
    apart : (c g : ℕ) → out.keepalive_answer a ≡ out.server_ident c g → ⊥
    apart c g e = cc

    other : (seen : ℕ) → out.keepalive_answer a ≡ out.reconnect_ok seen → ⊥
    other seen e = cc

-- ---- messages get numbers

pub numbered_stands : (more : List Content) (v : View) (x y : Ledger) → Stands v x y → Stands (record v { numbered = v.numbered ++ more }) (numbers_more more x) y
numbered_stands more v x y s = record {
  now = ap (λ (l : NumberedLife). record l { numbered = l.numbered ++ more }) s.now;
  accepted = s.accepted;
  sent = s.sent;
  opened = s.opened;
  taken = s.taken;
  top = s.top;
  cookie = s.cookie;
  last = s.last;
  base = s.base;
  feed = at v.feed s.feed;
}
  where
    at : (o : Option Spot) → IfSpot o (FeedStands v x y) → IfSpot o (FeedStands (record v { numbered = v.numbered ++ more }) (numbers_more more x) y)
    at None f = tt
    at (Some p) f = record { ready = f.ready; not_yet = f.not_yet; waits = f.waits; asked = f.asked; resumed = f.resumed; unresumed = f.unresumed; there = f.there }

chained : (mint theirs : ℕ → ℕ) (v : View) (x z y : Ledger) → Grows x z → z.sent ≡ x.sent → z.ended ≡ x.ended → Next mint theirs false v z y → Next mint theirs false v x y
chained mint theirs v x z y g e k n = record {
  ledger = n.ledger;
  ledgers = n.ledgers;
  stands = n.stands;
  grows = grows_trans x z n.ledger g n.grows;
  sent = subst (λ l. IsExtended l n.ledger.sent) e n.sent;
  ended = n.ended ∙ k;
}

pub numbers_next : (mint theirs : ℕ → ℕ) (more : List Content) (number : ℕ) (m : Content) (v : View) (x y : Ledger) → May mint y (numbers more number m) v → AreLedgers mint theirs x y → Stands v x y →
    Next mint theirs false (moved (numbers more number m) v) x y
numbers_next mint theirs more number m v x y may h s =
    let z = numbers_more more x in
    let t = numbered_stands more v x y s in
    let u : View = record v { numbered = v.numbered ++ more } in
    chained mint theirs (moved (numbers more number m) v) x z y (numbers_grow mint theirs more x y h) refl refl
    (mails_next mint theirs (out.message number v.last m) u z y may.phase
    (λ p f. record {
      true_frame = (v.life, record { stay = (f.ready may.phase).0; within = equal v.last (count v.life z) t.last }, may.from, has_back (λ (l : NumberedLife). (l.name ≡ v.life) × (slice_get l.numbered (number - 1) ≡ Some (unnumbered m))) x.ended (z.now ∷ []) (inl (there t.now)));
      fresh = λ c g e. absurd (apart c g e);
      asks = λ e. absurd (false_isnt_true e);
      resumes = λ seen n e. absurd (other seen e);
    }) (numbers_keeps mint theirs more x y h) t)
  where
    equal : (a b : ℕ) → a ≡ b → a ≤ b
    equal a b e = omega (arith, e)

    there : {l : NumberedLife} → l ≡ record { name = v.life; numbered = v.numbered ++ more } → (l.name ≡ v.life) × (slice_get l.numbered (number - 1) ≡ Some (unnumbered m))
    there {l} e = (ap (λ (k : NumberedLife). k.name) e, ap (λ (k : NumberedLife). slice_get k.numbered (number - 1)) e ∙ may.is)

    apart : (c g : ℕ) → out.message number v.last m ≡ out.server_ident c g → ⊥
    apart c g e = cc

    other : (seen : ℕ) → out.message number v.last m ≡ out.reconnect_ok seen → ⊥
    other seen e = cc

-- ---- a message is accepted

pub equal_most : (a b : ℕ) → a ≡ b → a ≤ b
equal_most a b e = omega (arith, e)

-- what the side counts, where it knows its own ledger
pub accepts_next : (mint theirs : ℕ → ℕ) (key : Key) (m : Content) (taken : ℕ) (v : View) (x y : Ledger) → May mint y (accepts key m taken) v → AreLedgers mint theirs x y → Stands v x y → Next mint theirs false (moved (accepts key m taken) v) x y
accepts_next mint theirs key m taken v x y may h s = at v.feed s.feed may.1
  where
    it : LifeMessage
    it = record { life = v.life; message = keyed key m }

    z : Ledger
    z = accepts_one it x

    one_more : count v.life z ≡ count v.life x + 1
    one_more = ap length (of_life_more v.life x.accepted it ∙ ap (λ l. of_life v.life x.accepted ++ l) (of_its_life it)) ∙ length-append (of_life v.life x.accepted) (it.message ∷ [])

    named : Has (λ n. n ≡ v.life) (names x)
    named = subst (Has (λ n. n ≡ v.life)) (sym (map-append (λ (l : NumberedLife). l.name) x.ended (x.now ∷ []))) (has_back (λ n. n ≡ v.life) (map (λ (l : NumberedLife). l.name) x.ended) (x.now.name ∷ []) (inl (ap (λ (l : NumberedLife). l.name) s.now)))

    place : v.last + 1 - 1 ≡ count v.life x
    place = let l = s.last in omega (arith, l)

    may_accept : (p : Spot) → FeedStands v x y p → (acked : ℕ) × WasSent y.sent (out.message (v.last + 1) acked m) p → MayAccept it x y
    may_accept p f (acked, was) =
        let sent : IsTrueFrame theirs y p.socket (out.message (v.last + 1) acked m) = all_sent (IsTrueFrame theirs y) y.sent p.socket (out.message (v.last + 1) acked m) h.far.frames was in
        let mine = f.ready may.0 in
        let one : v.life ≡ sent.0 = h.agree p.socket v.life sent.0 mine.0 sent.1.stay in
        record {
          kept = mine.1;
          there = named;
          next = subst (λ n. HasNumbered v.life n (unnumbered m) y) place (subst (λ n. HasNumbered n (v.last + 1 - 1) (unnumbered m) y) (sym one) sent.3);
        }

    fed : (o : Option Spot) → IfSpot o (FeedStands v x y) → IfSpot (taken_to taken o) (FeedStands (moved (accepts key m taken) v) z y)
    fed None f = tt
    fed (Some p) f = record { ready = f.ready; not_yet = f.not_yet; waits = λ n. absurd (n may.0); asked = f.asked; resumed = f.resumed; unresumed = f.unresumed; there = f.there }

    at : (o : Option Spot) → IfSpot o (FeedStands v x y) → OnSpot o (λ p. (acked : ℕ) × WasSent y.sent (out.message (v.last + 1) acked m) p) → Next mint theirs false (moved (accepts key m taken) v) x y
    at None f was = absurd was
    at (Some p) f was =
        let ok = may_accept p f was in
        record {
          ledger = z;
          ledgers = accepts_keeps mint theirs it x y ok h;
          stands = record {
            now = s.now;
            accepted = ap (λ l. l ++ it ∷ []) s.accepted;
            sent = s.sent;
            opened = s.opened;
            taken = s.taken;
            top = s.top;
            cookie = s.cookie;
            last = ap (λ n. n + 1) s.last ∙ sym one_more;
            base = s.base;
            feed = fed v.feed s.feed;
          };
          grows = accept_grows mint theirs it x y ok h;
          sent = same_list x.sent;
          ended = refl;
        }

-- ---- what is acknowledged

told_true : (theirs : ℕ → ℕ) (y : Ledger) (k : SocketId) (number : ℕ) (w : OutFrame) → IsTrueFrame theirs y k w → Acknowledges number w → (n : ℕ) × HasStay k n y × (number ≤ count n y)
told_true theirs y k number (out.message i acked m) t e = (t.0, t.1.stay, subst (λ a. a ≤ count t.0 y) e t.1.within)
told_true theirs y k number (out.acknowledgement acked) t e = (t.0, t.1.stay, subst (λ a. a ≤ count t.0 y) e t.1.within)
told_true theirs y k number (out.reconnect_ok seen) t e = (t.0, t.1.stay, subst (λ a. a ≤ count t.0 y) e t.1.within)
told_true theirs y k number w t e = elim e [ ]

-- no more than the other side has accepted in the life of this name
pub told_within : (mint theirs : ℕ → ℕ) (number : ℕ) (v : View) (x y : Ledger) → May mint y (counts number) v → AreLedgers mint theirs x y → Stands v x y → (v.life ≢ 0) × (number ≤ count v.life y)
told_within mint theirs number v x y may h s = at v.feed s.feed may.1
  where
    some_is : {a b : ℕ} → Some a ≡ Some b → a ≡ b
    some_is {a} {b} e = same_Some a b e

    by : (p : Spot) → FeedStands v x y p → IsTold y.sent number p → (v.life ≢ 0) × (number ≤ count v.life y)
    by p f (inl (w, was, e)) =
        let t = told_true theirs y p.socket number w (all_sent (IsTrueFrame theirs y) y.sent p.socket w h.far.frames was) e in
        let mine = f.ready may.0 in
        (mine.1, subst (λ n. number ≤ count n y) (sym (h.agree p.socket v.life t.0 mine.0 t.1)) t.2)
    by p f (inr e) = ((f.ready may.0).1, subst (λ o. IfSome o (λ n. n ≤ count v.life y)) e f.resumed)

    at : (o : Option Spot) → IfSpot o (FeedStands v x y) → OnSpot o (IsTold y.sent number) → (v.life ≢ 0) × (number ≤ count v.life y)
    at None f told = absurd told
    at (Some p) f told = by p f told

pub counts_next : (mint theirs : ℕ → ℕ) (number : ℕ) (v : View) (x y : Ledger) → May mint y (counts number) v → AreLedgers mint theirs x y → Stands v x y → Next mint theirs false (moved (counts number) v) x y
counts_next mint theirs number v x y may h s =
    let within = (told_within mint theirs number v x y may h s).1 in
    let base = s.base in
    still mint theirs (moved (counts number) v) x y h (record {
      now = s.now;
      accepted = s.accepted;
      sent = s.sent;
      opened = s.opened;
      taken = s.taken;
      top = s.top;
      cookie = s.cookie;
      last = s.last;
      base = omega (arith, within, base);
      feed = fed v.feed s.feed;
    })
  where
    fed : (o : Option Spot) → IfSpot o (FeedStands v x y) → IfSpot o (FeedStands (moved (counts number) v) x y)
    fed None f = tt
    fed (Some p) f = record { ready = f.ready; not_yet = f.not_yet; waits = f.waits; asked = f.asked; resumed = f.resumed; unresumed = f.unresumed; there = f.there }
