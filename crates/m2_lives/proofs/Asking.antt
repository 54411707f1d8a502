-- Where a side asks, is told to ask again, obeys a reset or is marked down, it stands by a ledger that has grown.
use Rattle.std.proofs.Common.{◌≡◌, ◌≢◌, ℕ, ◌+◌, ◌≤◌, inl, true, false, List, [], ◌∷◌, ◌++◌, length, take, Option, Some, None, refl, sym, ap, subst, ◌∙◌, arith}
use Rattle.std.specs.Prelude.{IfSome}
use Rattle.std.specs.List.{AllByRecursion}
use Rattle.m2_channel.proofs.Both.{connecting_apart, ident_apart}
use Rattle.m2_journal.specs.OutFrames as out
use Rattle.m2_journal.specs.OutFrames.{OutFrame}
use Rattle.m2_journal.specs.State.{SentFrame}
use Rattle.m2_journal.specs.m2_message.Message.{Content}
use Rattle.m2_journal.specs.m2_session.declared.session.Phase.{Phase}
use Rattle.m2_journal.specs.m2_session.declared.session.Phase.TheVariants as phase
use Rattle.m2_journal.proofs.m2_fabric.Sockets.{same_refl}
use Rattle.m2_journal.proofs.m2_lemmas.Lists.{all_last}
use Rattle.m2_never_reset.specs.Asks.{Ask, by_reconnect}
use Rattle.m2_never_reset.specs.Frames.{answers_on, asks_on, no_ask, last_ask}
use Rattle.m2_never_reset.proofs.Sent.{asks_here, last_of}
use Rattle.m2_lives.specs.ObservedLaws.{NumberedLife}
use Rattle.m2_lives.proofs.Ledger.{Ledger, count, IsAcceptance, HasAccepted, IsAskFor, HasAskedFor, AreLedgers}
use Rattle.m2_lives.proofs.Moves.{Spot, View, asks_ident, asks_reconnect, asks_again, obeys, goes_down, sent_by, taken_more, moved, OnSpot, IfSpot, IsNextAnswer, NothingComes, MayAsk, May}
use Rattle.m2_lives.proofs.Noting.{Grows, MayBegin, sends_one, begins_one, draws_one, sends_keeps, begins_keeps, draws_keeps, same_grows, begin_grows, draw_grows}
use Rattle.m2_lives.proofs.Standing.{IsNoAcceptance, FeedStands, Stands, Next, grows_trans, none_accepted, take_next}
use Rattle.m2_lives.proofs.Moving.{reconnect_apart, connecting_reconnect, ident_reconnect, still, equal_most}
use Rattle.m2_bytes_fit.proofs.m2_trail.Later.{same_list}

-- ---- asks

module _ (mint theirs : ℕ → ℕ) (client global connect : ℕ) (v : View) (x y : Ledger) (may : MayAsk v global y.sent) (h : AreLedgers mint theirs x y) (s : Stands v x y) where
  abbrev raised : Ledger
  raised = draws_one global x.taken x

  above : x.top ≤ global
  above = let e = s.top in let d = may.drawn in omega (arith, e, d)

  raised_keeps : AreLedgers mint theirs raised y
  raised_keeps = draws_keeps mint theirs global x.taken x y above (λ k e. e) h

  not_ready : v.phase ≡ phase.Ready → ⊥
  not_ready r = connecting_apart (sym may.phase ∙ r)

  quiet : (p : Spot) → v.feed ≡ Some p → FeedStands v x y p → HasAccepted p.socket y.sent → ⊥
  quiet p e f = none_accepted y.sent p (subst (λ o. OnSpot o (NothingComes y.sent)) e may.nothing) (f.waits not_ready)

  abbrev asked_view : Phase → OutFrame → Spot → View
  asked_view q w p = record v { phase = q; sent = v.sent ++ record { socket = p.socket; frame = w } ∷ []; top = global }

  -- the ledger with the ask
  abbrev asked_ledger : OutFrame → Spot → Ledger
  asked_ledger w p = sends_one p.socket w raised

  asked_stands : (q : Phase) (w : OutFrame) (p : Spot) → v.feed ≡ Some p → FeedStands v x y p → (q ≡ phase.Ready → ⊥) → (q ≡ phase.ReconnectSent → HasAskedFor p.socket v.life (asked_ledger w p).sent × (v.life ≢ 0)) →
      Stands (asked_view q w p) (asked_ledger w p) y
  asked_stands q w p e f apart named = record {
    now = s.now;
    accepted = s.accepted;
    sent = ap (λ l. l ++ record { socket = p.socket; frame = w } ∷ []) s.sent;
    opened = s.opened;
    taken = s.taken;
    top = refl;
    cookie = s.cookie;
    last = s.last;
    base = s.base;
    feed = subst (λ o. IfSpot o (FeedStands (asked_view q w p) (asked_ledger w p) y)) (sym e) (record {
      ready = λ r. absurd (apart r);
      not_yet = λ n. f.not_yet not_ready;
      waits = λ n. f.waits not_ready;
      asked = named;
      resumed = f.resumed;
      unresumed = λ n. f.unresumed not_ready;
      there = f.there;
    });
  }

  asked_grows : (w : OutFrame) (p : Spot) → Grows x (asked_ledger w p)
  asked_grows w p = grows_trans x raised (asked_ledger w p) (draw_grows mint theirs global x.taken x y above (λ k e. e) h) (same_grows p.socket w raised)

  pub asks_ident_next : Next mint theirs false (moved (asks_ident client global) v) x y
  asks_ident_next = at v.feed refl s.feed may.nothing
    where
      w : OutFrame
      w = out.ident client global

      apart : (c g : ℕ) → w ≡ out.server_ident c g → ⊥
      apart c g e = cc

      other : (seen : ℕ) → w ≡ out.reconnect_ok seen → ⊥
      other seen e = cc

      at : (o : Option Spot) → v.feed ≡ o → IfSpot o (FeedStands v x y) → OnSpot o (NothingComes y.sent) → Next mint theirs false (record v { phase = phase.IdentSent; sent = v.sent ++ sent_by o w; top = global }) x y
      at None e f n = absurd n
      at (Some p) e f n = record {
        ledger = asked_ledger w p;
        ledgers = sends_keeps mint theirs p.socket w raised y (record { true_frame = tt; fresh = λ c g q. absurd (apart c g q); asks = λ q. quiet p e f; resumes = λ seen k q. absurd (other seen q) }) raised_keeps;
        stands = asked_stands phase.IdentSent w p e f ident_apart (λ q. absurd (ident_reconnect q));
        grows = asked_grows w p;
        sent = (record { socket = p.socket; frame = w } ∷ [], refl);
        ended = refl;
      }

  pub asks_reconnect_next : v.server ≢ 0 → Next mint theirs false (moved (asks_reconnect client global connect) v) x y
  asks_reconnect_next kept = at v.feed refl s.feed may.nothing
    where
      w : OutFrame
      w = out.reconnect client v.server global connect v.last

      apart : (c g : ℕ) → w ≡ out.server_ident c g → ⊥
      apart c g e = cc

      other : (seen : ℕ) → w ≡ out.reconnect_ok seen → ⊥
      other seen e = cc

      at : (o : Option Spot) → v.feed ≡ o → IfSpot o (FeedStands v x y) → OnSpot o (NothingComes y.sent) → Next mint theirs false (record v { phase = phase.ReconnectSent; sent = v.sent ++ sent_by o w; top = global }) x y
      at None e f n = absurd n
      at (Some p) e f n =
          let a : Ask = by_reconnect (record { client = client; server = v.server; global = global; connect = connect; seen = v.last }) in
          record {
            ledger = asked_ledger w p;
            ledgers = sends_keeps mint theirs p.socket w raised y (record {
              true_frame = (kept, subst (λ n. v.last ≤ count n x) (sym s.cookie) (equal_most v.last (count v.life x) s.last));
              fresh = λ c g q. absurd (apart c g q);
              asks = λ q. quiet p e f;
              resumes = λ seen k q. absurd (other seen q);
            }) raised_keeps;
            stands = asked_stands phase.ReconnectSent w p e f reconnect_apart
                (λ q. (
                  subst (IsAskFor v.life)
                      (sym (ap (last_ask no_ask) (asks_here p.socket x.sent (record { socket = p.socket; frame = w }) a refl (same_refl p.socket)) ∙ last_of no_ask a (asks_on p.socket x.sent)))
                      s.cookie,
                  λ z. kept (s.cookie ∙ z),
                ));
            grows = asked_grows w p;
            sent = (record { socket = p.socket; frame = w } ∷ [], refl);
            ended = refl;
          }

-- ---- an answer that is taken

-- no acceptance was taken, with one answer more that is none
taken_still : (theirs : List SentFrame) (p : Spot) (w : OutFrame) → IsNextAnswer theirs w p → IsNoAcceptance w → AllByRecursion IsNoAcceptance (take p.taken (answers_on p.socket theirs)) →
    AllByRecursion IsNoAcceptance (take (p.taken + 1) (answers_on p.socket theirs))
taken_still theirs p w n none all =
    subst (AllByRecursion IsNoAcceptance) (sym (take_next p.taken (answers_on p.socket theirs) n.0 w n.1)) (all_last IsNoAcceptance (take p.taken (answers_on p.socket theirs)) w all none)

pub asks_again_next : (mint theirs : ℕ → ℕ) (v : View) (x y : Ledger) → May mint y asks_again v → AreLedgers mint theirs x y → Stands v x y → Next mint theirs false (moved asks_again v) x y
asks_again_next mint theirs v x y may h s = still mint theirs (moved asks_again v) x y h (record {
  now = s.now;
  accepted = s.accepted;
  sent = s.sent;
  opened = s.opened;
  taken = s.taken;
  top = s.top;
  cookie = s.cookie;
  last = s.last;
  base = s.base;
  feed = at v.feed s.feed may.1;
})
  where
    before : v.phase ≡ phase.Ready → ⊥
    before r = reconnect_apart (sym may.0 ∙ r)

    at : (o : Option Spot) → IfSpot o (FeedStands v x y) → OnSpot o (λ p. (w : OutFrame) × IsNextAnswer y.sent w p × (IsAcceptance w → ⊥)) → IfSpot (taken_more o) (FeedStands (moved asks_again v) x y)
    at None f n = absurd n
    at (Some p) f (w, n, none) = record {
      ready = λ r. absurd (connecting_apart r);
      not_yet = λ r. f.not_yet before;
      waits = λ r. taken_still y.sent p w n none (f.waits before);
      asked = λ r. absurd (connecting_reconnect r);
      resumed = f.resumed;
      unresumed = λ r. f.unresumed before;
      there = f.there;
    }

-- ---- a life without a name begins

-- of name 0, with nothing accepted in it
module _ (mint theirs : ℕ → ℕ) (kept : List Content) (v : View) (x y : Ledger) (h : AreLedgers mint theirs x y) (s : Stands v x y) where
  abbrev unnamed_life : NumberedLife
  unnamed_life = record { name = 0; numbered = kept }

  abbrev unnamed : Ledger
  unnamed = begins_one unnamed_life x

  none_may : MayBegin mint unnamed_life x y
  none_may = record { fresh = inl refl; from = inl refl }

  unnamed_keeps : AreLedgers mint theirs unnamed y
  unnamed_keeps = begins_keeps mint theirs unnamed_life x y none_may h

  unnamed_grows : Grows x unnamed
  unnamed_grows = begin_grows mint theirs unnamed_life x y none_may h

  unnamed_stands : (v' : View) → v'.life ≡ 0 → v'.numbered ≡ kept → v'.server ≡ 0 → v'.last ≡ 0 → v'.base ≡ 0 → v'.accepted ≡ v.accepted → v'.sent ≡ v.sent → v'.opened ≡ v.opened → v'.taken ≡ v.taken → v'.top ≡ v.top →
      IfSpot v'.feed (FeedStands v' unnamed y) → Stands v' unnamed y
  unnamed_stands v' life numbered server last base accepted sent opened taken top feed = record {
    now = rw (life, numbered) refl;
    accepted = s.accepted ∙ sym accepted;
    sent = s.sent ∙ sym sent;
    opened = s.opened ∙ sym opened;
    taken = s.taken ∙ sym taken;
    top = s.top ∙ sym top;
    cookie = server ∙ sym life;
    last = last ∙ sym (ap (λ n. count n x) life ∙ ap length (h.near.known 0 (inl refl)));
    base = rw base (omega arith);
    feed = feed;
  }

pub goes_down_next : (mint theirs : ℕ → ℕ) (v : View) (x y : Ledger) → AreLedgers mint theirs x y → Stands v x y → Next mint theirs true (moved goes_down v) x y
goes_down_next mint theirs v x y h s = record {
  ledger = unnamed mint theirs [] v x y h s;
  ledgers = unnamed_keeps mint theirs [] v x y h s;
  stands = unnamed_stands mint theirs [] v x y h s (moved goes_down v) refl refl refl refl refl refl refl refl refl refl tt;
  grows = unnamed_grows mint theirs [] v x y h s;
  sent = same_list x.sent;
  ended = refl;
}

pub obeys_next : (mint theirs : ℕ → ℕ) (kept : List Content) (v : View) (x y : Ledger) → May mint y (obeys kept) v → AreLedgers mint theirs x y → Stands v x y → Next mint theirs true (moved (obeys kept) v) x y
obeys_next mint theirs kept v x y may h s = record {
  ledger = unnamed mint theirs kept v x y h s;
  ledgers = unnamed_keeps mint theirs kept v x y h s;
  stands = unnamed_stands mint theirs kept v x y h s (moved (obeys kept) v) refl refl refl refl refl refl refl refl refl refl (at v.feed s.feed may.1);
  grows = unnamed_grows mint theirs kept v x y h s;
  sent = same_list x.sent;
  ended = refl;
}
  where
    before : v.phase ≡ phase.Ready → ⊥
    before r = reconnect_apart (sym may.0 ∙ r)

    at : (o : Option Spot) → IfSpot o (FeedStands v x y) → OnSpot o (λ p. (w : OutFrame) × IsNextAnswer y.sent w p × (IsAcceptance w → ⊥)) → IfSpot (taken_more o) (FeedStands (moved (obeys kept) v) (unnamed mint theirs kept v x y h s) y)
    at None f n = absurd n
    at (Some p) f (w, n, none) = record {
      ready = λ r. absurd (connecting_apart r);
      not_yet = λ r. f.not_yet before;
      waits = λ r. taken_still y.sent p w n none (f.waits before);
      asked = λ r. absurd (connecting_reconnect r);
      resumed = subst (λ q. IfSome q (λ e. e ≤ count 0 y)) (sym (f.unresumed before)) tt;
      unresumed = λ r. f.unresumed before;
      there = f.there;
    }
