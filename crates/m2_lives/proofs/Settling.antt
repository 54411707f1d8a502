-- Where a side is in Ready by an answer, and where it judges an ask, it stands by a ledger that has grown; so it does behind
-- every move.
use Rattle.std.proofs.Common.{◌≡◌, ◌≢◌, ℕ, ◌≤◌, ◌⊎◌, inl, inr, true, false, List, [], ◌∷◌, ◌++◌, length, map, Option, Some, None, refl, sym, ap, subst, ◌∙◌, arith, append-nil, append_assoc, le_refl}
use Rattle.std.specs.Prelude.{IfSome}
use Rattle.std.specs.List.{AllByRecursion}
use Rattle.m2_channel.proofs.Both.{ident_apart}
use Rattle.m2_journal.specs.Growth.{IsExtended}
use Rattle.m2_journal.specs.OutFrames as out
use Rattle.m2_journal.specs.OutFrames.{OutFrame}
use Rattle.m2_journal.specs.State.{SentFrame}
use Rattle.m2_journal.specs.m2_fabric.declared.socket.SocketId.{SocketId}
use Rattle.m2_journal.specs.m2_fabric.Sockets.{is_among}
use Rattle.m2_journal.specs.m2_message.Message.{Content}
use Rattle.m2_journal.specs.m2_session.declared.session.Phase.TheVariants as phase
use Rattle.m2_journal.proofs.m2_fabric.Sockets.{among_front, among_last}
use Rattle.m2_journal.proofs.m2_lemmas.Booleans.{false_isnt_true}
use Rattle.m2_journal.proofs.m2_lemmas.Lists.{all_so_of}
use Rattle.m2_never_reset.specs.Asks.{Ask, by_ident, by_reconnect}
use Rattle.m2_never_reset.specs.Frames.{asks_on, ask_of, no_ask, last_ask}
use Rattle.m2_never_reset.specs.Roles.{IsNumber}
use Rattle.m2_never_reset.proofs.Sent.{asks_same}
use Rattle.m2_lives.specs.Lives.{Has, IsNewName}
use Rattle.m2_lives.proofs.Among.{has_so, has_back}
use Rattle.m2_lives.specs.ObservedLaws.{NumberedLife}
use Rattle.m2_lives.proofs.Ledger.{Stay, Ledger, names, count, HasStay, IsTrueFrame, offers, IsAcceptance, HasAccepted, IsAskFor, HasAskedFor, IsThere, ComesFrom, AreLedgers}
use Rattle.m2_lives.proofs.Moves.{Spot, View, Move, begins, rests, opens, leaves, asks_ident, asks_reconnect, asks_again, obeys, settles, goes_on, refuses, gives_way, orders, takes, resumes, numbers, acknowledges, answers, accepts, counts, goes_down, on_socket, taken_more, anew, moved, OnSpot, IfSpot, IsNextAnswer, WasSent, IsRefusalFrame, MayTake, May}
use Rattle.m2_lives.proofs.Noting.{Grows, MaySend, MayBegin, MayStay, sends_one, begins_one, stays_one, numbers_more, draws_one, sends_keeps, begins_keeps, stays_keeps, numbers_keeps, draws_keeps, same_grows, begin_grows, stay_grows, numbers_grow, draw_grows, all_sent, one_stay, no_stay, stay_there}
use Rattle.m2_lives.proofs.Standing.{FeedStands, Stands, Draws, Next, grows_trans, next_sent, offers_drawn, offer_there, same_offer}
use Rattle.m2_lives.proofs.Moving.{reconnect_apart, ready_reconnect, still, leaves_stands, leaves_next, opens_next, acknowledges_next, answers_next, numbered_stands, numbers_next, equal_most, accepts_next, counts_next}
use Rattle.m2_lives.proofs.Asking.{asks_again_next, goes_down_next, obeys_next, asks_ident_next, asks_reconnect_next}
use Rattle.m2_bytes_fit.proofs.m2_trail.Later.{same_list}

-- ---- in Ready by an answer

-- the last ask is for one session
one_ask : (n m : ℕ) (a : Ask) → IsAskFor n a → IsAskFor m a → n ≡ m
one_ask n m (by_ident i) h g = absurd h
one_ask n m (by_reconnect r) h g = sym h ∙ g

goes_on_next : (mint theirs : ℕ → ℕ) (seen : ℕ) (v : View) (x y : Ledger) → May mint y (goes_on seen) v → AreLedgers mint theirs x y → Stands v x y → Next mint theirs false (moved (goes_on seen) v) x y
goes_on_next mint theirs seen v x y may h s = at v.feed refl s.feed may.1
  where
    before : v.phase ≡ phase.Ready → ⊥
    before r = reconnect_apart (sym may.0 ∙ r)

    at : (o : Option Spot) → v.feed ≡ o → IfSpot o (FeedStands v x y) → OnSpot o (IsNextAnswer y.sent (out.reconnect_ok seen)) → Next mint theirs false (record v { phase = phase.Ready; feed = taken_more o }) x y
    at None e f n = absurd n
    at (Some p) e f n =
        let was : WasSent y.sent (out.reconnect_ok seen) p = next_sent y.sent (out.reconnect_ok seen) p n in
        let asked = f.asked may.0 in
        let ok : MayStay p.socket v.life x y = record {
          fresh = f.not_yet before;
          there = f.there;
          agree = λ m stay. one_ask v.life m (last_ask no_ask (asks_on p.socket x.sent)) asked.0 (h.near_beside.asked p.socket seen m was stay);
          opener = λ o. has_so (λ (w : SentFrame). (w.socket ≡ p.socket) × (w.frame ≡ out.reconnect_ok seen)) (λ (w : SentFrame). (w.socket ≡ p.socket) × IsAcceptance w.frame) (λ w q. (q.0, subst IsAcceptance (sym q.1) tt)) y.sent was;
        } in
        record {
          ledger = stays_one p.socket v.life x;
          ledgers = stays_keeps mint theirs p.socket v.life x y ok h;
          stands = record {
            now = s.now;
            accepted = s.accepted;
            sent = s.sent;
            opened = s.opened;
            taken = s.taken;
            top = s.top;
            cookie = s.cookie;
            last = s.last;
            base = s.base;
            feed = record {
              ready = λ r. (has_back (λ (t : Stay). (t.socket ≡ p.socket) × (t.name ≡ v.life)) x.stays (record { socket = p.socket; name = v.life } ∷ []) (inl (refl, refl)), asked.1);
              not_yet = λ r. absurd (r refl);
              waits = λ r. absurd (r refl);
              asked = λ r. absurd (ready_reconnect r);
              resumed = f.resumed;
              unresumed = λ r. absurd (r refl);
              there = f.there;
            };
          };
          grows = stay_grows mint theirs p.socket v.life x y ok h;
          sent = same_list x.sent;
          ended = refl;
        }

-- ---- an offer is taken

-- no life has the cookie that is offered, since its side was never in Ready by it
module _ (mint theirs : ℕ → ℕ) (draws : Draws mint theirs) (k : SocketId) (cookie global : ℕ) (x y : Ledger) (h : AreLedgers mint theirs x y)
    (was : Has (λ (w : SentFrame). (w.socket ≡ k) × (w.frame ≡ out.server_ident cookie global)) y.sent) (fresh : AllByRecursion (λ (t : Stay). t.socket ≢ k) x.stays) where
  offered : IsTrueFrame theirs y k (out.server_ident cookie global)
  offered = all_sent (IsTrueFrame theirs y) y.sent k (out.server_ident cookie global) h.far.frames was

  unlike : (n : ℕ) → ComesFrom mint x y n → n ≢ cookie
  unlike n (inl z) e = draws.theirs_kept global (sym offered.2 ∙ sym e ∙ z)
  unlike n (inr (inl d)) e = draws.apart d.0 global d.1 offered.3 (sym d.3 ∙ e ∙ offered.2)
  unlike n (inr (inr has)) e = found (offers y.sent) both
    where
      both : Has (λ (t : Stay). HasStay t.socket n x × (t.socket ≡ k)) (offers y.sent)
      both = same_offer (λ (t : Stay). HasStay t.socket n x) (λ (t : Stay). t.socket ≡ k) n (offers y.sent) h.far.offered has
          (subst (λ c. Has (λ (t : Stay). (t.name ≡ c) × (t.socket ≡ k)) (offers y.sent)) (sym e) (offer_there k cookie global y.sent was))

      found : (os : List Stay) → Has (λ (t : Stay). HasStay t.socket n x × (t.socket ≡ k)) os → ⊥
      found [] q = q
      found (o ∷ os) (inl p) = no_stay k x.stays fresh n (subst (λ j. HasStay j n x) p.1 p.0)
      found (o ∷ os) (inr q) = found os q

  pub offer_is_new : IsNewName cookie (names x)
  offer_is_new = inr (all_so_of (ComesFrom mint x y) (λ n. n ≢ cookie) (names x) unlike h.near_beside.names)

settles_next : (mint theirs : ℕ → ℕ) → Draws mint theirs → (cookie global : ℕ) (kept : List Content) (v : View) (x y : Ledger) → May mint y (settles cookie global kept) v → AreLedgers mint theirs x y → Stands v x y →
    Next mint theirs true (moved (settles cookie global kept) v) x y
settles_next mint theirs draws cookie global kept v x y may h s = at v.feed refl s.feed may.1
  where
    before : v.phase ≡ phase.Ready → ⊥
    before r = ident_apart (sym may.0 ∙ r)

    at : (o : Option Spot) → v.feed ≡ o → IfSpot o (FeedStands v x y) → OnSpot o (IsNextAnswer y.sent (out.server_ident cookie global)) →
        Next mint theirs true (record (anew cookie kept v) { phase = phase.Ready; feed = taken_more o }) x y
    at None e f n = absurd n
    at (Some p) e f n =
        let was : WasSent y.sent (out.server_ident cookie global) p = next_sent y.sent (out.server_ident cookie global) p n in
        let fresh = f.not_yet before in
        let is = offered mint theirs draws p.socket cookie global x y h was fresh in
        let new = offer_is_new mint theirs draws p.socket cookie global x y h was fresh in
        let ok : MayStay p.socket cookie x y = record {
          fresh = fresh;
          there = f.there;
          agree = λ m stay. one_stay p.socket cookie m y.stays h.far.once is.0 stay;
          opener = λ o. has_so (λ (w : SentFrame). (w.socket ≡ p.socket) × (w.frame ≡ out.server_ident cookie global)) (λ (w : SentFrame). (w.socket ≡ p.socket) × IsAcceptance w.frame) (λ w q. (q.0, subst IsAcceptance (sym q.1) tt)) y.sent was;
        } in
        let z = stays_one p.socket cookie x in
        let here : HasStay p.socket cookie z = has_back (λ (t : Stay). (t.socket ≡ p.socket) × (t.name ≡ cookie)) x.stays (record { socket = p.socket; name = cookie } ∷ []) (inl (refl, refl)) in
        let l : NumberedLife = record { name = cookie; numbered = kept } in
        let begin : MayBegin mint l z y = record {
          fresh = new;
          from = inr (inr (has_so (λ (t : Stay). (t.name ≡ cookie) × (t.socket ≡ p.socket)) (λ (t : Stay). (t.name ≡ cookie) × HasStay t.socket cookie z) (λ t q. (q.0, subst (λ j. HasStay j cookie z) (sym q.1) here)) (offers y.sent) (offer_there p.socket cookie global y.sent was)));
        } in
        let h' = stays_keeps mint theirs p.socket cookie x y ok h in
        record {
          ledger = begins_one l z;
          ledgers = begins_keeps mint theirs l z y begin h';
          stands = record {
            now = refl;
            accepted = s.accepted;
            sent = s.sent;
            opened = s.opened;
            taken = s.taken;
            top = s.top;
            cookie = refl;
            last = sym (ap length (h.near.known cookie (untold new)));
            base = omega arith;
            feed = record {
              ready = λ r. (here, λ z. draws.theirs_kept global (sym is.2 ∙ z));
              not_yet = λ r. absurd (r refl);
              waits = λ r. absurd (r refl);
              asked = λ r. absurd (ready_reconnect r);
              resumed = subst (λ q. IfSome q (λ e. e ≤ count cookie y)) (sym (f.unresumed before)) tt;
              unresumed = λ r. absurd (r refl);
              there = f.there;
            };
          };
          grows = grows_trans x z (begins_one l z) (stay_grows mint theirs p.socket cookie x y ok h) (begin_grows mint theirs l z y begin h');
          sent = same_list x.sent;
          ended = refl;
        }
      where
        untold : IsNewName cookie (names x) → (cookie ≡ 0) ⊎ AllByRecursion (λ m. m ≢ cookie) (names x)
        untold q = q

-- ---- an ask is judged

refuses_next : (mint theirs : ℕ → ℕ) (k : SocketId) (number : ℕ) (ws : List OutFrame) (v : View) (x y : Ledger) → May mint y (refuses k number ws) v → AreLedgers mint theirs x y → Stands v x y →
    Next mint theirs false (moved (refuses k number ws) v) x y
refuses_next mint theirs k number ws v x y may h s = all ws raised (draws_keeps mint theirs number x.taken x y above (λ j e. e) h) (draw_grows mint theirs number x.taken x y above (λ j e. e) h) (same_list x.sent) refl may.0 v (record {
  now = s.now;
  accepted = s.accepted;
  sent = s.sent;
  opened = s.opened;
  taken = s.taken;
  top = refl;
  cookie = s.cookie;
  last = s.last;
  base = s.base;
  feed = fed v.feed s.feed;
})
  where
    raised : Ledger
    raised = draws_one number x.taken x

    above : x.top ≤ number
    above = let e = s.top in let d = may.1 in omega (arith, e, d)

    fed : (o : Option Spot) → IfSpot o (FeedStands v x y) → IfSpot o (FeedStands (record v { top = number }) raised y)
    fed None f = tt
    fed (Some p) f = record { ready = f.ready; not_yet = f.not_yet; waits = f.waits; asked = f.asked; resumed = f.resumed; unresumed = f.unresumed; there = f.there }

    plain : (w : OutFrame) → IsRefusalFrame w → (z : Ledger) → MaySend mint k w z y
    plain (out.reset full) r z = record { true_frame = tt; fresh = λ c g e. absurd (no_offer (out.reset full) r c g e); asks = λ e. absurd (false_isnt_true e); resumes = λ seen n e. absurd (no_ok (out.reset full) r seen e) }
      where
        no_offer : (w : OutFrame) → IsRefusalFrame w → (c g : ℕ) → w ≡ out.server_ident c g → ⊥
        no_offer w r c g e = subst IsRefusalFrame e r

        no_ok : (w : OutFrame) → IsRefusalFrame w → (seen : ℕ) → w ≡ out.reconnect_ok seen → ⊥
        no_ok w r seen e = subst IsRefusalFrame e r
    plain (out.retry connect) r z = record { true_frame = tt; fresh = λ c g e. absurd (subst IsRefusalFrame e r); asks = λ e. absurd (false_isnt_true e); resumes = λ seen n e. absurd (subst IsRefusalFrame e r) }
    plain (out.retry_global global) r z = record { true_frame = tt; fresh = λ c g e. absurd (subst IsRefusalFrame e r); asks = λ e. absurd (false_isnt_true e); resumes = λ seen n e. absurd (subst IsRefusalFrame e r) }
    plain out.wait r z = record { true_frame = tt; fresh = λ c g e. absurd (subst IsRefusalFrame e r); asks = λ e. absurd (false_isnt_true e); resumes = λ seen n e. absurd (subst IsRefusalFrame e r) }
    plain w r z = elim r [ ]

    not_asked : (w : OutFrame) → IsRefusalFrame w → ask_of w ≡ None
    not_asked (out.reset full) r = refl
    not_asked (out.retry connect) r = refl
    not_asked (out.retry_global global) r = refl
    not_asked out.wait r = refl
    not_asked w r = elim r [ ]

    more_sent : (w : OutFrame) (u : View) (z : Ledger) → IsRefusalFrame w → Stands (record u { top = number }) z y → Stands (record u { sent = u.sent ++ record { socket = k; frame = w } ∷ []; top = number }) (sends_one k w z) y
    more_sent w u z r t = record {
      now = t.now;
      accepted = t.accepted;
      sent = ap (λ l. l ++ record { socket = k; frame = w } ∷ []) t.sent;
      opened = t.opened;
      taken = t.taken;
      top = t.top;
      cookie = t.cookie;
      last = t.last;
      base = t.base;
      feed = at u.feed t.feed;
    }
      where
        at : (o : Option Spot) → IfSpot o (FeedStands (record u { top = number }) z y) → IfSpot o (FeedStands (record u { sent = u.sent ++ record { socket = k; frame = w } ∷ []; top = number }) (sends_one k w z) y)
        at None f = tt
        at (Some p) f = record {
          ready = f.ready;
          not_yet = f.not_yet;
          waits = f.waits;
          asked = λ e. let it = f.asked e in (subst (λ l. IsAskFor u.life (last_ask no_ask l)) (sym (asks_same p.socket z.sent (record { socket = k; frame = w }) (not_asked w r))) it.0, it.1);
          resumed = f.resumed;
          unresumed = f.unresumed;
          there = f.there;
        }

    all : (ws : List OutFrame) (z : Ledger) → AreLedgers mint theirs z y → Grows x z → IsExtended x.sent z.sent → z.ended ≡ x.ended → AllByRecursion IsRefusalFrame ws → (u : View) → Stands (record u { top = number }) z y →
        Next mint theirs false (record u { sent = u.sent ++ on_socket k ws; top = number }) x y
    all [] z h' g e q r u t = record { ledger = z; ledgers = h'; stands = subst (λ l. Stands (record u { sent = l; top = number }) z y) (sym (append-nil u.sent)) t; grows = g; sent = e; ended = q }
    all (w ∷ ws) z h' g e q r u t =
        let it : SentFrame = record { socket = k; frame = w } in
        subst (λ l. Next mint theirs false (record u { sent = l; top = number }) x y) (append_assoc u.sent (it ∷ []) (on_socket k ws))
        (all ws (sends_one k w z) (sends_keeps mint theirs k w z y (plain w r.0 z) h') (grows_trans x z (sends_one k w z) g (same_grows k w z))
        (e.0 ++ it ∷ [], ap (λ l. l ++ it ∷ []) e.1 ∙ append_assoc x.sent e.0 (it ∷ [])) q r.1 (record u { sent = u.sent ++ it ∷ [] }) (more_sent w u z r.0 t))

-- ---- an ask is accepted, or its session resumed

-- where it has accepted it has taken the socket
accepted_taken : (mint : ℕ → ℕ) (x : Ledger) (k : SocketId) (sent : List SentFrame) → AllByRecursion (λ (w : SentFrame). IsTrueFrame mint x w.socket w.frame) sent → HasAccepted k sent → is_among k x.taken ≡ true
accepted_taken mint x k [] all h = absurd h
accepted_taken mint x k (w ∷ ws) all (inr h) = accepted_taken mint x k ws all.1 h
accepted_taken mint x k (w ∷ ws) all (inl p) = subst (λ j. is_among j x.taken ≡ true) p.0 (at w.frame p.1 all.0)
  where
    at : (v : OutFrame) → IsAcceptance v → IsTrueFrame mint x w.socket v → is_among w.socket x.taken ≡ true
    at (out.server_ident c g) a t = t.1
    at (out.reconnect_ok seen) a t = t.2
    at v a t = elim a [ ]

opener_of : (y : Ledger) (theirs : List SentFrame) (ss : List Stay) (k : SocketId) (n : ℕ) → AllByRecursion (λ (s : Stay). is_among s.socket y.opened ≡ true → HasAccepted s.socket theirs) ss →
    Has (λ (s : Stay). (s.socket ≡ k) × (s.name ≡ n)) ss → is_among k y.opened ≡ true → HasAccepted k theirs
opener_of y theirs [] k n all h o = absurd h
opener_of y theirs (s ∷ ss) k n all (inl p) o = subst (λ j. HasAccepted j theirs) p.0 (all.0 (subst (λ j. is_among j y.opened ≡ true) (sym p.0) o))
opener_of y theirs (s ∷ ss) k n all (inr h) o = opener_of y theirs ss k n all.1 h o

module _ (mint theirs : ℕ → ℕ) (k : SocketId) (number : ℕ) (v : View) (x y : Ledger) (may : MayTake v k number y.taken) (h : AreLedgers mint theirs x y) (s : Stands v x y) where
  not_opened : is_among k x.opened ≡ false
  not_opened = ap (is_among k) s.opened ∙ may.not_opened

  not_taken : is_among k x.taken ≡ false
  not_taken = ap (is_among k) s.taken ∙ may.not_taken

  abbrev taking : Ledger
  taking = draws_one number (x.taken ++ k ∷ []) x

  number_above : x.top ≤ number
  number_above = let e = s.top in let d = may.drawn in omega (arith, e, d)

  taking_keeps : AreLedgers mint theirs taking y
  taking_keeps = draws_keeps mint theirs number (x.taken ++ k ∷ []) x y number_above (λ j e. among_front j x.taken (k ∷ []) e) h

  taking_grows : Grows x taking
  taking_grows = draw_grows mint theirs number (x.taken ++ k ∷ []) x y number_above (λ j e. among_front j x.taken (k ∷ []) e) h

  is_number : IsNumber number
  is_number = record { from = let d = may.drawn in omega (arith, d); to = may.within }

  -- the side wasn't in Ready there, nor was the other
  never_stayed : AllByRecursion (λ (t : Stay). t.socket ≢ k) x.stays
  never_stayed = all x.stays h.near.there
    where
      all : (ss : List Stay) → AllByRecursion (λ (t : Stay). IsThere x t.socket) ss → AllByRecursion (λ (t : Stay). t.socket ≢ k) ss
      all [] there = tt
      all (t ∷ ts) there = (λ e. at e there.0, all ts there.1)
        where
          at : t.socket ≡ k → IsThere x t.socket → ⊥
          at e (inl o) = false_isnt_true (sym not_opened ∙ subst (λ j. is_among j x.opened ≡ true) e o)
          at e (inr o) = false_isnt_true (sym not_taken ∙ subst (λ j. is_among j x.taken ≡ true) e o)

  other_never : (m : ℕ) → HasStay k m y → ⊥
  other_never m stay = at (stay_there y y.stays k m h.far.there stay)
    where
      at : IsThere y k → ⊥
      at (inl o) = false_isnt_true (sym not_taken ∙ accepted_taken mint x k x.sent h.near.frames (opener_of y x.sent y.stays k m h.far_beside.opener stay o))
      at (inr t) = false_isnt_true (sym may.not_theirs ∙ t)

  may_stay : (name : ℕ) → MayStay k name taking y
  may_stay name = record { fresh = never_stayed; there = inr (among_last k x.taken); agree = λ m stay. absurd (other_never m stay); opener = λ o. absurd (false_isnt_true (sym not_opened ∙ o)) }

  taken_here : (name : ℕ) → HasStay k name (stays_one k name taking)
  taken_here name = has_back (λ (t : Stay). (t.socket ≡ k) × (t.name ≡ name)) x.stays (record { socket = k; name = name } ∷ []) (inl (refl, refl))

  module _ (draws : Draws mint theirs) (cookie : ℕ) (drawn : cookie ≡ mint number) (kept : List Content) where
    below_number : (g : ℕ) → g ≤ x.top → g ≡ number → ⊥
    below_number g l e = let t = s.top in let d = may.drawn in omega (arith, l, e, t, d)

    unlike_drawn : (n : ℕ) → ComesFrom mint x y n → n ≢ cookie
    unlike_drawn n (inl z) e = draws.kept number (sym drawn ∙ sym e ∙ z)
    unlike_drawn n (inr (inl d)) e = below_number d.0 d.2 (draws.once d.0 number d.1 is_number (sym d.3 ∙ e ∙ drawn))
    unlike_drawn n (inr (inr has)) e = found (offers y.sent) (offers_drawn theirs y y.sent h.far.frames) has
      where
        found : (os : List Stay) → AllByRecursion (λ (t : Stay). (g : ℕ) × IsNumber g × (g ≤ y.top) × (t.name ≡ theirs g)) os → Has (λ (t : Stay). (t.name ≡ n) × HasStay t.socket n x) os → ⊥
        found [] all q = q
        found (o ∷ os) all (inl p) = draws.apart number all.0.0 is_number all.0.1 (sym drawn ∙ sym e ∙ sym p.0 ∙ all.0.3)
        found (o ∷ os) all (inr q) = found os all.1 q

    cookie_is_new : IsNewName cookie (names x)
    cookie_is_new = inr (all_so_of (ComesFrom mint x y) (λ n. n ≢ cookie) (names x) unlike_drawn h.near_beside.names)

    never_offered : AllByRecursion (λ n. n ≢ cookie) (map (λ (t : Stay). t.name) (offers x.sent))
    never_offered = all (offers x.sent) (offers_drawn mint x x.sent h.near.frames)
      where
        all : (os : List Stay) → AllByRecursion (λ (t : Stay). (g : ℕ) × IsNumber g × (g ≤ x.top) × (t.name ≡ mint g)) os → AllByRecursion (λ n. n ≢ cookie) (map (λ (t : Stay). t.name) os)
        all [] d = tt
        all (o ∷ os) d = (λ e. below_number d.0.0 d.0.2 (draws.once d.0.0 number d.0.1 is_number (sym d.0.3 ∙ e ∙ drawn)), all os d.1)

    abbrev new_life : NumberedLife
    new_life = record { name = cookie; numbered = kept }

    abbrev there_now : Ledger
    there_now = stays_one k cookie taking

    abbrev begun_there : Ledger
    begun_there = begins_one new_life there_now

    abbrev offer : OutFrame
    offer = out.server_ident cookie number

    stays_there : AreLedgers mint theirs there_now y
    stays_there = stays_keeps mint theirs k cookie taking y (may_stay cookie) taking_keeps

    may_begin : MayBegin mint new_life there_now y
    may_begin = record { fresh = cookie_is_new; from = inr (inl (number, is_number, le_refl number, drawn)) }

    begins_there : AreLedgers mint theirs begun_there y
    begins_there = begins_keeps mint theirs new_life there_now y may_begin stays_there

    takes_next : Next mint theirs true (moved (takes k cookie number kept) v) x y
    takes_next = record {
      ledger = sends_one k offer begun_there;
      ledgers = sends_keeps mint theirs k offer begun_there y (record {
        true_frame = (taken_here cookie, among_last k x.taken, drawn, is_number, le_refl number);
        fresh = λ c g e. subst (λ z. AllByRecursion (λ n. n ≢ z) (map (λ (t : Stay). t.name) (offers x.sent))) (same_cookie c g e) never_offered;
        asks = λ e. absurd (false_isnt_true e);
        resumes = λ seen n e. absurd (not_ok seen e);
      }) begins_there;
      stands = record {
        now = refl;
        accepted = s.accepted;
        sent = ap (λ l. l ++ record { socket = k; frame = offer } ∷ []) s.sent;
        opened = s.opened;
        taken = ap (λ l. l ++ k ∷ []) s.taken;
        top = refl;
        cookie = refl;
        last = sym (ap length (h.near.known cookie cookie_is_new));
        base = omega arith;
        feed = record {
          ready = λ r. (taken_here cookie, λ z. draws.kept number (sym drawn ∙ z));
          not_yet = λ r. absurd (r refl);
          waits = λ r. absurd (r refl);
          asked = λ r. absurd (ready_reconnect r);
          resumed = tt;
          unresumed = λ r. absurd (r refl);
          there = inr (among_last k x.taken);
        };
      };
      grows = grows_trans x taking (sends_one k offer begun_there) taking_grows
          (grows_trans taking there_now (sends_one k offer begun_there) (stay_grows mint theirs k cookie taking y (may_stay cookie) taking_keeps)
          (grows_trans there_now begun_there (sends_one k offer begun_there) (begin_grows mint theirs new_life there_now y may_begin stays_there) (same_grows k offer begun_there)));
      sent = (record { socket = k; frame = offer } ∷ [], refl);
      ended = refl;
    }
      where
        cookie_in : OutFrame → ℕ
        cookie_in (out.server_ident c g) = c
        cookie_in w = 0

        same_cookie : (c g : ℕ) → offer ≡ out.server_ident c g → cookie ≡ c
        same_cookie c g e = ap cookie_in e

        not_ok : (seen : ℕ) → offer ≡ out.reconnect_ok seen → ⊥
        not_ok seen e = cc

  resumes_next : (seen : ℕ) → HasAskedFor k v.server y.sent → v.server ≢ 0 → seen ≤ count v.server y → Next mint theirs false (moved (resumes k number seen) v) x y
  resumes_next seen asked kept within =
      let z = stays_one k v.life taking in
      let ok = out.reconnect_ok v.last in
      let here = taken_here v.life in
      let once = (stays_keeps mint theirs k v.life taking y (may_stay v.life) taking_keeps) in
      record {
        ledger = sends_one k ok z;
        ledgers = sends_keeps mint theirs k ok z y (record {
          true_frame = (v.life, record { stay = here; within = equal_most v.last (count v.life x) s.last }, among_last k x.taken);
          fresh = λ c g e. absurd (no_offer c g e);
          asks = λ e. absurd (false_isnt_true e);
          resumes = λ other n e stay. subst (λ i. HasAskedFor k i y.sent) (s.cookie ∙ one_stay k v.life n z.stays once.near.once here stay) asked;
        }) once;
        stands = record {
          now = s.now;
          accepted = s.accepted;
          sent = ap (λ l. l ++ record { socket = k; frame = ok } ∷ []) s.sent;
          opened = s.opened;
          taken = ap (λ l. l ++ k ∷ []) s.taken;
          top = refl;
          cookie = s.cookie;
          last = s.last;
          base = s.base;
          feed = record {
            ready = λ r. (here, λ e. kept (s.cookie ∙ e));
            not_yet = λ r. absurd (r refl);
            waits = λ r. absurd (r refl);
            asked = λ r. absurd (ready_reconnect r);
            resumed = subst (λ n. seen ≤ count n y) s.cookie within;
            unresumed = λ r. absurd (r refl);
            there = inr (among_last k x.taken);
          };
        };
        grows = grows_trans x taking (sends_one k ok z) taking_grows (grows_trans taking z (sends_one k ok z) (stay_grows mint theirs k v.life taking y (may_stay v.life) taking_keeps) (same_grows k ok z));
        sent = (record { socket = k; frame = ok } ∷ [], refl);
        ended = refl;
      }
    where
      no_offer : (c g : ℕ) → out.reconnect_ok v.last ≡ out.server_ident c g → ⊥
      no_offer c g e = cc

-- ---- every move

pub moves_next : (mint theirs : ℕ → ℕ) → Draws mint theirs → (m : Move) (v : View) (x y : Ledger) → May mint y m v → AreLedgers mint theirs x y → Stands v x y → Next mint theirs (begins m) (moved m v) x y
moves_next mint theirs draws rests v x y may h s = still mint theirs v x y h s
moves_next mint theirs draws (opens k) v x y may h s = opens_next mint theirs k v x y may h s
moves_next mint theirs draws (leaves p) v x y may h s = leaves_next mint theirs p v x y h s
moves_next mint theirs draws (asks_ident client global) v x y may h s = asks_ident_next mint theirs client global 0 v x y may h s
moves_next mint theirs draws (asks_reconnect client global connect) v x y may h s = asks_reconnect_next mint theirs client global connect v x y may.0 h s may.1
moves_next mint theirs draws asks_again v x y may h s = asks_again_next mint theirs v x y may h s
moves_next mint theirs draws (obeys kept) v x y may h s = obeys_next mint theirs kept v x y may h s
moves_next mint theirs draws (settles cookie global kept) v x y may h s = settles_next mint theirs draws cookie global kept v x y may h s
moves_next mint theirs draws (goes_on seen) v x y may h s = goes_on_next mint theirs seen v x y may h s
moves_next mint theirs draws (refuses k number ws) v x y may h s = refuses_next mint theirs k number ws v x y may h s
moves_next mint theirs draws (gives_way p k number ws) v x y may h s = refuses_next mint theirs k number ws (moved (leaves p) v) x y may h (leaves_stands p v x y s)
moves_next mint theirs draws (orders more) v x y may h s = record {
  ledger = numbers_more more x;
  ledgers = numbers_keeps mint theirs more x y h;
  stands = numbered_stands more v x y s;
  grows = numbers_grow mint theirs more x y h;
  sent = same_list x.sent;
  ended = refl;
}
moves_next mint theirs draws (takes k cookie number kept) v x y may h s = takes_next mint theirs k number v x y may.0 h s draws cookie may.1 kept
moves_next mint theirs draws (resumes k number seen) v x y may h s = resumes_next mint theirs k number v x y may.0 h s seen may.1 may.2 may.3
moves_next mint theirs draws (numbers more number m) v x y may h s = numbers_next mint theirs more number m v x y may h s
moves_next mint theirs draws (acknowledges number) v x y may h s = acknowledges_next mint theirs number v x y may h s
moves_next mint theirs draws (answers a) v x y may h s = answers_next mint theirs a v x y may h s
moves_next mint theirs draws (accepts key m taken) v x y may h s = accepts_next mint theirs key m taken v x y may h s
moves_next mint theirs draws (counts number) v x y may h s = counts_next mint theirs number v x y may h s
moves_next mint theirs draws goes_down v x y may h s = goes_down_next mint theirs v x y h s
