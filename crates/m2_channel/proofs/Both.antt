-- What holds of the two sides of a lossy link together. The client opens all sockets, and the server judges on them. A socket
-- carries messages only once the server has taken it, which it does once: so the reader that comes to a socket comes before the
-- writer composes anything there.
use Rattle.std.proofs.Common.{◌≡◌, ℕ, true, false, List, [], ◌∷◌, ◌++◌, drop, map, Option, Some, None, refl, sym, ap, ◌∙◌, subst}
use Rattle.std.proofs.lemmas.Bool.{false_from_ne_true, true_from_ne_false}
use Rattle.m2_journal.specs.m2_fabric.declared.socket.SocketId.{SocketId}
use Rattle.m2_journal.specs.m2_fabric.Sockets.{is_among, same_socket}
use Rattle.m2_journal.specs.Laws.{taken_among}
use Rattle.m2_journal.specs.OutFrames as out
use Rattle.m2_journal.specs.OutFrames.{OutFrame}
use Rattle.m2_journal.specs.SideFacts.{SideFacts}
use Rattle.m2_journal.specs.State.{SentFrame}
use Rattle.m2_journal.specs.m2_message.Message.{Content}
use Rattle.m2_never_reset.specs.Frames.{answers_on}
use Rattle.m2_never_reset.proofs.Sockets.{taken_is_judged}
use Rattle.m2_journal.specs.m2_session.declared.session.Phase.TheVariants as phase
use Rattle.m2_channel.proofs.Frames.{mails_on, mails_same, mails_elsewhere, messages_on, plain, accepted_not_mute, mute_no_mails}
use Rattle.m2_channel.proofs.Moves.{Spot, View, Move, rests, posts, opens, leaves, gives_up, refuses, takes_on, asks, settles, numbers, accepts, moved, May, IfSpot, judgement, on_socket, sent_on}
use Rattle.m2_channel.proofs.Readers.{IsFresh, Reads, reads_after, reads_more}
use Rattle.m2_channel.proofs.Sides.{SideIs, StandsIn, judged_in, side_after, taken_more, taken_same}
use Rattle.m2_journal.proofs.m2_fabric.Sockets.{not_among_none, same_equal, not_among_front}
use Rattle.m2_journal.proofs.m2_lemmas.Booleans.{from_false_true}

-- ---- what was sent goes on

pub record IsMore (sent new : List SentFrame) : Type 0 where
  pub more : List SentFrame
  pub all : new ≡ sent ++ more

no_more : (v : View) → (w : View) → w.sent ≡ v.sent → IsMore v.sent w.sent
no_more v w e = record { more = []; all = e ∙ sym (nothing v.sent) }
  where
    nothing : (xs : List SentFrame) → xs ++ [] ≡ xs
    nothing [] = refl
    nothing (x ∷ xs) = ap (λ l. x ∷ l) (nothing xs)

sends_more : (m : Move) (v : View) → IsMore v.sent (moved m v).sent
sends_more rests v = no_more v (moved rests v) refl
sends_more (posts m) v = no_more v (moved (posts m) v) refl
sends_more (opens k) v = no_more v (moved (opens k) v) refl
sends_more (leaves p thrown) v = no_more v (moved (leaves p thrown) v) refl
sends_more gives_up v = no_more v (moved gives_up v) refl
sends_more (refuses k ws item) v = record { more = on_socket k ws; all = refl }
sends_more (takes_on k c g item) v = record { more = record { socket = k; frame = out.server_ident c g } ∷ []; all = refl }
sends_more (asks c g) v = record { more = sent_on v.feed (out.ident c g); all = refl }
sends_more (settles c) v = no_more v (moved (settles c) v) refl
sends_more (numbers n m) v = record { more = sent_on v.feed (out.message n v.last m); all = refl }
sends_more (accepts x) v = no_more v (moved (accepts x) v) refl

reads_moved : (r v : View) (m : Move) → Reads r v.sent → Reads r (moved m v).sent
reads_moved r v m h = let s = sends_more m v in subst (Reads r) (sym s.all) (reads_more r v.sent s.more h)

-- ---- the two sides

-- the side isn't in Ready on this socket
abbrev pub IsUnready : SocketId → View → Type 0
IsUnready k v = IfSpot v.feed (λ p. v.phase ≡ phase.Ready → same_socket k p.socket ≡ false)

-- the client has composed no message on a socket that the server didn't take, nor is it in Ready there
abbrev pub AreMet : (c s : View) → Type 0
AreMet c s = (k : SocketId) → is_among k (taken_among s.judgements) ≡ false → (mails_on k c.sent ≡ []) × IsUnready k c

pub record Both (f g : SideFacts) (c s : View) : Type 0 where
  pub client : SideIs f c
  pub server : SideIs g s
  -- the server opens nothing, and the client judges nothing
  pub opened : s.opened ≡ []
  pub unjudged : c.judgements ≡ []
  pub met : AreMet c s
  pub client_reads : Reads c s.sent
  pub server_reads : Reads s c.sent

-- ---- what is known where the client moves

-- an acceptance stands among the answers on this socket
pub record HasAcceptance (k : SocketId) (sent : List SentFrame) : Type 0 where
  pub place : ℕ
  pub cookie : ℕ
  pub global : ℕ
  pub more : List OutFrame
  pub first : drop place (answers_on k sent) ≡ out.server_ident cookie global ∷ more

abbrev pub HasHeard : Move → View → List SentFrame → Type 0
HasHeard (settles c) v sent = IfSpot v.feed (λ p. HasAcceptance p.socket sent)
HasHeard m v sent = Unit {0}

no_more_of : {X : Type 0} (xs : List X) (x : X) → xs ++ x ∷ [] ≡ [] → ⊥
no_more_of [] x e = cc
no_more_of (y ∷ ys) x e = cc

pub connecting_apart : phase.Connecting ≡ phase.Ready → ⊥
connecting_apart e = cc

pub ident_apart : phase.IdentSent ≡ phase.Ready → ⊥
ident_apart e = cc

module _ (f g : SideFacts) (c s : View) (h : Both f g c s) where
  -- an acceptance is there, so the server took the socket
  accepted_taken : (k : SocketId) → HasAcceptance k s.sent → is_among k (taken_among s.judgements) ≡ true
  accepted_taken k a =
      true_from_ne_false (is_among k (taken_among s.judgements))
      (λ e. accepted_not_mute a.place a.cookie a.global (answers_on k s.sent) a.more a.first (h.server.frames.mute k (not_among_none k s.opened h.opened) e))

  -- the client opens a socket: the server has composed nothing there
  opens_fresh : (k : SocketId) → is_among k c.opened ≡ false → ((j : SocketId) → is_among j (judged_in s.judgements) ≡ true → is_among j c.opened ≡ true) → messages_on k s.sent ≡ []
  opens_fresh k e judged =
      ap (map plain) (mute_no_mails (answers_on k s.sent) (h.server.frames.mute k (not_among_none k s.opened h.opened)
      (false_from_ne_true (is_among k (taken_among s.judgements)) (λ t. from_false_true (sym e ∙ judged k (taken_is_judged s.judgements k t))))))

  -- ---- the client moves

  client_fresh : (m : Move) → May f s.sent m c → (moved m c).judgements ≡ [] → ((j : SocketId) → is_among j (judged_in s.judgements) ≡ true → is_among j c.opened ≡ true) → IsFresh m s.sent
  client_fresh (opens k) may unjudged judged = opens_fresh k may.not_opened judged
  client_fresh (takes_on k cookie global item) may unjudged judged = absurd (no_more_of c.judgements (judgement k item) unjudged)
  client_fresh rests may unjudged judged = tt
  client_fresh (posts m) may unjudged judged = tt
  client_fresh (leaves p thrown) may unjudged judged = tt
  client_fresh gives_up may unjudged judged = tt
  client_fresh (refuses k ws item) may unjudged judged = tt
  client_fresh (asks cookie global) may unjudged judged = tt
  client_fresh (settles cookie) may unjudged judged = tt
  client_fresh (numbers n m) may unjudged judged = tt
  client_fresh (accepts x) may unjudged judged = tt

  met_asking : (cookie global : ℕ) → AreMet (moved (asks cookie global) c) s
  met_asking cookie global k e = at c.feed (h.met k e).0
    where
      at : (o : Option Spot) → mails_on k c.sent ≡ [] → (mails_on k (moved (asks cookie global) (record c { feed = o })).sent ≡ []) × IsUnready k (moved (asks cookie global) (record c { feed = o }))
      at None none = (ap (mails_on k) (sends_nothing c.sent) ∙ none, tt)
        where
          sends_nothing : (xs : List SentFrame) → xs ++ [] ≡ xs
          sends_nothing [] = refl
          sends_nothing (x ∷ xs) = ap (λ l. x ∷ l) (sends_nothing xs)
      at (Some p) none = (mails_same k c.sent (record { socket = p.socket; frame = out.ident cookie global }) refl ∙ none, λ r. absurd (ident_apart r))

  met_settling : (cookie : ℕ) → HasHeard (settles cookie) c s.sent → AreMet (moved (settles cookie) c) s
  met_settling cookie heard k e = ((h.met k e).0, at c.feed heard)
    where
      at : (o : Option Spot) → IfSpot o (λ p. HasAcceptance p.socket s.sent) → IfSpot o (λ p. phase.Ready ≡ phase.Ready → same_socket k p.socket ≡ false)
      at None a = tt
      at (Some p) a =
          λ r. false_from_ne_true (same_socket k p.socket)
          (λ q. from_false_true (sym (subst (λ z. is_among z (taken_among s.judgements) ≡ false) (same_equal k p.socket q) e) ∙ accepted_taken p.socket a))

  met_numbering : (n : ℕ) (m : Content) → May f s.sent (numbers n m) c → AreMet (moved (numbers n m) c) s
  met_numbering n m may k e = at c.feed (subst (λ p. StandsIn c p c.feed) may.phase h.client.stands) (h.met k e).0 (h.met k e).1
    where
      at : (o : Option Spot) → StandsIn c phase.Ready o → mails_on k c.sent ≡ [] → IfSpot o (λ p. c.phase ≡ phase.Ready → same_socket k p.socket ≡ false) →
          (mails_on k (moved (numbers n m) (record c { feed = o })).sent ≡ []) × IsUnready k (moved (numbers n m) (record c { feed = o }))
      at None stands none unready = absurd stands
      at (Some p) stands none unready = (mails_elsewhere k c.sent (record { socket = p.socket; frame = out.message n c.last m }) (unready may.phase) ∙ none, unready)

  client_met : (m : Move) → May f s.sent m c → (moved m c).judgements ≡ [] → HasHeard m c s.sent → AreMet (moved m c) s
  client_met rests may unjudged heard = h.met
  client_met (posts m) may unjudged heard = h.met
  client_met (opens k) may unjudged heard = λ j e. ((h.met j e).0, λ r. absurd (connecting_apart r))
  client_met (leaves p thrown) may unjudged heard = λ j e. ((h.met j e).0, tt)
  client_met gives_up may unjudged heard = λ j e. ((h.met j e).0, tt)
  client_met (refuses k ws item) may unjudged heard = absurd (no_more_of c.judgements (judgement k item) unjudged)
  client_met (takes_on k cookie global item) may unjudged heard = absurd (no_more_of c.judgements (judgement k item) unjudged)
  client_met (asks cookie global) may unjudged heard = met_asking cookie global
  client_met (settles cookie) may unjudged heard = met_settling cookie heard
  client_met (numbers n m) may unjudged heard = met_numbering n m may
  client_met (accepts x) may unjudged heard = h.met

  pub client_moves : (m : Move) → May f s.sent m c → (moved m c).judgements ≡ [] → HasHeard m c s.sent →
      ((j : SocketId) → is_among j (judged_in s.judgements) ≡ true → is_among j c.opened ≡ true) → Both f g (moved m c) s
  client_moves m may unjudged heard judged = record {
    client = side_after f s.sent c h.client m may;
    server = h.server;
    opened = h.opened;
    unjudged = unjudged;
    met = client_met m may unjudged heard;
    client_reads = reads_after f s.sent c h.client_reads m h.server.frames.numbered may (client_fresh m may unjudged judged);
    server_reads = reads_moved s c m h.server_reads;
  }

  -- ---- the server moves

  server_fresh : (m : Move) → May g c.sent m s → (moved m s).opened ≡ [] → IsFresh m c.sent
  server_fresh (opens k) may opened = absurd (no_more_of s.opened k opened)
  server_fresh (takes_on k cookie global item) may opened = ap (map plain) (h.met k may.not_taken).0
  server_fresh rests may opened = tt
  server_fresh (posts m) may opened = tt
  server_fresh (leaves p thrown) may opened = tt
  server_fresh gives_up may opened = tt
  server_fresh (refuses k ws item) may opened = tt
  server_fresh (asks cookie global) may opened = tt
  server_fresh (settles cookie) may opened = tt
  server_fresh (numbers n m) may opened = tt
  server_fresh (accepts x) may opened = tt

  server_met : (m : Move) → May g c.sent m s → AreMet c (moved m s)
  server_met (refuses k ws item) may = λ j e. h.met j (subst (λ l. is_among j l ≡ false) (taken_same s.judgements (judgement k item) may.refused) e)
  server_met (takes_on k cookie global item) may =
      λ j e. h.met j (not_among_front j (taken_among s.judgements) (k ∷ []) (subst (λ l. is_among j l ≡ false) (taken_more s.judgements (judgement k item) may.taken) e))
  server_met rests may = h.met
  server_met (posts m) may = h.met
  server_met (opens k) may = h.met
  server_met (leaves p thrown) may = h.met
  server_met gives_up may = h.met
  server_met (asks cookie global) may = h.met
  server_met (settles cookie) may = h.met
  server_met (numbers n m) may = h.met
  server_met (accepts x) may = h.met

  pub server_moves : (m : Move) → May g c.sent m s → (moved m s).opened ≡ [] → Both f g c (moved m s)
  server_moves m may opened = record {
    client = h.client;
    server = side_after g c.sent s h.server m may;
    opened = opened;
    unjudged = h.unjudged;
    met = server_met m may;
    client_reads = reads_moved c s m h.client_reads;
    server_reads = reads_after g c.sent s h.server_reads m h.client.frames.numbered may (server_fresh m may opened);
  }
