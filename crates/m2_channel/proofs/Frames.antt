-- The messages among the frames that a side has composed, and those on one socket, with their numbers.
use Rattle.std.proofs.Common.{◌≡◌, ℕ, zero, suc, ◌+◌, inl, Bool, true, false, List, [], ◌∷◌, ◌++◌, length, take, drop, map, Option, Some, None, refl, sym, ap, ◌∙◌, subst, arith, append-nil}
use Rattle.std.specs.List.{AllByRecursion, filter_map}
use Rattle.std.proofs.lemmas.List.{take-append-drop}
use Rattle.std.proofs.lemmas.List.Elements.{filter_map-append}
use Rattle.m2_journal.specs.m2_fabric.declared.socket.SocketId.{SocketId}
use Rattle.m2_journal.specs.m2_fabric.Sockets.{same_socket}
use Rattle.m2_journal.specs.m2_message.Message.{Content, unnumbered}
use Rattle.m2_dispatch.specs.Laws.{IsSublist}
use Rattle.m2_journal.specs.OutFrames as out
use Rattle.m2_journal.specs.OutFrames.{OutFrame}
use Rattle.m2_journal.specs.State.{SentFrame}
use Rattle.m2_never_reset.specs.Frames.{ask_of, is_ask, answers_on}
use Rattle.m2_never_reset.proofs.Sent.{answers_here, answers_same, answers_elsewhere}
use Rattle.m2_channel.proofs.Sublists.{some_behind}

-- ---- messages with their numbers

pub record Mail : Type 0 where
  pub number : ℕ
  pub content : Content

abbrev pub mail_of : OutFrame → Option Mail
mail_of (out.message number acked m) = Some (record { number = number; content = m })
mail_of _ = None

abbrev pub mails_on : SocketId → List SentFrame → List Mail
mails_on k sent = filter_map mail_of (answers_on k sent)

abbrev pub mails_in : List SentFrame → List Mail
mails_in sent = filter_map (λ x. mail_of x.frame) sent

abbrev pub plain : Mail → Content
plain m = unnumbered m.content

-- as a reader counts them
abbrev pub messages_on : SocketId → List SentFrame → List Content
messages_on k sent = map plain (mails_on k sent)

abbrev pub messages_in : List SentFrame → List Content
messages_in sent = map plain (mails_in sent)

-- ---- one frame more

pub mails_here : (k : SocketId) (sent : List SentFrame) (x : SentFrame) → is_ask x.frame ≡ false → same_socket k x.socket ≡ true →
    mails_on k (sent ++ x ∷ []) ≡ mails_on k sent ++ filter_map mail_of (x.frame ∷ [])
mails_here k sent x n e = ap (filter_map mail_of) (answers_here k sent x n e) ∙ filter_map-append mail_of (answers_on k sent) (x.frame ∷ [])

pub mails_elsewhere : (k : SocketId) (sent : List SentFrame) (x : SentFrame) → same_socket k x.socket ≡ false → mails_on k (sent ++ x ∷ []) ≡ mails_on k sent
mails_elsewhere k sent x e = ap (filter_map mail_of) (answers_elsewhere k sent x e)

ask_no_mail : (w : OutFrame) → is_ask w ≡ true → mail_of w ≡ None
ask_no_mail (out.ident c g) e = refl
ask_no_mail (out.reconnect c s g n l) e = refl
ask_no_mail out.greeting e = refl
ask_no_mail (out.server_ident c g) e = refl
ask_no_mail (out.reconnect_ok n) e = refl
ask_no_mail (out.reset full) e = refl
ask_no_mail (out.retry n) e = refl
ask_no_mail (out.retry_global n) e = refl
ask_no_mail out.wait e = refl
ask_no_mail (out.message n a m) e = absurd (differs e)
  where
    differs : false ≡ true → ⊥
    differs e = cc
ask_no_mail (out.acknowledgement n) e = refl
ask_no_mail (out.keepalive_answer k) e = refl

no_mail : (w : OutFrame) → mail_of w ≡ None → filter_map mail_of (w ∷ []) ≡ []
no_mail w e = rw e refl

-- one that is no message
pub mails_same : (k : SocketId) (sent : List SentFrame) (x : SentFrame) → mail_of x.frame ≡ None → mails_on k (sent ++ x ∷ []) ≡ mails_on k sent
mails_same k sent x none = by_kind (is_ask x.frame) (same_socket k x.socket) refl refl
  where
    by_kind : (a b : Bool) → is_ask x.frame ≡ a → same_socket k x.socket ≡ b → mails_on k (sent ++ x ∷ []) ≡ mails_on k sent
    by_kind true b e f = ap (filter_map mail_of) (answers_same k sent x e)
    by_kind false true e f = mails_here k sent x e f ∙ ap (λ l. mails_on k sent ++ l) (no_mail x.frame none) ∙ append-nil (mails_on k sent)
    by_kind false false e f = mails_elsewhere k sent x f

-- ---- those on a socket are some of all

pub on_is_some : (k : SocketId) (sent : List SentFrame) → IsSublist (messages_on k sent) (messages_in sent)
on_is_some k [] = tt
on_is_some k (x ∷ xs) = at (same_socket k x.socket) (is_ask x.frame) (mail_of x.frame) refl refl refl (on_is_some k xs)
  where
    skipped : (o : Option Mail) → mail_of x.frame ≡ o → IsSublist (messages_on k xs) (messages_in xs) → IsSublist (messages_on k xs) (messages_in (x ∷ xs))
    skipped None e h = rw e h
    skipped (Some m) e h = rw e (some_behind (messages_on k xs) (plain m ∷ []) (messages_in xs) h)

    at : (a b : Bool) (o : Option Mail) → same_socket k x.socket ≡ a → is_ask x.frame ≡ b → mail_of x.frame ≡ o →
        IsSublist (messages_on k xs) (messages_in xs) → IsSublist (messages_on k (x ∷ xs)) (messages_in (x ∷ xs))
    at false b o e f g h = rw e (skipped o g h)
    at true true o e f g h = rw (e, f) (skipped o g h)
    at true false None e f g h = rw (e, f, g) h
    at true false (Some m) e f g h = rw (e, f, g) (inl (refl, h))

-- ---- numbers from 1 on

abbrev pub AreNumbered : ℕ → List Mail → Type 0
AreNumbered n [] = Unit {0}
AreNumbered n (m ∷ ms) = (m.number ≡ n + 1) × AreNumbered (n + 1) ms

pub numbered_more : (n : ℕ) (ms : List Mail) (m : Mail) → AreNumbered n ms → m.number ≡ n + length ms + 1 → AreNumbered n (ms ++ m ∷ [])
numbered_more n [] m h e = (omega (arith, e), tt)
numbered_more n (x ∷ xs) m h e = (h.0, numbered_more (n + 1) xs m h.1 (omega (arith, e)))

pub numbered_at : (n : ℕ) (xs ys : List Mail) (m : Mail) → AreNumbered n (xs ++ m ∷ ys) → m.number ≡ n + length xs + 1
numbered_at n [] ys m h = omega (arith, h.0)
numbered_at n (x ∷ xs) ys m h = let more = numbered_at (n + 1) xs ys m h.1 in omega (arith, more)

-- where a message stands among those on its socket
pub record StandsAmong (m : Mail) (ms : List Mail) : Type 0 where
  pub before : List Mail
  pub behind : List Mail
  pub all : ms ≡ before ++ m ∷ behind

pub stands_on : (k : SocketId) (sent : List SentFrame) (place number acked : ℕ) (c : Content) (more : List OutFrame) →
    drop place (answers_on k sent) ≡ out.message number acked c ∷ more → StandsAmong (record { number = number; content = c }) (mails_on k sent)
stands_on k sent place number acked c more e = record {
  before = filter_map mail_of (take place (answers_on k sent));
  behind = filter_map mail_of more;
  all =
      ap (filter_map mail_of) (sym (take-append-drop place (answers_on k sent)) ∙ ap (λ l. take place (answers_on k sent) ++ l) e)
      ∙ filter_map-append mail_of (take place (answers_on k sent)) (out.message number acked c ∷ more);
}

-- ---- no message, no acceptance, no ask

abbrev pub IsMute : OutFrame → Type 0
IsMute (out.ident cookie global) = ⊥
IsMute (out.reconnect client server global connect seen) = ⊥
IsMute (out.message number acked m) = ⊥
IsMute (out.server_ident cookie global) = ⊥
IsMute _ = Unit {0}

pub record SaysNothing (w : OutFrame) : Type 0 where
  pub no_mail : mail_of w ≡ None
  pub not_ask : is_ask w ≡ false
  pub no_ask : ask_of w ≡ None

pub mute_says_nothing : (w : OutFrame) → IsMute w → SaysNothing w
mute_says_nothing out.greeting h = record { no_mail = refl; not_ask = refl; no_ask = refl }
mute_says_nothing (out.ident c g) h = absurd h
mute_says_nothing (out.reconnect c s g n l) h = absurd h
mute_says_nothing (out.server_ident c g) h = absurd h
mute_says_nothing (out.reconnect_ok n) h = record { no_mail = refl; not_ask = refl; no_ask = refl }
mute_says_nothing (out.reset full) h = record { no_mail = refl; not_ask = refl; no_ask = refl }
mute_says_nothing (out.retry n) h = record { no_mail = refl; not_ask = refl; no_ask = refl }
mute_says_nothing (out.retry_global n) h = record { no_mail = refl; not_ask = refl; no_ask = refl }
mute_says_nothing out.wait h = record { no_mail = refl; not_ask = refl; no_ask = refl }
mute_says_nothing (out.message n a m) h = absurd h
mute_says_nothing (out.acknowledgement n) h = record { no_mail = refl; not_ask = refl; no_ask = refl }
mute_says_nothing (out.keepalive_answer k) h = record { no_mail = refl; not_ask = refl; no_ask = refl }

pub mute_no_mails : (ws : List OutFrame) → AllByRecursion IsMute ws → filter_map mail_of ws ≡ []
mute_no_mails [] h = refl
mute_no_mails (w ∷ ws) h = rw ((mute_says_nothing w h.0).no_mail) (mute_no_mails ws h.1)

all_dropped : (n : ℕ) (ws : List OutFrame) → AllByRecursion IsMute ws → AllByRecursion IsMute (drop n ws)
all_dropped zero ws h = h
all_dropped (suc n) [] h = tt
all_dropped (suc n) (w ∷ ws) h = all_dropped n ws h.1

-- where an acceptance stands they aren't mute
pub accepted_not_mute : (place cookie global : ℕ) (ws more : List OutFrame) → drop place ws ≡ out.server_ident cookie global ∷ more → AllByRecursion IsMute ws → ⊥
accepted_not_mute place cookie global ws more e h = elim ((subst (AllByRecursion IsMute) e (all_dropped place ws h)).0) [ ]
