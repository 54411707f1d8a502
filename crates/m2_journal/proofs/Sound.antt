-- What holds of a replayed record's session, queue, frames and sockets.
use Rattle.std.proofs.Common.{◌≡◌, ◌≢◌, ℕ, Bool, true, false, subst}
use Rattle.m2_session.specs.declared.session.Phase.{Phase}
use Rattle.m2_session.specs.declared.session.Phase.TheVariants.{Ready}
use Rattle.m2_session.specs.declared.session.Session.{Session}
use Rattle.m2_journal.specs.Laws.{ReplaysAreSound, SessionIsSound}
use Rattle.m2_journal.specs.Replay.{after_items}
use Rattle.m2_journal.specs.SideFacts.{SideFacts}
use Rattle.m2_journal.specs.State.{start}
use Rattle.m2_journal.proofs.Cookies.{HasNoClient, HasServer, Keeps}
use Rattle.m2_journal.proofs.Drawn.{draws}
use Rattle.m2_journal.proofs.Fed.{stands}
use Rattle.m2_journal.proofs.Held.{held}

no_client : (lossy : Bool) (cookie : ℕ) → lossy ≡ true → HasNoClient lossy cookie → cookie ≡ 0
no_client lossy cookie e h = subst (λ (b : Bool). HasNoClient b cookie) e h

a_server : (p : Phase) (lossy : Bool) (cookie : ℕ) → lossy ≡ false → p ≡ Ready → HasServer p lossy cookie → cookie ≢ 0
a_server p lossy cookie e r h = subst (λ (q : Phase). HasServer q false cookie) r (subst (λ (b : Bool). HasServer p b cookie) e h)

session_is_sound : (f : SideFacts) (s : Session) → Keeps f s → SessionIsSound f s
session_is_sound f s h = record {
  mine = h.mine;
  peer = h.peer;
  policy = h.policy;
  client = λ e. no_client f.policy.lossy s.client_cookie e h.client;
  server = λ e r. a_server s.phase f.policy.lossy s.server_cookie e r h.server;
}

pub are_sound : ReplaysAreSound
are_sound f is law =
    let d = draws f is law in
    let h = held f is law in
    record {
      session = session_is_sound f (after_items f is (start f)).session (stands f is law).keeps;
      queue = d.queue;
      sent = d.sent;
      feed = h.1;
      spent = h.2;
      once = h.3;
      unspent = h.4;
    }
