-- Throttles that are made for a node alone are no other thread's, and nothing is granted by passes that are new.
use Rattle.std.proofs.Common.{◌≡◌, ℕ, None, refl, ◌∙◌}
use Rattle.m2_dispatch.specs.m2_shared.Gates.{Gate, Places, alone, bytes, dispatch, dispatch_alone, messages, places, unused, words}
use Rattle.m2_dispatch.specs.m2_shared.declared.peer_type.PeerType.TheVariants.{Mon, Mds, Osd, Client, Mgr}
use Rattle.m2_exact.specs.Holding.{AreAlone}

alone_at : (n : ℕ) (gate : Gate) → places (alone (dispatch_alone n)) gate ≡ None
alone_at n (messages Mon) = refl
alone_at n (messages Mds) = refl
alone_at n (messages Osd) = refl
alone_at n (messages Client) = refl
alone_at n (messages Mgr) = refl
alone_at n (bytes Mon) = refl
alone_at n (bytes Mds) = refl
alone_at n (bytes Osd) = refl
alone_at n (bytes Client) = refl
alone_at n (bytes Mgr) = refl
alone_at n dispatch = refl

pub alone_places : (at : Places) (n : ℕ) → ((gate : Gate) → at gate ≡ places (alone (dispatch_alone n)) gate) → AreAlone at
alone_places at n same gate = same gate ∙ alone_at n gate

pub unused_words : (gate : Gate) → words unused gate ≡ 0
unused_words (messages Mon) = refl
unused_words (messages Mds) = refl
unused_words (messages Osd) = refl
unused_words (messages Client) = refl
unused_words (messages Mgr) = refl
unused_words (bytes Mon) = refl
unused_words (bytes Mds) = refl
unused_words (bytes Osd) = refl
unused_words (bytes Client) = refl
unused_words (bytes Mgr) = refl
unused_words dispatch = refl
