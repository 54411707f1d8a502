-- A feed that hears bytes stays what it is to the link, but for more texts that it has got.
use Rattle.std.proofs.Common.{◌≡◌, ℕ, zero, suc, ◌≤◌, Bool, true, false, if◌then◌else◌, List, [], ◌∷◌, ◌++◌, length, take, Option, Some, None, refl, sym, ap, ◌∙◌, arith}
use Rattle.std.proofs.lemmas.List.{append-nil}
use Rattle.m2_queues.specs.m2_frame.Reading.{Item}
use Rattle.m2_journal.specs.m2_handshake.Course.{Course, course_of, text_of}
use Rattle.m2_journal.specs.m2_handshake.Moves.{is_authed}
use Rattle.m2_journal.specs.m2_handshake.Standing.{Standing, fed}
use Rattle.m2_journal.specs.m2_fabric.declared.socket.SocketId.{SocketId}
use Rattle.m2_journal.specs.Feeds.{greets, split_into, signs, goes_on, hears_at, hears, silent_feed, opened_feed}
use Rattle.m2_journal.specs.Said.{split}
use Rattle.m2_journal.specs.SideFacts.{SideFacts, opener_half}
use Rattle.m2_journal.specs.State.{Feed}
use Rattle.m2_never_reset.specs.LinkOf.{heard_in, heard_first, heard_on}

-- the new feed is the old one with more got
pub record HasHeard (old new : Feed) : Type 0 where
  pub socket : new.socket ≡ old.socket
  pub opened : new.opened ≡ old.opened
  pub taken : new.taken ≡ old.taken
  pub resumed : new.resumed ≡ old.resumed
  pub more : List Item
  pub got : new.got ≡ old.got ++ more

pub signs_hears : (s : Standing) (d : Feed) → HasHeard d (signs s d)
signs_hears s d = at (is_authed s.stage)
  where
    at : (t : Bool) → HasHeard d
        (if t then split_into (split s.rest) (record d { hand = None }) else record d { hand = Some s })
    at true = record { socket = refl; opened = refl; taken = refl; resumed = refl; more = (split s.rest).items; got = refl }
    at false = record { socket = refl; opened = refl; taken = refl; resumed = refl; more = []; got = sym (append-nil d.got) }

pub goes_on_hears : (c : Course) (d : Feed) → HasHeard d (goes_on c d)
goes_on_hears c d =
    let h = signs_hears c.standing (record d { texts = greets (text_of c.events) d.texts }) in
    record { socket = h.socket; opened = h.opened; taken = h.taken; resumed = h.resumed; more = h.more; got = h.got }

pub hears_at_hears : (o : Option Standing) (bytes : List ℕ) (d : Feed) → HasHeard d (hears_at o bytes d)
hears_at_hears (Some s) bytes d = goes_on_hears (course_of (fed s bytes) []) d
hears_at_hears None bytes d = record { socket = refl; opened = refl; taken = refl; resumed = refl; more = _; got = refl }

pub hears_hears : (bytes : List ℕ) (d : Feed) → HasHeard d (hears bytes d)
hears_hears bytes d = hears_at_hears d.hand bytes d

pub opened_hears : (f : SideFacts) (socket : SocketId) (last : ℕ) (owes : Bool) →
    HasHeard (silent_feed socket true last owes) (opened_feed f socket last owes)
opened_hears f socket last owes =
    goes_on_hears (course_of (opener_half f) []) (silent_feed socket true last owes)

-- ---- what was taken is as before

pub take-front : {X : Type 0} (n : ℕ) (xs ys : List X) → n ≤ length xs → take n (xs ++ ys) ≡ take n xs
take-front zero xs ys l = refl
take-front (suc n) [] ys l = absurd (omega (arith, l))
take-front (suc n) (x ∷ xs) ys l = ap (λ zs. x ∷ zs) (take-front n xs ys (omega (arith, l)))

pub heard_same : (old new : Feed) → HasHeard old new → old.taken ≤ length old.got →
    heard_on (Some new) ≡ heard_on (Some old)
heard_same old new h l =
    ap₃ new.resumed old.resumed new.taken old.taken new.got (old.got ++ h.more) h.resumed h.taken h.got
    ∙ ap (λ is. heard_in (heard_first old.resumed) is) (take-front old.taken old.got h.more l)
  where
    ap₃ : (r r' : Option ℕ) (n n' : ℕ) (is is' : List Item) → r ≡ r' → n ≡ n' → is ≡ is' →
        heard_in (heard_first r) (take n is)
        ≡ heard_in (heard_first r') (take n' is')
    ap₃ r r' n n' is is' e₁ e₂ e₃ = rw (e₁, e₂, e₃) refl
