-- What a feed keeps while it hears, signs and takes an answer: its socket, who opened it, and what is owed on it.
use Rattle.std.proofs.Common.{◌≡◌, ℕ, Bool, true, false, if◌then◌else◌, List, [], Option, Some, None, refl}
use Rattle.m2_handshake.specs.Course.{Course, course_of, text_of}
use Rattle.m2_handshake.specs.Moves.{is_authed}
use Rattle.m2_handshake.specs.Standing.{Standing, fed}
use Rattle.m2_session.specs.declared.event.Event.{Event}
use Rattle.m2_journal.specs.Feeds.{goes_on, greets, hears, hears_at, signs, split_into}
use Rattle.m2_journal.specs.Said.{split}
use Rattle.m2_journal.specs.State.{Feed}
use Rattle.m2_journal.specs.Steps.{takes_answer_if}

abbrev pub SameFeed : Feed → Feed → Type 0
SameFeed d e = (e.socket ≡ d.socket) × (e.opened ≡ d.opened) × (e.floor ≡ d.floor) × (e.owed ≡ d.owed)

signs-same : (s : Standing) (d : Feed) → SameFeed d (signs s d)
signs-same s d = at (is_authed s.stage)
  where
    at : (b : Bool) → SameFeed d (if b then split_into (split s.rest) (record d { hand = None }) else record d { hand = Some s })
    at true = (refl, refl, refl, refl)
    at false = (refl, refl, refl, refl)

pub goes_on-same : (c : Course) (d : Feed) → SameFeed d (goes_on c d)
goes_on-same c d = signs-same c.standing (record d { texts = greets (text_of c.events) d.texts })

pub hears-same : (bytes : List ℕ) (d : Feed) → SameFeed d (hears bytes d)
hears-same bytes d = at d.hand
  where
    at : (o : Option Standing) → SameFeed d (hears_at o bytes d)
    at (Some s) = goes_on-same (course_of (fed s bytes) []) d
    at None = (refl, refl, refl, refl)

pub takes_answer_if-same : (o : Option Event) (d : Feed) → SameFeed d (takes_answer_if o d)
takes_answer_if-same (Some e) d = (refl, refl, refl, refl)
takes_answer_if-same None d = (refl, refl, refl, refl)
