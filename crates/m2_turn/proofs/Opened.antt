-- A socket that a port made for a record is new to it, and is the last that came.
use Rattle.std.proofs.Common.{◌≡◌, ℕ, Bool, true, false, if◌then◌else◌, List, [], ◌∷◌, ◌++◌, Option, Some, None, IfSome, IsSome, refl, sym, ap, ◌∙◌}
use Rattle.std.specs.List.{AllByRecursion, filter_map}
use Rattle.m2_addr.specs.declared.addr.Addr.{Addr}
use Rattle.m2_record.specs.m2_core.Calls.{IsOpening}
use Rattle.m2_fabric.specs.declared.socket.SocketId.{SocketId}
use Rattle.m2_fabric.specs.End.{SeenEnd}
use Rattle.m2_fabric.specs.Port.{IsNewEnd}
use Rattle.m2_fabric.specs.Sockets.{goes_to, is_among}
use Rattle.m2_feed.specs.FeedNow.{FeedNow}
use Rattle.m2_feed.specs.m2_journal.declared.entry.Entry.{Entry}
use Rattle.m2_feed.specs.m2_journal.declared.entry.Entry.TheVariants as entry
use Rattle.m2_session.specs.declared.session.Session.{Session}
use Rattle.m2_record.specs.declared.due.Due.{Due}
use Rattle.m2_record.specs.declared.due.Due.TheVariants as due
use Rattle.m2_record.specs.Calls.{ConnectIsDue, Connects, IsNewSocket, IsSameButRoom, with_opened}
use Rattle.m2_record.specs.Due.{due_step, has_frame, has_parcel, has_plan, may_compose, may_connect, may_read, may_write}
use Rattle.m2_record.specs.IsRecord.{IsRecord}
use Rattle.m2_record.specs.RecordNow.{IsSessionOf, RecordNow}
use Rattle.m2_turn.specs.Connecting.{IsMadeBy}
use Rattle.m2_turn.specs.Steps.{BringsNoSocket, GoesOn, came_by, came_in}
use Rattle.m2_turn.proofs.Came.{are_known, back}
use Rattle.m2_bytes.proofs.m2_lemmas.Booleans.{false_isnt_true}
use Rattle.m2_fabric.proofs.Sockets.{among_neither, not_among_front}

-- ---- the connect that is due

abbrev is_connect : Due → Bool
is_connect (due.Connect at) = true
is_connect _ = false

abbrev chain : (plan hand connect write frame read compose : Bool) → ℕ → Due
chain a b c d e f g n = if a then due.Plan else (if b then due.Hand else (if c then due.Connect n else (if d then due.Write else (if e then due.Frame else (if f then due.Read else (if g then due.Compose else due.Nothing))))))

at_its_moment : (a b c d e f g : Bool) (n : ℕ) → is_connect (chain a b c d e f g n) ≡ true → chain a b c d e f g n ≡ due.Connect n
at_its_moment true b c d e f g n h = absurd (false_isnt_true h)
at_its_moment false true c d e f g n h = absurd (false_isnt_true h)
at_its_moment false false true d e f g n h = refl
at_its_moment false false false true e f g n h = absurd (false_isnt_true h)
at_its_moment false false false false true f g n h = absurd (false_isnt_true h)
at_its_moment false false false false false true g n h = absurd (false_isnt_true h)
at_its_moment false false false false false false true n h = absurd (false_isnt_true h)
at_its_moment false false false false false false false n h = absurd (false_isnt_true h)

pub is_due : (now at : ℕ) (d : Due) (old mid : RecordNow) → d ≡ due_step now old → d ≡ due.Connect at → IsSameButRoom old mid → ConnectIsDue now mid
is_due now at d old mid e is room =
    at_its_moment (has_plan mid) (has_parcel mid.parcels) (may_connect now mid) (may_write mid) (has_frame mid) (may_read mid) (may_compose mid) mid.waits.next_dial
    (ap is_connect (ap (due_step now) room ∙ sym e ∙ is))

-- ---- the sockets that came

pub filtered : {X : Type 0} (p : Entry → Option X) (xs ys : List Entry) → filter_map p (xs ++ ys) ≡ filter_map p xs ++ filter_map p ys
filtered {X} p [] ys = refl
filtered {X} p (x ∷ xs) ys = at (p x) refl (filtered p xs ys)
  where
    at : (o : Option X) → p x ≡ o → filter_map p (xs ++ ys) ≡ filter_map p xs ++ filter_map p ys → filter_map p (x ∷ xs ++ ys) ≡ filter_map p (x ∷ xs) ++ filter_map p ys
    at (Some k) h rest = rw h (ap (λ l. k ∷ l) rest)
    at None h rest = rw h rest

pub none_came : (es : List Entry) → AllByRecursion BringsNoSocket es → came_in es ≡ []
none_came [] none = refl
none_came (entry.Opened k ∷ es) none = absurd none.0
none_came (entry.Judged k ask number answer ∷ es) none = absurd none.0
none_came (entry.Post place ∷ es) none = none_came es none.1
none_came (entry.Dial ∷ es) none = none_came es none.1
none_came (entry.Read k count ∷ es) none = none_came es none.1
none_came (entry.Wrote k count ∷ es) none = none_came es none.1
none_came (entry.Closed k ∷ es) none = none_came es none.1
none_came (entry.Asked ident number ∷ es) none = none_came es none.1
none_came (entry.Numbered number ∷ es) none = none_came es none.1
none_came (entry.Accepted number key ∷ es) none = none_came es none.1
none_came (entry.Acked number ∷ es) none = none_came es none.1
none_came (entry.Obeyed full ∷ es) none = none_came es none.1
none_came (entry.Down planned ∷ es) none = none_came es none.1

-- behind a step the sockets that came are the same
pub still_made : (made : List SocketId) (old new : RecordNow) → GoesOn old new → IsMadeBy made old → IsMadeBy made new
still_made made old new on known k fresh =
    ap (is_among k) (ap came_in on.journal ∙ filtered came_by old.journal on.more)
    ∙ among_neither k (came_in old.journal) (came_in on.more) (known k fresh) (ap (is_among k) (none_came on.more on.no_socket))

pub room_made : (made : List SocketId) (old mid : RecordNow) → IsSameButRoom old mid → IsMadeBy made old → IsMadeBy made mid
room_made made old mid room known k fresh = ap (λ (r : RecordNow). is_among k (came_in r.journal)) room ∙ known k fresh

-- ---- a socket that is opened

pub is_new : (to : Addr) (made : List SocketId) (e : SeenEnd) (s : Session) (mid : RecordNow) → IsRecord mid → IsSessionOf mid.core.facts s → to ≡ s.peer → IsMadeBy made mid → IsNewEnd to made e → IsNewSocket mid e.id
is_new to made e s mid kept of_peer is known fresh =
    let names = are_known mid kept e.id (known e.id fresh.first) in
    record {
      leads = ap (λ (a : Addr). goes_to a e.id) (sym (is ∙ of_peer.peer)) ∙ fresh.towards;
      entries = names.0;
      ends = names.1;
    }

pub opened_entry : (e : SeenEnd) (old new : RecordNow) (o : Option FeedNow) → IfSome o (λ v. IsOpening old.core.facts e v × (new ≡ record (with_opened v e.id old) { room = new.room })) → IsSome o → new.journal ≡ old.journal ++ entry.Opened e.id ∷ []
opened_entry e old new (Some v) (_, h) some = ap (λ (r : RecordNow). r.journal) h
opened_entry e old new None h some = absurd (false_isnt_true some)

pub opened_facts : (e : SeenEnd) (old new : RecordNow) (o : Option FeedNow) → IfSome o (λ v. IsOpening old.core.facts e v × (new ≡ record (with_opened v e.id old) { room = new.room })) → IsSome o → new.core.facts ≡ old.core.facts
opened_facts e old new (Some v) (_, h) some = ap (λ (r : RecordNow). r.core.facts) h
opened_facts e old new None h some = absurd (false_isnt_true some)

pub opened_made : (made : List SocketId) (e : SeenEnd) (old new : RecordNow) → IsMadeBy made old → Connects e old new → IsMadeBy (made ++ e.id ∷ []) new
opened_made made e old new known opens k fresh =
    ap (is_among k) (ap came_in (opened_entry e old new new.core.live.feed opens.0 opens.1) ∙ filtered came_by old.journal (entry.Opened e.id ∷ []))
    ∙ among_neither k (came_in old.journal) (e.id ∷ []) (known k (not_among_front k made (e.id ∷ []) fresh)) (back k made (e.id ∷ []) fresh)
