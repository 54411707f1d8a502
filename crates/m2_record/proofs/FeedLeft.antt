-- An entry by which the feed may be left: its end, its socket's entry, and what is handed out.
use Rattle.std.proofs.Common.{◌≡◌, ℕ, Bool, true, false, List, [], ◌∷◌, ◌++◌, map, Option, Some, None, refl, sym, ap, subst, ◌∙◌, append_assoc}
use Rattle.std.specs.List.{AllByRecursion}
use Rattle.std.specs.Option.{option_to_list}
use Rattle.std.proofs.lemmas.List.{append-nil, map-append}
use Rattle.m2_core.specs.Effects.{closed_if}
use Rattle.m2_core.specs.Agrees.{FeedsAgree}
use Rattle.m2_dispatch.specs.declared.parcel.Parcel.{Parcel}
use Rattle.m2_fabric.specs.declared.socket.SocketId.{SocketId}
use Rattle.m2_fabric.specs.End.{SeenEnd}
use Rattle.m2_feed.specs.FeedNow.{FeedNow}
use Rattle.m2_journal.specs.declared.entry.Entry.{Entry}
use Rattle.m2_journal.specs.SideFacts.{SideFacts}
use Rattle.m2_journal.specs.State.{Delivery, Feed, State, discarded, remote_reset}
use Rattle.m2_journal.specs.Steps.{is_on}
use Rattle.m2_session.specs.declared.event.Effects.{Effects}
use Rattle.m2_record.specs.Calls.{closed_entries, told_parcels}
use Rattle.m2_record.specs.Calls as calls
use Rattle.m2_record.specs.IsRecord.{AreBehind, FeedHasRoom, FeedIsOpen, IsClosedEnd, IsRecord, IsReplayedTo, IsWellKept, closed_in}
use Rattle.m2_record.specs.RecordNow.{RecordNow, delivery_of, ends_of, feed_end, ids_of}
use Rattle.m2_record.specs.TakenTrails.{HaveTrails}
use Rattle.m2_record.proofs.Ends.{EndsStay, ends-moved, ends-same}
use Rattle.m2_record.proofs.Spending.{SpentOff, closes-behind}
use Rattle.m2_record.proofs.Telling.{feed_left, one_if, spent_if, told_by}

-- ---- ends

pub ends-left : (close : Bool) (feed : Option FeedNow) (spent : List SeenEnd) (journal : List Entry) → FeedIsOpen spent journal feed →
    EndsStay journal (feed_end feed ++ spent) (feed_end (feed_left close feed) ++ (spent ++ option_to_list (closed_if close feed)))
ends-left true (Some v) spent journal o = ends-moved journal v.end spent o.unspent
ends-left true None spent journal o = subst (EndsStay journal spent) (sym (append-nil spent)) (ends-same journal spent)
ends-left false feed spent journal o = subst (λ (l : List SeenEnd). EndsStay journal (feed_end feed ++ spent) (feed_end feed ++ l)) (sym (append-nil spent)) (ends-same journal (feed_end feed ++ spent))

all-more : (xs : List SeenEnd) (x : SeenEnd) → AllByRecursion IsClosedEnd xs → IsClosedEnd x → AllByRecursion IsClosedEnd (xs ++ x ∷ [])
all-more [] x h one = (one, tt)
all-more (y ∷ ys) x h one = (h.0, all-more ys x h.1 one)

pub closed-left : (close : Bool) (feed : Option FeedNow) (spent : List SeenEnd) → AllByRecursion IsClosedEnd spent → AllByRecursion IsClosedEnd (spent ++ option_to_list (closed_if close feed))
closed-left true (Some v) spent h = all-more spent _ h refl
closed-left true None spent h = subst (AllByRecursion IsClosedEnd) (sym (append-nil spent)) h
closed-left false feed spent h = subst (AllByRecursion IsClosedEnd) (sym (append-nil spent)) h

pub open-left : (close : Bool) (feed : Option FeedNow) (spent : List SeenEnd) (journal : List Entry) → FeedIsOpen spent journal feed →
    FeedIsOpen (spent ++ option_to_list (closed_if close feed)) journal (feed_left close feed)
open-left true feed spent journal o = tt
open-left false feed spent journal o = subst (λ (l : List SeenEnd). FeedIsOpen l journal feed) (sym (append-nil spent)) o

-- where the feed stays, there is as much room for its end
abbrev pub KeepsRoom : Bool → ℕ → ℕ → Type 0
KeepsRoom true old new = Unit {0}
KeepsRoom false old new = new ≡ old

pub room-left : (close : Bool) (feed : Option FeedNow) (old new : ℕ) → KeepsRoom close old new → FeedHasRoom old feed → FeedHasRoom new (feed_left close feed)
room-left true feed old new e h = tt
room-left false feed old new e h = subst (λ n. FeedHasRoom n feed) (sym e) h

-- ---- what is handed out

one-delivery : (b : Bool) (x : Parcel) (d : Delivery) → delivery_of x ≡ d → map delivery_of (calls.one_if b x) ≡ one_if b d
one-delivery true x d e = ap (λ (y : Delivery). y ∷ []) e
one-delivery false x d e = refl

pub parcels-left : (handed : ℕ) (parcels : List Parcel) (deliveries all : List Delivery) (place : ℕ) (e : Effects) → AreBehind handed (map delivery_of parcels) deliveries → all ≡ deliveries ++ told_by e →
    AreBehind handed (map delivery_of (parcels ++ told_parcels place e.discard e.remote_reset)) all
parcels-left handed parcels deliveries all place e h more = (
  h.0,
  h.1,
  more ∙ ap (λ (l : List Delivery). l ++ told_by e) h.2 ∙ append_assoc h.0 (map delivery_of parcels) (told_by e)
      ∙ ap (λ (l : List Delivery). h.0 ++ l) (sym (map-append delivery_of parcels (told_parcels place e.discard e.remote_reset) ∙ ap (λ (l : List Delivery). map delivery_of parcels ++ l) told)),
)
  where
    told : map delivery_of (told_parcels place e.discard e.remote_reset) ≡ told_by e
    told = map-append delivery_of _ _ ∙ both-deliver (one-delivery e.discard _ discarded refl) (one-delivery e.remote_reset _ remote_reset refl)
      where
        both-deliver : {a b c d : List Delivery} → a ≡ b → c ≡ d → a ++ c ≡ b ++ d
        both-deliver p q = rw (p, q) refl

-- ---- the entry of a socket that is spent

-- where there is no feed there is none in the replay
none-fed : (f : SideFacts) (s : State) (v : Option FeedNow) (d : Option Feed) → FeedsAgree f s v d → v ≡ None → d ≡ None
none-fed f s None None a e = refl
none-fed f s None (Some d) a e = absurd a
none-fed f s (Some v) d a e = absurd (no-some v e)
  where
    no-some : (v : FeedNow) → Some v ≡ None → ⊥
    no-some v e = subst (λ (o : Option FeedNow). elim o as (λ _. Type 0) [ None ↦ ⊥ | Some x ↦ Unit {0} ]) e tt

-- ---- as an end is closed, or none is

-- what is spent is that end, where there is one, and then there is no feed
abbrev pub SpentIs : Option SeenEnd → Option FeedNow → List SocketId → Type 0
SpentIs (Some e) feed sockets = (sockets ≡ e.id ∷ []) × (feed ≡ None)
SpentIs None feed sockets = sockets ≡ []

pub spent-is : (close : Bool) (f : SideFacts) (s : State) (v : Option FeedNow) (d : Option Feed) (sockets : List SocketId) → sockets ≡ [] → FeedsAgree f s v d →
    SpentIs (closed_if close v) (feed_left close v) (spent_if close d sockets)
spent-is true f s (Some v) (Some d) sockets e a = (ap (λ (l : List SocketId). l ++ d.socket ∷ []) e ∙ ap (λ (k : SocketId). k ∷ []) (sym a.socket), refl)
spent-is true f s (Some v) None sockets e a = absurd a
spent-is true f s None (Some d) sockets e a = absurd a
spent-is true f s None None sockets e a = e
spent-is false f s v d sockets e a = e

-- so it isn't the feed where the journal leads
spent-off : (f : SideFacts) (s : State) (closed : Option SeenEnd) (v : Option FeedNow) (d : Option Feed) (sockets : List SocketId) → FeedsAgree f s v d → SpentIs closed v sockets → SpentOff closed d sockets
spent-off f s (Some e) v d sockets a spent = (spent.0, subst (λ (o : Option Feed). is_on e.id o ≡ false) (sym (none-fed f s v d a spent.1)) refl)
spent-off f s None v d sockets a spent = spent

pub closes-entries : (r : RecordNow) (s : State) (closed : Option SeenEnd) → IsReplayedTo s r → IsWellKept r → SpentIs closed r.core.live.feed s.spent → closed_in (r.journal ++ closed_entries closed) ≡ ids_of r.spent →
    HaveTrails r.core.facts.node.entity (ends_of r) r.journal r.trails → IsRecord (record r { journal = r.journal ++ closed_entries closed })
closes-entries r s closed h kept spent so trails =
    closes-behind r s closed h kept (spent-off r.core.facts s closed r.core.live.feed s.feed s.spent h.core.feed spent) so trails
