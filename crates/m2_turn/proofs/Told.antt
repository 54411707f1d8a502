-- What records have told halves stays so, and so the sessions stay consistent.
use Rattle.m2_shared.specs.Gates.{places}
use Rattle.std.proofs.Common.{◌≡◌, ℕ, Bool, true, false, ◌||◌, if◌then◌else◌, List, [], ◌∷◌, ◌++◌, map, Option, refl, sym, ap, subst, ◌∙◌, append-nil, append_assoc}
use Rattle.std.specs.List.{AllByRecursion, IsDistinct, list_any}
use Rattle.m2_addr.specs.declared.addr.Addr.{Addr}
use Rattle.m2_record.specs.m2_core.CoreNow.{CoreNow}
use Rattle.m2_fabric.specs.declared.socket.SocketId.{SocketId}
use Rattle.m2_fabric.specs.End.{SeenEnd, fresh_end}
use Rattle.m2_fabric.specs.Sockets.{IsNewTo, is_among, same_socket}
use Rattle.m2_handshake.specs.Asks.{same_addr}
use Rattle.m2_feed.specs.m2_journal.declared.entry.Entry.{Entry}
use Rattle.m2_feed.specs.m2_journal.declared.entry.Entry.TheVariants as entry
use Rattle.m2_feed.specs.m2_journal.Lawful.{judged_on}
use Rattle.m2_feed.specs.m2_journal.SideFacts.{SideFacts}
use Rattle.m2_record.specs.declared.work.Work.{Work}
use Rattle.m2_record.specs.Calls.{Connects, IsSameButRoom, Owns, after_missing}
use Rattle.m2_record.specs.IsRecord.{IsRecord, became_feed, feeds_in}
use Rattle.m2_record.specs.RecordNow.{RecordNow, feed_end, ids_of}
use Rattle.m2_record.specs.Stepping.{IsSameWork, KeepsReached}
use Rattle.m2_record.specs.TakenTrails.{judgement_of, judgements_in}
use Rattle.m2_trail.specs.Arrivals.{LooseNow}
use Rattle.m2_trail.specs.Incoming.{IncomingNow, accepted}
use Rattle.m2_turn.specs.Answering.{StaysBeside}
use Rattle.m2_turn.specs.Beside.{AllKeepCallers, KeepsCallers, MadeOn, Served, StayConsistent, TopFits}
use Rattle.m2_turn.specs.Sessions.{Caller, IsCaller, IsSupplied, IsTold, PendingNow, WasCaller, caller_in, caller_of, is_asker, peer_of, told_by, supply_of}
use Rattle.m2_turn.proofs.Known.{ends_by, fed_by}
use Rattle.m2_turn.proofs.Opened.{filtered, opened_entry, opened_facts}
use Rattle.m2_fabric.proofs.Sockets.{among_front, same_equal, among_neither, not_among_front}
use Rattle.m2_bytes.proofs.m2_lemmas.Booleans.{false_isnt_true}

-- ---- sockets that were made

pub among_on : (k : SocketId) (old new : List SocketId) → MadeOn old new → is_among k old ≡ true → is_among k new ≡ true
among_on k old new (more, e) h = ap (is_among k) e ∙ among_front k old more h

new_before : (k : SocketId) (old new : List SocketId) → MadeOn old new → IsNewTo new k → IsNewTo old k
new_before k old new (more, e) h = not_among_front k old more (sym (ap (is_among k) e) ∙ h)

pub none_made : (made : List SocketId) → MadeOn made made
none_made made = ([], sym (append-nil made))

pub made_on : (a b c : List SocketId) → MadeOn a b → MadeOn b c → MadeOn a c
made_on a b c (more, e) (rest, f) = (more ++ rest, f ∙ ap (λ l. l ++ rest) e ∙ append_assoc a more rest)

-- a socket that wasn't made yet is none of those that were
apart : (k x : SocketId) (made : List SocketId) → is_among k made ≡ true → IsNewTo made x → same_socket k x ≡ false
apart k x made among new = at (same_socket k x) refl
  where
    at : (b : Bool) → same_socket k x ≡ b → same_socket k x ≡ false
    at true e = absurd (false_isnt_true (sym new ∙ ap (λ j. is_among j made) (sym (same_equal k x e)) ∙ among))
    at false e = e

-- ---- one record

-- a half that looks so to the record
abbrev as_half : RecordNow → Caller → IncomingNow
as_half r c = record (accepted c.entity (fresh_end c.socket) 0) { trail = record { socket = c.socket; entity = c.entity; entries = []; judged = told_by r c; judged_after = [] } }

told_same : (c : Caller) (old new : RecordNow) → new.core.facts ≡ old.core.facts → told_by new c ≡ told_by old c
told_same c old new e = ap (λ (f : SideFacts). if is_asker c.asker f.peer then c.judged else []) e

pub beside : (made : List SocketId) (old new : RecordNow) → StaysBeside old new → KeepsCallers made old new
beside made old new stays = record {
  facts = stays.facts;
  told = (λ c among t. let k = stays.known (as_half old c) (record { entity = t.entity; new = t.new; judged = t.judged }) in
      record { entity = k.entity; new = k.new; judged = told_same c old new stays.facts ∙ k.judged });
}

pub keeps_on : (made more : List SocketId) (a b c : RecordNow) → MadeOn made more → KeepsCallers made a b → KeepsCallers more b c → KeepsCallers made a c
keeps_on made more a b c on first second = record {
  facts = second.facts ∙ first.facts;
  told = (λ x among t. second.told x (among_on x.socket made more on among) (first.told x among t));
}

pub nothing_told_on : (made : List SocketId) (r : RecordNow) → KeepsCallers made r r
nothing_told_on made r = record { facts = refl; told = (λ c among t. t) }

-- its core, its journal and its ends are the same
same_parts : (made : List SocketId) (old new : RecordNow) → new.core ≡ old.core → new.journal ≡ old.journal → new.spent ≡ old.spent → KeepsCallers made old new
same_parts made old new core journal spent = record {
  facts = ap (λ (x : CoreNow). x.facts) core;
  told = (λ c among t. record {
    entity = t.entity ∙ sym (ap (λ (x : CoreNow). x.facts.node.entity) core);
    new = ap (λ (x : CoreNow). is_among c.socket (ids_of (feed_end x.live.feed ++ new.spent))) core
        ∙ ap (λ (l : List SeenEnd). is_among c.socket (ids_of (feed_end old.core.live.feed ++ l))) spent ∙ t.new;
    judged = told_same c old new (ap (λ (x : CoreNow). x.facts) core) ∙ t.judged ∙ sym (ap (λ (j : List Entry). judged_on c.socket (judgements_in j)) journal);
  });
}

pub room_told : (made : List SocketId) (old new : RecordNow) → IsSameButRoom old new → KeepsCallers made old new
room_told made old new e = same_parts made old new (ap (λ (r : RecordNow). r.core) e) (ap (λ (r : RecordNow). r.journal) e) (ap (λ (r : RecordNow). r.spent) e)

pub missed_told : (made : List SocketId) (now : ℕ) (old new : RecordNow) → new ≡ after_missing now old → KeepsCallers made old new
missed_told made now old new e = same_parts made old new (ap (λ (r : RecordNow). r.core) e) (ap (λ (r : RecordNow). r.journal) e) (ap (λ (r : RecordNow). r.spent) e)

-- a socket that is opened is that of no half
pub opened_told : (made : List SocketId) (e : SeenEnd) (old new : RecordNow) → IsRecord old → IsRecord new → IsNewTo made e.id → Connects e old new → KeepsCallers made old new
opened_told made e old new was is fresh opens =
    let facts = opened_facts e old new new.core.live.feed opens.0 opens.1 in
    let journal = opened_entry e old new new.core.live.feed opens.0 opens.1 in
    record {
      facts = facts;
      told = (λ c among t. record {
        entity = t.entity ∙ sym (ap (λ (f : SideFacts). f.node.entity) facts);
        new = ends_by new is c.socket
            (ap (is_among c.socket) (ap feeds_in journal ∙ filtered became_feed old.journal (entry.Opened e.id ∷ []))
            ∙ among_neither c.socket (feeds_in old.journal) (e.id ∷ []) (fed_by old was c.socket t.new) (one_other c.socket (apart c.socket e.id made among fresh)));
        judged = told_same c old new facts ∙ t.judged
            ∙ sym (ap (judged_on c.socket) (ap judgements_in journal ∙ filtered judgement_of old.journal (entry.Opened e.id ∷ []) ∙ append-nil (judgements_in old.journal)));
      });
    }
  where
    one_other : (k : SocketId) → same_socket k e.id ≡ false → is_among k (e.id ∷ []) ≡ false
    one_other k other = rw other refl

-- ---- what records hold

pub supplied_on : (a b : Work) (made more : List SocketId) (r : RecordNow) → IsSameWork a b → KeepsReached a.number_pass.now b.number_pass.now → MadeOn made more → TopFits r →
    IsSupplied (supply_of a) made r → IsSupplied (supply_of b) more r
supplied_on a b made more r same reached on fits s = record {
  owned = subst (λ t. Owns (places t) r) (sym same.throttles) s.owned;
  top = reached r.core.top fits s.top;
  made = (λ k fresh. s.made k (new_before k made more on fresh));
}

pub all_supplied_on : (a b : Work) (made more : List SocketId) (rs : List RecordNow) → IsSameWork a b → KeepsReached a.number_pass.now b.number_pass.now → MadeOn made more → AllByRecursion TopFits rs →
    AllByRecursion (IsSupplied (supply_of a) made) rs → AllByRecursion (IsSupplied (supply_of b) more) rs
all_supplied_on a b made more [] same reached on fits s = tt
all_supplied_on a b made more (r ∷ rs) same reached on fits s =
    (supplied_on a b made more r same reached on fits.0 s.0, all_supplied_on a b made more rs same reached on fits.1 s.1)

pub reached_on : (a b c : Work) → KeepsReached a.number_pass.now b.number_pass.now → KeepsReached b.number_pass.now c.number_pass.now → KeepsReached a.number_pass.now c.number_pass.now
reached_on a b c first second n fits h = second n fits (first n fits h)

-- ---- all records

pub all_the_same : (made : List SocketId) (rs : List RecordNow) → AllKeepCallers made rs rs
all_the_same made [] = tt
all_the_same made (r ∷ rs) = (nothing_told_on made r, all_the_same made rs)

-- more sockets are known to be made later
pub all_earlier : (made more : List SocketId) (rs ss : List RecordNow) → MadeOn made more → AllKeepCallers more rs ss → AllKeepCallers made rs ss
all_earlier made more [] [] on keep = tt
all_earlier made more (r ∷ rs) (s ∷ ss) on (k, ks) = (keeps_on made more r r s on (nothing_told_on made r) k, all_earlier made more rs ss on ks)
all_earlier made more [] (s ∷ ss) on keep = absurd keep
all_earlier made more (r ∷ rs) [] on keep = absurd keep

told_all : (made : List SocketId) (c : Caller) (rs ss : List RecordNow) → is_among c.socket made ≡ true → AllKeepCallers made rs ss → AllByRecursion (IsTold c) rs → AllByRecursion (IsTold c) ss
told_all made c [] [] among keep told = tt
told_all made c (r ∷ rs) (s ∷ ss) among (k, ks) (t, ts) = (k.told c among t, told_all made c rs ss among ks ts)
told_all made c [] (s ∷ ss) among keep told = absurd keep
told_all made c (r ∷ rs) [] among keep told = absurd keep

asked_same : (made : List SocketId) (asker : Option Addr) (rs ss : List RecordNow) → AllKeepCallers made rs ss →
    list_any (λ r. is_asker asker (peer_of r)) ss ≡ list_any (λ r. is_asker asker (peer_of r)) rs
asked_same made asker [] [] keep = refl
asked_same made asker (r ∷ rs) (s ∷ ss) (k, ks) =
    ap (λ (f : SideFacts). is_asker asker f.peer || list_any (λ r. is_asker asker (peer_of r)) ss) k.facts
    ∙ ap (λ b. is_asker asker (peer_of r) || b) (asked_same made asker rs ss ks)
asked_same made asker [] (s ∷ ss) keep = absurd keep
asked_same made asker (r ∷ rs) [] keep = absurd keep

kinds_same : (made : List SocketId) (entity : ℕ) (rs ss : List RecordNow) → AllKeepCallers made rs ss →
    AllByRecursion (λ (r : RecordNow). r.core.facts.node.entity ≡ entity) rs → AllByRecursion (λ (r : RecordNow). r.core.facts.node.entity ≡ entity) ss
kinds_same made entity [] [] keep kinds = tt
kinds_same made entity (r ∷ rs) (s ∷ ss) (k, ks) (e, es) = (ap (λ (f : SideFacts). f.node.entity) k.facts ∙ e, kinds_same made entity rs ss ks es)
kinds_same made entity [] (s ∷ ss) keep kinds = absurd keep
kinds_same made entity (r ∷ rs) [] keep kinds = absurd keep

-- ---- the sessions

caller_kept : (old new : Served) (c : Caller) → MadeOn old.made new.made → AllKeepCallers old.made old.records new.records → IsCaller old.made old.records c → IsCaller new.made new.records c
caller_kept old new c on keep is = record {
  made = among_on c.socket old.made new.made on is.made;
  told = told_all old.made c old.records new.records is.made keep is.told;
  unheard = (λ none. is.unheard (sym (asked_same old.made c.asker old.records new.records keep) ∙ none));
}

halves_kept : (old new : Served) (ps : List PendingNow) → MadeOn old.made new.made → AllKeepCallers old.made old.records new.records →
    AllByRecursion (λ (p : PendingNow). IsCaller old.made old.records (caller_in p)) ps → AllByRecursion (λ (p : PendingNow). IsCaller new.made new.records (caller_in p)) ps
halves_kept old new [] on keep h = tt
halves_kept old new (p ∷ ps) on keep h = (caller_kept old new (caller_in p) on keep h.0, halves_kept old new ps on keep h.1)

loose_kept : (old new : Served) (ls : List LooseNow) → MadeOn old.made new.made → AllKeepCallers old.made old.records new.records →
    AllByRecursion (WasCaller old.made old.records) ls → AllByRecursion (WasCaller new.made new.records) ls
loose_kept old new [] on keep h = tt
loose_kept old new (l ∷ ls) on keep h =
    (record { asker = h.0.asker; caller = caller_kept old new (caller_of h.0.asker l) on keep h.0.caller }, loose_kept old new ls on keep h.1)

-- the peers of the records
pub same_peers : (made : List SocketId) (rs ss : List RecordNow) → AllKeepCallers made rs ss → map peer_of ss ≡ map peer_of rs
same_peers made [] [] kept = refl
same_peers made [] (s ∷ ss) kept = absurd kept
same_peers made (r ∷ rs) [] kept = absurd kept
same_peers made (r ∷ rs) (s ∷ ss) kept = ap (λ f. f.peer ∷ map peer_of ss) kept.0.facts ∙ ap (λ l. peer_of r ∷ l) (same_peers made rs ss kept.1)

pub stay : (old new : Served) → MadeOn old.made new.made → AllByRecursion (IsSupplied new.supply new.made) new.records → AllKeepCallers old.made old.records new.records → StayConsistent old new
stay old new on supplied keep entity halves loose c = record {
  records = supplied;
  kind = kinds_same old.made entity old.records new.records keep c.kind;
  peers = subst (IsDistinct same_addr) (sym (same_peers old.made old.records new.records keep)) c.peers;
  halves = halves_kept old new halves on keep c.halves;
  loose = loose_kept old new loose on keep c.loose;
  apart = c.apart;
}
