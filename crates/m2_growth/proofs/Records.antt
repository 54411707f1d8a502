-- What a half reads on a socket that a record opened is the front of its greeting and of frames of which the first asks, or is
-- one that no entry names; so it is asked under the record's address alone.
use Rattle.std.proofs.Common.{◌≡◌, ℕ, inl, inr, Bool, true, false, List, [], ◌∷◌, ◌++◌, drop, Option, None, refl, sym, ap, ◌∙◌, subst, append_assoc}
use Rattle.std.specs.Prelude.{IfSome, Result, Ok}
use Rattle.std.specs.List.{AllByRecursion}
use Rattle.m2_fabric.specs.m2_addr.declared.addr.Addr.{Addr}
use Rattle.m2_fabric.specs.m2_addr.declared.fault.AddrFault.{AddrFault}
use Rattle.m2_fabric.specs.declared.socket.SocketId.{SocketId}
use Rattle.m2_fabric.specs.Sockets.{is_among}
use Rattle.m2_turn.specs.m2_handshake.declared.ask.Ask.{Ask}
use Rattle.m2_turn.specs.m2_handshake.Asks.{bare_ask}
use Rattle.m2_turn.specs.m2_handshake.Course.{Exchange, Reaches}
use Rattle.m2_turn.specs.m2_handshake.Greeting.{greeting}
use Rattle.m2_turn.specs.m2_handshake.Laws.{IsPrefix}
use Rattle.m2_turn.specs.m2_handshake.Standing.{Standing, acceptor_at_start}
use Rattle.m2_weave.specs.m2_journal.Items.{JournalItem, items_of}
use Rattle.m2_weave.specs.m2_journal.OutFrames.{OutFrame}
use Rattle.m2_weave.specs.m2_journal.Replay.{after_items}
use Rattle.m2_weave.specs.m2_journal.SideFacts.{SideFacts}
use Rattle.m2_weave.specs.m2_journal.State.{State, start}
use Rattle.m2_bytes_fit.specs.m2_never_reset.Frames.{frames_on}
use Rattle.m2_turn.specs.m2_record.RecordNow.{ends_of, speaks_of}
use Rattle.m2_bytes_fit.specs.m2_trail.Asks.{IsMain}
use Rattle.m2_bytes_fit.specs.m2_trail.Trails.{opener_of}
use Rattle.m2_bytes_fit.proofs.m2_trail.Asked.{main_stays_of}
use Rattle.m2_turn.specs.m2_record.Sources.{end_at, put_of, trail_at, written_before}
use Rattle.m2_bytes_fit.specs.Ends.{takings_on, wrote_on}
use Rattle.m2_bytes_fit.specs.Halves.{KeepsRanges}
use Rattle.m2_bytes_fit.specs.Texts.{texts_of}
use Rattle.m2_bytes_fit.proofs.Kept.{KeptBy, OpenedKept, greeting_of, view}
use Rattle.m2_bytes_fit.proofs.Puts.{IsLate}
use Rattle.m2_bytes_fit.proofs.Steps.{AllKept}
use Rattle.m2_growth.specs.AskLaws.{ArePut, ArrivalsAreTheOpeners, AskedBy, AskersAreTheOpeners, AsksAreTheOpeners}
use Rattle.m2_growth.proofs.Entries.{IsKept, lawful_kept}
use Rattle.m2_growth.proofs.Feeds.{BeginsAsking}
use Rattle.m2_growth.proofs.Halves.{BeginSo, asked_by}
use Rattle.m2_growth.proofs.Journals.{opened_in, untaken, wrote_all}
use Rattle.m2_fabric.proofs.m2_lemmas.Booleans.{from_false_true}
use Rattle.m2_fabric.proofs.m2_lemmas.Lists.{all_back}

-- ---- of one journal

record OpenedAt (f : SideFacts) (is : List JournalItem) (s : State) (k : SocketId) : Type 0 where
  kept : OpenedKept f (view is s k)
  untaken : takings_on k is ≡ []

opened_at : (f : SideFacts) (is : List JournalItem) (s : State) (k : SocketId) → AllKept f is s → is_among k s.opened ≡ true → OpenedAt f is s k
opened_at f is s k h o = at (is_among k s.opened) (takings_on k is) o refl (h k)
  where
    at : (b : Bool) (ts : List (List ℕ)) → b ≡ true → takings_on k is ≡ ts → KeptBy f b ts (view is s k) → OpenedAt f is s k
    at true [] e q g = record { kept = g; untaken = q }
    at true (u ∷ us) e q g = absurd g
    at false ts e q g = from_false_true e

begin_so : (ws late : List OutFrame) (left : List ℕ) → BeginsAsking ws → IsLate late left → BeginSo (ws ++ late)
begin_so (w ∷ ws) late left h l = inl h
begin_so [] [] left h l = tt
begin_so [] (w ∷ []) left h l = inr l.0
begin_so [] (w ∷ v ∷ vs) left h l = absurd l

greeting_and : (f : SideFacts) (t : List ℕ) → greeting_of f ++ t ≡ greeting f.node.rules.auth f.node.entity f.peer t
greeting_and f t = simp (append_assoc)

-- a half that has read the first of what a side wrote there
pub read_of_side : (f : SideFacts) → KeepsRanges f → (is : List JournalItem) (s : State) (k : SocketId) → IsKept f is s → is_among k s.opened ≡ true →
    (own : ℕ) (seen : Addr) (x : Exchange) (half : Standing) → Reaches (acceptor_at_start own seen) x half → IsPrefix x.bytes (wrote_on k is) → AskedBy f.mine x
read_of_side f ranges is s k h o own seen x half comes (more, e) =
    let put = (opened_at f is s k h.kept o).kept.put in
    asked_by f ranges own seen (frames_on k s.sent ++ put.late) (more ++ put.left) x half (begin_so (frames_on k s.sent) put.late put.left (h.asks.first k o) put.begun)
    (sym (append_assoc x.bytes more put.left) ∙ ap (λ l. l ++ put.left) (sym e) ∙ put.all ∙ greeting_and f (texts_of f (frames_on k s.sent ++ put.late))) comes

-- ---- of a record

pub asks_are : AsksAreTheOpeners
asks_are r k own seen x half is ranges o comes prefix =
    read_of_side f ranges items (after_items f items (start f)) k kept opened own seen x half comes (subst (IsPrefix x.bytes) (sym wrote) prefix)
  where
    f : SideFacts
    f = r.core.facts

    items : List JournalItem
    items = items_of (speaks_of r) r.journal

    kept : IsKept f items (after_items f items (start f))
    kept = lawful_kept f items is.at_state.replay.lawful

    opened : is_among k (after_items f items (start f)).opened ≡ true
    opened = opened_in f (speaks_of r) r.journal (start f) k is.at_state.replay.lawful o

    no_trail : trail_at r.trails k ≡ None
    no_trail = untaken k (speaks_of r) r.journal r.trails is.trails.sockets (opened_at f items (after_items f items (start f)) k kept.kept opened).untaken

    put : (speaks_of r).put k ≡ put_of (end_at (ends_of r) k)
    put = ap (λ t. drop (written_before t) (put_of (end_at (ends_of r) k))) no_trail

    wrote : wrote_on k items ≡ put_of (end_at (ends_of r) k)
    wrote = wrote_all k (speaks_of r) r.journal (is.at_state.replay.covering.written k) ∙ put

-- ---- an ask that is handed on

-- an ask is under one main address
one_main : (ask : Ask) (a b : Addr) → IsMain ask a → IsMain ask b → a ≡ b
one_main ask a b h k = ok_is a b (sym h ∙ k)
  where
    ok_is : (a b : Addr) → (let r : Result Addr AddrFault = Ok a in r) ≡ Ok b → a ≡ b
    ok_is a b e = cc

pub arrivals_are : ArrivalsAreTheOpeners
arrivals_are r k v is ranges o arrived put =
    let owes = arrived.owes in
    let asks = asks_are r k v.trail.entity (opener_of v.trail.socket) owes.exchange v.half is ranges o owes.comes (subst (ArePut r k) (sym owes.bytes) put) in
    let last = all_back (λ ask. IsMain ask r.core.facts.mine) owes.earlier (bare_ask arrived.ask ∷ []) (subst (AllByRecursion (λ ask. IsMain ask r.core.facts.mine)) owes.last asks) in
    subst (λ a. IfSome a (λ ask. IsMain ask r.core.facts.mine)) (sym arrived.in_hand) (main_stays_of arrived.ask r.core.facts.mine last.0)

pub askers_are : AskersAreTheOpeners
askers_are r k v asker is ranges o arrived put main =
    let P = λ (a : Option Ask). (main : Addr) → IfSome a (λ ask. IsMain ask main) → IfSome a (λ ask. IsMain ask r.core.facts.mine) → main ≡ r.core.facts.mine in
    let one : P v.ask = subst P (sym arrived.in_hand) (λ main h m. one_main arrived.ask main r.core.facts.mine h m) in
    one asker main (arrivals_are r k v is ranges o arrived put)
