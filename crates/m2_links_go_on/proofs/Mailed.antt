-- The mail is put into the queue, and letters that wait there are dispatched: these are calls of the queue, behind those before.
use Rattle.std.proofs.Common.{◌≡◌, inl, inr, ℕ, List, [], ◌∷◌, ◌++◌, map, take, drop, refl, sym, ap, ◌∙◌, append-nil, append_assoc}
use Rattle.std.specs.List.{AllByRecursion}
use Rattle.std.proofs.lemmas.List.{map-append}
use Rattle.m2_history.specs.m2_channel.Handing.{heard_by_calls, parcels_of, calls_of}
use Rattle.m2_dispatch.specs.Heard.{Heard}
use Rattle.m2_dispatch.specs.declared.letter.Letter.{Letter}
use Rattle.m2_dispatch.specs.declared.parcel.Parcel.{Parcel}
use Rattle.m2_dispatch.specs.Laws.{Call, History, Put, Turn, after_call, after_calls, history_of, start}
use Rattle.m2_dispatch.specs.Letters.{heard_in}
use Rattle.m2_dispatch.specs.Parcel.{heard_at_put}
use Rattle.m2_history.specs.m2_record.RecordNow.{RecordNow, delivery_of}
use Rattle.m2_dispatch.specs.m2_shared.Gates.{Places}
use Rattle.m2_cluster.specs.m2_center.m2_turn.declared.mailing.Mailed.TheVariants as mailed
use Rattle.m2_cluster.specs.m2_center.m2_turn.Mailing.{DispatchesSome, LacksMemory, Mailing, MailsSome, PutsSome, Queueing, after_puts, heard_at_puts}
use Rattle.m2_cluster.specs.m2_center.m2_turn.Outbox.{OutboxNow}
use Rattle.m2_links_go_on.specs.LogLaws.{MailStaysLogged}
use Rattle.m2_links_go_on.specs.Logged.{IsLogged, IsLoggedOf, all_put, fast_calls, logging}
use Rattle.m2_links_go_on.proofs.Puts.{parcels-append}

-- ---- calls one after another

calls-append : (peer : ℕ) (h : History) (xs ys : List Call) → after_calls peer h (xs ++ ys) ≡ after_calls peer (after_calls peer h xs) ys
calls-append peer h [] ys = refl
calls-append peer h (c ∷ xs) ys = calls-append peer (after_call peer h c) xs ys

heard-append : (peer : ℕ) (h : History) (xs ys : List Call) → heard_by_calls peer h (xs ++ ys) ≡ heard_by_calls peer h xs ++ heard_by_calls peer (after_calls peer h xs) ys
heard-append peer h [] ys = refl
heard-append peer h (Put p ∷ xs) ys =
    ap (λ l. heard_at_put p ++ l) (heard-append peer (after_call peer h (Put p)) xs ys)
    ∙ sym (append_assoc (heard_at_put p) (heard_by_calls peer (after_call peer h (Put p)) xs) (heard_by_calls peer (after_calls peer (after_call peer h (Put p)) xs) ys))
heard-append peer h (Turn ∷ xs) ys =
    ap (λ l. map heard_in (take 1 h.waiting) ++ l) (heard-append peer (after_call peer h Turn) xs ys)
    ∙ sym (append_assoc (map heard_in (take 1 h.waiting)) (heard_by_calls peer (after_call peer h Turn) xs) (heard_by_calls peer (after_calls peer (after_call peer h Turn) xs) ys))

-- ---- puts

puts_wait : (peer : ℕ) (h : History) (ps : List Parcel) → (after_calls peer h (all_put ps)).waiting ≡ after_puts ps h.waiting
puts_wait peer h [] = refl
puts_wait peer h (p ∷ ps) = puts_wait peer (after_call peer h (Put p)) ps

puts_heard : (peer : ℕ) (h : History) (ps : List Parcel) → heard_by_calls peer h (all_put ps) ≡ heard_at_puts ps
puts_heard peer h [] = refl
puts_heard peer h (p ∷ ps) = ap (λ l. heard_at_put p ++ l) (puts_heard peer (after_call peer h (Put p)) ps)

-- ---- turns

-- one for each of these letters
abbrev turns_for : List Letter → List Call
turns_for ls = map (λ _. Turn) ls

take_one : {X : Type 0} (x : X) (xs : List X) → take 1 (x ∷ xs) ≡ x ∷ []
take_one x [] = refl
take_one x (y ∷ ys) = refl

drop_one : {X : Type 0} (x : X) (xs : List X) → drop 1 (x ∷ xs) ≡ xs
drop_one x [] = refl
drop_one x (y ∷ ys) = refl

turns_wait : (peer : ℕ) (h : History) (ls rest : List Letter) → h.waiting ≡ ls ++ rest → (after_calls peer h (turns_for ls)).waiting ≡ rest
turns_wait peer h [] rest e = e
turns_wait peer h (l ∷ ls) rest e = turns_wait peer (after_call peer h Turn) ls rest (ap (drop 1) e ∙ drop_one l (ls ++ rest))

turns_heard : (peer : ℕ) (h : History) (ls rest : List Letter) → h.waiting ≡ ls ++ rest → heard_by_calls peer h (turns_for ls) ≡ map heard_in ls
turns_heard peer h [] rest e = refl
turns_heard peer h (l ∷ ls) rest e =
    ap (λ k. map heard_in (take 1 k) ++ heard_by_calls peer (after_call peer h Turn) (turns_for ls)) e
    ∙ ap (λ k. map heard_in k ++ heard_by_calls peer (after_call peer h Turn) (turns_for ls)) (take_one l (ls ++ rest))
    ∙ ap (λ k. heard_in l ∷ k) (turns_heard peer (after_call peer h Turn) ls rest (ap (drop 1) e ∙ drop_one l (ls ++ rest)))

no_parcels : (q : ℕ) (ls : List Letter) → parcels_of q (turns_for ls) ≡ []
no_parcels q [] = refl
no_parcels q (l ∷ ls) = no_parcels q ls

-- ---- of each record

module _ {D : Type 0} (heard : D → List Heard) where
  each_by : (calls further : List Call) (old new : OutboxNow D) (rs : List RecordNow) → fast_calls heard new ≡ fast_calls heard old →
      ((q : ℕ) → parcels_of q (further ++ all_put new.mail) ≡ parcels_of q (calls ++ all_put old.mail)) →
      AllByRecursion (IsLoggedOf heard calls old) rs → AllByRecursion (IsLoggedOf heard further new) rs
  each_by calls further old new [] fast same all = tt
  each_by calls further old new (r ∷ rs) fast same all = (
    record { fast = ap (calls_of r.place) fast ∙ all.0.fast; queued = ap (map delivery_of) (same r.place) ∙ all.0.queued },
    each_by calls further old new rs fast same all.1,
  )

  -- parcels are put
  puts_logged : (place : Places) (records : List RecordNow) (old new : Mailing D) → PutsSome heard place old new →
      IsLogged heard (logging records old.out old.queue.queued) → IsLogged heard (logging records new.out new.queue.queued)
  puts_logged place records old new p l = record {
    peers = l.peers;
    calls = l.calls ++ all_put p.put;
    queue = record {
      waiting = λ peer. p.waiting ∙ ap (after_puts p.put) (l.queue.waiting peer) ∙ sym (puts_wait peer (history_of peer l.calls) p.put) ∙ ap (λ (h : History). h.waiting) (sym (calls-append peer start l.calls (all_put p.put)));
      heard_so = λ peer. p.heard_more ∙ ap (λ k. k ++ heard_at_puts p.put) (l.queue.heard_so peer) ∙ ap (λ k. heard_by_calls peer start l.calls ++ k) (sym (puts_heard peer (history_of peer l.calls) p.put))
          ∙ sym (heard-append peer start l.calls (all_put p.put));
    };
    each = each_by l.calls (l.calls ++ all_put p.put) old.out new.out records (ap (fast_calls heard) p.out)
        (λ q. ap (parcels_of q) (append_assoc l.calls (all_put p.put) (all_put new.out.mail)
        ∙ ap (λ k. l.calls ++ k) (sym (map-append Put p.put new.out.mail) ∙ ap all_put (sym p.mail))))
        l.each;
  }

  -- letters are dispatched
  dispatches_logged : (place : Places) (records : List RecordNow) (out : OutboxNow D) (old new : Queueing D) → DispatchesSome heard place old new →
      IsLogged heard (logging records out old.queued) → IsLogged heard (logging records out new.queued)
  dispatches_logged place records out old new d l = record {
    peers = l.peers;
    calls = l.calls ++ turns;
    queue = record {
      waiting = λ peer. sym (ap (λ (h : History). h.waiting) (calls-append peer start l.calls turns) ∙ turns_wait peer (history_of peer l.calls) d.dispatched new.queued.waiting (waited peer));
      heard_so = λ peer. d.heard_more ∙ ap (λ k. k ++ map heard_in d.dispatched) (l.queue.heard_so peer)
          ∙ ap (λ k. heard_by_calls peer start l.calls ++ k) (sym (turns_heard peer (history_of peer l.calls) d.dispatched new.queued.waiting (waited peer)))
          ∙ sym (heard-append peer start l.calls turns);
    };
    each = each_by l.calls (l.calls ++ turns) out out records refl
        (λ q. parcels-append q (l.calls ++ turns) (all_put out.mail) ∙ ap (λ k. k ++ parcels_of q (all_put out.mail)) (parcels-append q l.calls turns
        ∙ ap (λ k. parcels_of q l.calls ++ k) (no_parcels q d.dispatched) ∙ append-nil (parcels_of q l.calls)) ∙ sym (parcels-append q l.calls (all_put out.mail)))
        l.each;
  }
    where
      turns : List Call
      turns = turns_for d.dispatched

      waited : (peer : ℕ) → (history_of peer l.calls).waiting ≡ d.dispatched ++ new.queued.waiting
      waited peer = sym (l.queue.waiting peer) ∙ d.waiting

  mails_logged : (place : Places) (records : List RecordNow) (old new : Mailing D) → MailsSome heard place old new →
      IsLogged heard (logging records old.out old.queue.queued) → IsLogged heard (logging records new.out new.queue.queued)
  mails_logged place records old new m l =
      dispatches_logged place records new.out m.mid new.queue m.dispatches (puts_logged place records old (record { out = new.out; queue = m.mid }) m.puts l)

  lacks_logged : (place : Places) (records : List RecordNow) (old new : Mailing D) → LacksMemory heard place old new →
      IsLogged heard (logging records old.out old.queue.queued) → IsLogged heard (logging records new.out new.queue.queued)
  lacks_logged place records old new (inl (p, _)) l = puts_logged place records old new p l
  lacks_logged place records old new (inr (m, _, _)) l = mails_logged place records old new m l

pub mail_stays_logged : {D : Type 0} → MailStaysLogged D
mail_stays_logged heard place mailed.Moved records old new (m, _, _) l = mails_logged heard place records old new m l
mail_stays_logged heard place mailed.Dry records old new (m, _, _) l = mails_logged heard place records old new m l
mail_stays_logged heard place mailed.NoMemory records old new m l = lacks_logged heard place records old new m l
