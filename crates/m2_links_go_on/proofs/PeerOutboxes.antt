-- Of which peers calls are, and what is on its way to the dispatchers: whatever is put there is of a peer that is allowed.
use Rattle.std.proofs.Common.{◌≡◌, inl, inr, ℕ, List, [], ◌∷◌, ◌++◌, map, Option, Some, None, IfSome, refl, sym, subst}
use Rattle.std.specs.List.{AllByRecursion}
use Rattle.m2_history.specs.m2_channel.Handing as handing
use Rattle.m2_dispatch.specs.Heard.{Heard, peer_of}
use Rattle.m2_dispatch.specs.declared.letter.Letter.{Letter}
use Rattle.m2_dispatch.specs.declared.parcel.Parcel.{Parcel}
use Rattle.m2_dispatch.specs.declared.parcel.Parcel.TheVariants as parcel
use Rattle.m2_dispatch.specs.Dispatch as dispatch
use Rattle.m2_dispatch.specs.Letters.{heard_in, letter_priority}
use Rattle.m2_dispatch.specs.Parcel.{after_put, heard_at_put}
use Rattle.m2_dispatch.specs.m2_policy.declared.path.Path.{Path}
use Rattle.m2_dispatch.specs.m2_policy.declared.path.Path.TheVariants.{Fast, Queued}
use Rattle.m2_dispatch.proofs.m2_queues.Joining.{all-put_behind}
use Rattle.m2_dispatch.specs.m2_shared.Gates.{Places}
use Rattle.m2_cluster.specs.m2_center.m2_turn.declared.mailing.Mailed.{Mailed}
use Rattle.m2_cluster.specs.m2_center.m2_turn.declared.mailing.Mailed.TheVariants as mailed
use Rattle.m2_cluster.specs.m2_center.m2_turn.Mailing.{DispatchesSome, Mailing, Mails, MailsSome, PutsSome, Queueing, after_puts, heard_at_puts}
use Rattle.m2_cluster.specs.m2_center.m2_turn.Outbox.{Dispatches, DispatchesOr, OutboxNow, Puts, PutsLetter, Retries, RetriesFor, in_mail}
use Rattle.m2_fabric.proofs.m2_lemmas.Lists.{all_append, all_filter}

-- ---- lists

pub all_parted : {X : Type 0} (P : X → Type 0) (xs ys : List X) → AllByRecursion P (xs ++ ys) → AllByRecursion P xs × AllByRecursion P ys
all_parted P [] ys all = (tt, all)
all_parted P (x ∷ xs) ys all = let rest = all_parted P xs ys all.1 in ((all.0, rest.0), rest.1)

-- ---- where parcels go

module _ {D : Type 0} (heard : D → List Heard) (Allowed : ℕ → Type 0) where
  abbrev IsCall : Heard → Type 0
  IsCall h = Allowed (peer_of h)

  abbrev IsLetter : Letter → Type 0
  IsLetter l = Allowed l.peer

  abbrev IsParcel : Parcel → Type 0
  IsParcel x = Allowed (handing.peer_of x)

  abbrev IsHeld : Option Letter → Type 0
  IsHeld o = IfSome o IsLetter

  -- the calls of the dispatcher of fast keys, the letter that is held, and the mail
  pub record FastIsOf (o : OutboxNow D) : Type 0 where
    pub fast : AllByRecursion (λ (h : Heard). Allowed (peer_of h)) (heard o.fast)
    pub held : IfSome o.held (λ (l : Letter). Allowed l.peer)
    pub mail : AllByRecursion (λ (x : Parcel). Allowed (handing.peer_of x)) o.mail

  -- the letters that wait, and the calls of the dispatcher behind them
  pub record QueueIsOf (q : dispatch.Queued D) : Type 0 where
    pub waiting : AllByRecursion (λ (l : Letter). Allowed l.peer) q.waiting
    pub calls : AllByRecursion (λ (h : Heard). Allowed (peer_of h)) (heard q.inner)

  -- ---- put

  dispatched : (l : Letter) (old new : OutboxNow D) → Allowed l.peer → FastIsOf old → Dispatches heard l old new → FastIsOf new
  dispatched l old new one so h = at new.held refl h
    where
      at : (o : Option Letter) → new.held ≡ o → DispatchesOr heard l old new o → FastIsOf new
      at None e (fast, mail) = record {
        fast = subst (AllByRecursion IsCall) (sym fast) (all_append IsCall (heard old.fast) (heard_in l ∷ []) so.fast (one, tt));
        held = subst IsHeld (sym e) tt;
        mail = subst (AllByRecursion IsParcel) (sym mail) so.mail;
      }
      at (Some kept) e (same, fast, mail) = record {
        fast = subst (AllByRecursion IsCall) (sym fast) so.fast;
        held = subst IsHeld (sym e) (subst IsLetter (sym same) one);
        mail = subst (AllByRecursion IsParcel) (sym mail) so.mail;
      }

  mail_with : (x : Parcel) (old new : OutboxNow D) → IsParcel x → FastIsOf old → new ≡ in_mail x old → FastIsOf new
  mail_with x old new one so e =
      subst FastIsOf (sym e) (record { fast = so.fast; held = so.held; mail = all_append IsParcel old.mail (x ∷ []) so.mail (one, tt) })

  letter_put : (l : Letter) (path : Path) (old new : OutboxNow D) → Allowed l.peer → FastIsOf old → PutsLetter heard l path old new → FastIsOf new
  letter_put l Fast old new one so h = dispatched l old new one so h
  letter_put l Queued old new one so h = mail_with (parcel.Letter l) old new one so h

  pub put : (x : Parcel) (old new : OutboxNow D) → Allowed (handing.peer_of x) → FastIsOf old → Puts heard x old new → FastIsOf new
  put (parcel.Letter l) old new one so h = letter_put l l.key.path old new one so h
  put (parcel.Discard peer) old new one so h = mail_with (parcel.Discard peer) old new one so h
  put (parcel.RemoteReset peer) old new one so h = mail_with (parcel.RemoteReset peer) old new one so h

  -- the letter that is held is tried again
  pub retried : (old new : OutboxNow D) → FastIsOf old → Retries heard old new → FastIsOf new
  retried old new so h = at old.held refl h
    where
      at : (o : Option Letter) → old.held ≡ o → RetriesFor heard o old new → FastIsOf new
      at (Some l) e r = dispatched l old new (subst IsHeld e so.held) so r
      at None e same = subst FastIsOf (sym same) so

  -- ---- mailed

  one_waits : (x : Parcel) (waiting : List Letter) → IsParcel x → AllByRecursion IsLetter waiting → AllByRecursion IsLetter (after_put x waiting)
  one_waits (parcel.Letter l) waiting one all = all-put_behind letter_priority IsLetter l waiting one all
  one_waits (parcel.Discard peer) waiting one all = all_filter IsLetter _ waiting all
  one_waits (parcel.RemoteReset peer) waiting one all = all

  all_wait : (xs : List Parcel) (waiting : List Letter) → AllByRecursion IsParcel xs → AllByRecursion IsLetter waiting →
      AllByRecursion IsLetter (after_puts xs waiting)
  all_wait [] waiting some all = all
  all_wait (x ∷ xs) waiting some all = all_wait xs (after_put x waiting) some.1 (one_waits x waiting some.0 all)

  one_heard : (x : Parcel) → IsParcel x → AllByRecursion IsCall (heard_at_put x)
  one_heard (parcel.Letter l) one = tt
  one_heard (parcel.Discard peer) one = tt
  one_heard (parcel.RemoteReset peer) one = (one, tt)

  all_heard : (xs : List Parcel) → AllByRecursion IsParcel xs → AllByRecursion IsCall (heard_at_puts xs)
  all_heard [] some = tt
  all_heard (x ∷ xs) some = all_append IsCall (heard_at_put x) (heard_at_puts xs) (one_heard x some.0) (all_heard xs some.1)

  letters_heard : (ls : List Letter) → AllByRecursion IsLetter ls → AllByRecursion IsCall (map heard_in ls)
  letters_heard [] all = tt
  letters_heard (l ∷ ls) all = (all.0, letters_heard ls all.1)

  -- both
  pub record AllIsOf (o : OutboxNow D) (q : dispatch.Queued D) : Type 0 where
    pub fast : FastIsOf o
    pub queue : QueueIsOf q

  puts_some : (place : Places) (old new : Mailing D) → PutsSome heard place old new → AllIsOf old.out old.queue.queued → AllIsOf new.out new.queue.queued
  puts_some place old new p so =
      let parts = all_parted IsParcel p.put new.out.mail (subst (AllByRecursion IsParcel) p.mail so.fast.mail) in
      record {
        fast = subst FastIsOf (sym p.out) (record { fast = so.fast.fast; held = so.fast.held; mail = parts.1 });
        queue = record {
          waiting = subst (AllByRecursion IsLetter) (sym p.waiting) (all_wait p.put old.queue.queued.waiting parts.0 so.queue.waiting);
          calls = subst (AllByRecursion IsCall) (sym p.heard_more)
              (all_append IsCall (heard old.queue.queued.inner) (heard_at_puts p.put) so.queue.calls (all_heard p.put parts.0));
        };
      }

  dispatches_some : (place : Places) (old new : Queueing D) → DispatchesSome heard place old new → QueueIsOf old.queued → QueueIsOf new.queued
  dispatches_some place old new d so =
      let parts = all_parted IsLetter d.dispatched new.queued.waiting (subst (AllByRecursion IsLetter) d.waiting so.waiting) in
      record {
        waiting = parts.1;
        calls = subst (AllByRecursion IsCall) (sym d.heard_more)
            (all_append IsCall (heard old.queued.inner) (map heard_in d.dispatched) so.calls (letters_heard d.dispatched parts.0));
      }

  mails_some : (place : Places) (old new : Mailing D) → MailsSome heard place old new → AllIsOf old.out old.queue.queued → AllIsOf new.out new.queue.queued
  mails_some place old new m so =
      let put_there = puts_some place old (record { out = new.out; queue = m.mid }) m.puts so in
      record { fast = put_there.fast; queue = dispatches_some place m.mid new.queue m.dispatches put_there.queue }

  pub mailed_on : (place : Places) (answer : Mailed) (old new : Mailing D) → Mails heard place answer old new → AllIsOf old.out old.queue.queued →
      AllIsOf new.out new.queue.queued
  mailed_on place mailed.Moved old new (m, _, _) so = mails_some place old new m so
  mailed_on place mailed.Dry old new (m, _, _) so = mails_some place old new m so
  mailed_on place mailed.NoMemory old new (inl (p, _)) so = puts_some place old new p so
  mailed_on place mailed.NoMemory old new (inr (m, _, _)) so = mails_some place old new m so
