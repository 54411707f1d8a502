-- What is held in a center's mail and in its queue, behind the mail that is emptied.
use Rattle.std.proofs.Common.{◌≡◌, ℕ, ◌+◌, if◌then◌else◌, List, [], ◌∷◌, Bool, true, false, inl, inr, refl, ◌∙◌, ap, arith}
use Rattle.std.specs.Prelude.{nat_lt}
use Rattle.m2_dispatch.proofs.Letters.{granted-first, granted-thrown, of_peer-kept, others-kept, others-thrown}
use Rattle.m2_dispatch.specs.Heard.{Heard}
use Rattle.m2_dispatch.specs.Letters.{granted, is_of_peer, letter_priority, of_peer, others}
use Rattle.m2_dispatch.specs.Parcel.{after_put, thrown_away}
use Rattle.m2_dispatch.specs.declared.letter.Letter.{Letter}
use Rattle.m2_dispatch.specs.declared.parcel.Parcel.{Parcel}
use Rattle.m2_dispatch.specs.declared.parcel.Parcel.TheVariants as parcel
use Rattle.m2_dispatch.specs.m2_queues.ByRank.{put_behind}
use Rattle.m2_dispatch.specs.m2_shared.Gates.{Gate, Places, held, words}
use Rattle.m2_script.proofs.m2_center.m2_turn.Emptied.{granted_append}
use Rattle.m2_script.specs.m2_center.m2_record.Calls.{all_granted, granted_in}
use Rattle.m2_script.specs.m2_center.m2_turn.Mailing.{DispatchesSome, Mailing, Mails, MailsSome, PutsSome, Queueing, after_puts, all_thrown_away}
use Rattle.m2_script.specs.m2_center.m2_turn.Outbox as out
use Rattle.m2_script.specs.m2_center.m2_turn.Outbox.{OutboxNow, held_in}
use Rattle.m2_script.specs.m2_center.m2_turn.declared.mailing.Mailed.{Mailed}
use Rattle.m2_script.specs.m2_center.m2_turn.declared.mailing.Mailed.TheVariants as mailed
use Rattle.m2_exact.proofs.HeldSums as sums
use Rattle.m2_exact.proofs.HeldSums.{Follows}
use Rattle.m2_exact.specs.Holding.{AreAlone}

-- ---- a parcel that is put

module _ (gate : Gate) where
  joined : (l : Letter) (ls : List Letter) → granted (put_behind letter_priority l ls) gate ≡ held l.grants gate + granted ls gate
  joined l [] = granted-first gate l []
  joined l (k ∷ ls) = by (nat_lt (letter_priority k) (letter_priority l)) (joined l ls)
    where
      by : (b : Bool) → granted (put_behind letter_priority l ls) gate ≡ held l.grants gate + granted ls gate →
          granted (if b then l ∷ k ∷ ls else k ∷ put_behind letter_priority l ls) gate ≡ held l.grants gate + granted (k ∷ ls) gate
      by true rest = granted-first gate l (k ∷ ls)
      by false rest =
          let first = granted-first gate k (put_behind letter_priority l ls) in
          let all = granted-first gate k ls in
          omega (arith, first, rest, all)

  parted : (peer : ℕ) (ls : List Letter) → granted (others peer ls) gate + granted (of_peer peer ls) gate ≡ granted ls gate
  parted peer [] = refl
  parted peer (l ∷ ls) = by (is_of_peer peer l) refl (parted peer ls)
    where
      by : (b : Bool) → is_of_peer peer l ≡ b → granted (others peer ls) gate + granted (of_peer peer ls) gate ≡ granted ls gate →
          granted (others peer (l ∷ ls)) gate + granted (of_peer peer (l ∷ ls)) gate ≡ granted (l ∷ ls) gate
      by true e rest =
          let kept = ap (λ (xs : List Letter). granted xs gate) (others-thrown peer l ls e) in
          let thrown = granted-thrown gate peer l ls e in
          let all = granted-first gate l ls in
          omega (arith, kept, thrown, rest, all)
      by false e rest =
          let kept = ap (λ (xs : List Letter). granted xs gate) (others-kept peer l ls e) ∙ granted-first gate l (others peer ls) in
          let thrown = ap (λ (xs : List Letter). granted xs gate) (of_peer-kept peer l ls e) in
          let all = granted-first gate l ls in
          omega (arith, kept, thrown, rest, all)

  put : (x : Parcel) (ls : List Letter) → granted (after_put x ls) gate + granted (thrown_away x ls) gate ≡ granted_in x gate + granted ls gate
  put (parcel.Letter l) ls = let e = joined l ls in omega (arith, e)
  put (parcel.Discard peer) ls = let e = parted peer ls in omega (arith, e)
  put (parcel.RemoteReset peer) ls = omega arith

  all_put : (xs : List Parcel) (ls : List Letter) → granted (after_puts xs ls) gate + granted (all_thrown_away xs ls) gate ≡ all_granted xs gate + granted ls gate
  all_put [] ls = omega arith
  all_put (x ∷ xs) ls =
      let one = put x ls in
      let rest = all_put xs (after_put x ls) in
      let thrown = granted_append gate (thrown_away x ls) (all_thrown_away xs (after_put x ls)) in
      omega (arith, one, rest, thrown)

-- ---- the mail and the queue

-- where parcels go, and in the queue
abbrev pub held_mailing : {D : Type 0} → Gate → Mailing D → ℕ
held_mailing gate m = out.granted_in m.out gate + granted m.queue.queued.waiting gate

abbrev pub Goes : {D : Type 0} → Mailing D → Mailing D → Type 0
Goes old new = (gate : Gate) → Follows (words old.queue.bytes gate) (words new.queue.bytes gate) (held_mailing gate old) (held_mailing gate new)

module _ {D : Type 0} (heard : D → List Heard) (places : Places) (alone : AreAlone places) where
  puts_some : (old new : Mailing D) → PutsSome heard places old new → Goes old new
  puts_some old new h gate =
      let mail = ap (λ (xs : List Parcel). all_granted xs gate) h.mail ∙ sums.granted_behind gate h.put new.out.mail in
      let held = ap (λ (o : OutboxNow D). held_in o.held gate) h.out in
      let waiting = ap (λ (ls : List Letter). granted ls gate) h.waiting in
      let all = all_put gate h.put old.queue.queued.waiting in
      sums.given (granted (all_thrown_away h.put old.queue.queued.waiting) gate) (words old.queue.bytes gate) (words new.queue.bytes gate) (held_mailing gate old) (held_mailing gate new)
      (h.word gate (alone gate)) (omega (arith, mail, held, waiting, all))

  dispatches_some : (old new : Queueing D) → DispatchesSome heard places old new →
      (gate : Gate) → Follows (words old.bytes gate) (words new.bytes gate) (granted old.queued.waiting gate) (granted new.queued.waiting gate)
  dispatches_some old new h gate =
      let all = ap (λ (ls : List Letter). granted ls gate) h.waiting ∙ granted_append gate h.dispatched new.queued.waiting in
      sums.given (granted h.dispatched gate) (words old.bytes gate) (words new.bytes gate) (granted old.queued.waiting gate) (granted new.queued.waiting gate) (h.word gate (alone gate)) (omega (arith, all))

  mails_some : (old new : Mailing D) → MailsSome heard places old new → Goes old new
  mails_some old new h gate rest e =
      let one = puts_some old (record { out = new.out; queue = h.mid }) h.puts gate rest e in
      let two = dispatches_some h.mid new.queue h.dispatches gate (out.granted_in new.out gate + rest) (omega (arith, one)) in
      omega (arith, two)

  pub mails : (result : Mailed) (old new : Mailing D) → Mails heard places result old new → Goes old new
  mails mailed.Moved old new h = mails_some old new h.0
  mails mailed.Dry old new h = mails_some old new h.0
  mails mailed.NoMemory old new (inl h) = puts_some old new h.0
  mails mailed.NoMemory old new (inr h) = mails_some old new h.0
