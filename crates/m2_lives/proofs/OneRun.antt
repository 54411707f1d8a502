-- What is observed of two lossless journals in an order that fits is a run of the channel with lives.
use Rattle.std.proofs.Common.{◌≡◌, ℕ, ◌⊎◌, inl, inr, Bool, true, false, ◌==◌, if◌then◌else◌, List, [], ◌∷◌, ◌++◌, map, Some, refl, sym, ap, subst, ◌∙◌, append-nil}
use Rattle.std.specs.Prelude.{slice_get}
use Rattle.std.specs.List.{AllByRecursion}
use Rattle.std.proofs.lemmas.List.Elements.{filter-append}
use Rattle.m2_channel.specs.Observed.{Logs, all_of, turned}
use Rattle.m2_channel.specs.ObservedLaws.{ObservedIsARunToAMark}
use Rattle.m2_channel.specs.m2_dispatch.Heard as heard
use Rattle.m2_channel.specs.m2_dispatch.Heard.{Heard, is_key}
use Rattle.m2_channel.proofs.Orders.{far_after_turned, far_turned, fit_turned, near_turned, nodes_turned}
use Rattle.m2_journal.specs.Replay.{AreLawful}
use Rattle.m2_journal.specs.SideFacts.{SideFacts}
use Rattle.m2_journal.specs.State.{State, start}
use Rattle.m2_journal.specs.m2_policy.declared.path.Key.{Key}
use Rattle.m2_never_reset.specs.Order.{AreFirstOf}
use Rattle.m2_never_reset.specs.Orders as orders
use Rattle.m2_never_reset.specs.Orders.{SideItem, near_items, near_after, far_after, posts_in, AreNodes}
use Rattle.m2_lives.specs.Lives.{SendingLife, ReceivingLife, receiving_lives, LivesChannel, LivesStep, new_lives, sending_lives, Has, after_in_lives, acceptances_from, LifeMessage, IsRunOfLives}
use Rattle.m2_lives.specs.LivesLaws.{ArePiecesOf}
use Rattle.m2_lives.specs.Observed.{handed_in_lives, heard_in_lives, observed_in_lives, shown_from}
use Rattle.m2_lives.specs.ObservedLaws.{NumberedLife, IsHistoryOfLives}
use Rattle.m2_lives.specs.ObservedRun.{IsBroughtInLives, IsLogInLives, ObservedIsARunOfLives, in_life, with_key}
use Rattle.m2_lives.proofs.Backing.{AreBacked, backed_has, backed_last, first_backed}
use Rattle.m2_lives.proofs.Bringing.{Arrived, Laws, all_arrive, course, current, side_known}
use Rattle.m2_lives.proofs.Delivered.{one, told}
use Rattle.m2_lives.proofs.Delivering.{deliver_in_lives}
use Rattle.m2_lives.proofs.Dispatching.{Given, IsPlainText, IsSentFrom, all_dispatched, dispatching, dispatching_accepts, dispatching_names, dispatching_sends}
use Rattle.m2_lives.proofs.Dividing.{by_lives}
use Rattle.m2_lives.proofs.Keeping.{Both, both_of, first, in_turn}
use Rattle.m2_lives.proofs.Ledger.{Ledger, contents, lives, names}
use Rattle.m2_lives.proofs.Marking.{AreMarked, entries_marked, marked_append, marked_run}
use Rattle.m2_lives.proofs.Named.{are_named}
use Rattle.m2_lives.proofs.Runs.{receiving_name}
use Rattle.m2_lives.proofs.Showing.{AreSteps, acceptances_append, after_append, said_in, steps_append, told_keys}

-- ---- what the logs tell

plain_texts : (peer : ℕ) (log : List Heard) → AllByRecursion IsPlainText (heard_in_lives peer log)
plain_texts peer [] = tt
plain_texts peer (heard.message p key n life m ∷ log) = at (p == peer) (plain_texts peer log)
  where
    at : (b : Bool) → AllByRecursion IsPlainText (heard_in_lives peer log) → AllByRecursion IsPlainText (if b then one life key m ∷ heard_in_lives peer log else heard_in_lives peer log)
    at true h = (refl, h)
    at false h = h
plain_texts peer (heard.reset p ∷ log) = plain_texts peer log

none_marked : (xs : List LifeMessage) (b : Bool) → AreMarked b (dispatching xs)
none_marked [] b = tt
none_marked (x ∷ xs) b = none_marked xs b

-- lives by their names
by_name : {X : Type 0} (h : ℕ → X) (ls : List ReceivingLife) → map h (map receiving_name ls) ≡ map (λ (l : ReceivingLife). h l.name) ls
by_name h [] = refl
by_name h (l ∷ ls) = ap (λ xs. h l.name ∷ xs) (by_name h ls)

-- ---- one direction

module _ (laws : Laws) (to_a_mark : ObservedIsARunToAMark) (f g : SideFacts) (order : List SideItem) (logs : Logs) (nodes : AreNodes f g) (h : IsHistoryOfLives f g order)
    (log : IsLogInLives f.node.number logs (far_after g order)) where
  both : Both f g
  both = both_of f g nodes

  abbrev shown : List LivesStep
  shown = shown_from f g order (start f) (start g)

  abbrev given : List LifeMessage
  given = heard_in_lives f.node.number (all_of logs)

  abbrev c : LivesChannel
  c = after_in_lives shown new_lives

  abbrev a : State
  a = near_after f order

  abbrev b : State
  b = far_after g order

  arrived : Arrived f g shown a b (course [] [] (start f) first first) (posts_in (near_items order)) new_lives
  arrived = all_arrive laws f g both order (in_turn f g order (start f) (start g) h.near_lawful h.far_lawful h.fits)

  abbrev x : Ledger
  x = arrived.near_ledger

  abbrev y : Ledger
  y = arrived.far_ledger

  backed : AreBacked g c.posted (sending_lives c) (lives x)
  backed =
      backed_last g c.posted c.sent x.ended c.sends x.now arrived.leads.shows.backed
      (current laws f g a b x y arrived.earlier (posts_in (near_items order)) c (side_known laws f g both f a both.near_keeps arrived.point.near_led) arrived.point arrived.posted arrived.leads.shows)

  sent : (n : ℕ) (key : Key) → (told key n y.accepted ≡ []) ⊎ Has (λ (s : SendingLife). (s.name ≡ n) × IsSentFrom c.posted key (told key n y.accepted) s) (sending_lives c)
  sent n key = at (arrived.point.ledgers.far_beside.prefix n)
    where
      same : told key n y.accepted ≡ orders.of_key g key (said_in n y.accepted)
      same = told_keys g key n y.accepted arrived.leads.shows.keyed

      at : (contents n y ≡ []) ⊎ Has (λ (l : NumberedLife). (l.name ≡ n) × AreFirstOf (contents n y) l.numbered) (lives x) →
          (told key n y.accepted ≡ []) ⊎ Has (λ (s : SendingLife). (s.name ≡ n) × IsSentFrom c.posted key (told key n y.accepted) s) (sending_lives c)
      at (inl e) = inl (same ∙ ap (orders.of_key g key) e)
      at (inr has) =
          inr (backed_has g c.posted (λ (l : NumberedLife). (l.name ≡ n) × AreFirstOf (contents n y) l.numbered) (λ (s : SendingLife). (s.name ≡ n) × IsSentFrom c.posted key (told key n y.accepted) s)
          (λ s l k p. (k.named ∙ p.0, λ i m e. (first_backed g c.posted s l (contents n y) k p.1 key i m (subst (λ cs. slice_get cs i ≡ Some m) same e)).0)) (sending_lives c) (lives x) backed has)

  counts : Given (names y) y.accepted [] c
  counts = record {
    named = arrived.point.ledgers.far.named;
    names = arrived.leads.shows.receives;
    counted = arrived.leads.shows.counted;
    unnamed = arrived.point.ledgers.far.known 0 (inl refl);
    sent = sent;
  }

  pieces : (key : Key) → ArePiecesOf (with_key key given) (map (λ n. with_key key (in_life n y.accepted)) (names y))
  pieces key = by_lives (with_key key) refl (filter-append (λ (z : LifeMessage). is_key z.message.key key)) b.deliveries (names y) y.accepted (with_key key given) arrived.divided (log key)

  steps : AreSteps (observed_in_lives f g order logs) new_lives
  steps = steps_append shown (dispatching given) new_lives arrived.leads.steps (all_dispatched (names y) y.accepted [] given c counts (plain_texts f.node.number (all_of logs)) pieces)

  runs : IsRunOfLives (observed_in_lives f g order logs) new_lives
  runs = marked_run (observed_in_lives f g order logs) new_lives steps (marked_append false shown (dispatching given) (entries_marked to_a_mark f g order nodes h) (none_marked given))

  behind : after_in_lives (observed_in_lives f g order logs) new_lives ≡ after_in_lives (dispatching given) c
  behind = after_append shown (dispatching given) new_lives

  pieces_of_lives : (key : Key) → ArePiecesOf (with_key key given) (map (λ (l : ReceivingLife). with_key key (in_life l.name (handed_in_lives b.deliveries))) (receiving_lives (after_in_lives (observed_in_lives f g order logs) new_lives)))
  pieces_of_lives key =
      subst (λ l. ArePiecesOf (with_key key given) (map (λ (r : ReceivingLife). with_key key (in_life r.name (handed_in_lives b.deliveries))) (receiving_lives l))) (sym behind)
      (subst (ArePiecesOf (with_key key given)) (by_name (λ n. with_key key (in_life n (handed_in_lives b.deliveries))) (receiving_lives (after_in_lives (dispatching given) c)))
      (subst (λ ns. ArePiecesOf (with_key key given) (map (λ n. with_key key (in_life n (handed_in_lives b.deliveries))) ns)) (sym (dispatching_names given c ∙ arrived.leads.shows.receives))
      (subst (λ l. ArePiecesOf (with_key key given) (map (λ n. with_key key (in_life n l)) (names y))) arrived.point.far.accepted (pieces key))))

  pub one_way : IsBroughtInLives f g order logs
  one_way =
      let named = are_named f g order logs in
      record {
        run = runs;
        delivered = deliver_in_lives (observed_in_lives f g order logs) runs;
        posts = named.posts;
        acceptances =
            acceptances_append shown (dispatching given) new_lives ∙ ap (λ l. acceptances_from 0 shown ++ l) (dispatching_accepts c.receives.name given) ∙ append-nil (acceptances_from 0 shown)
            ∙ sym arrived.leads.accepts ∙ arrived.point.far.accepted;
        dispatches = named.dispatches;
        pieces = pieces_of_lives;
        sends = named.sends;
        receives = named.receives;
        acknowledged = λ key. ap (λ (z : LivesChannel). z.sends.acknowledged key) behind ∙ ap (λ (z : SendingLife). z.acknowledged key) (dispatching_sends given c) ∙ arrived.leads.shows.acknowledged key;
      }

-- ---- both

history_turned : (f g : SideFacts) (order : List SideItem) → IsHistoryOfLives f g order → IsHistoryOfLives g f (turned order)
history_turned f g order h = record {
  near_lawful = subst (λ is. AreLawful g is (start g)) (sym (near_turned order)) h.far_lawful;
  far_lawful = subst (λ is. AreLawful f is (start f)) (sym (far_turned order)) h.near_lawful;
  fits = fit_turned f g order (start f) (start g) h.fits;
}

pub observed_runs : Laws → ObservedIsARunToAMark → ObservedIsARunOfLives
observed_runs laws to_a_mark f g order near_logs far_logs nodes h logs = record {
  near = one_way laws to_a_mark f g order far_logs nodes h logs.far;
  far = one_way laws to_a_mark g f (turned order) near_logs (nodes_turned f g nodes) (history_turned f g order h) (subst (IsLogInLives g.node.number near_logs) (sym (far_after_turned f order)) logs.near);
}
