-- What a side has composed, and behind that what waits, is of each priority some of what it has posted, in order.
use Rattle.std.proofs.Common.{◌≡◌, ℕ, ◌==◌, Bool, true, false, List, [], ◌∷◌, ◌++◌, drop, map, Option, Some, None, refl, sym, ap, ◌∙◌, subst, append-nil, append_assoc}
use Rattle.std.specs.List.{AllByRecursion}
use Rattle.std.proofs.lemmas.List.{map-append}
use Rattle.std.proofs.lemmas.List.Elements.{filter-append, filter_map-append}
use Rattle.m2_dispatch.specs.Laws.{IsSublist}
use Rattle.m2_journal.specs.m2_fabric.declared.socket.SocketId.{SocketId}
use Rattle.m2_journal.specs.OutFrames as out
use Rattle.m2_journal.specs.OutFrames.{OutFrame}
use Rattle.m2_journal.specs.SideFacts.{SideFacts}
use Rattle.m2_journal.specs.State.{SentFrame}
use Rattle.m2_journal.specs.m2_message.Message.{Content, priority_of}
use Rattle.m2_journal.proofs.m2_queues.Joining.{rank-put_behind}
use Rattle.m2_journal.specs.m2_queues.QueueLaws.{of_priority}
use Rattle.m2_journal.specs.m2_session.declared.session.Phase.{Phase}
use Rattle.m2_journal.specs.m2_session.declared.session.Phase.TheVariants as phase
use Rattle.m2_channel.proofs.Frames.{IsMute, Mail, mail_of, mails_in, mute_says_nothing}
use Rattle.m2_channel.proofs.Moves.{Spot, View, Move, rests, posts, opens, leaves, gives_up, refuses, takes_on, asks, settles, numbers, accepts, moved, posted_by, May, on_socket, sent_on}
use Rattle.m2_channel.proofs.Sides.{SideIs, StandsIn}
use Rattle.m2_channel.proofs.Sublists.{some_both, some_front}
use Rattle.m2_channel.proofs.TwoWays.{some_of_itself}

abbrev pub composed : List SentFrame → List Content
composed sent = map (λ (m : Mail). m.content) (mails_in sent)

abbrev pub IsPosted : List Content → View → Type 0
IsPosted posted v = (p : ℕ) → IsSublist (of_priority p (composed v.sent) ++ of_priority p v.queue.waiting) (of_priority p posted)

-- ---- frames that are no messages

mails_both : (xs ys : List SentFrame) → mails_in (xs ++ ys) ≡ mails_in xs ++ mails_in ys
mails_both xs ys = filter_map-append (λ (x : SentFrame). mail_of x.frame) xs ys

none_muted : (k : SocketId) (ws : List OutFrame) → AllByRecursion IsMute ws → mails_in (on_socket k ws) ≡ []
none_muted k [] h = refl
none_muted k (w ∷ ws) h = rw ((mute_says_nothing w h.0).no_mail) (none_muted k ws h.1)

none_asked : (o : Option Spot) (c g : ℕ) → mails_in (sent_on o (out.ident c g)) ≡ []
none_asked None c g = refl
none_asked (Some p) c g = refl

nothing_more : (sent more : List SentFrame) → mails_in more ≡ [] → composed (sent ++ more) ≡ composed sent
nothing_more sent more e = ap (map (λ (m : Mail). m.content)) (mails_both sent more ∙ ap (λ l. mails_in sent ++ l) e ∙ append-nil (mails_in sent))

-- ---- every move

module _ (f : SideFacts) (theirs : List SentFrame) (posted : List Content) (v : View) (h : SideIs f v) (is : IsPosted posted v) where
  unposted : (w : View) → composed w.sent ≡ composed v.sent → w.queue.waiting ≡ v.queue.waiting → IsPosted (posted ++ []) w
  unposted w e q p =
      subst (λ l. IsSublist (of_priority p (composed w.sent) ++ of_priority p w.queue.waiting) (of_priority p l)) (sym (append-nil posted))
      (subst (λ l. IsSublist (of_priority p l ++ of_priority p w.queue.waiting) (of_priority p posted)) (sym e)
      (subst (λ l. IsSublist (of_priority p (composed v.sent) ++ of_priority p l) (of_priority p posted)) (sym q) (is p)))

  one_posted : (m : Content) → IsPosted (posted ++ m ∷ []) (moved (posts m) v)
  one_posted m p =
      let C = of_priority p (composed v.sent) in
      let W = of_priority p v.queue.waiting in
      let M = of_priority p (m ∷ []) in
      subst (λ l. IsSublist (C ++ l) (of_priority p (posted ++ m ∷ []))) (sym (rank-put_behind priority_of p v.queue.waiting m h.queue.falls))
      (subst (IsSublist (C ++ (W ++ M))) (sym (filter-append (λ (x : Content). priority_of x == p) posted (m ∷ [])))
      (subst (λ l. IsSublist l (of_priority p posted ++ M)) (append_assoc C W M)
      (some_both (C ++ W) (of_priority p posted) M M (is p) (some_of_itself M))))

  all_thrown : (w : View) → w.sent ≡ v.sent → w.queue.waiting ≡ [] → IsPosted (posted ++ []) w
  all_thrown w e q p =
      subst (λ l. IsSublist (of_priority p (composed l) ++ of_priority p w.queue.waiting) (of_priority p (posted ++ []))) (sym e)
      (subst (λ l. IsSublist (of_priority p (composed v.sent) ++ of_priority p l) (of_priority p (posted ++ []))) (sym q)
      (subst (λ l. IsSublist (of_priority p (composed v.sent) ++ []) (of_priority p l)) (sym (append-nil posted))
      (subst (λ l. IsSublist l (of_priority p posted)) (sym (append-nil (of_priority p (composed v.sent))))
      (some_front (of_priority p (composed v.sent)) (of_priority p v.queue.waiting) (of_priority p posted) (is p)))))

  left : (q : Phase) (thrown : Bool) → IsPosted (posted ++ []) (moved (leaves q thrown) v)
  left q true = all_thrown (moved (leaves q true) v) refl refl
  left q false = unposted (moved (leaves q false) v) refl refl

  one_numbered : (n : ℕ) (m : Content) → May f theirs (numbers n m) v → IsPosted (posted ++ []) (moved (numbers n m) v)
  one_numbered n m may = at v.feed (subst (λ p. StandsIn v p v.feed) may.phase h.stands)
    where
      at : (o : Option Spot) → StandsIn v phase.Ready o → IsPosted (posted ++ []) (moved (numbers n m) (record v { feed = o }))
      at None s = absurd s
      at (Some spot) s = λ p.
          let C = of_priority p (composed v.sent) in
          let M = of_priority p (m ∷ []) in
          let W = of_priority p (drop 1 v.queue.waiting) in
          let test : Content → Bool = λ x. priority_of x == p in
          let x : SentFrame = record { socket = spot.socket; frame = out.message n v.last m } in
          let sent : composed (v.sent ++ x ∷ []) ≡ composed v.sent ++ m ∷ [] =
          ap (map (λ (m : Mail). m.content)) (mails_both v.sent (x ∷ [])) ∙ map-append (λ (m : Mail). m.content) (mails_in v.sent) (mails_in (x ∷ [])) in
          let same : of_priority p (composed (v.sent ++ x ∷ [])) ++ W ≡ C ++ of_priority p v.queue.waiting =
          ap (λ l. of_priority p l ++ W) sent ∙ ap (λ l. l ++ W) (filter-append test (composed v.sent) (m ∷ []))
          ∙ append_assoc C M W ∙ ap (λ l. C ++ l) (sym (filter-append test (m ∷ []) (drop 1 v.queue.waiting)) ∙ ap (of_priority p) (sym may.first)) in
          subst (λ l. IsSublist (of_priority p (composed (v.sent ++ x ∷ [])) ++ W) (of_priority p l)) (sym (append-nil posted))
          (subst (λ l. IsSublist l (of_priority p posted)) (sym same) (is p))

  pub posted_after : (m : Move) → May f theirs m v → IsPosted (posted ++ posted_by m) (moved m v)
  posted_after rests may = unposted v refl refl
  posted_after (posts m) may = one_posted m
  posted_after (opens k) may = unposted (moved (opens k) v) refl refl
  posted_after (leaves q thrown) may = left q thrown
  posted_after gives_up may = all_thrown (moved gives_up v) refl refl
  posted_after (refuses k ws item) may = unposted (moved (refuses k ws item) v) (nothing_more v.sent (on_socket k ws) (none_muted k ws may.mute)) refl
  posted_after (takes_on k c g item) may = unposted (moved (takes_on k c g item) v) (nothing_more v.sent (record { socket = k; frame = out.server_ident c g } ∷ []) refl) refl
  posted_after (asks c g) may = unposted (moved (asks c g) v) (nothing_more v.sent (sent_on v.feed (out.ident c g)) (none_asked v.feed c g)) refl
  posted_after (settles c) may = unposted (moved (settles c) v) refl refl
  posted_after (numbers n m) may = one_numbered n m may
  posted_after (accepts x) may = unposted (moved (accepts x) v) refl refl
