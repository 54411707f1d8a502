-- A mail that is sent on a feed is on its way to the other side where its feed is the same socket.
use Rattle.std.proofs.Common.{◌≡◌, ◌≤◌, Bool, true, false, if◌then◌else◌, List, [], ◌∷◌, ◌++◌, length, Option, Some, None, refl, sym, ap, ◌∙◌}
use Rattle.std.proofs.lemmas.List.{append-nil}
use Rattle.std.proofs.lemmas.List.Elements.{filter_map-append}
use Rattle.m2_journal.specs.m2_fabric.Sockets.{same_socket}
use Rattle.m2_session.specs.declared.session.Phase.{Phase}
use Rattle.m2_session.specs.declared.session.Phase.TheVariants as phase
use Rattle.m2_journal.specs.Laws.{IfFed}
use Rattle.m2_journal.specs.OutFrames as out
use Rattle.m2_journal.specs.OutFrames.{OutFrame}
use Rattle.m2_journal.specs.State.{Feed, SentFrame}
use Rattle.m2_never_reset.specs.Asks.{Ask}
use Rattle.m2_never_reset.specs.Link.{Stand, asking, ready, apart, by_near, by_far}
use Rattle.m2_never_reset.specs.Mails.{Mail}
use Rattle.m2_never_reset.specs.Steps.{with_mail, mailed}
use Rattle.m2_never_reset.specs.Frames.{is_ask, answers_on, ask_now, to_come, mail_of, mails}
use Rattle.m2_never_reset.specs.LinkOf.{stand_asking, stand_on, stand_by, joined_by}
use Rattle.m2_never_reset.proofs.Links.{stand_same}
use Rattle.m2_never_reset.proofs.Sent.{to_come_here, to_come_elsewhere}

either_way : (m : Mail) (way : Bool) (t : Stand) → mailed m (if way then by_near else by_far) t ≡ with_mail m t
either_way m true t = refl
either_way m false t = refl

-- ---- a mail

module _ (w : OutFrame) (m : Mail) (is : mail_of w ≡ Some m) (unasked : is_ask w ≡ false)
    (no_answer : (a : Ask) → stand_asking a (w ∷ []) ≡ asking a) where
  more_mail : (fs : List OutFrame) → mails (fs ++ w ∷ []) ≡ mails fs ++ m ∷ []
  more_mail fs = filter_map-append mail_of fs (w ∷ []) ∙ rw is refl

  answer_more : (a : Ask) (fs : List OutFrame) → stand_asking a (fs ++ w ∷ []) ≡ with_mail m (stand_asking a fs)
  answer_more a [] = no_answer a
  answer_more a (out.server_ident cookie global ∷ fs) = rw (more_mail fs) refl
  answer_more a (out.reconnect_ok seen ∷ fs) = rw (more_mail fs) refl
  answer_more a (out.reset full ∷ fs) = refl
  answer_more a (out.retry connect ∷ fs) = refl
  answer_more a (out.retry_global global ∷ fs) = refl
  answer_more a (out.wait ∷ fs) = refl
  answer_more a (out.greeting ∷ fs) = refl
  answer_more a (out.ident cookie global ∷ fs) = refl
  answer_more a (out.reconnect client server global connect seen ∷ fs) = refl
  answer_more a (out.message number acked c ∷ fs) = refl
  answer_more a (out.acknowledgement number ∷ fs) = refl
  answer_more a (out.keepalive_answer k ∷ fs) = refl

  stand_more : (p : Phase) (e : Feed) (mine xs ys : List SentFrame) → to_come e ys ≡ to_come e xs ++ w ∷ [] →
      stand_on p e mine ys ≡ with_mail m (stand_on p e mine xs)
  stand_more phase.Connecting e mine xs ys h = refl
  stand_more phase.IdentSent e mine xs ys h = rw h (answer_more (ask_now e mine) (to_come e xs))
  stand_more phase.ReconnectSent e mine xs ys h = rw h (answer_more (ask_now e mine) (to_come e xs))
  stand_more phase.Ready e mine xs ys h = rw h (ap ready (more_mail (to_come e xs)))
  stand_more phase.Absent e mine xs ys h = refl
  stand_more phase.Standby e mine xs ys h = refl
  stand_more phase.Wait e mine xs ys h = refl

  pub mail_is_on_its_way : (d : Feed) (o : Option Feed) (p : Phase) (mine xs : List SentFrame) →
      IfFed o (λ e. e.taken ≤ length (answers_on e.socket xs)) →
      mailed m (joined_by (Some d) o) (stand_by o p mine xs) ≡ stand_by o p mine
      (xs ++ record { socket = d.socket; frame = w } ∷ [])
  mail_is_on_its_way d None p mine xs h = refl
  mail_is_on_its_way d (Some e) p mine xs h = by_place (same_socket e.socket d.socket) refl
    where
      x : SentFrame
      x = record { socket = d.socket; frame = w }

      way : Bool → Stand
      way one = mailed m (if one then (if d.opened then by_near else by_far) else apart) (stand_on p e mine xs)

      by_place : (t : Bool) → same_socket e.socket d.socket ≡ t →
          way (same_socket e.socket d.socket) ≡ stand_on p e mine (xs ++ x ∷ [])
      by_place true one =
          ap way one ∙ either_way m d.opened (stand_on p e mine xs)
          ∙ sym (stand_more p e mine xs (xs ++ x ∷ []) (to_come_here e xs x unasked one h))
      by_place false other = ap way other ∙ sym (stand_same p e mine xs (xs ++ x ∷ []) (to_come_elsewhere e xs x other))

-- ---- no mail

module _ (w : OutFrame) (none : mail_of w ≡ None) (unasked : is_ask w ≡ false)
    (no_answer : (a : Ask) → stand_asking a (w ∷ []) ≡ asking a) where
  same_mail : (fs : List OutFrame) → mails (fs ++ w ∷ []) ≡ mails fs
  same_mail fs = filter_map-append mail_of fs (w ∷ []) ∙ rw none (append-nil (mails fs))

  answer_same : (a : Ask) (fs : List OutFrame) → stand_asking a (fs ++ w ∷ []) ≡ stand_asking a fs
  answer_same a [] = no_answer a
  answer_same a (out.server_ident cookie global ∷ fs) = rw (same_mail fs) refl
  answer_same a (out.reconnect_ok seen ∷ fs) = rw (same_mail fs) refl
  answer_same a (out.reset full ∷ fs) = refl
  answer_same a (out.retry connect ∷ fs) = refl
  answer_same a (out.retry_global global ∷ fs) = refl
  answer_same a (out.wait ∷ fs) = refl
  answer_same a (out.greeting ∷ fs) = refl
  answer_same a (out.ident cookie global ∷ fs) = refl
  answer_same a (out.reconnect client server global connect seen ∷ fs) = refl
  answer_same a (out.message number acked c ∷ fs) = refl
  answer_same a (out.acknowledgement number ∷ fs) = refl
  answer_same a (out.keepalive_answer k ∷ fs) = refl

  stand_as_it_was : (p : Phase) (e : Feed) (mine xs ys : List SentFrame) → to_come e ys ≡ to_come e xs ++ w ∷ [] →
      stand_on p e mine ys ≡ stand_on p e mine xs
  stand_as_it_was phase.Connecting e mine xs ys h = refl
  stand_as_it_was phase.IdentSent e mine xs ys h = rw h (answer_same (ask_now e mine) (to_come e xs))
  stand_as_it_was phase.ReconnectSent e mine xs ys h = rw h (answer_same (ask_now e mine) (to_come e xs))
  stand_as_it_was phase.Ready e mine xs ys h = rw h (ap ready (same_mail (to_come e xs)))
  stand_as_it_was phase.Absent e mine xs ys h = refl
  stand_as_it_was phase.Standby e mine xs ys h = refl
  stand_as_it_was phase.Wait e mine xs ys h = refl

  pub no_mail_is_on_its_way : (d : Feed) (o : Option Feed) (p : Phase) (mine xs : List SentFrame) →
      IfFed o (λ e. e.taken ≤ length (answers_on e.socket xs)) →
      stand_by o p mine xs ≡ stand_by o p mine (xs ++ record { socket = d.socket; frame = w } ∷ [])
  no_mail_is_on_its_way d None p mine xs h = refl
  no_mail_is_on_its_way d (Some e) p mine xs h = by_place (same_socket e.socket d.socket) refl
    where
      x : SentFrame
      x = record { socket = d.socket; frame = w }

      by_place : (t : Bool) → same_socket e.socket d.socket ≡ t →
          stand_on p e mine xs ≡ stand_on p e mine (xs ++ x ∷ [])
      by_place true one = sym (stand_as_it_was p e mine xs (xs ++ x ∷ []) (to_come_here e xs x unasked one h))
      by_place false other = sym (stand_same p e mine xs (xs ++ x ∷ []) (to_come_elsewhere e xs x other))
