-- Replies to judged asks.
use Rattle.std.proofs.Common.{◌≡◌, true, false, List, [], ◌∷◌, ◌++◌, refl, sym, ap, ◌∙◌, subst}
use Rattle.std.proofs.lemmas.Grind.{flat_map-append}
use Rattle.m2_control.specs.declared.control.Control.{Control}
use Rattle.m2_handshake.specs.Asking.{after_reply}
use Rattle.m2_handshake.specs.Texts.{IsReply}
use Rattle.m2_journal.specs.declared.entry.JudgedItem.{JudgedItem}
use Rattle.m2_journal.specs.Lawful.{may_ask_again}
use Rattle.m2_session.specs.declared.answer.Answer.{Answer}
use Rattle.m2_session.specs.declared.answer.Answer.TheVariants as answer
use Rattle.m2_session.specs.SessionLaws.{takes}
use Rattle.m2_trail.specs.Incoming.{is_over}
use Rattle.m2_trail.specs.Replies.{reply_to, replies_to}

pub differ : true ≡ false → ⊥
differ e = cc

nothing_isnt : (c : Control) → [] ≡ c ∷ [] → ⊥
nothing_isnt c e = cc

same_one : {c d : Control} → c ∷ [] ≡ d ∷ [] → c ≡ d
same_one e = cc

pub replies_to-append : (xs ys : List JudgedItem) → replies_to (xs ++ ys) ≡ replies_to xs ++ replies_to ys
replies_to-append xs ys = flat_map-append (λ (i : JudgedItem). reply_to i.answer) xs ys

-- an answer that takes the socket has no reply
pub none_where_taken : (a : Answer) → takes a ≡ true → reply_to a ≡ []
none_where_taken answer.Accept t = refl
none_where_taken answer.AcceptOver t = refl
none_where_taken (answer.AcceptReset full) t = refl
none_where_taken answer.AcceptAgain t = refl
none_where_taken answer.AcceptReplace t = refl
none_where_taken answer.AcceptRace t = refl
none_where_taken answer.Close t = refl
none_where_taken answer.Wait t = absurd (differ (sym t))
none_where_taken (answer.Reset full) t = absurd (differ (sym t))
none_where_taken answer.ResetPending t = absurd (differ (sym t))
none_where_taken (answer.RetryGlobal number) t = absurd (differ (sym t))
none_where_taken (answer.Retry number) t = absurd (differ (sym t))
none_where_taken answer.Resume t = refl

-- a half may give the reply to an answer
pub is_reply : (a : Answer) (c : Control) → reply_to a ≡ c ∷ [] → IsReply c
is_reply answer.Accept c e = absurd (nothing_isnt c e)
is_reply answer.AcceptOver c e = absurd (nothing_isnt c e)
is_reply (answer.AcceptReset full) c e = absurd (nothing_isnt c e)
is_reply answer.AcceptAgain c e = absurd (nothing_isnt c e)
is_reply answer.AcceptReplace c e = absurd (nothing_isnt c e)
is_reply answer.AcceptRace c e = absurd (nothing_isnt c e)
is_reply answer.Close c e = absurd (nothing_isnt c e)
is_reply answer.Wait c e = subst IsReply (same_one e) tt
is_reply (answer.Reset full) c e = subst IsReply (same_one e) tt
is_reply answer.ResetPending c e = subst IsReply (same_one e) tt
is_reply (answer.RetryGlobal number) c e = subst IsReply (same_one e) tt
is_reply (answer.Retry number) c e = subst IsReply (same_one e) tt
is_reply answer.Resume c e = absurd (nothing_isnt c e)

-- after a reply behind which the half isn't over it asks again
pub asks_again : (a : Answer) (c : Control) → reply_to a ≡ c ∷ [] → is_over (after_reply c) ≡ false → may_ask_again a ≡ true
asks_again answer.Accept c e o = absurd (nothing_isnt c e)
asks_again answer.AcceptOver c e o = absurd (nothing_isnt c e)
asks_again (answer.AcceptReset full) c e o = absurd (nothing_isnt c e)
asks_again answer.AcceptAgain c e o = absurd (nothing_isnt c e)
asks_again answer.AcceptReplace c e o = absurd (nothing_isnt c e)
asks_again answer.AcceptRace c e o = absurd (nothing_isnt c e)
asks_again answer.Close c e o = absurd (nothing_isnt c e)
asks_again answer.Wait c e o = absurd (differ (ap (λ c. is_over (after_reply c)) (same_one e) ∙ o))
asks_again (answer.Reset full) c e o = refl
asks_again answer.ResetPending c e o = refl
asks_again (answer.RetryGlobal number) c e o = refl
asks_again (answer.Retry number) c e o = refl
asks_again answer.Resume c e o = absurd (nothing_isnt c e)
