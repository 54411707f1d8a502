-- The frames of answers are the ones that are written for them.
use Rattle.std.proofs.Common.{◌≡◌, true, false, map, Some, refl, sym}
use Rattle.std.specs.Option.{option_to_list}
use Rattle.m2_session.specs.declared.frame.Carried.{Carried}
use Rattle.m2_session.specs.Frames as answers
use Rattle.m2_session.specs.Frames.{frame_of}
use Rattle.m2_handshake.specs.Texts.{frame_text}
use Rattle.m2_session.specs.declared.answer.Answer.{Answer}
use Rattle.m2_session.specs.declared.answer.Answer.TheVariants as answer
use Rattle.m2_session.specs.SessionLaws as session
use Rattle.m2_journal.specs.Laws.{AnswersAreWritten}
use Rattle.m2_journal.specs.OutFrames.{replies_of, server_ident_of, text_of}
use Rattle.m2_journal.specs.SideFacts.{SideFacts, speaker_of}
use Rattle.m2_bytes.proofs.m2_lemmas.Booleans.{false_isnt_true}

replies : (f : SideFacts) (c : Carried) (a : Answer) → session.takes a ≡ false →
    map (text_of f) (replies_of a) ≡ map frame_text (option_to_list (frame_of (speaker_of f) c a))
replies f c answer.Accept e = absurd (false_isnt_true (sym e))
replies f c answer.AcceptOver e = absurd (false_isnt_true (sym e))
replies f c (answer.AcceptReset full) e = absurd (false_isnt_true (sym e))
replies f c answer.AcceptAgain e = absurd (false_isnt_true (sym e))
replies f c answer.AcceptReplace e = absurd (false_isnt_true (sym e))
replies f c answer.AcceptRace e = absurd (false_isnt_true (sym e))
replies f c answer.Close e = refl
replies f c answer.Wait e = refl
replies f c (answer.Reset full) e = refl
replies f c answer.ResetPending e = refl
replies f c (answer.RetryGlobal number) e = refl
replies f c (answer.Retry number) e = refl
replies f c answer.Resume e = absurd (false_isnt_true (sym e))

accepts : (f : SideFacts) (c : Carried) (a : Answer) → answers.accepts a ≡ true → frame_of (speaker_of f) c a ≡ Some (server_ident_of f c.cookie c.global)
accepts f c answer.Accept e = refl
accepts f c answer.AcceptOver e = refl
accepts f c (answer.AcceptReset full) e = refl
accepts f c answer.AcceptAgain e = refl
accepts f c answer.AcceptReplace e = refl
accepts f c answer.AcceptRace e = refl
accepts f c answer.Close e = absurd (false_isnt_true e)
accepts f c answer.Wait e = absurd (false_isnt_true e)
accepts f c (answer.Reset full) e = absurd (false_isnt_true e)
accepts f c answer.ResetPending e = absurd (false_isnt_true e)
accepts f c (answer.RetryGlobal number) e = absurd (false_isnt_true e)
accepts f c (answer.Retry number) e = absurd (false_isnt_true e)
accepts f c answer.Resume e = absurd (false_isnt_true e)

pub are_written : AnswersAreWritten
are_written = record { replies = replies; accepts = accepts; resumes = λ f c. refl }
