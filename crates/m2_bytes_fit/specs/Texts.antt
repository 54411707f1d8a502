-- The texts of frames one after the other, and which frames can be read again. Formats: Ceph's msgr2 documentation.
use Rattle.std.specs.Prelude.{ℕ, List, Some}
use Rattle.std.specs.List.{flat_map, AllByRecursion}
use Rattle.m2_feed.specs.m2_control.declared.control.Control.{Control}
use Rattle.m2_feed.specs.m2_control.declared.control.Control.TheVariants as control
use Rattle.m2_feed.specs.m2_control.Laws.{HasRanges, IsInBounds}
use Rattle.m2_feed.specs.m2_handshake.Texts.{control_parts}
use Rattle.m2_feed.specs.m2_message.Message.{Content, with_numbers}
use Rattle.m2_feed.specs.m2_message.HeaderText.{FieldsFit}
use Rattle.m2_feed.specs.m2_message.MessageFrame.{parts_of}
use Rattle.m2_feed.specs.m2_journal.Items as item
use Rattle.m2_feed.specs.m2_journal.Items.{JournalItem}
use Rattle.m2_feed.specs.m2_journal.Laws.{IsWritable}
use Rattle.m2_feed.specs.m2_journal.OutFrames as out
use Rattle.m2_feed.specs.m2_journal.OutFrames.{OutFrame, client_ident_of, server_ident_of}
use Rattle.m2_feed.specs.m2_journal.Plan.{to_post}
use Rattle.m2_feed.specs.m2_journal.SideFacts.{SideFacts}
use Rattle.m2_feed.specs.m2_journal.State.{SentFrame}
use Rattle.m2_feed.specs.FeedLaws.{reconnect_of}

-- ---- what a frame is made of

-- a message's frame, and the payload of each other one; a handshake's text is that of no one frame
pub data Made : Type 0 where
  of_message : Content → Made
  of_payload : Control → Made
  of_none : Made

abbrev pub made : SideFacts → OutFrame → Made
made f out.greeting = of_none
made f (out.ident cookie global) = of_payload (client_ident_of f cookie global)
made f (out.reconnect client server global connect seen) = of_payload (reconnect_of f client server global connect seen)
made f (out.server_ident cookie global) = of_payload (server_ident_of f cookie global)
made f (out.reconnect_ok seen) = of_payload (control.SessionReconnectOk (record { seen = seen }))
made f (out.reset full) = of_payload (control.SessionReset (record { full = full }))
made f (out.retry connect) = of_payload (control.SessionRetry (record { connect = connect }))
made f (out.retry_global global) = of_payload (control.SessionRetryGlobal (record { global = global }))
made f out.wait = of_payload (control.Wait (record {}))
made f (out.message number acked m) = of_message (with_numbers number acked m)
made f (out.acknowledgement number) = of_payload (control.Ack (record { seen = number }))
made f (out.keepalive_answer k) = of_payload (control.KeepaliveAck (record { seconds = k.seconds; nanos = k.nanos }))

-- ---- what can be read again

-- The bounds of the profile. A SESSION_RETRY may carry a number above the greatest, by a side whose connect numbers are used
-- up: no reader takes it.
abbrev pub KeepsBounds : Control → Type 0
KeepsBounds (control.SessionRetry p) = Unit {0}
KeepsBounds c = IsInBounds c

-- a payload whose frame can be written, and which keeps the ranges of its fields and those bounds
pub record KeepsFormat (c : Control) : Type 0 where
  pub writable : IsWritable (control_parts c)
  pub ranges : HasRanges c
  pub bounds : KeepsBounds c

pub record KeepsFields (m : Content) : Type 0 where
  pub writable : IsWritable (parts_of m)
  pub fields : FieldsFit m.header

abbrev pub CanBeMade : Made → Type 0
CanBeMade (of_message m) = KeepsFields m
CanBeMade (of_payload c) = KeepsFormat c
CanBeMade of_none = ⊥

-- the frame keeps the bounds of its format
abbrev pub CanBeSent : SideFacts → OutFrame → Type 0
CanBeSent f w = CanBeMade (made f w)

abbrev pub CanAllBeSent : SideFacts → List SentFrame → Type 0
CanAllBeSent f sent = AllByRecursion (λ x. CanBeSent f x.frame) sent

-- a message that the plan posts keeps the bounds of its frame
abbrev pub CanBePosted : JournalItem → Type 0
CanBePosted (item.post place (Some (to_post m))) = KeepsFields m
CanBePosted _ = Unit {0}

-- ---- texts

abbrev pub texts_of : SideFacts → List OutFrame → List ℕ
texts_of f frames = flat_map (out.text_of f) frames
