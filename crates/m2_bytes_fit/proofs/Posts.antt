-- A message that may be sent has a frame.
use Rattle.std.proofs.Common.{ℕ, ◌≤◌, Bool, true, false, if◌then◌else◌, length, arith}
use Rattle.std.specs.Prelude.{nat_lt, slice_get}
use Rattle.m2_feed.specs.m2_frame.declared.frame.TheConstants.{MOST_SEGMENTS}
use Rattle.m2_feed.specs.m2_frame.Frame.{count_by_lengths}
use Rattle.m2_feed.specs.m2_journal.declared.entry.Entry.{Entry}
use Rattle.m2_feed.specs.m2_journal.declared.entry.Entry.TheVariants as entry
use Rattle.m2_feed.specs.m2_journal.Items as item
use Rattle.m2_feed.specs.m2_journal.Items.{Places, Sources, item_of}
use Rattle.m2_feed.proofs.m2_message.Headers.{length-header_text}
use Rattle.m2_bytes_fit.specs.Posts.{SendablePostsKeepFields}
use Rattle.m2_bytes_fit.specs.Texts.{CanBePosted}
use Rattle.m2_bytes_fit.proofs.Formats.{header_bytes}

few_segments : (second third fourth : ℕ) → count_by_lengths second third fourth ≤ MOST_SEGMENTS
few_segments second third fourth = at (nat_lt 0 fourth) (nat_lt 0 third) (nat_lt 0 second)
  where
    at : (c b a : Bool) → (if c then 4 else if b then 3 else if a then 2 else 1) ≤ MOST_SEGMENTS
    at true b a = omega arith
    at false true a = omega arith
    at false false true = omega arith
    at false false false = omega arith

pub sendable_keeps : SendablePostsKeepFields
sendable_keeps m types s = record {
  writable = record {
    fits = record {
      tag_from = omega arith;
      tag_to = omega arith;
      count = few_segments (length m.front.bytes) (length m.middle.bytes) (length m.tail.bytes);
      first = omega (arith, length-header_text m.header);
      second = omega (arith, s.front);
      third = omega (arith, s.middle);
      fourth = omega (arith, s.tail);
    };
    bytes = record { first = header_bytes m.header types.header.flags; second = types.front; third = types.middle; fourth = types.tail };
  };
  fields = types.header;
}

-- what an entry posts can be posted where each step of the plan can
pub one_post : (s : Sources) → ((place n : ℕ) → CanBePosted (item.post place (slice_get s.plan n))) → (p : Places) (e : Entry) → CanBePosted (item_of s p e)
one_post s h p (entry.Post place) = h place p.steps
one_post s h p entry.Dial = tt
one_post s h p (entry.Opened socket) = tt
one_post s h p (entry.Read socket count) = tt
one_post s h p (entry.Wrote socket count) = tt
one_post s h p (entry.Closed socket) = tt
one_post s h p (entry.Judged socket ask number answer) = tt
one_post s h p (entry.Asked ident number) = tt
one_post s h p (entry.Numbered number) = tt
one_post s h p (entry.Accepted number key) = tt
one_post s h p (entry.Acked number) = tt
one_post s h p (entry.Obeyed full) = tt
one_post s h p (entry.Down true) = tt
one_post s h p (entry.Down false) = tt
