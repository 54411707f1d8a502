-- A frame without where its bytes lie, and which frames can be written: Ceph's msgr2 documentation,
-- frame format, with the bounds on lengths of this project's profile.
use Rattle.std.specs.Prelude.{◌==◌, ℕ, ◌≤◌, List, length, nat_lt, if◌then◌else◌}
use Rattle.m2_frame.specs.declared.tag.Tag.TheVariants as tag
use Rattle.m2_frame.specs.declared.tag.TheConstants.{FIRST_TAG, LAST_TAG}
use Rattle.m2_frame.specs.Tags.{tag_number}
use Rattle.m2_frame.specs.declared.frame.Frame.{Frame}
use Rattle.m2_frame.specs.declared.frame.TheConstants.{CONTROL_LIMIT, MESSAGE_LIMIT, MOST_SEGMENTS}

-- a tag and the bytes of four segments, those past the last one that is counted being empty
pub record Parts : Type 0 where
  pub tag : ℕ
  pub first : List ℕ
  pub second : List ℕ
  pub third : List ℕ
  pub fourth : List ℕ

abbrev pub parts : Frame → Parts
parts f = record { tag = f.tag; first = f.first.bytes; second = f.second.bytes; third = f.third.bytes; fourth = f.fourth.bytes }

-- the tag of a MESSAGE
abbrev pub message_tag : ℕ
message_tag = tag_number tag.Message

-- how many segments are counted: trailing empty ones aren't, and one always is
abbrev pub count_by_lengths : ℕ → ℕ → ℕ → ℕ
count_by_lengths second third fourth =
    if nat_lt 0 fourth then 4 else if nat_lt 0 third then 3 else if nat_lt 0 second then 2 else 1

abbrev pub count_of : Parts → ℕ
count_of f = count_by_lengths (length f.second) (length f.third) (length f.fourth)

-- the most segments, and the most bytes in one
abbrev pub most_segments : ℕ → ℕ
most_segments tag = if tag == message_tag then MOST_SEGMENTS else 1

abbrev pub segment_limit : ℕ → ℕ
segment_limit tag = if tag == message_tag then MESSAGE_LIMIT else CONTROL_LIMIT

-- what can be written
pub record Fits (f : Parts) : Type 0 where
  pub tag_from : FIRST_TAG ≤ f.tag
  pub tag_to : f.tag ≤ LAST_TAG
  pub count : count_of f ≤ most_segments f.tag
  pub first : length f.first ≤ segment_limit f.tag
  pub second : length f.second ≤ segment_limit f.tag
  pub third : length f.third ≤ segment_limit f.tag
  pub fourth : length f.fourth ≤ segment_limit f.tag
