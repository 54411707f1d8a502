-- The trace of two records: what each side knows, planned, did and handed on, and where it stands; and the sockets between
-- them. docs/PROTOCOL.md has the lines in this order. This project's own.
use Rattle.std.specs.Prelude.{◌++◌, codes}
use Rattle.std.specs.List.{flat_map}
use Rattle.m2_dispatch.specs.Heard.{heard_by}
use Rattle.m2_record.specs.Due.{on_feed}
use Rattle.m2_record.specs.RecordNow.{RecordNow, composed_on, feed_end}
use Rattle.m2_record_trace.specs.declared.which.Which.{Which}
use Rattle.m2_record_trace.specs.declared.which.Which.TheVariants.{First, Second}
use Rattle.m2_record_trace.specs.declared.wire.Wire.{Wire}
use Rattle.m2_record_trace.specs.PairNow.{PairNow}
use Rattle.m2_record_trace.specs.SideNow.{SideNow}
use Rattle.m2_trace.specs.Ends.{end_lines, trail_lines}
use Rattle.m2_trace.specs.Entries.{journal_lines}
use Rattle.m2_trace.specs.Rows.{nothing_held}
use Rattle.m2_trace.specs.Sides.{heard_line, session_line, start_lines, step_line}
use Rattle.m2_trace.specs.Words.{Text, bytes_word, flag_word, line, number_word, socket_word}
use Rattle.m2_trail.specs.Arrivals.{LooseNow}
use Rattle.m2_trail.specs.Incoming.{IncomingNow}

-- ---- a record

unfoldable pub did_lines : (side : Text) → RecordNow → Text
did_lines side r =
    flat_map (step_line side) r.plan ++ journal_lines r.core.facts side nothing_held r.journal ++ flat_map (trail_lines side (codes "trail")) r.trails

unfoldable pub ends_lines : (side : Text) → RecordNow → Text
ends_lines side r = flat_map (end_lines side (codes "feed")) (feed_end r.core.live.feed) ++ flat_map (end_lines side (codes "spent")) r.spent

-- whether the feed was found dry and blocked, and is held
unfoldable pub flags_words : RecordNow → Text
flags_words r =
    flag_word (on_feed (λ v. v.end.log.dry) r.core.live.feed) ++ flag_word (on_feed (λ v. v.end.log.blocked) r.core.live.feed) ++ flag_word r.held

-- from when on it may dial, how many connects failed, and the moment of its last productive entry
unfoldable pub moments_words : RecordNow → Text
moments_words r = number_word r.waits.next_dial ++ number_word r.missed ++ number_word r.last

unfoldable pub state_line : (side : Text) → RecordNow → Text
state_line side r = line side (codes "state") (flags_words r ++ moments_words r)

-- what is composed and not written
unfoldable pub composed_line : (side : Text) → RecordNow → Text
composed_line side r = line side (codes "composed") (bytes_word (composed_on r.core.live.feed))

unfoldable pub stands_lines : (side : Text) → RecordNow → Text
stands_lines side r = session_line side r.core.live.session ++ state_line side r ++ composed_line side r

unfoldable pub record_lines : (side : Text) → RecordNow → Text
record_lines side r = start_lines side r.core.live.session r.core.facts.node ++ did_lines side r ++ ends_lines side r ++ stands_lines side r

-- ---- a side

-- a socket of the peer that is open and not taken, and one that is closed
unfoldable pub half_lines : (side : Text) → IncomingNow → Text
half_lines side h = trail_lines side (codes "half") h.trail ++ end_lines side (codes "half_end") h.end

unfoldable pub loose_lines : (side : Text) → LooseNow → Text
loose_lines side l = trail_lines side (codes "loose") l.trail ++ end_lines side (codes "loose_end") l.end

unfoldable pub untaken_lines : (side : Text) → SideNow → Text
untaken_lines side s = flat_map (half_lines side) s.halves ++ flat_map (loose_lines side) s.loose

-- what was handed out behind the queue, and what at once
unfoldable pub handed_lines : (side : Text) → SideNow → Text
handed_lines side s = flat_map (heard_line side) (heard_by s.log) ++ flat_map (heard_line side) (heard_by s.fast)

unfoldable pub side_lines : (side : Text) → SideNow → Text
side_lines side s = record_lines side s.kept ++ untaken_lines side s ++ handed_lines side s

-- ---- the sockets between them

abbrev pub name_of : Which → Text
name_of First = codes "a"
name_of Second = codes "b"

-- its name and how many bytes have flowed on it, from its opener and to it
unfoldable pub wire_words : Wire → Text
wire_words w = socket_word w.socket ++ number_word w.ahead ++ number_word w.back

unfoldable pub wire_line : Wire → Text
wire_line w = line (name_of w.opener) (codes "opened") (wire_words w)

-- ---- the whole

unfoldable pub trace_of : PairNow → Text
trace_of p = side_lines (codes "a") p.first ++ side_lines (codes "b") p.second ++ flat_map wire_line p.wires
