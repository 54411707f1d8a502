-- What a trail gives of its half at each point of an order of its entries and of the judgements of its asks.
use Rattle.std.specs.Prelude.{ℕ, suc, ◌<◌, ◌≤◌, ◌^◌, List, length, slice_get, slice_index, take, Option, Some, IfSome}
use Rattle.m2_feed.specs.m2_fabric.Log.{Log}
use Rattle.m2_feed.specs.m2_handshake.Standing.{Standing}
use Rattle.m2_feed.specs.m2_journal.declared.entry.Entry.{Entry}
use Rattle.m2_feed.specs.m2_journal.declared.entry.Entry.TheVariants as entry
use Rattle.m2_feed.specs.m2_journal.declared.entry.JudgedItem.{JudgedItem}
use Rattle.m2_feed.specs.m2_journal.Items.{runs_on}
use Rattle.m2_trail.specs.Replies.{all_replies}
use Rattle.m2_trail.specs.Trails.{TrailNow, ComesToAsk, ComesToWrite, HalfBytes, IsTrailOf, begins, got_by, judged_by, put_by}

-- ---- a point of an order

abbrev pub IsWrote : Option Entry → Type 0
IsWrote (Some (entry.Wrote socket count)) = Unit {0}
IsWrote _ = ⊥

-- behind so many entries of a trail, and so many judgements of its asks
pub record IsPointOf (t : TrailNow) (entries judged : ℕ) : Type 0 where
  pub few : judged ≤ length t.judged
  -- each of these asks was judged behind entries that have come
  pub asked : (place : ℕ) → place < judged → slice_index t.judged_after place ≤ entries
  -- behind an entry that writes, all that was judged before it has been judged
  pub answered : (n : ℕ) → n < entries → IsWrote (slice_get t.entries n) → judged_by t (suc n) ≤ judged

-- ---- what is known of the half there

-- the bytes that it has got and put
abbrev pub bytes_after : TrailNow → Log → ℕ → HalfBytes
bytes_after t log entries = record {
  got = got_by (runs_on t.socket (take entries t.entries)) log;
  put = put_by (runs_on t.socket (take entries t.entries)) log;
}

-- It has come to the asks that were judged, by what it has got; and what it has put it writes by that and by their answers.
pub record IsHalfAt (begin : Standing) (h : HalfBytes) (judged : List JudgedItem) : Type 0 where
  pub refused : Option ℕ
  pub refused_fits : IfSome refused (λ bits. bits < 2 ^ 64)
  pub asks : ComesToAsk begin h.got (all_replies judged refused) judged
  pub writes : ComesToWrite begin h.got (all_replies judged refused) h.put

abbrev pub TrailsTellEachPoint : Type 0
TrailsTellEachPoint = (t : TrailNow) (log : Log) (entries judged : ℕ) → IsTrailOf t log → IsPointOf t entries judged →
    IsHalfAt (begins t) (bytes_after t log entries) (take judged t.judged)
