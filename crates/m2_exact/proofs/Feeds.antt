-- What feeds over ends in memory read and write is a function of what is seen.
use Rattle.std.proofs.Common.{◌≡◌, ℕ, List, Some, refl, sym, ◌∙◌, ap}
use Rattle.std.specs.Prelude.{◌≢◌}
use Rattle.m2_fabric.proofs.Exact as end
use Rattle.m2_fabric.specs.End.{ComesFrom, Inflow, SeenEnd}
use Rattle.m2_fabric.specs.Exact.{after_read_of, after_write_of, read_of}
use Rattle.m2_fabric.specs.declared.end.EndRead.{EndRead}
use Rattle.m2_fabric.specs.declared.end.EndRead.TheVariants as read
use Rattle.m2_fabric.specs.declared.end.EndWrite.{EndWrite}
use Rattle.m2_fabric.specs.declared.end.EndWrite.TheVariants as write
use Rattle.m2_fabric.proofs.m2_lemmas.Options.{of_some}
use Rattle.m2_script.specs.m2_center.m2_feed.Calls.{ReadsOn, ReadsPiece, WritesOn, after_put, heard, heard_of}
use Rattle.m2_script.specs.m2_center.m2_feed.FeedNow.{FeedNow, Reading}
use Rattle.m2_script.specs.m2_center.m2_feed.declared.answers.FeedWrite.{FeedWrite}
use Rattle.m2_script.specs.m2_center.m2_feed.declared.answers.FeedWrite.TheVariants as put
use Rattle.m2_exact.specs.Feeds.{FeedsAnswerByWhatIsSeen, after_putting, put_by, read_by, with_answer, write_by}

-- what is heard is the first of what came
same_heard : (answer : EndRead) (i : Inflow) (v new : FeedNow) (p : ReadsPiece answer v new) → v.end.inflow ≡ Some i → heard_of answer p.hears.piece v.reading ≡ heard_of answer i.readable v.reading
same_heard (read.Got n) i v new p is = ap (λ (bytes : List ℕ). heard bytes v.reading) (of_some (λ i. ComesFrom v.end.left i n p.hears.piece) v.end.inflow i is p.hears.reads.1).bytes
same_heard read.NotYet i v new p is = refl
same_heard read.Ended i v new p is = refl
same_heard read.Failed i v new p is = refl
same_heard read.NoMemory i v new p is = refl

by_piece : (answer : EndRead) (i : Inflow) (v new : FeedNow) → v.end.inflow ≡ Some i → answer ≢ read.NoMemory → ReadsPiece answer v new →
    (answer ≡ read_by i v) × (new ≡ with_answer (read_by i v) i v)
by_piece answer i v new is memory p =
    let exact = end.reads_are_exact answer p.hears.piece i v.end new.end is memory p.hears.reads in
    let same : answer ≡ read_by i v = exact.0 ∙ ap (λ (n : ℕ). read_of v.end.left i n) p.hears.most in
    let behind : new.end ≡ after_read_of (read_by i v) i v.end = exact.1 ∙ ap (λ (n : ℕ). after_read_of (read_of v.end.left i n) i v.end) p.hears.most in
    let reading : new.reading ≡ heard_of (read_by i v) i.readable v.reading = p.hears.heard ∙ same_heard answer i v new p is ∙ ap (λ (a : EndRead). heard_of a i.readable v.reading) same in
    (same, p.only ∙ ap (λ (e : SeenEnd). record v { end = e; reading = new.reading }) behind ∙ ap (λ (r : Reading). record v { end = after_read_of (read_by i v) i v.end; reading = r }) reading)

reads : (answer : EndRead) (i : Inflow) (v new : FeedNow) → v.end.inflow ≡ Some i → answer ≢ read.NoMemory → ReadsOn answer v new →
    (answer ≡ read_by i v) × (new ≡ with_answer (read_by i v) i v)
reads (read.Got n) i v new is memory r = by_piece (read.Got n) i v new is memory r
reads read.NotYet i v new is memory r = by_piece read.NotYet i v new is memory r
reads read.Ended i v new is memory r = by_piece read.Ended i v new is memory r
reads read.Failed i v new is memory r = by_piece read.Failed i v new is memory r
reads read.NoMemory i v new is memory r = absurd (memory refl)

writes : (answer : FeedWrite) (i : Inflow) (v new : FeedNow) → v.end.inflow ≡ Some i → answer ≢ put.NoMemory → WritesOn answer v new →
    (answer ≡ put_by (write_by i v) v) × (new ≡ record (after_putting (write_by i v) v) { room = new.room })
writes (put.Put n acknowledged) i v new is memory (w, owes, only) =
    let exact = end.writes_are_exact (write.Put n) v.composed i v.end new.end is (λ e. cc e) w in (
      ap (λ (b : _). put.Put n b) owes ∙ ap (λ (a : EndWrite). put_by a v) exact.0,
      only ∙ ap (λ (e : SeenEnd). record (after_put n v) { end = e; room = new.room }) exact.1
          ∙ ap (λ (a : EndWrite). record (after_put n v) { end = after_write_of a v.composed v.end; room = new.room }) (sym exact.0)
          ∙ ap (λ (a : EndWrite). record (after_putting a v) { room = new.room }) exact.0,
    )
writes put.NotYet i v new is memory (w, only) = absurd (cc (is, w.0))
writes put.Failed i v new is memory (w, only) =
    let exact = end.writes_are_exact write.Failed v.composed i v.end new.end is (λ e. cc e) w in (
      ap (λ (a : EndWrite). put_by a v) exact.0,
      only ∙ ap (λ (e : SeenEnd). record v { end = e }) exact.1
          ∙ ap (λ (a : EndWrite). record v { end = after_write_of a v.composed v.end }) (sym exact.0)
          ∙ ap (λ (a : EndWrite). record (after_putting a v) { room = v.room }) exact.0
          ∙ ap (λ (r : _). record (after_putting (write_by i v) v) { room = r }) (sym (ap (λ (x : FeedNow). x.room) only)),
    )
writes put.NoMemory i v new is memory w = absurd (memory refl)

pub exact : FeedsAnswerByWhatIsSeen
exact = record { reads = reads; writes = writes }
