-- A link that is woven: one side has opened a socket and written its banner, and a half of the other side has read it.
use Rattle.std.specs.Prelude.{◌≡◌, ◌≢◌, ℕ, zero, suc, ◌<◌, ◌^◌, ◌==◌, ◌&&◌, Bool, true, false, List, [], ◌∷◌, length, take, Some, None, refl}
use Rattle.std.proofs.Common.{arith}
use Rattle.std.specs.List.{AllByRecursion, IsDistinct}
use Rattle.std.specs.Borrow.{Bor}
use Rattle.m2_message.specs.m2_crc.Crc.{after_byte, shifted, shifted_by}
use Rattle.m2_message.specs.m2_frame.Reading.{judge, judge_first, judge_later, judge_epilogue, size_of}
use Rattle.m2_message.specs.m2_frame.Preamble.{read_preamble, preamble_text}
use Rattle.m2_message.specs.m2_frame.Text.{segment_crc, text_of}
use Rattle.m2_trail.specs.m2_control.Fields.{bounded_at, cookie_at, flag_at, numbers_at, list_at, string_at, vector_field}
use Rattle.m2_trail.specs.m2_control.Ident.{tail_at}
use Rattle.m2_policy.specs.m2_addr.Addr.{head_at, socket_at, body_of, shape_at}
use Rattle.m2_policy.specs.m2_addr.Vector.{addresses_at, vector_at}
use Rattle.m2_message.specs.HeaderText.{header_text}
use Rattle.std.proofs.lemmas.Bool.{and_parts, eqb-true, leb-true, ltb-true}
use Rattle.m2_journal.specs.m2_session.declared.cookie.TheConstants.{MOST_PLACES}
use Rattle.m2_trail.specs.m2_control.declared.fields.TheConstants.{GREATEST_NUMBER}
use Rattle.m2_trail.specs.m2_control.Laws.{HasAddrRanges}
use Rattle.m2_fabric.specs.declared.log.Run.TheVariants as run
use Rattle.m2_fabric.specs.declared.socket.SocketId.{SocketId}
use Rattle.m2_fabric.specs.End.{SeenEnd}
use Rattle.m2_bytes_fit.proofs.m2_feed.Courses.{ran}
use Rattle.m2_bytes_fit.specs.Ends.{got_at}
use Rattle.m2_bytes_fit.specs.Halves.{KeepsRanges}
use Rattle.m2_bytes_fit.specs.Orders.{far_side}
use Rattle.m2_journal.specs.m2_handshake.Course as course
use Rattle.m2_journal.specs.m2_handshake.Course.{course_of}
use Rattle.m2_journal.specs.m2_handshake.Standing.{fed}
use Rattle.m2_history.specs.Parts.{PartsNow}
use Rattle.m2_history.specs.Woven.{ends_of}
use Rattle.m2_journal.specs.declared.entry.Entry.TheVariants as entry
use Rattle.m2_journal.specs.declared.facts.PlanStep.{PlanStep}
use Rattle.m2_journal.specs.declared.facts.PlanStep.TheVariants as step
use Rattle.m2_journal.specs.Items.{dial, opened, runs_on}
use Rattle.m2_journal.specs.Replay.{AreLawful}
use Rattle.m2_journal.specs.State.{start}
use Rattle.m2_journal.specs.Plan.{to_dial}
use Rattle.m2_journal.specs.SideFacts.{SideFacts}
use Rattle.m2_journal.proofs.Pair.{World, a_does, before_all, facts_of_a, facts_of_b, here, left_of, socket, there}
use Rattle.m2_journal.proofs.Written.{holds, fails}
use Rattle.m2_trail.specs.Arrivals.{LooseNow}
use Rattle.m2_trail.specs.Trails.{ComesToWrite, begins, got_by, opener_of, put_by, replies_by}
use Rattle.m2_weave.specs.declared.table.SocketBytes.{SocketBytes}
use Rattle.m2_history.specs.WovenLaws.{ALinkIsWoven}
use Rattle.m2_history.specs.Actors.{part_of}
use Rattle.m2_bytes_fit.specs.Texts.{CanBePosted}
use Rattle.m2_history.specs.WovenLink.{IsLink, IsLooseBeside, IsOrderOf, IsSideOf, LinkNow, AreUp, items_by, items_in, order_of, same_end}

abbrev pub k : SocketId
k = socket 1

-- ---- what was done

-- the opener's banner
abbrev opening : World
opening = a_does (opened k) (a_does (dial (Some to_dial)) before_all)

abbrev banner : List ℕ
banner = left_of facts_of_a opening.a

abbrev count : ℕ
count = length banner

abbrev near_end : SeenEnd
near_end = record { id = k; log = record { got = []; put = banner; runs = run.Wrote count ∷ []; closed = false; dry = false; blocked = false; ended = false }; faults = 0; left = None; inflow = None }

abbrev half : LooseNow
half = record {
  end = record { id = k; log = record { got = banner; put = []; runs = run.Read count ∷ []; closed = false; dry = false; blocked = false; ended = false }; faults = 0; left = None; inflow = None };
  trail = record { socket = k; entity = 4; entries = entry.Read k count ∷ []; judged = []; judged_after = [] };
}

abbrev near : PartsNow
near = record { journal = entry.Dial ∷ entry.Opened k ∷ entry.Wrote k count ∷ []; trails = []; ends = near_end ∷ [] }

abbrev far : PartsNow
far = record { journal = []; trails = []; ends = [] }

abbrev pub facts_by : Bool → SideFacts
facts_by true = facts_of_a
facts_by false = facts_of_b

abbrev plan_by : Bool → List PlanStep
plan_by true = step.Dial ∷ []
plan_by false = []

abbrev opened_link : LinkNow
opened_link = record { facts = facts_by; plans = plan_by; both = record { a = near; b = far; loose = half ∷ [] } }

-- ---- the half

-- it has read the banner, and put nothing
pub reads_it : (xs : List ℕ) → ComesToWrite (begins half.trail) xs [] []
reads_it xs =
    let r = ran (fed (begins half.trail) xs) in
    let c = course_of (fed (begins half.trail) xs) [] in
    record {
      exchange = record { bytes = xs; replies = []; text = course.text_of c.events; asks = course.asks_of c.events };
      standing = c.standing;
      comes = record { events = c.events; runs = r.runs; replies = r.no_replies; text = refl; asks = refl };
      fed = refl;
      given = ([], refl);
      written = (course.text_of c.events, refl);
    }

half_whole : IsLooseBeside near.journal far.journal half
half_whole = record {
  whole = record {
    socket = refl;
    entries = refl;
    counted = record { got = refl; put = refl };
    facts = record {
      refused = None;
      refused_fits = tt;
      many = refl;
      rising = leb-true 0 1 refl;
      asks = λ place below. absurd (omega (arith, below));
      points = points;
    };
  };
  entity = ltb-true 4 (2 ^ 8) refl;
  judged = refl;
}
  where
    points : (n : ℕ) → ComesToWrite (begins half.trail) (got_by (runs_on k (take n half.trail.entries)) half.end.log) (replies_by half.trail None n) (put_by (runs_on k (take n half.trail.entries)) half.end.log)
    points zero = reads_it []
    points (suc n) = at n
      where
        at : (n : ℕ) → ComesToWrite (begins half.trail) (got_by (runs_on k (take (suc n) half.trail.entries)) half.end.log) (replies_by half.trail None (suc n)) (put_by (runs_on k (take (suc n) half.trail.entries)) half.end.log)
        at zero = reads_it banner
        at (suc n) = reads_it banner

-- ---- names and ranges

ranges : (kind nonce ip port : ℕ) → kind < 2 ^ 32 → nonce < 2 ^ 32 → ip < 2 ^ 32 → port < 2 ^ 16 → HasAddrRanges (record { kind = kind; nonce = nonce; ip = ip; port = port })
ranges kind nonce ip port a b c d = (a, b, c, d)

here_fits : HasAddrRanges here
here_fits = ranges 2 1 0x0100007F 7001 (ltb-true 2 (2 ^ 32) refl) (ltb-true 1 (2 ^ 32) refl) (ltb-true 0x0100007F (2 ^ 32) refl) (ltb-true 7001 (2 ^ 16) refl)

there_fits : HasAddrRanges there
there_fits = ranges 2 2 0x0100007F 7002 (ltb-true 2 (2 ^ 32) refl) (ltb-true 2 (2 ^ 32) refl) (ltb-true 0x0100007F (2 ^ 32) refl) (ltb-true 7002 (2 ^ 16) refl)

pub opener_fits : HasAddrRanges (opener_of k)
opener_fits = ranges 2 0 0x0100007F 7001 (ltb-true 2 (2 ^ 32) refl) (ltb-true 0 (2 ^ 32) refl) (ltb-true 0x0100007F (2 ^ 32) refl) (ltb-true 7001 (2 ^ 16) refl)

pub named : (s : Bool) → KeepsRanges (facts_by s)
named true = record {
  entity = ltb-true 4 (2 ^ 8) refl;
  peer = there_fits;
  mine = here_fits;
  kind = refl;
  place = ltb-true 0 MOST_PLACES refl;
  supports = ltb-true 1 (2 ^ 64) refl;
  requires_ = ltb-true 0 (2 ^ 64) refl;
}
named false = record {
  entity = ltb-true 4 (2 ^ 8) refl;
  peer = here_fits;
  mine = there_fits;
  kind = refl;
  place = ltb-true 1 MOST_PLACES refl;
  supports = ltb-true 1 (2 ^ 64) refl;
  requires_ = ltb-true 0 (2 ^ 64) refl;
}

pub other_port : (ip port : ℕ) → ((ip == 0x0100007F) && (port == 7002)) ≡ true → ((ip == 0x0100007F) && (port == 7001)) ≡ false
other_port ip port e =
    let both = and_parts (ip == 0x0100007F) (port == 7002) e in
    rw (eqb-true ip 0x0100007F both.0, eqb-true port 7002 both.1) refl

-- ---- both sides

lawful_near : AreLawful facts_of_a (items_by opened_link true) (start facts_of_a)
unfolding text_of preamble_text segment_crc after_byte shifted shifted_by judge judge_first judge_later judge_epilogue size_of read_preamble bounded_at cookie_at flag_at numbers_at list_at string_at vector_field tail_at head_at socket_at body_of shape_at addresses_at vector_at header_text
lawful_near = (
  tt,
  (
    record { due = holds; leads = holds; not_opened = fails; not_judged = fails; fits = leb-true 0 GREATEST_NUMBER holds },
    (
      (holds, record { some = holds; text = holds }),
      tt,
    ),
  ),
)

sides : (s : Bool) → IsSideOf (facts_by s) (plan_by s) (part_of opened_link.both s)
sides true = record { lawful = lawful_near; ends = (holds, tt); trails = record { sockets = refl; each = tt } }
sides false = record { lawful = tt; ends = tt; trails = record { sockets = refl; each = tt } }

are_up : AreUp opened_link
are_up true = (tt, (tt, (tt, tt)))
are_up false = tt

can_post : (s : Bool) → AllByRecursion CanBePosted (items_in (plan_by s) (part_of opened_link.both s))
can_post true = (tt, (tt, (tt, tt)))
can_post false = tt

apart : IsDistinct same_end (ends_of opened_link.both)
unfolding IsDistinct
apart = ((refl, tt), (tt, tt))

link_is : IsLink opened_link
link_is = record {
  sides = sides;
  joined = record {
    posts = can_post;
    loose = (λ e. half_whole, tt);
    apart = apart;
    named = named;
    seen = (opener_fits, tt);
    peers = λ j e. other_port j.to_ip j.to_port e;
  };
}

-- ---- the order: the near side dials, opens and writes, and then the half reads

order : List ℕ
order = 0 ∷ 0 ∷ 0 ∷ 2 ∷ []

abbrev bytes : List ℕ → Bor (List ℕ)
bytes xs = record { ref_ptr = (0, 0); now = xs }

abbrev row : SocketBytes
row = record { socket = k; opener = record { got = bytes []; put = bytes banner }; acceptor = record { got = bytes banner; put = bytes [] } }

order_is : IsOrderOf opened_link order
unfolding order
order_is = record {
  sockets = row ∷ row ∷ [];
  rows = refl;
  woven = record {
    lawful = (
      record { more = ltb-true 0 3 refl; met = refl },
      (
        record { more = ltb-true 1 3 refl; met = refl },
        (
          record { more = ltb-true 2 3 refl; met = refl },
          (
            record { more = ltb-true 0 1 refl; met = refl },
            tt,
          ),
        ),
      ),
    );
    whole = refl;
  };
}

pub apart_places : facts_of_a.node.number ≡ facts_of_b.node.number → ⊥
apart_places e = let same : ◌≡◌ {A = ℕ} 0 1 = e in absurd (omega (arith, same))

some_read : got_at (far_side facts_of_b (order_of opened_link order)) k ≢ []
unfolding order
some_read e = let some : banner ≡ [] = e in cc

pub one_link : ALinkIsWoven
one_link = record {
  link = opened_link;
  order = order;
  nodes = record { allowed = refl; near_keeps = refl; far_keeps = refl; places = apart_places; near_salt = ltb-true 5 (2 ^ 16) refl; far_salt = ltb-true 6 (2 ^ 16) refl };
  is_link = link_is;
  up = are_up;
  is_order = order_is;
  socket = k;
  read = some_read;
}
