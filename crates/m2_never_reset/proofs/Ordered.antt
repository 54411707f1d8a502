-- Messages come in order along any run without trouble, and so along any run of a lossless link.
use Rattle.std.proofs.Common.{◌≡◌, ℕ, ◌≤◌, Bool, true, false, true≢false, [], length, length-append, refl, ap, arith, le_refl}
use Rattle.m2_never_reset.specs.Roles.{Role}
use Rattle.m2_never_reset.specs.Asks.{by_ident, by_reconnect}
use Rattle.m2_never_reset.specs.Mails.{letter, ack}
use Rattle.m2_never_reset.specs.Link.{absent, Node, Link, flip, new_node, new_link}
use Rattle.m2_never_reset.specs.Steps.{troubled, reconnect_of, Step, dials, asks_by_ident, asks_by_reconnect, leaves, accepts, resumes, refuses, accepts_left, resumes_left, refuses_left, takes_offer, takes_resumption, asks_again, obeys, obeys_in_full, numbers, writes, acknowledges, accepts_mail, passes_mail, counts, Run, done, near_acts, far_acts}
use Rattle.m2_never_reset.specs.Order.{AreFirstOf, IsInOrder, AreInOrder}
use Rattle.m2_never_reset.specs.CrossingLaws.{UntroubledIsInOrder, LosslessIsInOrder}
use Rattle.m2_never_reset.proofs.Invariant.{nothing_asked, no_trouble_lem}
use Rattle.m2_never_reset.proofs.Tallies.{tally_of, Reads, Read}
use Rattle.m2_never_reset.proofs.OrderSteps.{quiet, order_dials, order_asks, order_leaves, order_accepts, order_accepts_left, order_takes_offer, order_obeys, order_resumes, order_resumes_left, order_refuses, order_refuses_left, order_takes_resumption, order_asks_again, order_numbers, order_writes, order_accepts_mail, order_passes_mail, order_counts}

-- ---- the near side acts

step_order : (p : Role) (l m : Link) → Step p l m → m.trouble ≡ 0 → Read l → Read m
step_order p l m (dials x y s t j n asks client rest fewer) calm r = order_dials x y s t j n asks fewer r
step_order p l m (asks_by_ident x y t j n i none drawn carries) calm r = order_asks x (record x { client = i.cookie; greatest = i.global }) y t j n (by_ident i) refl refl tt r
step_order p l m (asks_by_reconnect x y t j n global connect kept drawn) calm r = order_asks x (record x { greatest = global }) y t j n (by_reconnect (reconnect_of x global connect)) refl refl (omega arith) r
step_order p l m (leaves x y s t u j n asks left away) calm r = order_leaves x y s t u j n asks left away r
step_order p l m (accepts x y s j n i full number mine theirs may drawn left fewer) calm r = order_accepts p x y s j n i full number mine theirs left fewer calm r
step_order p l m (resumes x y s j n a number mine theirs may drawn left fewer) calm r = order_resumes x y s j n a number mine theirs left fewer r
step_order p l m (refuses x y s j n a refusal number theirs may drawn fewer) calm r = order_refuses x y s j n a refusal number theirs fewer r
step_order p l m (accepts_left x y s t j n k i full number mine theirs asked may drawn left fewer) calm r = order_accepts_left p x y s t j n i full number mine theirs left fewer calm r
step_order p l m (resumes_left x y s t j n k a number mine theirs asked may drawn left fewer) calm r = order_resumes_left x y s t j n k a number mine theirs asked left fewer r
step_order p l m (refuses_left x y s t j n number theirs drawn fewer) calm r = order_refuses_left x y s t j n number theirs fewer r
step_order p l m (takes_offer x y t j n cookie global ms) calm r = order_takes_offer x y t j n cookie global ms calm r
step_order p l m (takes_resumption x y t j n seen ms) calm r = order_takes_resumption x y t j n seen ms r
step_order p l m (asks_again x y t j n a) calm r = order_asks_again x y _ t j n r
step_order p l m (obeys x y t j n a) calm r = order_obeys x y _ t j n calm r
step_order p l m (obeys_in_full x y t j n a) calm r = absurd (true≢false (quiet true x y n calm).not_full)
step_order p l m (numbers x y ms t j n more) calm r = order_numbers x y _ t j n more r
step_order p l m (writes x y ms t j n number c from is) calm r = order_writes x y _ t j n (letter number x.last c) (omega arith, is) r
step_order p l m (acknowledges x y ms t j n number within) calm r = order_writes x y _ t j n (ack number) within r
step_order p l m (accepts_mail x y ms t j n number acked c next) calm r = order_accepts_mail x y ms t j n number acked c next r
step_order p l m (passes_mail x y mail ms t j n) calm r = order_passes_mail x y mail ms t j n r
step_order p l m (counts x y ms t j n number above within) calm r = order_counts x y ms t j n number within r

-- ---- trouble never goes away

trouble_stays : (full : Bool) (x y : Node) (n : ℕ) → n ≤ troubled full x y n
trouble_stays full x y n = omega arith

step_rises : (p : Role) (l m : Link) → Step p l m → l.trouble ≤ m.trouble
step_rises p l m (dials x y s t j n asks client rest fewer) = le_refl n
step_rises p l m (asks_by_ident x y t j n i none drawn carries) = le_refl n
step_rises p l m (asks_by_reconnect x y t j n global connect kept drawn) = le_refl n
step_rises p l m (leaves x y s t u j n asks left away) = le_refl n
step_rises p l m (accepts x y s j n i full number mine theirs may drawn left fewer) = trouble_stays full x y n
step_rises p l m (resumes x y s j n a number mine theirs may drawn left fewer) = le_refl n
step_rises p l m (refuses x y s j n a refusal number theirs may drawn fewer) = le_refl n
step_rises p l m (accepts_left x y s t j n k i full number mine theirs asked may drawn left fewer) = trouble_stays full x y n
step_rises p l m (resumes_left x y s t j n k a number mine theirs asked may drawn left fewer) = le_refl n
step_rises p l m (refuses_left x y s t j n number theirs drawn fewer) = le_refl n
step_rises p l m (takes_offer x y t j n cookie global ms) = trouble_stays false x y n
step_rises p l m (takes_resumption x y t j n seen ms) = le_refl n
step_rises p l m (asks_again x y t j n a) = le_refl n
step_rises p l m (obeys x y t j n a) = trouble_stays false x y n
step_rises p l m (obeys_in_full x y t j n a) = trouble_stays true x y n
step_rises p l m (numbers x y ms t j n more) = le_refl n
step_rises p l m (writes x y ms t j n number c from is) = le_refl n
step_rises p l m (acknowledges x y ms t j n number within) = le_refl n
step_rises p l m (accepts_mail x y ms t j n number acked c next) = le_refl n
step_rises p l m (passes_mail x y mail ms t j n) = le_refl n
step_rises p l m (counts x y ms t j n number above within) = le_refl n

run_rises : (p q : Role) (l m : Link) → Run p q l m → l.trouble ≤ m.trouble
run_rises p q l m (done k) = le_refl k.trouble
run_rises p q l m (near_acts k o r step run) = let a = step_rises p k o step in let b = run_rises p q o r run in omega (arith, a, b)
run_rises p q l m (far_acts k o r step run) = let a = step_rises q (flip k) (flip o) step in let b = run_rises p q o r run in omega (arith, a, b)

-- ---- runs

turned : (l : Link) → Read l → Read (flip l)
turned l r = record { near = r.far; far = r.near }

back : (l : Link) → Read (flip l) → Read l
back l r = record { near = r.far; far = r.near }

none_before : (m n : ℕ) → m ≤ n → n ≡ 0 → m ≡ 0
none_before m n h e = omega (arith, h, e)

run_order : (p q : Role) (l m : Link) → Run p q l m → m.trouble ≡ 0 → Read l → Read m
run_order p q l m (done k) calm r = r
run_order p q l m (near_acts k o e step run) calm r =
    run_order p q o e run calm (step_order p k o step (none_before o.trouble e.trouble (run_rises p q o e run) calm) r)
run_order p q l m (far_acts k o e step run) calm r =
    run_order p q o e run calm (back o (step_order q (flip k) (flip o) step (none_before o.trouble e.trouble (run_rises p q o e run) calm) (turned k r)))

new_reads : Reads (tally_of new_node) absent new_node.last new_node.numbered
new_reads = record { counted = refl; prefix = ([], refl); base = le_refl 0; heard = le_refl 0; mails = tt; asks = λ a h. absurd (nothing_asked a h) }

starts : Read new_link
starts = record { near = new_reads; far = new_reads }

-- ---- the laws

in_order : (x y : Node) → AreFirstOf x.accepted y.numbered → x.last ≡ length x.accepted → y.base ≤ x.last → y.heard ≤ x.last → IsInOrder x y
in_order x y prefix counted base heard =
    let many = ap length prefix.1 in let parts = length-append x.accepted prefix.0 in record {
      prefix = prefix;
      last = counted;
      numbered = omega (arith, counted, many, parts);
      base = omega (arith, counted, base);
      heard = omega (arith, counted, heard);
    }

are_in_order : (l : Link) → Read l → AreInOrder l
are_in_order l r = record {
  near = in_order l.near l.far r.near.prefix r.near.counted r.far.base r.far.heard;
  far = in_order l.far l.near r.far.prefix r.far.counted r.near.base r.near.heard;
}

pub untroubled_lem : UntroubledIsInOrder
untroubled_lem p q l run calm = are_in_order l (run_order p q new_link l run calm starts)

pub lossless_lem : LosslessIsInOrder
lossless_lem p q l sides run = untroubled_lem p q l run (no_trouble_lem p q l sides run)
