-- The order of messages, kept by each step of the near side, where no trouble has come after it.
use Rattle.std.proofs.Common.{◌≡◌, ℕ, ◌+◌, ◌-◌, ◌≤◌, max, inl, inr, Bool, true, false, true≢false, List, [], ◌∷◌, ◌++◌, length, length-append, drop, Some, refl, sym, ap, ◌∙◌, subst, arith}
use Rattle.std.specs.Prelude.{slice_get}
use Rattle.m2_journal.specs.m2_fabric.declared.socket.SocketId.{SocketId}
use Rattle.m2_queues.specs.m2_message.Message.{Content}
use Rattle.m2_session.specs.Reconnect.{Reconnect}
use Rattle.m2_never_reset.specs.Roles.{Role}
use Rattle.m2_never_reset.specs.Asks.{Ident, Ask, by_ident, by_reconnect, Refusal, Asks, AtMost}
use Rattle.m2_never_reset.specs.Mails.{Mail, letter, acked_by, heard_with}
use Rattle.m2_never_reset.specs.Link.{Stand, connecting, asking, refused, offered, resumed, ready, Node, Joined, apart, by_near, by_far, link}
use Rattle.m2_never_reset.specs.Steps.{after_offer, after_letter, HasLeft, LeavesAt, set_back, troubled, after_acceptance, after_resumption, with_mail, mailed}
use Rattle.m2_never_reset.specs.Order.{AreFirstOf}
use Rattle.m2_never_reset.proofs.Before.{Asked}
use Rattle.m2_never_reset.proofs.CrossingAsked.{Fewer, asks_nothing, asks_left, asks_fewer, left_asks_nothing}
use Rattle.m2_never_reset.proofs.Tallies.{IsTrueMail, AreTrueAt, IsSeen, Tally, tally_of, Reads, Read, first-more, first-append, stand-later, stand-append, with-mail-true, left-true, heard-more, heard-within, seen-more}
use Rattle.m2_never_reset.proofs.AfterSteps.{mail_fewer}

-- ---- a side whose messages stay

-- the near side has no new ask, and has heard this
reads_on : (x : Tally) (s u : Stand) (last : ℕ) (numbered : List Content) (base heard : ℕ) (asks : Asks) → Fewer x.asks s asks u → AreTrueAt last numbered u →
    base ≤ last → heard ≤ last → Reads x s last numbered → Reads (record x { base = base; heard = heard; asks = asks }) u last numbered
reads_on x s u last numbered base heard asks fewer mails counts hears r = record {
  counted = r.counted;
  prefix = r.prefix;
  base = counts;
  heard = hears;
  mails = mails;
  asks = λ a h. r.asks a (fewer a h);
}

pub order_dials : (x y : Node) (s t : Stand) (j : Joined) (n : ℕ) (asks : Asks) → AtMost x.asks asks →
    Read (link x s y t j n) → Read (link (record x { heard = 0; asks = asks }) connecting y t apart n)
order_dials x y s t j n asks fewer r = record {
  near = reads_on (tally_of x) s connecting y.last y.numbered x.base 0 asks (asks_nothing x.asks asks s connecting fewer (λ a h. h)) tt r.near.base (omega arith) r.near;
  far = r.far;
}

asks_then : (asks : Asks) (last : ℕ) (a : Ask) → IsSeen last a → ((b : Ask) → Asked asks connecting b → IsSeen last b) → (b : Ask) → Asked asks (asking a) b → IsSeen last b
asks_then asks last a new old b (inl h) = old b (inl h)
asks_then asks last a new old b (inr e) = subst (IsSeen last) e new

pub order_asks : (x z y : Node) (t : Stand) (j : Joined) (n : ℕ) (a : Ask) → tally_of z ≡ tally_of x → z.numbered ≡ x.numbered → IsSeen x.last a →
    Read (link x connecting y t j n) → Read (link z (asking a) y t j n)
order_asks x z y t j n a same numbered seen r = record {
  near = subst (λ k. Reads k (asking a) y.last y.numbered) (sym same) (record {
    counted = r.near.counted;
    prefix = r.near.prefix;
    base = r.near.base;
    heard = r.near.heard;
    mails = tt;
    asks = asks_then x.asks x.last a seen r.near.asks;
  });
  far = subst (λ l. Reads (tally_of y) t l z.numbered) (sym (ap (λ (k : Tally). k.last) same)) (subst (λ l. Reads (tally_of y) t x.last l) (sym numbered) r.far);
}

pub order_leaves : (x y : Node) (s t u : Stand) (j : Joined) (n : ℕ) (asks : Asks) → HasLeft u → LeavesAt s x.asks asks →
    Read (link x s y t j n) → Read (link (record x { heard = 0; asks = asks }) u y t apart n)
order_leaves x y s t u j n asks left leaves r = record {
  near = reads_on (tally_of x) s u y.last y.numbered x.base 0 asks (asks_left x.asks asks s u leaves (λ a. left_asks_nothing u a left)) (left-true y.last y.numbered u left) r.near.base (omega arith) r.near;
  far = r.far;
}

-- the far side is answered
answered : (y : Tally) (t u : Stand) (last : ℕ) (numbered : List Content) (theirs : Asks) → Fewer y.asks t theirs u → AreTrueAt last numbered u →
    Reads y t last numbered → Reads (record y { asks = theirs }) u last numbered
answered y t u last numbered theirs fewer mails r = reads_on y t u last numbered y.base y.heard theirs fewer mails r.base r.heard r

-- ---- numbers that are set back

-- without trouble nothing was thrown away, and nothing had been accepted
pub record IsQuiet (full : Bool) (x y : Node) (n : ℕ) : Type 0 where
  pub not_full : full ≡ false
  pub none_mine : length x.accepted ≡ 0
  pub none_theirs : length y.accepted ≡ 0
  pub before : n ≡ 0

pub quiet : (full : Bool) (x y : Node) (n : ℕ) → troubled full x y n ≡ 0 → IsQuiet full x y n
quiet true x y n e = absurd (omega (arith, e))
quiet false x y n e = record { not_full = refl; none_mine = omega (arith, e); none_theirs = omega (arith, e); before = omega (arith, e) }

-- and so they are what they were
pub record BeginsAgain (x : Node) : Type 0 where
  pub last : x.last ≡ 0
  pub base : x.base ≡ 0
  pub numbered : drop x.base x.numbered ≡ x.numbered

pub begins_again : (x y : Node) (s t : Stand) (j : Joined) (m n : ℕ) → IsQuiet false x y m → Read (link x s y t j n) → BeginsAgain x
begins_again x y s t j m n q r =
    let mine = q.none_mine in let theirs = q.none_theirs in let a = r.near.counted in let b = r.far.counted in let c = r.near.base in
    let zero_base : x.base ≡ 0 = omega (arith, theirs, b, c) in record {
      last = omega (arith, mine, a);
      base = zero_base;
      numbered = ap (λ k. drop k x.numbered) zero_base;
    }

-- the near side, with no messages accepted
reads_anew : (x : Tally) (s u : Stand) (last : ℕ) (numbered : List Content) (heard : ℕ) (asks : Asks) → x.last ≡ 0 → heard ≤ last → Fewer x.asks s asks u → AreTrueAt last numbered u →
    Reads x s last numbered → Reads (record x { last = 0; base = 0; heard = heard; asks = asks }) u last numbered
reads_anew x s u last numbered heard asks none hears fewer mails r = record {
  counted = sym none ∙ r.counted;
  prefix = r.prefix;
  base = omega arith;
  heard = hears;
  mails = mails;
  asks = λ a h. subst (λ k. IsSeen k a) none (r.asks a (fewer a h));
}

-- the far side, where the near one begins again
reads_same : (y : Tally) (x : Node) (t : Stand) → BeginsAgain x → Reads y t x.last x.numbered → Reads y t 0 (drop x.base x.numbered)
reads_same y x t b r = subst (λ l. Reads y t l (drop x.base x.numbered)) b.last (subst (λ l. Reads y t x.last l) (sym b.numbered) r)

accepts_quietly : (p : Role) (x y : Node) (s t u : Stand) (i j : Joined) (m n k : ℕ) (a : Ident) (number : ℕ) (mine theirs : Asks) → LeavesAt s x.asks mine →
    Fewer y.asks t theirs u → ((last : ℕ) (numbered : List Content) → AreTrueAt last numbered t → AreTrueAt last numbered u) → IsQuiet false x y m → Read (link x s y t i n) →
    Read (link (after_acceptance p x a false number mine) (ready []) (record y { asks = theirs }) u j k)
accepts_quietly p x y s t u i j m n k a number mine theirs left fewer mails q r =
    let b = begins_again x y s t i m n q r in
    let same = reads_same (tally_of y) x t b r.far in record {
      near = reads_anew (tally_of x) s (ready []) y.last y.numbered 0 mine b.last (omega arith) (asks_left x.asks mine s (ready []) left (λ c h. h)) tt r.near;
      far = answered (tally_of y) t u 0 (drop x.base x.numbered) theirs fewer (mails 0 (drop x.base x.numbered) same.mails) same;
    }

order_accepted : (p : Role) (x y : Node) (s t u : Stand) (i j : Joined) (n : ℕ) (a : Ident) (full : Bool) (number : ℕ) (mine theirs : Asks) → LeavesAt s x.asks mine →
    Fewer y.asks t theirs u → ((last : ℕ) (numbered : List Content) → AreTrueAt last numbered t → AreTrueAt last numbered u) → IsQuiet full x y n → Read (link x s y t i n) →
    Read (link (after_acceptance p x a full number mine) (ready []) (record y { asks = theirs }) u j (troubled full x y n))
order_accepted p x y s t u i j n a true number mine theirs left fewer mails q r = absurd (true≢false q.not_full)
order_accepted p x y s t u i j n a false number mine theirs left fewer mails q r = accepts_quietly p x y s t u i j n n (troubled false x y n) a number mine theirs left fewer mails q r

pub order_accepts : (p : Role) (x y : Node) (s : Stand) (j : Joined) (n : ℕ) (a : Ident) (full : Bool) (number : ℕ) (mine theirs : Asks) → LeavesAt s x.asks mine → AtMost y.asks theirs →
    troubled full x y n ≡ 0 → Read (link x s y (asking (by_ident a)) j n) →
    Read (link (after_acceptance p x a full number mine) (ready []) (record y { asks = theirs }) (offered (p.mint number) number []) by_far (troubled full x y n))
order_accepts p x y s j n a full number mine theirs left fewer calm r =
    order_accepted p x y s (asking (by_ident a)) (offered (p.mint number) number []) j by_far n a full number mine theirs left
    (asks_nothing y.asks theirs (asking (by_ident a)) (offered (p.mint number) number []) fewer (λ c h. h)) (λ l m h. tt) (quiet full x y n calm) r

pub order_accepts_left : (p : Role) (x y : Node) (s t : Stand) (j : Joined) (n : ℕ) (a : Ident) (full : Bool) (number : ℕ) (mine theirs : Asks) → LeavesAt s x.asks mine → AtMost y.asks theirs →
    troubled full x y n ≡ 0 → Read (link x s y t j n) →
    Read (link (after_acceptance p x a full number mine) (ready []) (record y { asks = theirs }) t apart (troubled full x y n))
order_accepts_left p x y s t j n a full number mine theirs left fewer calm r =
    order_accepted p x y s t t j apart n a full number mine theirs left (asks_fewer y.asks theirs t fewer) (λ l m h. h) (quiet full x y n calm) r

pub order_takes_offer : (x y : Node) (t : Stand) (j : Joined) (n : ℕ) (cookie global : ℕ) (ms : List Mail) → troubled false x y n ≡ 0 →
    Read (link x (offered cookie global ms) y t j n) →
    Read (link (after_offer x cookie global) (ready ms) y t j (troubled false x y n))
order_takes_offer x y t j n cookie global ms calm r =
    let b = begins_again x y (offered cookie global ms) t j n n (quiet false x y n calm) r in record {
      near = reads_anew (tally_of x) (offered cookie global ms) (ready ms) y.last y.numbered x.heard x.asks b.last r.near.heard (λ a h. h) r.near.mails r.near;
      far = reads_same (tally_of y) x t b r.far;
    }

pub order_obeys : (x y : Node) (s t : Stand) (j : Joined) (n : ℕ) → troubled false x y n ≡ 0 →
    Read (link x s y t j n) →
    Read (link (record (set_back false x) { server = 0 }) connecting y t j (troubled false x y n))
order_obeys x y s t j n calm r =
    let b = begins_again x y s t j n n (quiet false x y n calm) r in record {
      near = reads_anew (tally_of x) s connecting y.last y.numbered x.heard x.asks b.last r.near.heard (asks_nothing x.asks x.asks s connecting (λ k a h. h) (λ a h. h)) tt r.near;
      far = reads_same (tally_of y) x t b r.far;
    }

-- ---- answers

order_resumed : (x y : Node) (s t u : Stand) (i j : Joined) (n : ℕ) (a : Reconnect) (number : ℕ) (mine theirs : Asks) → LeavesAt s x.asks mine → Fewer y.asks t theirs u →
    (AreTrueAt x.last x.numbered t → AreTrueAt x.last x.numbered u) → a.seen ≤ y.last → Read (link x s y t i n) →
    Read (link (after_resumption x a number mine) (ready []) (record y { asks = theirs }) u j n)
order_resumed x y s t u i j n a number mine theirs left fewer mails seen r = record {
  near = reads_on (tally_of x) s (ready []) y.last y.numbered x.base a.seen mine (asks_left x.asks mine s (ready []) left (λ c h. h)) tt r.near.base seen r.near;
  far = answered (tally_of y) t u x.last x.numbered theirs fewer (mails r.far.mails) r.far;
}

pub order_resumes : (x y : Node) (s : Stand) (j : Joined) (n : ℕ) (a : Reconnect) (number : ℕ) (mine theirs : Asks) → LeavesAt s x.asks mine → AtMost y.asks theirs →
    Read (link x s y (asking (by_reconnect a)) j n) →
    Read (link (after_resumption x a number mine) (ready []) (record y { asks = theirs }) (resumed x.last []) by_far n)
order_resumes x y s j n a number mine theirs left fewer r =
    order_resumed x y s (asking (by_reconnect a)) (resumed x.last []) j by_far n a number mine theirs left
    (asks_nothing y.asks theirs (asking (by_reconnect a)) (resumed x.last []) fewer (λ c h. h)) (λ h. (omega arith, tt)) (r.far.asks (by_reconnect a) (inr refl)) r

pub order_resumes_left : (x y : Node) (s t : Stand) (j : Joined) (n : ℕ) (k : SocketId) (a : Reconnect) (number : ℕ) (mine theirs : Asks) → y.asks k ≡ Some (by_reconnect a) →
    LeavesAt s x.asks mine → AtMost y.asks theirs → Read (link x s y t j n) →
    Read (link (after_resumption x a number mine) (ready []) (record y { asks = theirs }) t apart n)
order_resumes_left x y s t j n k a number mine theirs asked left fewer r =
    order_resumed x y s t t j apart n a number mine theirs left (asks_fewer y.asks theirs t fewer) (λ h. h) (r.far.asks (by_reconnect a) (inl (k, asked))) r

pub order_refuses : (x y : Node) (s : Stand) (j : Joined) (n : ℕ) (a : Ask) (refusal : Refusal) (number : ℕ) (theirs : Asks) → AtMost y.asks theirs →
    Read (link x s y (asking a) j n) → Read (link (record x { greatest = number }) s (record y { asks = theirs }) (refused a refusal) j n)
order_refuses x y s j n a refusal number theirs fewer r = record {
  near = r.near;
  far = answered (tally_of y) (asking a) (refused a refusal) x.last x.numbered theirs (asks_nothing y.asks theirs (asking a) (refused a refusal) fewer (λ c h. h)) tt r.far;
}

pub order_refuses_left : (x y : Node) (s t : Stand) (j : Joined) (n : ℕ) (number : ℕ) (theirs : Asks) → AtMost y.asks theirs →
    Read (link x s y t j n) → Read (link (record x { greatest = number }) s (record y { asks = theirs }) t j n)
order_refuses_left x y s t j n number theirs fewer r = record {
  near = r.near;
  far = answered (tally_of y) t t x.last x.numbered theirs (asks_fewer y.asks theirs t fewer) r.far.mails r.far;
}

pub order_takes_resumption : (x y : Node) (t : Stand) (j : Joined) (n : ℕ) (seen : ℕ) (ms : List Mail) →
    Read (link x (resumed seen ms) y t j n) → Read (link (record x { heard = max x.heard seen }) (ready ms) y t j n)
order_takes_resumption x y t j n seen ms r =
    let heard = r.near.heard in let within : seen ≤ y.last = r.near.mails.0 in record {
      near = reads_on (tally_of x) (resumed seen ms) (ready ms) y.last y.numbered x.base (max x.heard seen) x.asks (λ a h. h) r.near.mails.1 r.near.base (omega (arith, heard, within)) r.near;
      far = r.far;
    }

pub order_asks_again : (x y : Node) (s t : Stand) (j : Joined) (n : ℕ) →
    Read (link x s y t j n) → Read (link x connecting y t j n)
order_asks_again x y s t j n r = record {
  near = reads_on (tally_of x) s connecting y.last y.numbered x.base x.heard x.asks (asks_nothing x.asks x.asks s connecting (λ k a h. h) (λ a h. h)) tt r.near.base r.near.heard r.near;
  far = r.far;
}

-- ---- messages

pub order_numbers : (x y : Node) (s t : Stand) (j : Joined) (n : ℕ) (more : List Content) →
    Read (link x s y t j n) → Read (link (record x { numbered = x.numbered ++ more }) s y t j n)
order_numbers x y s t j n more r = record {
  near = r.near;
  far = record {
    counted = r.far.counted;
    prefix = first-append y.accepted x.numbered more r.far.prefix;
    base = r.far.base;
    heard = r.far.heard;
    mails = stand-append x.last x.numbered more t r.far.mails;
    asks = r.far.asks;
  };
}

with_mail_read : (x y : Node) (s t : Stand) (j : Joined) (n : ℕ) (m : Mail) → IsTrueMail x.last x.numbered m → Read (link x s y t j n) → Read (link x s y (with_mail m t) j n)
with_mail_read x y s t j n m true_mail r = record {
  near = r.near;
  far = answered (tally_of y) t (with_mail m t) x.last x.numbered y.asks (mail_fewer y.asks m t) (with-mail-true x.last x.numbered t m r.far.mails true_mail) r.far;
}

pub order_writes : (x y : Node) (s t : Stand) (j : Joined) (n : ℕ) (m : Mail) → IsTrueMail x.last x.numbered m → Read (link x s y t j n) → Read (link x s y (mailed m j t) j n)
order_writes x y s t apart n m true_mail r = r
order_writes x y s t by_near n m true_mail r = with_mail_read x y s t by_near n m true_mail r
order_writes x y s t by_far n m true_mail r = with_mail_read x y s t by_far n m true_mail r

-- the message after the last one accepted is the next one numbered
next_one : (taken numbered : List Content) (number : ℕ) (m : Content) → number ≡ length taken + 1 → AreFirstOf taken numbered → slice_get numbered (number - 1) ≡ Some m → AreFirstOf (taken ++ m ∷ []) numbered
next_one taken numbered number m e first is =
    let place : number - 1 ≡ length taken = omega (arith, e) in
    subst (λ l. AreFirstOf (taken ++ m ∷ []) l) (sym first.1)
    (first-more taken first.0 m (ap (λ l. slice_get l (length taken)) (sym first.1) ∙ ap (λ k. slice_get numbered k) (sym place) ∙ is))

pub order_accepts_mail : (x y : Node) (ms : List Mail) (t : Stand) (j : Joined) (n : ℕ) (number acked : ℕ) (m : Content) → number ≡ x.last + 1 →
    Read (link x (ready (letter number acked m ∷ ms)) y t j n) →
    Read (link (after_letter x number acked m) (ready ms) y t j n)
order_accepts_mail x y ms t j n number acked m next r =
    let counted = r.near.counted in let more = length-append x.accepted (m ∷ []) in let rises : x.last ≤ number = omega (arith, next) in
    let base = r.far.base in let heard = r.far.heard in record {
      near = record {
        counted = next ∙ ap (λ k. k + 1) counted ∙ sym more;
        prefix = next_one x.accepted y.numbered number m (next ∙ ap (λ k. k + 1) counted) r.near.prefix r.near.mails.0.1;
        base = r.near.base;
        heard = heard-more x.heard y.last y.numbered (letter number acked m) r.near.heard r.near.mails.0;
        mails = r.near.mails.1;
        asks = λ a h. seen-more x.last number a rises (r.near.asks a h);
      };
      far = record {
        counted = r.far.counted;
        prefix = r.far.prefix;
        base = omega (arith, base, rises);
        heard = omega (arith, heard, rises);
        mails = stand-later x.last number x.numbered t rises r.far.mails;
        asks = r.far.asks;
      };
    }

pub order_passes_mail : (x y : Node) (mail : Mail) (ms : List Mail) (t : Stand) (j : Joined) (n : ℕ) →
    Read (link x (ready (mail ∷ ms)) y t j n) → Read (link (record x { heard = max x.heard (acked_by mail) }) (ready ms) y t j n)
order_passes_mail x y mail ms t j n r = record {
  near = reads_on (tally_of x) (ready (mail ∷ ms)) (ready ms) y.last y.numbered x.base (max x.heard (acked_by mail)) x.asks (λ a h. h) r.near.mails.1 r.near.base
      (heard-more x.heard y.last y.numbered mail r.near.heard r.near.mails.0) r.near;
  far = r.far;
}

pub order_counts : (x y : Node) (ms : List Mail) (t : Stand) (j : Joined) (n : ℕ) (number : ℕ) → number ≤ heard_with x.heard ms →
    Read (link x (ready ms) y t j n) → Read (link (record x { base = number }) (ready ms) y t j n)
order_counts x y ms t j n number within r =
    let all = heard-within x.heard y.last y.numbered ms r.near.heard r.near.mails in record {
      near = reads_on (tally_of x) (ready ms) (ready ms) y.last y.numbered number x.heard x.asks (λ a h. h) r.near.mails (omega (arith, within, all)) r.near.heard r.near;
      far = r.far;
    }
