-- The invariant of a lossless link, carried through each step of either side: no trouble, and from the moment on the
-- same two cookies.
use Rattle.std.proofs.Common.{◌≡◌, ◌≢◌, ℕ, ◌⊎◌, inl, inr, [], refl, sym, subst, Option, Some, None}
use Rattle.m2_never_reset.specs.Roles.{Role, AreMints}
use Rattle.m2_never_reset.specs.Asks.{Ask}
use Rattle.m2_never_reset.specs.Link.{Stand, absent, Joined, apart, by_near, by_far, Link, turned, flip, new_node, new_link}
use Rattle.m2_never_reset.specs.Steps.{Step, dials, asks_by_ident, asks_by_reconnect, leaves, accepts, resumes, refuses, accepts_left, resumes_left, refuses_left, takes_offer, takes_resumption, asks_again, obeys, obeys_in_full, numbers, writes, acknowledges, accepts_mail, passes_mail, counts, Run, done, near_acts, far_acts}
use Rattle.m2_never_reset.specs.Mails.{letter, ack}
use Rattle.m2_never_reset.specs.CrossingLaws.{AreSides, NoTroubleComes, KeepBoth, IsSettled, AcceptedIsSettled}
use Rattle.m2_never_reset.proofs.Before.{identity_of, Asked, Side, AreJoined, IsUnusedAt, Before}
use Rattle.m2_never_reset.proofs.After.{After}
use Rattle.m2_never_reset.proofs.BeforeLeaves.{before_fewer, before_dials, before_leaves, before_draws}
use Rattle.m2_never_reset.proofs.BeforeAsks.{before_asks_by_ident, before_asks_by_reconnect}
use Rattle.m2_never_reset.proofs.BeforeAccepts.{ChecksAsServer, before_accepts, before_accepts_left}
use Rattle.m2_never_reset.proofs.BeforeRefuses.{before_refuses, never_resumed}
use Rattle.m2_never_reset.proofs.BeforeTakes.{before_takes_offer, before_asks_again, before_obeys, never_in_full}
use Rattle.m2_never_reset.proofs.BeforeMails.{before_numbers, before_writes, never_reads, never_counts}
use Rattle.m2_never_reset.proofs.AfterSteps.{after_stands, after_dials, never_asks_by_ident, after_asks_by_reconnect, after_leaves, never_accepts, after_resumes, after_resumes_left, after_refuses, after_refuses_left, after_writes}
use Rattle.m2_never_reset.proofs.Pairs as pairs

abbrev pub IsAfter : Link → Type 0
IsAfter l = (c : ℕ) × (v : ℕ) × After c v l

abbrev pub Invariant : Role → Role → Link → Type 0
Invariant p q l = Before p q l ⊎ IsAfter l

-- ---- the near side acts

step_before : (p q : Role) (l m : Link) → AreMints p q → ChecksAsServer p q → Step p l m → Before p q l → Invariant p q m
step_before p q l m mints checks (dials x y s t j n asks client rest fewer) b = inl (before_dials p q x y s t j n asks client fewer b)
step_before p q l m mints checks (asks_by_ident x y t j n i none drawn carries) b = inl (before_asks_by_ident p q x y t j n i mints none drawn carries b)
step_before p q l m mints checks (asks_by_reconnect x y t j n global connect kept drawn) b = inl (before_asks_by_reconnect p q x y t j n global connect kept drawn b)
step_before p q l m mints checks (leaves x y s t u j n asks left away) b = inl (before_leaves p q x y s t u j n asks left away b)
step_before p q l m mints checks (accepts x y s j n i full number mine theirs may drawn left fewer) b = inl (before_accepts p q x y s j n i full number mine theirs mints checks may drawn left fewer b)
step_before p q l m mints checks (resumes x y s j n r number mine theirs may drawn left fewer) b = absurd (never_resumed p q x y s _ j n r mints may.names (inr refl) b)
step_before p q l m mints checks (refuses x y s j n a refusal number theirs may drawn fewer) b = inl (before_refuses p q x y s j n a refusal number theirs mints checks may drawn fewer b)
step_before p q l m mints checks (accepts_left x y s t j n k i full number mine theirs asked may drawn left fewer) b = inl (before_accepts_left p q x y s t j n k i full number mine theirs checks asked may drawn left fewer b)
step_before p q l m mints checks (resumes_left x y s t j n k r number mine theirs asked may drawn left fewer) b = absurd (never_resumed p q x y s t j n r mints may.names (inl (k, asked)) b)
step_before p q l m mints checks (refuses_left x y s t j n number theirs drawn fewer) b = inl (before_fewer p q (record x { greatest = number }) y s t j n theirs fewer (before_draws p q x y s t j n number drawn b))
step_before p q l m mints checks (takes_offer x y t j n cookie global ms) b = inr (x.client, cookie, before_takes_offer p q x y t j n cookie global ms b)
step_before p q l m mints checks (takes_resumption x y t j n seen ms) b = absurd b.near.owns
step_before p q l m mints checks (asks_again x y t j n a) b = inl (before_asks_again p q x y t j n a b)
step_before p q l m mints checks (obeys x y t j n a) b = inl (before_obeys p q x y t j n a b)
step_before p q l m mints checks (obeys_in_full x y t j n a) b = absurd (never_in_full p q x y t j n a b)
step_before p q l m mints checks (numbers x y ms t j n more) b = inl (before_numbers p q x y _ t j n more b)
step_before p q l m mints checks (writes x y ms t j n number c from is) b = inl (before_writes p q x y ms t j n (letter number x.last c) b)
step_before p q l m mints checks (acknowledges x y ms t j n number within) b = inl (before_writes p q x y ms t j n (ack number) b)
step_before p q l m mints checks (accepts_mail x y ms t j n number acked c next) b = absurd (never_reads p q x y _ ms t j n b)
step_before p q l m mints checks (passes_mail x y mail ms t j n) b = absurd (never_reads p q x y mail ms t j n b)
step_before p q l m mints checks (counts x y ms t j n number above within) b = absurd (never_counts p q x y ms t j n number above within b)

pub step_after : (p : Role) (c v : ℕ) (l m : Link) → Step p l m → After c v l → After c v m
step_after p c v l m (dials x y s t j n asks client rest fewer) a = after_dials c v x y s t j n asks fewer a
step_after p c v l m (asks_by_ident x y t j n i none drawn carries) a = absurd (never_asks_by_ident c v x y _ t j n none a)
step_after p c v l m (asks_by_reconnect x y t j n global connect kept drawn) a = after_asks_by_reconnect c v x y t j n global connect a
step_after p c v l m (leaves x y s t u j n asks left away) a = after_leaves c v x y s t u j n asks left away a
step_after p c v l m (accepts x y s j n i full number mine theirs may drawn left fewer) a = absurd a.far.stand
step_after p c v l m (resumes x y s j n r number mine theirs may drawn left fewer) a = after_resumes c v x y s j n r number mine theirs left fewer a
step_after p c v l m (refuses x y s j n b refusal number theirs may drawn fewer) a = after_refuses p c v x y s j n b refusal number theirs may fewer a
step_after p c v l m (accepts_left x y s t j n k i full number mine theirs asked may drawn left fewer) a = absurd (never_accepts c v x y s t j n k i asked may.not_old a)
step_after p c v l m (resumes_left x y s t j n k r number mine theirs asked may drawn left fewer) a = after_resumes_left c v x y s t j n r number mine theirs left fewer a
step_after p c v l m (refuses_left x y s t j n number theirs drawn fewer) a = after_refuses_left c v x y s t j n number theirs fewer a
step_after p c v l m (takes_offer x y t j n cookie global ms) a = absurd a.near.stand
step_after p c v l m (takes_resumption x y t j n seen ms) a = after_stands c v x _ y _ _ t j n refl refl refl refl tt (λ b h. h) a
step_after p c v l m (asks_again x y t j n b) a = after_stands c v x x y _ _ t j n refl refl refl refl tt (λ b h. h) a
step_after p c v l m (obeys x y t j n b) a = absurd a.near.stand
step_after p c v l m (obeys_in_full x y t j n b) a = absurd a.near.stand
step_after p c v l m (numbers x y ms t j n more) a = after_stands c v x _ y _ _ t j n refl refl refl refl tt (λ b h. h) a
step_after p c v l m (writes x y ms t j n number d from is) a = after_writes c v x y _ t j n (letter number x.last d) a
step_after p c v l m (acknowledges x y ms t j n number within) a = after_writes c v x y _ t j n (ack number) a
step_after p c v l m (accepts_mail x y ms t j n number acked d next) a = after_stands c v x _ y _ _ t j n refl refl refl refl tt (λ b h. h) a
step_after p c v l m (passes_mail x y mail ms t j n) a = after_stands c v x _ y _ _ t j n refl refl refl refl tt (λ b h. h) a
step_after p c v l m (counts x y ms t j n number above within) a = after_stands c v x _ y _ _ t j n refl refl refl refl tt (λ b h. h) a

-- ---- as the other side sees it

joined_turned : (j : Joined) (s t : Stand) → AreJoined j s t → AreJoined (turned j) t s
joined_turned apart s t h = tt
joined_turned by_near s t h = (h.1, h.0)
joined_turned by_far s t h = (h.1, h.0)

joined_back : (j : Joined) (s t : Stand) → AreJoined (turned j) t s → AreJoined j s t
joined_back apart s t h = tt
joined_back by_near s t h = (h.1, h.0)
joined_back by_far s t h = (h.1, h.0)

before_turned : (p q : Role) (l : Link) → Before p q l → Before q p (flip l)
before_turned p q l b = record {
  near = b.far;
  far = b.near;
  near_unused = b.far_unused;
  far_unused = b.near_unused;
  joined = joined_turned l.joined l.near_stand l.far_stand b.joined;
  calm = b.calm;
}

before_back : (p q : Role) (l : Link) → Before q p (flip l) → Before p q l
before_back p q l b = record {
  near = b.far;
  far = b.near;
  near_unused = b.far_unused;
  far_unused = b.near_unused;
  joined = joined_back l.joined l.near_stand l.far_stand b.joined;
  calm = b.calm;
}

after_turned : (c v : ℕ) (l : Link) → After c v l → After c v (flip l)
after_turned c v l a = record { client_kept = a.client_kept; server_kept = a.server_kept; near = a.far; far = a.near; calm = a.calm }

after_back : (c v : ℕ) (l : Link) → After c v (flip l) → After c v l
after_back c v l a = record { client_kept = a.client_kept; server_kept = a.server_kept; near = a.far; far = a.near; calm = a.calm }

back : (p q : Role) (l : Link) → Invariant q p (flip l) → Invariant p q l
back p q l (inl b) = inl (before_back p q l b)
back p q l (inr (c, v, a)) = inr (c, v, after_back c v l a)

mints_turned : (p q : Role) → AreMints p q → AreMints q p
mints_turned p q h = record { first_kept = h.second_kept; second_kept = h.first_kept; apart = λ m n is also e. h.apart n m also is (sym e) }

pub sides_turned : (p q : Role) → AreSides p q → AreSides q p
sides_turned p q h = record { mints = mints_turned p q h.mints; lossless = pairs.turned p q h.lossless }

-- ---- runs

near_step : (p q : Role) (l m : Link) → AreSides p q → Step p l m → Invariant p q l → Invariant p q m
near_step p q l m sides step (inl b) = step_before p q l m sides.mints (pairs.checks p q sides.lossless) step b
near_step p q l m sides step (inr (c, v, a)) = inr (c, v, step_after p c v l m step a)

far_before : (p q : Role) (l m : Link) → AreSides p q → Step q (flip l) (flip m) → Before p q l → Invariant p q m
far_before p q l m sides step b = back p q m (near_step q p (flip l) (flip m) (sides_turned p q sides) step (inl (before_turned p q l b)))

far_after : (q : Role) (c v : ℕ) (l m : Link) → Step q (flip l) (flip m) → After c v l → After c v m
far_after q c v l m step a = after_back c v m (step_after q c v (flip l) (flip m) step (after_turned c v l a))

far_step : (p q : Role) (l m : Link) → AreSides p q → Step q (flip l) (flip m) → Invariant p q l → Invariant p q m
far_step p q l m sides step (inl b) = far_before p q l m sides step b
far_step p q l m sides step (inr (c, v, a)) = inr (c, v, far_after q c v l m step a)

pub holds_on : (p q : Role) (l m : Link) → AreSides p q → Run p q l m → Invariant p q l → Invariant p q m
holds_on p q l m sides (done k) h = h
holds_on p q l m sides (near_acts k o r step run) h = holds_on p q o r sides run (near_step p q k o sides step h)
holds_on p q l m sides (far_acts k o r step run) h = holds_on p q o r sides run (far_step p q k o sides step h)

pub stays_after : (p q : Role) (c v : ℕ) (l m : Link) → Run p q l m → After c v l → After c v m
stays_after p q c v l m (done k) a = a
stays_after p q c v l m (near_acts k o r step run) a = stays_after p q c v o r run (step_after p c v k o step a)
stays_after p q c v l m (far_acts k o r step run) a = stays_after p q c v o r run (far_after q c v k o step a)

-- ---- the start

pub nothing_asked : (a : Ask) → Asked new_node.asks absent a → ⊥
nothing_asked a (inl (k, e)) = none_isnt_some a e
  where
    IsNone : Option Ask → Type 0
    IsNone None = Unit {0}
    IsNone (Some b) = ⊥

    none_isnt_some : (a : Ask) → None ≡ Some a → ⊥
    none_isnt_some a e = subst IsNone e tt
nothing_asked a (inr h) = h

new_side : (p q : Role) → Side p q (identity_of new_node) absent (identity_of new_node) absent
new_side p q = record {
  server = inl refl;
  asks = λ a h. absurd (nothing_asked a h);
  owns = refl;
  newest = tt;
  offer = tt;
  serves = λ e. record {
    asks_nothing = nothing_asked;
    passive = tt;
    no_session = refl;
    idents = λ a h. absurd (nothing_asked a h);
    client = inl refl;
    no_reset = tt;
  };
}

unused : IsUnusedAt new_node
unused = record { no_last = refl; no_base = refl; none_heard = refl; none_accepted = refl }

starts : (p q : Role) → Before p q new_link
starts p q = record { near = new_side p q; far = new_side q p; near_unused = unused; far_unused = unused; joined = tt; calm = refl }

-- ---- the laws

calm : (p q : Role) (l : Link) → Invariant p q l → l.trouble ≡ 0
calm p q l (inl b) = b.calm
calm p q l (inr (c, v, a)) = a.calm

pub no_trouble_lem : NoTroubleComes
no_trouble_lem p q l sides run = calm p q l (holds_on p q new_link l sides run (inl (starts p q)))

keeps_both : (c v : ℕ) (l : Link) → After c v l → KeepBoth c v l
keeps_both c v l a =
    record { near_client = a.near.same_client; near_server = a.near.same_server; far_client = a.far.same_client; far_server = a.far.same_server }

settles : (p q : Role) (l : Link) → (l.near.accepted ≢ []) ⊎ (l.far.accepted ≢ []) → Invariant p q l → IsSettled p q l
settles p q l (inl h) (inl b) = absurd (h b.near_unused.none_accepted)
settles p q l (inr h) (inl b) = absurd (h b.far_unused.none_accepted)
settles p q l h (inr (c, v, a)) = record {
  client = c;
  server = v;
  client_kept = a.client_kept;
  server_kept = a.server_kept;
  stay = λ m run. keeps_both c v m (stays_after p q c v l m run a);
}

pub accepted_lem : AcceptedIsSettled
accepted_lem p q l sides run some = settles p q l some (holds_on p q new_link l sides run (inl (starts p q)))
